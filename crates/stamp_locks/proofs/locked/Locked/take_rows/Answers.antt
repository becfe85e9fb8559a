use Rattle.std.proofs.Common.{refl}
use Rattle.stamp_locks.proofs.LentLemmas.{has_slot}
use Rattle.stamp_locks.proofs.locked.Locked.take_rows.Goals as goal

pub returns-clause-has : goal.returns-clause-has
returns-clause-has g c = has_slot c.args.spans.now c.args.at c.args.self.now.slot (c.if-not-is_numbered.ensures refl)
