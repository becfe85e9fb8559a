use Rattle.std.specs.Arc.{arc_value}
use Rattle.slot_state.specs.NextPairs.{HasNextPair, HasNoNextPair}
use Rattle.stamp_locks.specs.Rotations.{IsNotRotated, IsRotated}
use Rattle.stamp_locks.proofs.TellLemmas.{if_err, if_ok}
use Rattle.stamp_locks.proofs.stamp.Stamp.rotate.Goals as goal

pub returns-clause-rotated : goal.returns-clause-rotated
returns-clause-rotated g c =
    if_ok c.rotate.result (λ epoch. HasNextPair (arc_value c.deref_mut.result.now.pairs) c.args.account.now c.args.which c.args.key epoch (arc_value c.rotate.new.self.pairs))
    (λ epoch. IsRotated c.args.account.now c.args.which c.args.key epoch) (λ epoch has. (arc_value c.deref_mut.result.now.pairs, (arc_value c.rotate.new.self.pairs, has))) c.rotate.ensures.rotated

pub returns-clause-refused : goal.returns-clause-refused
returns-clause-refused g c =
    if_err c.rotate.result (λ fault. HasNoNextPair (arc_value c.deref_mut.result.now.pairs) c.args.account.now fault) (λ fault. IsNotRotated c.args.account.now fault)
    (λ fault has. (arc_value c.deref_mut.result.now.pairs, has)) c.rotate.ensures.refused
