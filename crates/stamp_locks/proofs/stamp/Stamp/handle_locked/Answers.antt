use Rattle.std.specs.Prelude.{is_some}
use Rattle.std.proofs.Common.{ap, ◌∙◌}
use Rattle.stamp_locks.proofs.stamp.Stamp.handle_locked.Goals as goal

pub returns-clause-unasked : goal.returns-clause-unasked
returns-clause-unasked g c none = c.handle.ensures.unasked (c.is_some.ensures ∙ ap is_some none)
