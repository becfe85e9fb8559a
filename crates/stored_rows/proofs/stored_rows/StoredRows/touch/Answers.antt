use Rattle.std.proofs.Common.{subst, true}
use Rattle.std.specs.Option.{is_some}
use Rattle.stored_rows.specs.Compactions.{KeepsTheRange}
use Rattle.stored_rows.specs.States.{Stored}
use Rattle.stored_rows.proofs.SteppedLemmas.{keeps_itself, same_keeps, stepped_keeps}
use Rattle.stored_rows.proofs.stored_rows.StoredRows.touch.Goals as goal

pub returns-in_default-clause-kept : goal.returns-in_default-clause-kept
returns-in_default-clause-kept g c =
    keeps_itself c.args.self.now _ c.self.view_is

pub returns-in_default-sweep-clause-kept : goal.returns-in_default-sweep-clause-kept
returns-in_default-sweep-clause-kept g c =
    subst (λ (v : Stored). KeepsTheRange v (record { streams = c.self.inside.streams; range = c.self.inside.range; is_loaded = true })) c.self.view_is
    (same_keeps c.self.inside.range c.self.inside.streams (is_some c.self.inside.rows) true)

pub returns-in-Ok-clause-kept : goal.returns-in-Ok-clause-kept
returns-in-Ok-clause-kept g c =
    subst (λ (v : Stored). KeepsTheRange v (record { streams = c.touch_rows-touched.new.streams; range = c.self.inside.range; is_loaded = true })) c.self.view_is
    (stepped_keeps c.self.inside.range c.self.inside.streams c.touch_rows-touched.new.streams c.touch_rows-touched.new.rows c.touch_rows-touched.new.doubt c.touch_rows-touched.new.spare c.touch_rows-touched.new.sweep (is_some c.self.inside.rows) true c.touch_rows-touched.ensures.stepped)

pub returns-in-Err-clause-kept : goal.returns-in-Err-clause-kept
returns-in-Err-clause-kept g c =
    subst (λ (v : Stored). KeepsTheRange v (record { streams = c.touch_rows-touched.new.streams; range = c.self.inside.range; is_loaded = true })) c.self.view_is
    (stepped_keeps c.self.inside.range c.self.inside.streams c.touch_rows-touched.new.streams c.touch_rows-touched.new.rows c.touch_rows-touched.new.doubt c.touch_rows-touched.new.spare c.touch_rows-touched.new.sweep (is_some c.self.inside.rows) true c.touch_rows-touched.ensures.stepped)
