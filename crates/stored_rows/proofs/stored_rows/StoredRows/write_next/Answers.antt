use Rattle.std.proofs.Common.{subst, true}
use Rattle.std.specs.Option.{is_some}
use Rattle.stored_rows.specs.Compactions.{KeepsTheRange}
use Rattle.stored_rows.specs.States.{Stored}
use Rattle.stored_rows.proofs.SteppedLemmas.{keeps_itself, same_keeps, stepped_keeps}
use Rattle.stored_rows.proofs.stored_rows.StoredRows.write_next.Goals as goal

pub returns-in_default-clause-kept : goal.returns-in_default-clause-kept
returns-in_default-clause-kept g c =
    keeps_itself c.args.self.now _ c.self.view_is

pub returns-in_default-sweep-clause-kept : goal.returns-in_default-sweep-clause-kept
returns-in_default-sweep-clause-kept g c =
    subst (λ (v : Stored). KeepsTheRange v (record { streams = c.self.inside.streams; range = c.self.inside.range; is_loaded = true })) c.self.view_is
    (same_keeps c.self.inside.range c.self.inside.streams (is_some c.self.inside.rows) true)

pub returns-in-Ok-On-clause-kept : goal.returns-in-Ok-On-clause-kept
returns-in-Ok-On-clause-kept g c =
    subst (λ (v : Stored). KeepsTheRange v (record { streams = c.step_row-went.new.streams; range = c.self.inside.range; is_loaded = true })) c.self.view_is
    (stepped_keeps c.self.inside.range c.self.inside.streams c.step_row-went.new.streams c.step_row-went.new.rows c.step_row-went.new.doubt c.step_row-went.new.spare c.step_row-went.new.sweep (is_some c.self.inside.rows) true c.step_row-went.ensures.stepped)

pub returns-in-Ok-Stuck-clause-kept : goal.returns-in-Ok-Stuck-clause-kept
returns-in-Ok-Stuck-clause-kept g c =
    subst (λ (v : Stored). KeepsTheRange v (record { streams = c.step_row-went.new.streams; range = c.self.inside.range; is_loaded = true })) c.self.view_is
    (stepped_keeps c.self.inside.range c.self.inside.streams c.step_row-went.new.streams c.step_row-went.new.rows c.step_row-went.new.doubt c.step_row-went.new.spare c.step_row-went.new.sweep (is_some c.self.inside.rows) true c.step_row-went.ensures.stepped)

pub returns-in-Some-sweep-clause-kept : goal.returns-in-Some-sweep-clause-kept
returns-in-Some-sweep-clause-kept g c =
    subst (λ (v : Stored). KeepsTheRange v (record { streams = c.step_row-went.new.streams; range = c.self.inside.range; is_loaded = true })) c.self.view_is
    (stepped_keeps c.self.inside.range c.self.inside.streams c.step_row-went.new.streams c.step_row-went.new.rows c.step_row-went.new.doubt c.step_row-went.new.spare c.step_row-went.new.sweep (is_some c.self.inside.rows) true c.step_row-went.ensures.stepped)

pub returns-in-Some-sweep-2-clause-kept : goal.returns-in-Some-sweep-2-clause-kept
returns-in-Some-sweep-2-clause-kept g c =
    subst (λ (v : Stored). KeepsTheRange v (record { streams = c.step_row-went.new.streams; range = c.self.inside.range; is_loaded = true })) c.self.view_is
    (stepped_keeps c.self.inside.range c.self.inside.streams c.step_row-went.new.streams c.step_row-went.new.rows c.step_row-went.new.doubt c.step_row-went.new.spare c.step_row-went.new.sweep (is_some c.self.inside.rows) true c.step_row-went.ensures.stepped)
