use Rattle.std.proofs.Common.{◌≡◌, Option, None, IfSome, refl, sym, subst}
use Rattle.std.specs.Prelude.{drop}
use Rattle.std.specs.Option.{is_some}
use Rattle.stream_manager.specs.Places.{blocks_of}
use Rattle.stream_manager.specs.Streams.{laid}
use Rattle.partition_stream.specs.Streams.{logged}
use Rattle.stored_rows.specs.Compactions.{KeepsTheRange}
use Rattle.stored_rows.specs.States.{Stored, doubt_of}
use Rattle.stored_rows.specs.Swept.{AreSwept}
use Rattle.stored_rows.specs.declared.sweep.Sweep.{Sweep}
use Rattle.stored_rows.proofs.LimitLemmas.{limit_kept}
use Rattle.stored_rows.proofs.SweepEndLemmas.{given_sure, only_since, over_ends}
use Rattle.stored_rows.proofs.RowDoubtLemmas.{no_row}
use Rattle.stored_rows.proofs.SteppedLemmas.{keeps_itself}
use Rattle.stored_rows.proofs.stored_rows.StoredRows.sweep_end.Goals as goal

pub returns-in_err-mark-clause-kept : goal.returns-in_err-mark-clause-kept
returns-in_err-mark-clause-kept c =
    keeps_itself c.args.self.now (record { streams = c.self.inside.streams; range = c.self.inside.range; is_loaded = is_some c.self.inside.rows }) c.self.view_is

pub invariant_of-self-2 : goal.invariant_of-self-2
invariant_of-self-2 c =
    let none : (logged c.self.inside.streams).doubt ≡ None = subst (λ (v : Stored). doubt_of v ≡ None) (sym c.self.view_is) c.requires.sure in
    record {
      loaded = (over_ends c.self.inside.sweep c.in_ok-mark.field-0 c.self.inside.range c.self.inside.streams c.give_up_before-given.new.self c.self.inside.rows c.self.inside.doubt c.self.invariant.swept
          c.in_ok-mark.ensures.over.0 c.give_up_before-given.ensures.left c.self.invariant.loaded none).0;
      limits = limit_kept c.self.inside.extent_bytes c.self.inside.streams c.give_up_before-given.new.self c.self.invariant.limits c.give_up_before-given.ensures.left.limits;
      swept = subst (λ (v : Option Sweep). IfSome v (λ w. AreSwept w c.self.inside.range c.give_up_before-given.new.self)) (sym c.in_ok-mark.ensures.over.1) tt;
      again = no_row c.give_up_before-given.new.self c.self.inside.spare (given_sure c.in_ok-mark.field-0.mark c.self.inside.streams c.give_up_before-given.new.self c.give_up_before-given.ensures.left);
    }

pub returns-clause-kept : goal.returns-clause-kept
returns-clause-kept c =
    let none : (logged c.self.inside.streams).doubt ≡ None = subst (λ (v : Stored). doubt_of v ≡ None) (sym c.self.view_is) c.requires.sure in
    let ends = over_ends c.self.inside.sweep c.in_ok-mark.field-0 c.self.inside.range c.self.inside.streams c.give_up_before-given.new.self c.self.inside.rows c.self.inside.doubt c.self.invariant.swept
    c.in_ok-mark.ensures.over.0 c.give_up_before-given.ensures.left c.self.invariant.loaded none in
    subst (λ (v : Stored). KeepsTheRange v (record { streams = c.give_up_before-given.new.self; range = c.self.inside.range; is_loaded = is_some c.self.inside.rows })) c.self.view_is
    (record { bytes = ends.1; range = refl; limits = c.give_up_before-given.ensures.left.limits })

pub returns-clause-data : goal.returns-clause-data
returns-clause-data c =
    subst (λ (v : Stored). blocks_of (laid c.give_up_before-given.new.self.blobs) ≡ blocks_of (drop c.in_ok-mark.field-0.mark.blobs (laid v.streams.blobs))) c.self.view_is
    (only_since c.in_ok-mark.field-0.mark c.self.inside.streams c.give_up_before-given.new.self c.give_up_before-given.ensures.left).0

pub returns-clause-log : goal.returns-clause-log
returns-clause-log c =
    subst (λ (v : Stored). blocks_of (laid c.give_up_before-given.new.self.log) ≡ blocks_of (drop c.in_ok-mark.field-0.mark.log (laid v.streams.log))) c.self.view_is
    (only_since c.in_ok-mark.field-0.mark c.self.inside.streams c.give_up_before-given.new.self c.give_up_before-given.ensures.left).1
