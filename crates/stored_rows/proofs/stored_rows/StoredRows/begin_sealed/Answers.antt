use Rattle.std.proofs.Common.{Option, IfSome, refl, sym, subst}
use Rattle.std.specs.FinMap as finite
use Rattle.partition_stream.specs.Streams.{AreSealed}
use Rattle.stored_rows.specs.States.{Stored}
use Rattle.stored_rows.specs.Swept.{AreSwept}
use Rattle.stored_rows.specs.declared.cursor.Cursor.TheVariants as cursor
use Rattle.stored_rows.specs.declared.sweep.Sweep.{Sweep}
use Rattle.stored_rows.proofs.SweepEndLemmas.{begun_with}
use Rattle.stored_rows.proofs.stored_rows.StoredRows.begin_sealed.Goals as goal

pub invariant_of-self : goal.invariant_of-self
invariant_of-self c =
    let sealed : AreSealed c.self.inside.streams = subst (λ (v : Stored). AreSealed v.streams) (sym c.self.view_is) c.requires.sealed in
    let new : Sweep = record { mark = c.mark-mark.result; room = c.in-Ok.room; cursor = cursor.Start; touched = finite.empty; began = c.self.inside.waste } in
    let own : AreSwept c.begin-began.result c.self.inside.range c.self.inside.streams =
    begun_with c.begin-began.result new c.self.inside.range c.self.inside.streams c.begin-began.ensures refl refl sealed c.mark-mark.ensures c.in-Ok.ensures.room in
    record {
      loaded = c.self.invariant.loaded;
      limits = c.self.invariant.limits;
      swept = subst (λ (v : Option Sweep). IfSome v (λ w. AreSwept w c.self.inside.range c.self.inside.streams)) (sym c.replace.ensures.after) own;
      again = c.self.invariant.again;
    }
