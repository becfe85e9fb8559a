use Rattle.std.proofs.Common.{◌≡◌, ◌-◌, ◌∙◌, None, Some, List, ap, arith, length, refl, subst, sym}
use Rattle.std.specs.List.{slice_get}
use Rattle.std.proofs.lemmas.Option.{slice_get_past, slice_get_read}
use Rattle.extent_seal.specs.Extents.{Closed}
use Rattle.stream_manager.specs.SealedExtents.{SealedList}
use Rattle.stream_manager.proofs.GivenUpLemmas.{at_held}
use Rattle.stream_manager.proofs.sealed_extents.SealedExtents.get.Goals as goal

pub returns-in-Some : goal.returns-in-Some
returns-in-Some c =
    let i = c.args.extent - c.self.inside.first in
    let lookup = c.in-Some.ensures.lookup in
    let here : slice_get c.deref.result.now i ≡ Some c.in-Some.handle.now =
    slice_get_read c.deref.result.now (length c.deref.result.now) i c.in-Some.handle.now refl lookup.3.0 lookup.1 in
    let at : slice_get c.self.inside.handles.items i ≡ Some c.extent.result.now =
    ap (λ (xs : List Closed). slice_get xs i) (sym c.deref.ensures.value) ∙ here ∙ ap Some (sym c.extent.ensures) in
    subst (λ (s : SealedList). slice_get s.extents c.args.extent ≡ Some c.extent.result.now) c.self.view_is
    (at_held c.self.inside.first c.self.inside.handles.items c.args.extent (omega arith) ∙ at)

pub returns-in-None : goal.returns-in-None
returns-in-None c =
    let i = c.args.extent - c.self.inside.first in
    let at : slice_get c.self.inside.handles.items i ≡ None =
    ap (λ (xs : List Closed). slice_get xs i) (sym c.deref.ensures.value) ∙ slice_get_past c.deref.result.now i c.in-None.ensures.lookup.3 in
    subst (λ (s : SealedList). slice_get s.extents c.args.extent ≡ None) c.self.view_is
    (at_held c.self.inside.first c.self.inside.handles.items c.args.extent (omega arith) ∙ at)
