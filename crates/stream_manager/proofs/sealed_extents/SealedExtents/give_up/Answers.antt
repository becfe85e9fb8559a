use Rattle.std.proofs.Common.{◌≡◌, ◌<◌, ◌-◌, ◌∙◌, Some, ap, arith, get_or, length, refl, subst, sym}
use Rattle.std.specs.List.{slice_get}
use Rattle.std.proofs.lemmas.Option.{slice_get_read}
use Rattle.stream_manager.specs.SealedExtents.{SealedList, numbered}
use Rattle.stream_manager.proofs.GivenUpLemmas.{at_held, numbered_length}
use Rattle.stream_manager.proofs.sealed_extents.SealedExtents.give_up.Goals as goal

pub returns-then-extent-self-2-clause-given : goal.returns-then-extent-self-2-clause-given
returns-then-extent-self-2-clause-given c =
    let first = c.self.inside.first in
    let items = c.self.inside.handles.items in
    let within : c.args.extent < length (numbered first items) = subst (λ (s : SealedList). c.args.extent < length s.extents) (sym c.self.view_is) c.requires in
    let count = numbered_length first items in
    let here : c.args.extent - first ≡ 0 = omega arith in
    subst (λ (s : SealedList). slice_get s.extents c.args.extent ≡ Some c.remove.result) c.self.view_is
    (at_held first items c.args.extent (omega arith)
    ∙ (ap (slice_get items) here ∙ slice_get_read items (length items) 0 c.remove.result refl (omega (arith, within, count)) c.remove.ensures.value))

pub returns-clause-given : goal.returns-clause-given
returns-clause-given c =
    let first = c.self.inside.first in
    let items = c.self.inside.handles.items in
    let within : c.args.extent < length (numbered first items) = subst (λ (s : SealedList). c.args.extent < length s.extents) (sym c.self.view_is) c.requires in
    let count = numbered_length first items in
    subst (λ (s : SealedList). slice_get s.extents c.args.extent ≡ Some c.replace.result) c.self.view_is
    (at_held first items c.args.extent (omega arith)
    ∙ slice_get_read items (length items) (c.args.extent - first) c.replace.result refl (omega (arith, within, count))
    (c.replace.ensures.value ∙ c.index_mut.ensures.value ∙ ap (get_or items (c.args.extent - first)) (sym c.replace.ensures.value)))
