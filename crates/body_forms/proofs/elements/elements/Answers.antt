use Rattle.std.proofs.Common.{◌≡◌, ◌++◌, ◌∷◌, [], map, le_refl, arith}
use Rattle.std.proofs.lemmas.Grind.{common_steps}
use Rattle.body_forms.specs.BlockListReading.{entry_view, entry_at}
use Rattle.body_forms.specs.BlockLists.{list_name}
use Rattle.xml_text.proofs.ElementTurns.{start, no_more, at_end, one_more}
use Rattle.body_forms.proofs.elements.elements.Goals as goal

pub elements-init : goal.elements-init
elements-init c = (le_refl _, rw c.new-elements.ensures.items (start list_name entry_at _))

pub returns-in-None : goal.returns-in-None
returns-in-None c = record { value = λ n h. no_more list_name entry_at _ _ _ c.elements.invariant.1 c.in-None.ensures.value n h }

pub returns-in-Some-None : goal.returns-in-Some-None
returns-in-Some-None c =
    let read = rw c.in-Some-None.field-0-is at c.in-Some-None.ensures.value in
    record { value = λ n h. at_end list_name entry_at _ _ _ _ c.elements.invariant.1 read n h }

pub elements-preserved : goal.elements-preserved
elements-preserved c =
    let read = rw c.in-Some-Some.field-0-is at c.in-Some-Some.ensures.value in
    let shorter = c.in-Some-Some.ensures.shorter in
    let pushed : map entry_view c.push.new.self.items ≡ map entry_view c.elements.elements.items ++ entry_view c.in-Some-Some.element ∷ [] = grind (arith, common_steps) in
    (omega (arith, c.elements.invariant.0, shorter), rw pushed (one_more list_name entry_at _ _ _ _ _ c.elements.invariant.1 read shorter))
