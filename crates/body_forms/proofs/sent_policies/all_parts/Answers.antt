use Rattle.std.proofs.Common.{◌≡◌, ◌++◌, ◌∷◌, [], map, le_refl, arith}
use Rattle.std.proofs.lemmas.Grind.{common_steps}
use Rattle.body_forms.specs.Policies.{policy_name}
use Rattle.body_forms.specs.PolicyReading.{part_view, part_at}
use Rattle.xml_text.proofs.ElementTurns.{start, no_more, at_end, one_more}
use Rattle.body_forms.proofs.Readings.{form_says}
use Rattle.body_forms.proofs.sent_policies.all_parts.Goals as goal

pub parts-init : goal.parts-init
parts-init c = (le_refl _, rw c.new-parts.ensures.items (start policy_name part_at _))

pub returns-in-Err-clause-value : goal.returns-in-Err-clause-value
returns-in-Err-clause-value c n h = form_says _ _ (λ none. no_more policy_name part_at _ _ _ c.parts.invariant.1 none n h) c.in-Err.fault c.in-Err.ensures.value

pub returns-in-Ok-None-clause-value : goal.returns-in-Ok-None-clause-value
returns-in-Ok-None-clause-value c n h =
    let read = rw c.in-Ok-None.field-0-is at c.in-Ok-None.ensures.value in
    at_end policy_name part_at _ _ _ _ c.parts.invariant.1 read n h

pub parts-preserved : goal.parts-preserved
parts-preserved c =
    let read = rw c.in-Ok-Some.field-0-is at c.in-Ok-Some.ensures.value in
    let shorter = c.in-Ok-Some.ensures.shorter in
    let pushed : map part_view c.push.new.self.items ≡ map part_view c.parts.parts.items ++ part_view c.in-Ok-Some.part ∷ [] = grind (arith, common_steps) in
    (omega (arith, c.parts.invariant.0, shorter), rw pushed (one_more policy_name part_at _ _ _ _ _ c.parts.invariant.1 read shorter))
