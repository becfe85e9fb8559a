use Rattle.std.proofs.Common.{◌≡◌, ◌++◌, ◌∷◌, [], map, le_refl, arith}
use Rattle.std.proofs.lemmas.Grind.{common_steps}
use Rattle.body_forms.specs.PolicyReading.{given_view, given_at}
use Rattle.body_forms.specs.Policies.{access_name}
use Rattle.xml_text.proofs.ElementTurns.{start, no_more, at_end, one_more}
use Rattle.body_forms.proofs.access_policy.all_given.Goals as goal

pub fields-init : goal.fields-init
fields-init c = (le_refl _, rw c.new-fields.ensures.items (start access_name given_at _))

pub returns-in-None-clause-value : goal.returns-in-None-clause-value
returns-in-None-clause-value c n h = no_more access_name given_at _ _ _ c.fields.invariant.1 c.in-None.ensures.value n h

pub returns-in-Some-None-clause-value : goal.returns-in-Some-None-clause-value
returns-in-Some-None-clause-value c n h =
    let read = rw c.in-Some-None.field-0-is at c.in-Some-None.ensures.value in
    at_end access_name given_at _ _ _ _ c.fields.invariant.1 read n h

pub fields-preserved : goal.fields-preserved
fields-preserved c =
    let read = rw c.in-Some-Some.field-0-is at c.in-Some-Some.ensures.value in
    let shorter = c.in-Some-Some.ensures.shorter in
    let pushed : map given_view c.push.new.self.items ≡ map given_view c.fields.fields.items ++ given_view c.in-Some-Some.given ∷ [] = grind (arith, common_steps) in
    (omega (arith, c.fields.invariant.0, shorter), rw pushed (one_more access_name given_at _ _ _ _ _ c.fields.invariant.1 read shorter))
