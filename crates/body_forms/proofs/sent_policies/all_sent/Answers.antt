use Rattle.std.proofs.Common.{◌≡◌, ◌++◌, ◌∷◌, [], map, le_refl, arith}
use Rattle.std.proofs.lemmas.Grind.{common_steps}
use Rattle.body_forms.specs.Policies.{policies_name}
use Rattle.body_forms.specs.PolicyReading.{sent_view, sent_at}
use Rattle.xml_text.proofs.ElementTurns.{start, no_more, at_end, one_more}
use Rattle.body_forms.proofs.Readings.{form_says}
use Rattle.body_forms.proofs.sent_policies.all_sent.Goals as goal

pub policies-init : goal.policies-init
policies-init c = (le_refl _, rw c.new-policies.ensures.items (start policies_name sent_at _))

pub returns-in-Err : goal.returns-in-Err
returns-in-Err c =
    record { value = λ n h. form_says _ _ (λ none. no_more policies_name sent_at _ _ _ c.policies.invariant.1 none n h) c.in-Err.fault c.in-Err.ensures.value }

pub returns-in-Ok-None : goal.returns-in-Ok-None
returns-in-Ok-None c =
    let read = rw c.in-Ok-None.field-0-is at c.in-Ok-None.ensures.value in
    record { value = λ n h. at_end policies_name sent_at _ _ _ _ c.policies.invariant.1 read n h }

pub policies-preserved : goal.policies-preserved
policies-preserved c =
    let read = rw c.in-Ok-Some.field-0-is at c.in-Ok-Some.ensures.value in
    let shorter = c.in-Ok-Some.ensures.shorter in
    let pushed : map sent_view c.push.new.self.items ≡ map sent_view c.policies.policies.items ++ sent_view c.in-Ok-Some.sent ∷ [] = grind (arith, common_steps) in
    (omega (arith, c.policies.invariant.0, shorter), rw pushed (one_more policies_name sent_at _ _ _ _ _ c.policies.invariant.1 read shorter))
