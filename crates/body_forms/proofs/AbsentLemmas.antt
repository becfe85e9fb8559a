-- What is absent from a policy.
use Rattle.std.proofs.Common.{◌≡◌, ◌<◌, List, [], ◌∷◌, length, map, Some, ap, ◌∙◌, arith}
use Rattle.body_forms.specs.declared.access_policy.Field.{Field}
use Rattle.body_forms.specs.declared.access_policy.Given as code_given
use Rattle.body_forms.specs.declared.sent_policies.Part as code_part
use Rattle.body_forms.specs.Policies.{at_most_one, values, Given, Access, no_access, Part, accesses}
use Rattle.body_forms.specs.PolicyReading.{given_view, part_view}
use Rattle.xml_text.specs.ElementReading.{value_of}
use Rattle.xml_text.proofs.UnescapeLemmas.{no_value}

-- if no field is left, the field is absent
pub no_field : (field : Field) (left : List code_given.Given) (whole : List Given) → values field (map given_view left) ≡ values field whole → length left < 1
    → Some (value_of []) ≡ at_most_one [] (values field whole)
unfolding values
no_field field [] whole same short = ap Some no_value ∙ ap (at_most_one []) same
no_field field (g ∷ gs) whole same short = absurd (omega arith)

-- what no text gives is nothing
pub nothing_given : (a : Access) → a ≡ record { start = value_of []; expiry = value_of []; permission = value_of [] } → a ≡ no_access
nothing_given a is = is ∙ (λ i. record { start = no_value i; expiry = no_value i; permission = no_value i })

-- if no part is left, nothing is given
pub no_part : (a : Access) (left : List code_part.Part) (whole : List Part) → a ≡ record { start = value_of []; expiry = value_of []; permission = value_of [] }
    → accesses (map part_view left) ≡ accesses whole → length left < 1 → Some a ≡ at_most_one no_access (accesses whole)
unfolding accesses
no_part a [] whole is same short = ap Some (nothing_given a is) ∙ ap (at_most_one no_access) same
no_part a (p ∷ ps) whole is same short = absurd (omega arith)
