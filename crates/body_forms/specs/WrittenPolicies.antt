-- Stored policies as they are written (Blob service REST reference, 2012-02-12, Get Container ACL; Extensible Markup Language 1.0,
-- sections 2.8 and 3.1).
use Rattle.std.specs.Prelude.{ℕ, List, ◌++◌, codes, flat_map, option_map}
use Rattle.stamp_values.specs.Letters.{letters_text}
use Rattle.stamp_values.specs.declared.policy.Policy.{Policy}
use Rattle.moment_text.specs.Civil.{time_at}
use Rattle.moment_text.specs.Iso.{to_fraction, iso_text}
use Rattle.xml_text.specs.WrittenElements.{opening_text, closing_text, prolog_text, element_text, given_text}
use Rattle.body_forms.specs.Policies.{policies_name, policy_name, access_name}

-- a moment in UTC with seven decimals of the second
abbrev pub moment_text : ℕ → List ℕ
moment_text moment = iso_text (to_fraction 7) (time_at moment)

-- what a policy gives, as it is written: the start, the expiry and the permissions
unfoldable pub fields_text : Policy → List ℕ
fields_text p =
    given_text (codes "Start") (option_map moment_text p.start) ++ given_text (codes "Expiry") (option_map moment_text p.expiry)
    ++ given_text (codes "Permission") (option_map letters_text p.letters)

-- the element of what a policy gives, as it is written
unfoldable pub access_text : Policy → List ℕ
access_text p = opening_text access_name ++ fields_text p ++ closing_text access_name

-- what is in the element of a policy, as it is written: its id, and what it gives
unfoldable pub identified_text : Policy → List ℕ
identified_text p = element_text (codes "Id") p.id ++ access_text p

-- a policy as it is written
unfoldable pub policy_text : Policy → List ℕ
policy_text p = opening_text policy_name ++ identified_text p ++ closing_text policy_name

-- the body as it is written: the policies in their order
unfoldable pub policies_text : List Policy → List ℕ
policies_text ps = prolog_text ++ opening_text policies_name ++ flat_map policy_text ps ++ closing_text policies_name
