-- Which rule refuses a request, and with which code (Blob service REST reference, 2012-02-12, Status and Error Codes, Blob
-- Service Error Codes). The rules, their order and the codes of the rules of permission are the stamp's own.
use Rattle.std.specs.Prelude.{ℕ, Bool, true, false, ◌||◌, List, ◌++◌, Option}
use Rattle.std.specs.Option.{option_map, option_or}
use Rattle.stamp_types.specs.declared.code.Code.{Code}
use Rattle.stamp_types.specs.declared.code.Code.TheVariants as code
use Rattle.stamp_types.specs.declared.refusal.Refusal.{Refusal}
use Rattle.stamp_types.specs.declared.rule.Rule.{Rule}
use Rattle.stamp_types.specs.declared.rule.Rule.TheVariants as rule
use Rattle.stamp_types.specs.Requests.{Asked}
use Rattle.stamp_types.specs.World.{Part}
use Rattle.access_rules.specs.declared.keys.Keys.{Keys}
use Rattle.access_rules.specs.Rules.{holds, access_rules, first_rule}
use Rattle.row_trees.specs.Access.{acl_of}
use Rattle.range_rows.specs.ObjectRules.{object_holds, object_rules, object_refusal}

-- the error code of a rule of permission
abbrev pub access_code : Rule → Code
access_code rule.K1 = code.InvalidAuthenticationInfo
access_code rule.P1 = code.ResourceNotFound
access_code rule.P2 = code.ResourceNotFound
access_code _ = code.AuthenticationFailed

-- the refusal by a rule of permission
abbrev pub access_refusal : Rule → Refusal
access_refusal r = record { rule = r; code = access_code r }

-- the refusal of a request: by permission, or else by the object
abbrev pub refusal : Option Keys → Part ℕ → Asked → ℕ → Option Refusal
refusal keys p q t = option_or (option_map access_refusal (first_rule keys (acl_of p) q.ask t)) (object_refusal p q)

-- the rule that refuses the request
abbrev pub refusing_rule : Option Keys → Part ℕ → Asked → ℕ → Option Rule
refusing_rule keys p q t = option_map (λ r. r.rule) (refusal keys p q t)

-- the rule holds: as a rule of permission, or as a rule of the object
abbrev pub refuses : Option Keys → Part ℕ → Asked → ℕ → Rule → Bool
refuses keys p q t r = holds keys (acl_of p) q.ask t r || object_holds p q r

-- all rules in their order: the reply names the first rule that holds
abbrev pub rules_in_order : List Rule
rules_in_order = access_rules ++ object_rules

-- the rule is a rule of permission that is judged by the keys, the request and the moment alone
abbrev pub sees_no_container : Rule → Bool
sees_no_container rule.K1 = true
sees_no_container rule.K2 = true
sees_no_container rule.K3 = true
sees_no_container rule.K4 = true
sees_no_container rule.K5 = true
sees_no_container rule.S1 = true
sees_no_container rule.S2 = true
sees_no_container rule.S3 = true
sees_no_container rule.S4 = true
sees_no_container rule.P1 = true
sees_no_container _ = false

-- the rule is one of the rules of the object, O1 to O6
abbrev pub is_object_rule : Rule → Bool
is_object_rule rule.O1 = true
is_object_rule rule.O2 = true
is_object_rule rule.O3 = true
is_object_rule rule.O4 = true
is_object_rule rule.O5 = true
is_object_rule rule.O6 = true
is_object_rule _ = false
