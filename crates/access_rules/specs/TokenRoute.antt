-- The first rule of the signature route that holds, from what the rules look at (Blob service REST reference, 2012-02-12, Delegating
-- Access with a Shared Access Signature).
use Rattle.std.specs.Prelude.{ℕ, not, cond, nat_le, nat_lt, is_none, Option, Some, None, Result, Ok, Err}
use Rattle.stamp_values.specs.declared.acl.Acl.{Acl}
use Rattle.stamp_types.specs.declared.ask.Ask.{Ask}
use Rattle.stamp_types.specs.declared.rule.Rule.{Rule}
use Rattle.stamp_types.specs.declared.rule.Rule.TheVariants.{S1, S2, S3, S4, S5, S6, S7, S8, S9, S10, S11}
use Rattle.sas_token.specs.Tokens.{Sent}
use Rattle.container_acl.specs.JoinedFields.{acl_or_closed, fields_with}
use Rattle.container_acl.specs.declared.fields.Fields.{Fields}
use Rattle.container_acl.specs.declared.fields.FieldFault.{FieldFault}
use Rattle.container_acl.specs.declared.fields.FieldFault.TheVariants.{Absent, Both, Lacks}
use Rattle.access_rules.specs.declared.keys.Keys.{Keys}
use Rattle.access_rules.specs.declared.needs.Letter.{Letter}
use Rattle.access_rules.specs.Needs.{need_of}
use Rattle.access_rules.specs.Parts.{keys_for, is_signed}
use Rattle.access_rules.specs.Rules.{some_passes}
use Rattle.access_rules.specs.TokenParts.{names_resource, text_of, allows}

-- the rule on the letter that an operation needs, if these are the permissions
abbrev pub rule_of_letter : Option Letter → Fields → Option Rule
rule_of_letter letter f = cond (is_none letter) (Some S10) (cond (some_passes (λ l. not (allows l f.letters)) letter) (Some S11) None)

-- the first rule that holds of what token and policy give together
abbrev pub rule_of_fields : Option Letter → ℕ → Fields → Option Rule
rule_of_fields letter t f =
    cond (some_passes (nat_lt t) f.start) (Some S8) (cond (nat_le f.expiry t) (Some S9) (rule_of_letter letter f))

-- the same, if token and policy give fields together
abbrev pub rule_of_given : Option Letter → ℕ → Result Fields FieldFault → Option Rule
rule_of_given letter t (Err Absent) = Some S5
rule_of_given letter t (Err Both) = Some S6
rule_of_given letter t (Err Lacks) = Some S7
rule_of_given letter t (Ok f) = rule_of_fields letter t f

-- the first rule after the signature that holds of a token
abbrev pub rule_after_signature : Option Acl → Ask → ℕ → Sent → Option Rule
rule_after_signature acl q t token = rule_of_given (need_of q.op q.args.kinds).letter t (fields_with (acl_or_closed acl) token)

-- the first rule that holds of a token
abbrev pub rule_of_token : Option Keys → Option Acl → Ask → ℕ → Sent → Option Rule
rule_of_token keys acl q t token =
    cond (is_none (keys_for keys q.key.account)) (Some S2)
    (cond (not (names_resource q token.resource)) (Some S3)
    (cond (some_passes (λ pair. not (is_signed pair (text_of q token) token.signature)) (keys_for keys q.key.account)) (Some S4)
    (rule_after_signature acl q t token)))

-- the first rule that holds if the request asks by a token, and this is the token
abbrev pub token_rule : Option Keys → Option Acl → Ask → ℕ → Option Sent → Option Rule
token_rule keys acl q t None = Some S1
token_rule keys acl q t (Some token) = rule_of_token keys acl q t token
