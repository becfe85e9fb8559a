-- The first rule that holds in all lists of rules.
use Rattle.std.proofs.Common.{◌≡◌, ℕ, Bool, true, false, cond, not, ◌&&◌, ◌||◌, drop, take, List, [], ◌∷◌, ◌++◌, Option, Some, None, refl, sym, ap, ◌∙◌}
use Rattle.std.proofs.lemmas.Bool.{and_parts}
use Rattle.std.proofs.lemmas.List.Folds.{find-append}
use Rattle.std.specs.Prelude.{find, ⊤}
use Rattle.std.specs.List.{list_all, list_any}
use Rattle.std.specs.Option.{option_map, option_or}
use Rattle.stamp_values.specs.Operations.{writes}
use Rattle.stamp_types.specs.declared.refusal.Refusal.{Refusal}
use Rattle.stamp_types.specs.declared.rule.Rule.{Rule}
use Rattle.stamp_types.specs.declared.rule.Rule.TheVariants.{O1, O2, O3, O4, O5, O6}
use Rattle.stamp_types.specs.Requests.{Asked}
use Rattle.stamp_types.specs.World.{Part}
use Rattle.access_rules.specs.declared.keys.Keys.{Keys}
use Rattle.access_rules.specs.Rules.{holds, access_rules, first_rule}
use Rattle.range_rows.specs.ObjectRules.{Cause, cause_holds, cause_refusal, causes, fails_if_match, fails_if_none_match, is_any, object_holds, object_refusal, object_rules}
use Rattle.range_rows.specs.ObjectRules.Cause.{ContainerIsAbsent, ContainerExists, BlobIsAbsent}
use Rattle.row_trees.specs.Access.{acl_of}
use Rattle.stamp_model.specs.Refusals.{access_refusal, refusing_rule, refuses, rules_in_order}

or_none : (a b : Bool) → not b ≡ true → (a || b) ≡ a
or_none true b h = refl
or_none false true h = cc
or_none false false h = refl

none_or : (a b : Bool) → not a ≡ true → (a || b) ≡ b
none_or true b h = cc
none_or false b h = refl

module _ {X : Type 0} where
  -- if no element passes the second of two tests, the first test alone decides what is found
  find-first_alone : (a b : X → Bool) (xs : List X) → list_all (λ x. not (b x)) xs ≡ true → find (λ x. a x || b x) xs ≡ find a xs
  find-first_alone a b [] h = refl
  find-first_alone a b (x ∷ xs) h =
      let both = and_parts (not (b x)) (list_all (λ x. not (b x)) xs) h in
      λ i. cond (or_none (a x) (b x) both.0 i) (Some x) (find-first_alone a b xs both.1 i)

  -- if no element passes the first test, the second test alone decides what is found
  find-second_alone : (a b : X → Bool) (xs : List X) → list_all (λ x. not (a x)) xs ≡ true → find (λ x. a x || b x) xs ≡ find b xs
  find-second_alone a b [] h = refl
  find-second_alone a b (x ∷ xs) h =
      let both = and_parts (not (a x)) (list_all (λ x. not (a x)) xs) h in
      λ i. cond (none_or (a x) (b x) both.0 i) (Some x) (find-second_alone a b xs both.1 i)

-- ---- the rule of a refusal

joined : (a b : Option Refusal) → option_map (λ r. r.rule) (option_or a b) ≡ option_or (option_map (λ r. r.rule) a) (option_map (λ r. r.rule) b)
joined None b = refl
joined (Some r) b = refl

of_permission : (o : Option Rule) → option_map (λ r. r.rule) (option_map access_refusal o) ≡ o
of_permission None = refl
of_permission (Some r) = refl

-- the rule of the first of some causes that exists
abbrev rule_of : (Cause → Bool) → List Cause → Option Rule
rule_of holds cs = option_map (λ r. r.rule) (option_map cause_refusal (find holds cs))

-- each of these causes refuses by this rule
abbrev AllBy : Rule → List Cause → Type 0
AllBy r [] = ⊤
AllBy r (c ∷ cs) = ((cause_refusal c).rule ≡ r) × AllBy r cs

module _ (holds : Cause → Bool) where
  -- the first cause decides, if it exists
  by_cause : (c : Cause) (more : List Cause) → rule_of holds (c ∷ more) ≡ cond (holds c) (Some (cause_refusal c).rule) (rule_of holds more)
  by_cause c more =
      elim (holds c) as (λ b. option_map (λ r. r.rule) (option_map cause_refusal (cond b (Some c) (find holds more))) ≡ cond b (Some (cause_refusal c).rule) (rule_of holds more)) [
        | true ↦ refl
        | false ↦ refl
      ]

  -- if causes that all refuse by one rule come first, that rule is the first if one of them exists
  by_one : (r : Rule) (cs more : List Cause) → AllBy r cs → rule_of holds (cs ++ more) ≡ cond (list_any holds cs) (Some r) (rule_of holds more)
  by_one r [] more all = refl
  by_one r (c ∷ cs) more all =
      elim (holds c) as (λ b. option_map (λ r. r.rule) (option_map cause_refusal (cond b (Some c) (find holds (cs ++ more)))) ≡ cond (b || list_any holds cs) (Some r) (rule_of holds more)) [
        | true ↦ ap (λ r. Some r) all.0
        | false ↦ by_one r cs more all.1
      ]

-- n says that If-None-Match fails, w that the request writes, and s that the condition is `*`
of_conditions : (m n w s : Bool) → (m || ((not w && n) || ((w && (s && n)) || ((w && (not s && n)) || false)))) ≡ (m || n)
of_conditions true n w s = refl
of_conditions false true false s = refl
of_conditions false true true true = refl
of_conditions false true true false = refl
of_conditions false false false s = refl
of_conditions false false true true = refl
of_conditions false false true false = refl

-- the rule by which the object refuses is the first of its rules that holds
pub object_rule-first : (p : Part ℕ) (q : Asked) → option_map (λ r. r.rule) (object_refusal p q) ≡ find (object_holds p q) object_rules
object_rule-first p q =
    by_cause holds_here ContainerIsAbsent (drop 1 causes)
    ∙ ap (λ o. cond (holds_here ContainerIsAbsent) (Some O1) o) (by_cause holds_here ContainerExists (drop 2 causes)
    ∙ ap (λ o. cond (holds_here ContainerExists) (Some O2) o) (by_cause holds_here BlobIsAbsent (drop 3 causes)
    ∙ ap (λ o. cond (holds_here BlobIsAbsent) (Some O3) o) (by_one holds_here O4 (take 4 (drop 3 causes)) (drop 7 causes) (refl, (refl, (refl, (refl, tt))))
    ∙ ap (λ b. cond b (Some O4) (rule_of holds_here (drop 7 causes))) (of_conditions (fails_if_match p q.ask) (fails_if_none_match p q.ask) (writes q.ask.op) (is_any q.ask.args.if_none_match))
    ∙ ap (λ o. cond (fails_if_match p q.ask || fails_if_none_match p q.ask) (Some O4) o) (by_one holds_here O5 (take 4 (drop 7 causes)) (drop 11 causes) (refl, (refl, (refl, (refl, tt))))
    ∙ ap (λ o. cond (object_holds p q O5) (Some O5) o) (by_one holds_here O6 (drop 11 causes) [] (refl, (refl, (refl, (refl, (refl, (refl, tt)))))))))))
  where
    holds_here : Cause → Bool
    holds_here = cause_holds p q

module _ (keys : Option Keys) (p : Part ℕ) (q : Asked) (t : ℕ) where
  abbrev by_access : Rule → Bool
  by_access = holds keys (acl_of p) q.ask t

  abbrev by_object : Rule → Bool
  by_object = object_holds p q

  in_parts : refusing_rule keys p q t ≡ option_or (first_rule keys (acl_of p) q.ask t) (find by_object object_rules)
  in_parts =
      joined (option_map access_refusal (first_rule keys (acl_of p) q.ask t)) (object_refusal p q)
      ∙ (λ i. option_or (of_permission (first_rule keys (acl_of p) q.ask t) i) (object_rule-first p q i))

  -- the rule that refuses is the first of all rules that holds
  pub refusing_rule-first : refusing_rule keys p q t ≡ find (refuses keys p q t) rules_in_order
  refusing_rule-first =
      in_parts
      ∙ sym (find-append (refuses keys p q t) access_rules object_rules
      ∙ (λ i. option_or (find-first_alone by_access by_object access_rules refl i) (find-second_alone by_access by_object object_rules refl i)))
