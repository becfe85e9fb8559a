-- What permission says of a request with other arguments, and what refuses it.
use Rattle.std.proofs.Common.{◌≡◌, ℕ, Bool, true, false, cond, not, ◌&&◌, is_none, List, [], ◌∷◌, Option, Some, None, refl, ap, ◌∙◌, sym}
use Rattle.std.specs.Prelude.{find, ⊤}
use Rattle.std.specs.Option.{option_map, option_or}
use Rattle.stamp_values.specs.declared.acl.Acl.{Acl}
use Rattle.stamp_values.specs.declared.block.BlockKinds.{BlockKinds}
use Rattle.stamp_types.specs.declared.args.Args.{Args}
use Rattle.stamp_types.specs.declared.ask.Ask.{Ask}
use Rattle.stamp_types.specs.declared.rule.Rule.{Rule}
use Rattle.stamp_types.specs.declared.rule.Rule.TheVariants.{K1, K2, K3, K4, K5, S1, P1, P2, S10, S11}
use Rattle.stamp_types.specs.Requests.{Asked}
use Rattle.stamp_types.specs.World.{Part}
use Rattle.access_rules.specs.declared.keys.Keys.{Keys}
use Rattle.access_rules.specs.Needs.{need_of}
use Rattle.access_rules.specs.Rules.{access_rules, allows_less, first_rule, holds, of_fields, of_token, on_public, some_passes}
use Rattle.access_rules.specs.TokenParts.{allows, given_once}
use Rattle.container_acl.specs.JoinedFields.{letters_of}
use Rattle.row_trees.specs.Access.{acl_of}
use Rattle.range_rows.specs.ObjectRules.{Cause, cause_holds, cause_refusal, causes}
use Rattle.range_rows.specs.ObjectRules.Cause.{ContainerIsAbsent, ContainerExists, BlobIsAbsent, MatchFails, IsNotModified, BlobExists, NoneMatchFails, BodyIsDamaged, BodyIsMalformed, IdIsBad, BlockIsMissing, ListIsTooLong, IdHasOtherLength, BlocksAreFull, ListIsTooLarge, RangeIsPastTheEnd, CountIsFull}
use Rattle.stamp_model.specs.Refusals.{access_refusal, refusal}
use Rattle.stamp_model.proofs.ReplyLemmas.{unrefused}

-- ---- what is found

module _ {X : Type 0} where
  fails_first : (b : Bool) (x : X) (o : Option X) → cond b (Some x) o ≡ None → (b ≡ false) × (o ≡ None)
  fails_first true x o h = cc
  fails_first false x o h = (refl, h)

  -- no element passes the test
  abbrev AllFail : (X → Bool) → List X → Type 0
  AllFail test [] = ⊤
  AllFail test (x ∷ xs) = (test x ≡ false) × AllFail test xs

  fail-unfound : (test : X → Bool) (xs : List X) → find test xs ≡ None → AllFail test xs
  fail-unfound test [] h = tt
  fail-unfound test (x ∷ xs) h = let parts = fails_first (test x) x (find test xs) h in (parts.0, fail-unfound test xs parts.1)

-- if all causes fail a test, each cause fails it
each_fails : (test : Cause → Bool) → AllFail test causes → (c : Cause) → test c ≡ false
each_fails test all ContainerIsAbsent = all.0
each_fails test all ContainerExists = all.1.0
each_fails test all BlobIsAbsent = all.1.1.0
each_fails test all MatchFails = all.1.1.1.0
each_fails test all IsNotModified = all.1.1.1.1.0
each_fails test all BlobExists = all.1.1.1.1.1.0
each_fails test all NoneMatchFails = all.1.1.1.1.1.1.0
each_fails test all BodyIsDamaged = all.1.1.1.1.1.1.1.0
each_fails test all BodyIsMalformed = all.1.1.1.1.1.1.1.1.0
each_fails test all IdIsBad = all.1.1.1.1.1.1.1.1.1.0
each_fails test all BlockIsMissing = all.1.1.1.1.1.1.1.1.1.1.0
each_fails test all ListIsTooLong = all.1.1.1.1.1.1.1.1.1.1.1.0
each_fails test all IdHasOtherLength = all.1.1.1.1.1.1.1.1.1.1.1.1.0
each_fails test all BlocksAreFull = all.1.1.1.1.1.1.1.1.1.1.1.1.1.0
each_fails test all ListIsTooLarge = all.1.1.1.1.1.1.1.1.1.1.1.1.1.1.0
each_fails test all RangeIsPastTheEnd = all.1.1.1.1.1.1.1.1.1.1.1.1.1.1.1.0
each_fails test all CountIsFull = all.1.1.1.1.1.1.1.1.1.1.1.1.1.1.1.1.0

unmapped : (o : Option Cause) → option_map cause_refusal o ≡ None → o ≡ None
unmapped None h = refl
unmapped (Some c) h = cc

-- ---- permission

-- what is asked with other arguments
abbrev pub with_args : Ask → Args → Ask
with_args a x = record a { args = x }

-- a rule of permission does not depend on any argument but the kinds of blocks
holds-with_args : (keys : Option Keys) (acl : Option Acl) (a : Ask) (x : Args) (t : ℕ) → x.kinds ≡ a.args.kinds → (r : Rule) → holds keys acl (with_args a x) t r ≡ holds keys acl a t r
holds-with_args keys acl a x t same K1 = refl
holds-with_args keys acl a x t same K2 = refl
holds-with_args keys acl a x t same K3 = refl
holds-with_args keys acl a x t same K4 = refl
holds-with_args keys acl a x t same K5 = refl
holds-with_args keys acl a x t same S1 = refl
holds-with_args keys acl a x t same S10 = ap (λ (k : Option BlockKinds). of_token (λ token. is_none (need_of a.op k).letter) a) same
holds-with_args keys acl a x t same S11 =
    ap (λ (k : Option BlockKinds). of_fields (λ token policy. some_passes (λ letter. some_passes (λ permissions. not (allows letter permissions)) (given_once token.letters (letters_of policy))) (need_of a.op k).letter) acl a) same
holds-with_args keys acl a x t same P1 = ap (λ (k : Option BlockKinds). on_public a.credential && is_none (need_of a.op k).level) same
holds-with_args keys acl a x t same P2 = ap (λ (k : Option BlockKinds). on_public a.credential && some_passes (allows_less acl) (need_of a.op k).level) same
holds-with_args keys acl a x t same other = refl

-- permission does not depend on any argument but the kinds of blocks
pub first_rule-with_args : (keys : Option Keys) (acl : Option Acl) (a : Ask) (x : Args) (t : ℕ) → x.kinds ≡ a.args.kinds → first_rule keys acl (with_args a x) t ≡ first_rule keys acl a t
first_rule-with_args keys acl a x t same = ap (λ (test : Rule → Bool). find test access_rules) (λ i r. holds-with_args keys acl a x t same r i)

-- ---- refusals

-- the same request with other arguments
abbrev pub asked_with : Asked → Args → Asked
asked_with q x = record q { ask = with_args q.ask x }

module _ (keys : Option Keys) (p : Part ℕ) (q : Asked) (t : ℕ) where
  -- what refuses a request does not depend on arguments that give the same causes
  pub refusal-with_args : (x : Args) → x.kinds ≡ q.ask.args.kinds → ((c : Cause) → cause_holds p (asked_with q x) c ≡ cause_holds p q c) → refusal keys p (asked_with q x) t ≡ refusal keys p q t
  refusal-with_args x same alike =
      λ i. option_or (option_map access_refusal (first_rule-with_args keys (acl_of p) q.ask x t same i))
      (option_map cause_refusal (find (λ c. alike c i) causes))

  module _ (free : refusal keys p q t ≡ None) where
    unfound : find (cause_holds p q) causes ≡ None
    unfound = unmapped (find (cause_holds p q) causes) (unrefused keys p q t free).unopposed

    -- if nothing refuses a request, no cause to refuse it exists
    pub no_cause : (c : Cause) → cause_holds p q c ≡ false
    no_cause = each_fails (cause_holds p q) (fail-unfound (cause_holds p q) causes unfound)

    -- nothing refuses the request with other arguments that give no new cause
    pub free-with_args : (x : Args) → x.kinds ≡ q.ask.args.kinds → ((c : Cause) → cause_holds p q c ≡ false → cause_holds p (asked_with q x) c ≡ false) → refusal keys p (asked_with q x) t ≡ None
    free-with_args x same fewer =
        refusal-with_args x same (λ c. fewer c (no_cause c) ∙ sym (no_cause c)) ∙ free
