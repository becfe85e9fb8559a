-- No rule holds if and only if the request's own route admits the request.
use Rattle.std.proofs.Common.{◌≡◌, ℕ, ◌≤◌, ◌↔◌, Bool, true, false, cond, not, ◌||◌, List, [], ◌∷◌, Option, Some, None, Result, Ok, Err, refl, sym, ap, ◌∙◌, arith, nat_le, subst, is_none}
use Rattle.std.proofs.lemmas.Bool.Decides.{nat_tests}
use Rattle.std.proofs.lemmas.Slice.Eq.{bytes_eq-Decides}
use Rattle.std.specs.Prelude.{bytes_eq, option_and_then}
use Rattle.std.specs.Result.{result_ok}
use Rattle.stamp_values.specs.declared.acl.Acl.{Acl}
use Rattle.stamp_values.specs.declared.level.Level.{Level}
use Rattle.stamp_values.specs.declared.signing.Credential.{Credential}
use Rattle.stamp_values.specs.declared.signing.Credential.TheVariants.{Shared, Token, Anonymous}
use Rattle.stamp_values.specs.Levels.{level_number}
use Rattle.stamp_types.specs.declared.ask.Ask.{Ask}
use Rattle.stamp_types.specs.declared.rule.Rule.{Rule}
use Rattle.stamp_types.specs.declared.rule.Rule.TheVariants.{K1, K2, K3, K4, K5, P1, P2}
use Rattle.hmac_sign.specs.Signature.{signature_of}
use Rattle.shared_key.specs.Authorizations.{Claim}
use Rattle.access_rules.specs.declared.keys.Keys.{Keys}
use Rattle.access_rules.proofs.ClaimLemmas.{claimed, claims}
use Rattle.access_rules.proofs.KeyLemmas.{keys_found, found_keys, either, of_either}
use Rattle.access_rules.proofs.DateLemmas.{date_text_is, is_date_text}
use Rattle.access_rules.specs.Dates.{AreWithin}
use Rattle.access_rules.specs.Needs.{need_of}
use Rattle.moment_text.specs.Http.{http_moment}
use Rattle.access_rules.specs.Parts.{claim_in, keys_for, date_text, date_in, string_of, is_far, is_signed}
use Rattle.access_rules.specs.Rules.{first_rule, some_passes, allows_less}
use Rattle.access_rules.specs.Routes.{ByKey, ByPublic, Admits}
use Rattle.access_rules.proofs.TokenRouteLaw.{by_token}

-- ---- the date

ok_is : {A E : Type 0} (r : Result A E) (x : A) → result_ok r ≡ Some x → r ≡ Ok x
ok_is (Ok y) x e = let same : y ≡ x = cc in ap Ok same
ok_is (Err f) x e = cc

-- a date that is found is named by a text
date_found : (text : Option (List ℕ)) (date : ℕ) → option_and_then (λ t. result_ok (http_moment t)) text ≡ Some date → (t : List ℕ) × (text ≡ Some t) × (http_moment t ≡ Ok date)
date_found None date e = cc
date_found (Some t) date e = (t, refl, ok_is (http_moment t) date e)

found_date : (text : Option (List ℕ)) (t : List ℕ) (date : ℕ) → text ≡ Some t → http_moment t ≡ Ok date → option_and_then (λ t. result_ok (http_moment t)) text ≡ Some date
found_date text t date is named = ap (λ o. option_and_then (λ t. result_ok (http_moment t)) o) is ∙ ap result_ok named

-- ---- the tests of the key route

near : (t date : ℕ) → is_far t date ≡ false → AreWithin 900 t date
near t date h = (grind (arith, nat_tests), grind (arith, nat_tests))

is_near : (t date : ℕ) → AreWithin 900 t date → is_far t date ≡ false
is_near t date (p, q) = grind (arith, nat_tests)

-- the rules of the key route, over what they look at: the claim, the test that its account is the path's account, the keys,
-- the date, the test that the date is far, and the test that a pair of keys gives the signature of the claim
abbrev key_rule : Option Claim → (Claim → Bool) → Option Keys → Option ℕ → (ℕ → Bool) → (Keys → Claim → Bool) → Option Rule
key_rule claim own pair date far signed =
    cond (is_none claim) (Some K1)
    (cond (some_passes (λ c. not (own c) || is_none pair) claim) (Some K2)
    (cond (is_none date) (Some K3)
    (cond (some_passes far date) (Some K4)
    (cond (some_passes (λ c. some_passes (λ p. not (signed p c)) pair) claim) (Some K5) None))))

-- the parts of the request that exist, and the tests that they pass, if no rule of the key route holds
record Passes (claim : Option Claim) (own : Claim → Bool) (pair : Option Keys) (date : Option ℕ) (far : ℕ → Bool) (signed : Keys → Claim → Bool) : Type 0 where
  pub the_claim : Claim
  pub claimed : claim ≡ Some the_claim
  pub owned : own the_claim ≡ true
  pub the_pair : Keys
  pub paired : pair ≡ Some the_pair
  pub the_date : ℕ
  pub dated : date ≡ Some the_date
  pub not_far : far the_date ≡ false
  pub signs : signed the_pair the_claim ≡ true

three_pass : (a f s : Bool) → cond (not a || false) (Some K2) (cond f (Some K4) (cond (not s) (Some K5) None)) ≡ None → (a ≡ true) × (f ≡ false) × (s ≡ true)
three_pass false f s h = (cc, cc, cc)
three_pass true true s h = (cc, cc, cc)
three_pass true false false h = (cc, cc, cc)
three_pass true false true h = (refl, refl, refl)

none_refuses : (a f s : Bool) → a ≡ true → f ≡ false → s ≡ true → cond (not a || false) (Some K2) (cond f (Some K4) (cond (not s) (Some K5) None)) ≡ None
none_refuses a f s p q r = rw (p, q, r) refl

either_refuses : (b : Bool) (r s : Rule) → cond b (Some r) (Some s) ≡ None → ⊥
either_refuses true r s h = cc
either_refuses false r s h = cc

refuses : (b : Bool) (r : Rule) (o : Option Rule) → cond (b || true) (Some r) o ≡ None → ⊥
refuses true r o h = cc
refuses false r o h = cc

module _ (own : Claim → Bool) (far : ℕ → Bool) (signed : Keys → Claim → Bool) where
  all_pass : (claim : Option Claim) (pair : Option Keys) (date : Option ℕ) → key_rule claim own pair date far signed ≡ None → Passes claim own pair date far signed
  all_pass None pair date h = cc
  all_pass (Some c) None date h = absurd (refuses (not (own c)) K2 _ h)
  all_pass (Some c) (Some p) None h = absurd (either_refuses (not (own c) || false) K2 K3 h)
  all_pass (Some c) (Some p) (Some d) h =
      let tests = three_pass (own c) (far d) (signed p c) h in
      record { the_claim = c; claimed = refl; owned = tests.0; the_pair = p; paired = refl; the_date = d; dated = refl; not_far = tests.1; signs = tests.2 }

  none_holds : (claim : Option Claim) (pair : Option Keys) (date : Option ℕ) → Passes claim own pair date far signed → key_rule claim own pair date far signed ≡ None
  none_holds claim pair date p =
      ap (λ c. key_rule c own pair date far signed) p.claimed
      ∙ ap (λ k. key_rule (Some p.the_claim) own k date far signed) p.paired
      ∙ ap (λ d. key_rule (Some p.the_claim) own (Some p.the_pair) d far signed) p.dated
      ∙ none_refuses (own p.the_claim) (far p.the_date) (signed p.the_pair p.the_claim) p.owned p.not_far p.signs

-- ---- the key route

module _ (keys : Option Keys) (q : Ask) (t : ℕ) where
  abbrev string : List ℕ
  string = string_of q

  abbrev own_account : Claim → Bool
  own_account c = bytes_eq c.account q.key.account

  abbrev signs_it : Keys → Claim → Bool
  signs_it p c = is_signed p string c.signature

  abbrev KeyPasses : List (List ℕ) → Type 0
  KeyPasses values = Passes (claim_in values) own_account (keys_for keys q.key.account) (date_in q.signing.headers) (is_far t) signs_it

  in_words : (values : List (List ℕ)) → q.credential ≡ Shared values → KeyPasses values → ByKey keys q t
  in_words values asks p =
      let given = claimed values p.the_claim p.claimed in
      let found = keys_found keys q.key.account p.the_pair p.paired in
      let day = date_found (date_text q.signing.headers) p.the_date p.dated in
      record {
        value = given.0;
        once = asks ∙ ap Shared given.1;
        claim = p.the_claim;
        reads = given.2;
        own = (bytes_eq-Decides p.the_claim.account q.key.account).0 p.owned;
        pair = p.the_pair;
        given = found.0;
        known = found.1;
        text = day.0;
        dated = is_date_text q.signing.headers day.0 day.1;
        date = p.the_date;
        names = day.2;
        near = near t p.the_date p.not_far;
        signed = either p.the_claim.signature (signature_of p.the_pair.first string) (signature_of p.the_pair.second string) p.signs;
      }

  in_tests : (values : List (List ℕ)) → q.credential ≡ Shared values → ByKey keys q t → KeyPasses values
  in_tests values asks b =
      let same : values ≡ b.value ∷ [] = let e : Shared values ≡ Shared (b.value ∷ []) = sym asks ∙ b.once in cc in
      record {
        the_claim = b.claim;
        claimed = claims values b.value b.claim same b.reads;
        owned = (bytes_eq-Decides b.claim.account q.key.account).1 b.own;
        the_pair = b.pair;
        paired = found_keys keys q.key.account b.pair b.given b.known;
        the_date = b.date;
        dated = found_date (date_text q.signing.headers) b.text b.date (date_text_is q.signing.headers b.text b.dated) b.names;
        not_far = is_near t b.date b.near;
        signs = of_either b.claim.signature (signature_of b.pair.first string) (signature_of b.pair.second string) b.signed;
      }

-- a request as it is, but for its credential
abbrev pub asking : Ask → Credential → Ask
asking q credential = record q { credential = credential }

by_key : (keys : Option Keys) (acl : Option Acl) (q : Ask) (t : ℕ) (values : List (List ℕ)) → (first_rule keys acl (asking q (Shared values)) t ≡ None) ↔ ByKey keys (asking q (Shared values)) t
by_key keys acl q t values =
    let ask = asking q (Shared values) in (
      λ h. in_words keys ask t values refl (all_pass (own_account keys ask t) (is_far t) (signs_it keys ask t) (claim_in values) (keys_for keys ask.key.account) (date_in ask.signing.headers) h),
      λ b. none_holds (own_account keys ask t) (is_far t) (signs_it keys ask t) (claim_in values) (keys_for keys ask.key.account) (date_in ask.signing.headers) (in_tests keys ask t values refl b),
    )

-- ---- the public route

abbrev public_rule : Option Acl → Option Level → Option Rule
public_rule acl level = cond (is_none level) (Some P1) (cond (some_passes (allows_less acl) level) (Some P2) None)

permits_enough : (need has : ℕ) → cond (not (nat_le need has)) (Some P2) None ≡ None → need ≤ has
permits_enough need has h =
    elim (nat_le need has) as (λ b. nat_le need has ≡ b → cond (not b) (Some P2) None ≡ None → need ≤ has) [
      | true ↦ λ e h. grind (arith, nat_tests)
      | false ↦ λ e h. cc
    ] refl h

enough_permits : (need has : ℕ) → need ≤ has → cond (not (nat_le need has)) (Some P2) None ≡ None
enough_permits need has h = let e : nat_le need has ≡ true = grind (arith, nat_tests) in ap (λ b. cond (not b) (Some P2) None) e

by_public : (acl : Option Acl) (q : Ask) (need : Option Level) → (need_of q.op q.args.kinds).level ≡ need → (public_rule acl need ≡ None) ↔ ByPublic acl q
by_public acl q None e = (λ h. cc, λ b. let f : None ≡ Some b.need = sym e ∙ b.needed in cc)
by_public None q (Some need) e = (λ h. cc, λ b. let f = b.exists in cc)
by_public (Some has) q (Some need) e = (
  λ h. record { need = need; needed = e; has = has; exists = refl; enough = permits_enough (level_number need) (level_number has.level) h },
  λ b.
      let same_need : need ≡ b.need = let f : Some need ≡ Some b.need = sym e ∙ b.needed in cc in
      let same_has : has ≡ b.has = let f = b.exists in cc in
      enough_permits (level_number need) (level_number has.level)
      (subst (λ (l : Level). level_number l ≤ level_number has.level) (sym same_need) (subst (λ (a : Acl). level_number b.need ≤ level_number a.level) (sym same_has) b.enough)),
)

-- ---- each route

pub by_route : (keys : Option Keys) (acl : Option Acl) (q : Ask) (t : ℕ) (credential : Credential) → (first_rule keys acl (asking q credential) t ≡ None) ↔ Admits keys acl credential (asking q credential) t
by_route keys acl q t (Shared values) = by_key keys acl q t values
by_route keys acl q t Token = by_token keys acl (asking q Token) t refl
by_route keys acl q t Anonymous = by_public acl (asking q Anonymous) _ refl
