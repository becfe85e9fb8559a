-- What a judgement says of a signature.
use Rattle.std.proofs.Common.{◌≡◌, ◌↔◌, ◌∙◌, Bool, true, false, if◌then◌else◌, Option, Some, IsTrue, refl, sym, ap}
use Rattle.stamp_types.specs.declared.ask.Ask.{Ask}
use Rattle.access_rules.specs.declared.keys.Keys.{Keys}
use Rattle.sas_token.specs.Tokens.{Sent}
use Rattle.access_rules.specs.KeyRoute.{early_of}
use Rattle.access_rules.specs.Rules.{has_false_signature, token_asked}
use Rattle.access_rules.specs.declared.judgement.EarlyJudgement.{EarlyJudgement}
use Rattle.access_rules.specs.declared.judgement.SignedBy.{SignedBy}
use Rattle.access_rules.specs.Signatures.{has_true_signature, signed_by, IsSigned}
use Rattle.access_rules.proofs.SignatureLemmas.{signed_is, true_not_false}
use Rattle.policy_book.specs.Judgements.{signature_under}
use Rattle.policy_book.specs.declared.judged.Signature.{Signature}
use Rattle.policy_book.specs.declared.judged.Signature.TheVariants as signature

abbrev by_tests : Bool → Bool → Signature
by_tests is_true is_false = if is_true then signature.True else (if is_false then signature.False else signature.Unjudged)

true_by : (a b : Bool) → (by_tests a b ≡ signature.True) ↔ (a ≡ true)
true_by true b = (λ e. refl, λ e. refl)
true_by false true = (λ e. let f : signature.False ≡ signature.True = e in cc, λ e. cc)
true_by false false = (λ e. let f : signature.Unjudged ≡ signature.True = e in cc, λ e. cc)

false_by : (a b : Bool) → (a ≡ true → b ≡ false) → (by_tests a b ≡ signature.False) ↔ (b ≡ true)
false_by true b apart = (λ e. let f : signature.True ≡ signature.False = e in cc, λ e. let n : b ≡ false = apart refl in cc)
false_by false true apart = (λ e. refl, λ e. refl)
false_by false false apart = (λ e. let f : signature.Unjudged ≡ signature.False = e in cc, λ e. cc)

-- a signature is judged true exactly if the signature part of the request's own route is true
pub found_true : (s : Signature) (pair : Keys) (q : Ask) → s ≡ signature_under pair q → (s ≡ signature.True) ↔ IsSigned pair q
found_true s pair q is =
    let tests = true_by (has_true_signature (Some pair) q) (has_false_signature (Some pair) q) in
    let signed = signed_is pair q in
    (λ e. signed.0 (tests.0 (sym is ∙ e)), λ e. is ∙ tests.1 (signed.1 e))

-- a signature is judged false exactly if the rule on signatures says so
pub found_false : (s : Signature) (pair : Keys) (q : Ask) → s ≡ signature_under pair q → (s ≡ signature.False) ↔ IsTrue (has_false_signature (Some pair) q)
found_false s pair q is =
    let tests = false_by (has_true_signature (Some pair) q) (has_false_signature (Some pair) q) (true_not_false (Some pair) q) in
    (λ e. tests.0 (sym is ∙ e), λ e. is ∙ tests.1 e)

bool_of : (b c : Bool) → (b ≡ true → c ≡ true) → (c ≡ true → b ≡ true) → b ≡ c
bool_of true c to from = sym (to refl)
bool_of false true to from = from refl
bool_of false false to from = refl

-- the test for a signature that was judged false is the rule
pub false_found : (b : Bool) (s : Signature) (pair : Keys) (q : Ask) → (IsTrue b ↔ (s ≡ signature.False)) → s ≡ signature_under pair q → b ≡ has_false_signature (Some pair) q
false_found b s pair q test is =
    let found = found_false s pair q is in
    bool_of b (has_false_signature (Some pair) q) (λ e. found.0 (test.0 e)) (λ e. test.1 (found.1 e))

-- what the keys and the request alone decide of what one request asks is decided of what another asks, if both ask the same
pub early_of_ask : (early : EarlyJudgement) (pair : Keys) (keys : Option Keys) (a c : Ask) → early ≡ early_of (Some pair) a → keys ≡ Some pair → a ≡ c → early ≡ early_of keys c
early_of_ask early pair keys a c is force same = is ∙ ap (λ k. early_of k a) (sym force) ∙ ap (early_of keys) same

-- the key that signs what one request asks signs what another asks, if both ask the same
pub signer_of_ask : (by : SignedBy) (pair : Keys) (keys : Option Keys) (a c : Ask) → by ≡ signed_by (Some pair) a → keys ≡ Some pair → a ≡ c → by ≡ signed_by keys c
signer_of_ask by pair keys a c is force same = is ∙ ap (λ k. signed_by k a) (sym force) ∙ ap (signed_by keys) same

-- the token by which one request asks is that by which another asks, if both ask the same
pub token_of_ask : (token : Option Sent) (a c : Ask) → token ≡ token_asked a → a ≡ c → token ≡ token_asked c
token_of_ask token a c is same = is ∙ ap token_asked same
