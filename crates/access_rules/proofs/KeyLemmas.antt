-- The keys of an account, and signatures by one of two keys.
use Rattle.std.proofs.Common.{◌≡◌, ℕ, ◌⊎◌, inl, inr, Bool, true, false, cond, ◌||◌, List, Option, Some, None, refl, sym, ap, ◌∙◌}
use Rattle.std.proofs.lemmas.Slice.Eq.{bytes_eq-Decides}
use Rattle.std.specs.Prelude.{bytes_eq}
use Rattle.access_rules.specs.declared.keys.Keys.{Keys}
use Rattle.access_rules.specs.Parts.{keys_for}

-- the keys that are found are the keys of the account
pub keys_found : (keys : Option Keys) (account : List ℕ) (pair : Keys) → keys_for keys account ≡ Some pair → (keys ≡ Some pair) × (pair.account ≡ account)
keys_found None account pair e = cc
keys_found (Some k) account pair e =
    elim (bytes_eq k.account account) as (λ b. bytes_eq k.account account ≡ b → cond b (Some k) None ≡ Some pair → (Some k ≡ Some pair) × (pair.account ≡ account)) [
      | true ↦ λ is h. (h, let same : k ≡ pair = cc in ap (λ (p : Keys). p.account) (sym same) ∙ (bytes_eq-Decides k.account account).0 is)
      | false ↦ λ is h. cc
    ] refl e

pub found_keys : (keys : Option Keys) (account : List ℕ) (pair : Keys) → keys ≡ Some pair → pair.account ≡ account → keys_for keys account ≡ Some pair
found_keys keys account pair is own =
    ap (λ k. keys_for k account) is ∙ ap (λ b. cond b (Some pair) None) ((bytes_eq-Decides pair.account account).1 own)

pub one_of : (a b : Bool) → (a || b) ≡ true → (a ≡ true) ⊎ (b ≡ true)
one_of true b h = inl refl
one_of false b h = inr h

or_right : (a : Bool) → (a || true) ≡ true
or_right true = refl
or_right false = refl

pub either : (xs ys zs : List ℕ) → (bytes_eq xs ys || bytes_eq xs zs) ≡ true → (xs ≡ ys) ⊎ (xs ≡ zs)
either xs ys zs h =
    elim (one_of (bytes_eq xs ys) (bytes_eq xs zs) h) [
      | inl e ↦ inl ((bytes_eq-Decides xs ys).0 e)
      | inr e ↦ inr ((bytes_eq-Decides xs zs).0 e)
    ]

pub of_either : (xs ys zs : List ℕ) → (xs ≡ ys) ⊎ (xs ≡ zs) → (bytes_eq xs ys || bytes_eq xs zs) ≡ true
of_either xs ys zs (inl e) = ap (λ b. b || bytes_eq xs zs) ((bytes_eq-Decides xs ys).1 e)
of_either xs ys zs (inr e) = ap (λ b. bytes_eq xs ys || b) ((bytes_eq-Decides xs zs).1 e) ∙ or_right (bytes_eq xs ys)
