-- A text that is cut at the first byte with a code.
use Rattle.std.proofs.Common.{◌≡◌, ◌≢◌, ◌⊎◌, inl, inr, ℕ, zero, suc, ◌+◌, ◌<◌, Bool, true, false, cond, List, [], ◌∷◌, ◌++◌, length, get_or, take, drop, refl, ap, ◌∙◌, arith, eq-eqb, eqb-true}
use Rattle.std.specs.Prelude.{◌==◌, ◌||◌, not, replicate, slice_index}
use Rattle.std.specs.List.{list_any, position_or_len, before_first, after_first}
use Rattle.std.proofs.lemmas.Bool.{cases_order}
use Rattle.std.proofs.lemmas.List.{take_at, drop_all}
use Rattle.std.proofs.lemmas.List.Sums.{split_at_first, passes_at_first}
use Rattle.shared_key.specs.Authorizations.{unspaced}

-- if it is not so that one of two tests was passed, neither was
neither : (a b : Bool) → (a || b) ≡ false → (a ≡ false) × (b ≡ false)
neither true b h = (cc, cc)
neither false b h = (refl, h)

-- the position of the first byte c
pub position_at : (c : ℕ) (xs ys : List ℕ) → list_any (λ b. b == c) xs ≡ false → position_or_len (λ b. b == c) (xs ++ c ∷ ys) ≡ length xs
position_at c [] ys none = rw (eq-eqb c c refl) refl
position_at c (x ∷ xs) ys none =
    let each = neither (x == c) (list_any (λ b. b == c) xs) none in
    rw (each.0, position_at c xs ys each.1) (omega arith)

-- what comes before the first byte c
pub before_at : (c : ℕ) (xs ys : List ℕ) → list_any (λ b. b == c) xs ≡ false → before_first (λ b. b == c) (xs ++ c ∷ ys) ≡ xs
before_at c xs ys none = rw (position_at c xs ys none) (take_at xs (c ∷ ys) (length xs) refl)

-- what is left after the first bytes and the byte c are dropped
drop_after : (c : ℕ) (xs ys : List ℕ) → drop (length xs + 1) (xs ++ c ∷ ys) ≡ ys
drop_after c [] ys = refl
drop_after c (x ∷ xs) ys =
    let next : suc (length xs) + 1 ≡ suc (length xs + 1) = omega arith in
    rw next (drop_after c xs ys)

-- what comes after the first byte c
pub after_at : (c : ℕ) (xs ys : List ℕ) → list_any (λ b. b == c) xs ≡ false → after_first (λ b. b == c) (xs ++ c ∷ ys) ≡ ys
after_at c xs ys none = rw (position_at c xs ys none) (drop_after c xs ys)

-- no byte before the first byte c is c
pub none_before : (c : ℕ) (xs : List ℕ) → list_any (λ b. b == c) (before_first (λ b. b == c) xs) ≡ false
none_before c [] = refl
none_before c (x ∷ xs) =
    let n = position_or_len (λ b. b == c) xs in
    elim (x == c) as (λ b. (x == c) ≡ b → list_any (λ b. b == c) (take (cond (not b) (1 + n) 0) (x ∷ xs)) ≡ false) [
      | true ↦ λ _. refl
      | false ↦ λ other. let next : 1 + n ≡ suc n = omega arith in rw (next, other) (none_before c xs)
    ] refl

-- if there is a byte c, the text is what comes before the first, that byte, and what comes after it
found : (c : ℕ) (xs : List ℕ) → position_or_len (λ b. b == c) xs < length xs → xs ≡ before_first (λ b. b == c) xs ++ c ∷ after_first (λ b. b == c) xs
found c xs there =
    let is = eqb-true (get_or xs (position_or_len (λ b. b == c) xs) 0) c (passes_at_first (λ b. b == c) xs 0 there) in
    split_at_first (λ b. b == c) xs 0 there ∙ ap (λ x. before_first (λ b. b == c) xs ++ x ∷ after_first (λ b. b == c) xs) is

whole_by_position : (c : ℕ) (xs : List ℕ) → after_first (λ b. b == c) xs ≢ [] → (position_or_len (λ b. b == c) xs + 1 ≡ length xs) ⊎ ((position_or_len (λ b. b == c) xs + 1 < length xs) ⊎ (length xs < position_or_len (λ b. b == c) xs + 1)) → xs ≡ before_first (λ b. b == c) xs ++ c ∷ after_first (λ b. b == c) xs
whole_by_position c xs some (inl e) = found c xs (omega arith)
whole_by_position c xs some (inr (inl l)) = found c xs (omega arith)
whole_by_position c xs some (inr (inr g)) = absurd (some (drop_all (position_or_len (λ b. b == c) xs + 1) xs (omega arith)))

-- if bytes come after the first byte c, the text is what comes before that byte, the byte, and what comes after it
pub whole_from_cut : (c : ℕ) (xs : List ℕ) → after_first (λ b. b == c) xs ≢ [] → xs ≡ before_first (λ b. b == c) xs ++ c ∷ after_first (λ b. b == c) xs
whole_from_cut c xs some = whole_by_position c xs some (cases_order (position_or_len (λ b. b == c) xs + 1) (length xs))

-- a text is some spaces, and after them the text without the spaces at its start
pub spaces_of : (xs : List ℕ) → (n : ℕ) × (xs ≡ replicate n 32 ++ unspaced xs)
spaces_of [] = (0, refl)
spaces_of (x ∷ xs) =
    elim (x == 32) as (λ b. (x == 32) ≡ b → (n : ℕ) × (x ∷ xs ≡ replicate n 32 ++ cond b (unspaced xs) (x ∷ xs))) [
      | true ↦ λ h. let rest = spaces_of xs in (suc rest.0, λ i. eqb-true x 32 h i ∷ rest.1 i)
      | false ↦ λ _. (0, refl)
    ] refl

-- a text without the spaces at its start does not begin with a space
pub unspaced-head : (xs : List ℕ) → slice_index (unspaced xs) 0 ≢ 32
unspaced-head [] = λ e. absurd (omega arith)
unspaced-head (x ∷ xs) =
    elim (x == 32) as (λ b. (x == 32) ≡ b → slice_index (cond b (unspaced xs) (x ∷ xs)) 0 ≢ 32) [
      | true ↦ λ _. unspaced-head xs
      | false ↦ λ other e. let same = eq-eqb x 32 e in cc
    ] refl

-- some spaces before a text that does not begin with a space are taken away
pub unspaced-replicate : (n : ℕ) (ys : List ℕ) → slice_index ys 0 ≢ 32 → unspaced (replicate n 32 ++ ys) ≡ ys
unspaced-replicate zero [] h = refl
unspaced-replicate zero (y ∷ ys) h =
    elim (y == 32) as (λ b. (y == 32) ≡ b → cond b (unspaced ys) (y ∷ ys) ≡ y ∷ ys) [
      | true ↦ λ e. absurd (h (eqb-true y 32 e))
      | false ↦ λ _. refl
    ] refl
unspaced-replicate (suc n) ys h = unspaced-replicate n ys h
