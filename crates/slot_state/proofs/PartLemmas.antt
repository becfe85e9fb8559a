-- Lists that are kept in parts.
use Rattle.std.proofs.Common.{◌≡◌, ◌≤◌, ◌<◌, ◌+◌, ◌-◌, ◌*◌, ◌/◌, ◌%◌, ℕ, zero, suc, List, ◌∷◌, ◌++◌, [], length, length-append, slice_get, arith, Some, None, refl, ap, ◌∙◌, sym, subst}
use Rattle.std.proofs.Math.Nat.{div-add-mod}
use Rattle.std.proofs.lemmas.List.{append_assoc, append-nil}
use Rattle.slot_state.specs.PairLists.{AreFull, HasParts, joined}

-- no elements
pub no_parts : {X : Type 0} (older : List (List X)) (newest : List X) → older ≡ [] → newest ≡ [] → HasParts older newest 0
no_parts {X} older newest none empty =
    subst (λ (o : List (List X)). HasParts o newest 0) (sym none)
    (subst (λ (n : List X). HasParts [] n 0) (sym empty) (record { full = tt; bound = omega arith; begun = λ _. refl; count = refl }))

module _ {X : Type 0} where
  joined-more : (older : List (List X)) (part : List X) → joined (older ++ part ∷ []) ≡ joined older ++ part
  joined-more [] part = append-nil part
  joined-more (p ∷ ps) part = ap (λ (l : List X). p ++ l) (joined-more ps part) ∙ sym (append_assoc p (joined ps) part)

  full-more : (older : List (List X)) (part : List X) → AreFull older → length part ≡ 64 → AreFull (older ++ part ∷ [])
  full-more [] part all is = (is, tt)
  full-more (p ∷ ps) part all is = (all.0, full-more ps part all.1 is)

  length-joined : (older : List (List X)) → AreFull older → length (joined older) ≡ 64 * length older
  length-joined [] all = refl
  length-joined (p ∷ ps) all = omega (arith, length-append p (joined ps), all.0, length-joined ps all.1)

  get_first : (xs ys : List X) (i : ℕ) → i < length xs → slice_get (xs ++ ys) i ≡ slice_get xs i
  get_first [] ys i low = absurd (omega (arith, low))
  get_first (x ∷ xs) ys zero low = refl
  get_first (x ∷ xs) ys (suc i) low = get_first xs ys i (omega (arith, low))

  get_after : (xs ys : List X) (n i : ℕ) → n ≡ length xs + i → slice_get (xs ++ ys) n ≡ slice_get ys i
  get_after [] ys n i at = ap (slice_get ys) (omega (arith, at))
  get_after (x ∷ xs) ys zero i at = absurd (omega (arith, at))
  get_after (x ∷ xs) ys (suc n) i at = get_after xs ys n i (omega (arith, at))

  some_same : (x y : List X) → Some x ≡ Some y → x ≡ y
  some_same x y h = cc

  none_past : (xs : List (List X)) (i : ℕ) → slice_get xs i ≡ None → length xs ≤ i
  none_past [] i none = omega arith
  none_past (x ∷ xs) zero none = absurd cc
  none_past (x ∷ xs) (suc i) none = omega (arith, none_past xs i none)

  -- the element at a place within the parts
  in_part : (older : List (List X)) (newest : List X) (q r : ℕ) (part : List X) → AreFull older → r < 64 → slice_get older q ≡ Some part → slice_get (joined older ++ newest) (64 * q + r) ≡ slice_get part r
  in_part [] newest q r part all low there = absurd cc
  in_part (p ∷ ps) newest zero r part all low there =
      let same : p ≡ part = some_same p part there in
      ap (λ (l : List X). slice_get l (64 * 0 + r)) (append_assoc p (joined ps) newest)
      ∙ get_first p (joined ps ++ newest) (64 * 0 + r) (omega (arith, low, all.0))
      ∙ ap (slice_get p) (omega arith)
      ∙ ap (λ (l : List X). slice_get l r) same
  in_part (p ∷ ps) newest (suc q) r part all low there =
      ap (λ (l : List X). slice_get l (64 * suc q + r)) (append_assoc p (joined ps) newest)
      ∙ get_after p (joined ps ++ newest) (64 * suc q + r) (64 * q + r) (omega (arith, all.0))
      ∙ in_part ps newest q r part all.1 low there

module _ {X : Type 0} (older : List (List X)) (newest : List X) (len : ℕ) (parts : HasParts older newest len) where
  -- how many elements there are
  pub counted : len ≡ length (joined older ++ newest)
  counted = omega (arith, parts.count, length-append (joined older) newest, length-joined older parts.full)

  -- an element of an older part
  pub found_older : (at : ℕ) (part : List X) → Some part ≡ slice_get older (at / 64) → slice_get part (at % 64) ≡ slice_get (joined older ++ newest) at
  found_older at part there =
      sym (in_part older newest (at / 64) (at % 64) part parts.full (omega arith) (sym there))
      ∙ ap (λ (n : ℕ). slice_get (joined older ++ newest) n) (div-add-mod at 64)

  -- an element of the newest part
  pub found_newest : (at : ℕ) → None ≡ slice_get older (at / 64) → slice_get newest (at - 64 * length older) ≡ slice_get (joined older ++ newest) at
  found_newest at none =
      let past = none_past older (at / 64) (sym none) in
      sym (get_after (joined older) newest at (at - 64 * length older) (omega (arith, length-joined older parts.full, div-add-mod at 64, past)))

  -- the last element
  pub last_newest : slice_get newest (length newest - 1) ≡ slice_get (joined older ++ newest) (length (joined older ++ newest) - 1)
  last_newest = by newest refl
    where
      by : (n : List X) → n ≡ newest → slice_get newest (length newest - 1) ≡ slice_get (joined older ++ newest) (length (joined older ++ newest) - 1)
      by [] is = ap (λ (o : List (List X)). slice_get (joined o ++ newest) (length (joined o ++ newest) - 1)) (sym (parts.begun (ap length (sym is))))
      by (x ∷ xs) is =
          sym (get_after (joined older) newest (length (joined older ++ newest) - 1) (length newest - 1)
          (omega (arith, length-append (joined older) newest, ap (λ (l : List X). length l) is)))

  module _ (more : List (List X)) (longer : List X) (k : X) where
    -- one element more in the newest part
    pub parts_in_room : length newest < 64 → more ≡ older → longer ≡ newest ++ k ∷ [] → HasParts more longer (len + 1)
    parts_in_room room same is =
        let n : length longer ≡ length newest + 1 = ap length is ∙ length-append newest (k ∷ []) in
        subst (λ (o : List (List X)). HasParts o longer (len + 1)) (sym same) (record {
          full = parts.full;
          bound = omega (arith, n, room);
          begun = λ none. absurd (omega (arith, n, none));
          count = omega (arith, n, parts.count);
        })

    -- one element more, with which a part begins
    pub parts_after : 64 ≤ length newest → more ≡ older ++ newest ∷ [] → longer ≡ k ∷ [] → HasParts more longer (len + 1)
    parts_after full grown is =
        let n : length longer ≡ 1 = ap length is in
        let exact : length newest ≡ 64 = omega (arith, full, parts.bound) in
        subst (λ (o : List (List X)). HasParts o longer (len + 1)) (sym grown) (record {
          full = full-more older newest parts.full exact;
          bound = omega (arith, n);
          begun = λ none. absurd (omega (arith, n, none));
          count = omega (arith, n, exact, parts.count, length-append older (newest ∷ []));
        })

-- one element more after the newest part
pub joined_in_room : {X : Type 0} (older more : List (List X)) (newest longer : List X) (k : X) → more ≡ older → longer ≡ newest ++ k ∷ [] → joined more ++ longer ≡ (joined older ++ newest) ++ k ∷ []
joined_in_room older more newest longer k same is =
    (λ i. joined (same i) ++ is i) ∙ sym (append_assoc (joined older) newest (k ∷ []))

-- one element more after a part that comes after the older parts
pub joined_after : {X : Type 0} (older more : List (List X)) (newest longer : List X) (k : X) → more ≡ older ++ newest ∷ [] → longer ≡ k ∷ [] → joined more ++ longer ≡ (joined older ++ newest) ++ k ∷ []
joined_after older more newest longer k grown is =
    (λ i. joined (grown i) ++ is i) ∙ ap (λ l. l ++ k ∷ []) (joined-more older newest)
