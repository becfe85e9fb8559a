-- Beginnings of lists, and where lists differ.
use Rattle.std.proofs.Common.{◌≡◌, ◌≢◌, ◌≤◌, ◌<◌, ◌↔◌, ℕ, ◌+◌, Bool, true, false, IsTrue, List, [], ◌∷◌, ◌++◌, length, get_or, take, drop, refl, sym, ap, ◌∙◌, subst, arith, Option, Some, None, slice_get, Result, Ok, Err, OnOk, is_ok, if◌then◌else◌}
use Rattle.std.proofs.lemmas.List.{length-take, take-append-drop, take_more_same}
use Rattle.std.proofs.lemmas.Option.{get_or_from_slice_get, slice_get-get_or, slice_get_within}
use Rattle.std.proofs.Math.Arith.{lt_of_le-ne}
use Rattle.std.proofs.Math.Seq.{drop-append_seam, take-append_seam, take-length}
use mathlib.Core.List.{IsPrefix}
use Rattle.slot_pass.specs.Differences.{DiffersAt, PartsAt}

-- a beginning, and then what the list has after it
pub after_beginning : {A : Type 0} (xs ys : List A) → IsPrefix xs ys → xs ++ drop (length xs) ys ≡ ys
after_beginning {A} xs ys p =
    ap (λ (l : List A). xs ++ drop (length xs) l) (sym p.1) ∙ (ap (λ (l : List A). xs ++ l) (drop-append_seam xs p.0) ∙ p.1)

-- a beginning is the first elements
pub begins_with : {A : Type 0} (xs ys : List A) → IsPrefix xs ys → take (length xs) ys ≡ xs
begins_with {A} xs ys p = ap (λ (l : List A). take (length xs) l) (sym p.1) ∙ take-append_seam xs p.0

-- a list whose elements are the first elements of another list
taken : {A : Type 0} (xs ys : List A) → take (length xs) xs ≡ take (length xs) ys → IsPrefix xs ys
taken {A} xs ys same =
    (drop (length xs) ys, ap (λ (l : List A). l ++ drop (length xs) ys) (sym (take-length xs) ∙ same) ∙ take-append-drop (length xs) ys)

pub taken_at : {A : Type 0} (n : ℕ) (xs ys : List A) → n ≡ length xs → take n xs ≡ take n ys → IsPrefix xs ys
taken_at {A} n xs ys end same = taken xs ys (subst (λ (m : ℕ). take m xs ≡ take m ys) end same)

-- a beginning as long as the list is the list
pub same_of : {A : Type 0} (xs ys : List A) → IsPrefix xs ys → length xs ≡ length ys → xs ≡ ys
same_of {A} xs ys p same = sym (begins_with xs ys p) ∙ (ap (λ (n : ℕ). take n ys) same ∙ take-length ys)

-- a beginning of another length is shorter
pub first_of : {A : Type 0} (xs ys : List A) → IsPrefix xs ys → length xs ≢ length ys → IsPrefix xs ys × (xs ≢ ys)
first_of xs ys p other = (p, λ same. other (ap length same))

-- lists that differ at the end of the second one
pub second_of : {A : Type 0} (xs ys : List A) (place : ℕ) → DiffersAt xs ys place → place ≡ length ys → IsPrefix ys xs × (xs ≢ ys)
second_of {A} xs ys place d end = (
  taken ys xs (sym (ap (λ (n : ℕ). take n xs) (sym end) ∙ (d.same ∙ ap (λ (n : ℕ). take n ys) end))),
  λ same. absurd (omega (arith, ap length same, d.below, end)),
)

-- lists that differ before the end of the second one
pub parts_of : {A : Type 0} (xs ys : List A) (place : ℕ) → DiffersAt xs ys place → place ≢ length ys → PartsAt xs ys place
parts_of xs ys place d other =
    let long : length (take place xs) ≡ place = omega (arith, length-take place xs, d.below) in
    let most : length (take place ys) ≤ length ys = omega (arith, length-take place ys) in
    let least : place ≤ length ys = omega (arith, long, most, ap length d.same) in record {
      below = d.below;
      under = lt_of_le-ne least other;
      same = d.same;
      differs = d.differs;
    }

-- a beginning after the rest was appended to it, if there was memory
pub caught_up : {A E B : Type 0} (r : Result B E) (old tail whole new : List A) → IsPrefix old whole → tail ≡ drop (length old) whole → new ≡ (if is_ok r then old ++ tail else old) → OnOk r (new ≡ whole)
caught_up {A} (Ok b) old tail whole new begins rest is = is ∙ (ap (λ (l : List A). old ++ l) rest ∙ after_beginning old whole begins)
caught_up (Err e) old tail whole new begins rest is = tt

-- ---- what two lists have at a place

module _ {A : Type 0} where
  some_same : (p o : A) → Some p ≡ Some o → p ≡ o
  some_same p o h = cc

  pub both_there : (r : Bool) (x y : Option A) (p o : A) → Some p ≡ x → Some o ≡ y → IsTrue r ↔ (p ≡ o) → IsTrue r ↔ (y ≡ x)
  both_there r x y p o there too is =
      (λ h. sym too ∙ (ap (λ (k : A). Some k) (sym (is.0 h)) ∙ there), λ same. is.1 (some_same p o (there ∙ (sym same ∙ sym too))))

  pub first_there : (x y : Option A) (p : A) → Some p ≡ x → None ≡ y → IsTrue false ↔ (y ≡ x)
  first_there x y p there none = (λ h. cc, λ same. cc)

  pub second_there : (x y : Option A) (o : A) → None ≡ x → Some o ≡ y → IsTrue false ↔ (y ≡ x)
  second_there x y o none there = (λ h. cc, λ same. cc)

  pub none_there : (x y : Option A) → None ≡ x → None ≡ y → IsTrue true ↔ (y ≡ x)
  none_there x y none too = (λ h. sym too ∙ none, λ same. refl)

  -- one element more is the same
  pub one_more_at : (xs ys : List A) (i : ℕ) → i < length xs → take i xs ≡ take i ys → slice_get ys i ≡ slice_get xs i → take (i + 1) xs ≡ take (i + 1) ys
  one_more_at [] ys i under same next = absurd (omega (arith, under))
  one_more_at (x ∷ xs) ys i under same next =
      let there : slice_get ys i ≡ Some (get_or (x ∷ xs) i x) = next ∙ slice_get-get_or (x ∷ xs) i x under in
      take_more_same (x ∷ xs) ys i x under (slice_get_within ys i (get_or (x ∷ xs) i x) there) same (sym (get_or_from_slice_get ys i (get_or (x ∷ xs) i x) x there))
