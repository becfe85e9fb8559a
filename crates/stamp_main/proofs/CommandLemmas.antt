-- Lemmas on the words of a command.
use Rattle.std.proofs.Common.{◌≡◌, ℕ, suc, List, [], ◌∷◌, length, get_or, refl, arith}

module _ {X : Type 0} where
  -- the elements of `ys` are in `xs`, from index `i` on
  abbrev pub AreAt : List X → ℕ → List X → Type 0
  AreAt xs i [] = Unit {0}
  AreAt xs i (y ∷ ys) = (y ≡ get_or xs i y) × AreAt xs (suc i) ys

  -- without the first element each index is one less
  AreAt-tail : (x : X) (xs : List X) (i : ℕ) (ys : List X) → AreAt (x ∷ xs) (suc i) ys → AreAt xs i ys
  AreAt-tail x xs i [] reads = tt
  AreAt-tail x xs i (y ∷ ys) reads = (reads.0, AreAt-tail x xs (suc i) ys reads.1)

  -- a list is the list of its reads
  pub list_of_reads : (xs ys : List X) → length xs ≡ length ys → AreAt xs 0 ys → xs ≡ ys
  list_of_reads [] [] many reads = refl
  list_of_reads [] (y ∷ ys) many reads = absurd (omega (arith, many))
  list_of_reads (x ∷ xs) [] many reads = absurd (omega (arith, many))
  list_of_reads (x ∷ xs) (y ∷ ys) many reads = rw (reads.0, list_of_reads xs ys (omega (arith, many)) (AreAt-tail x xs 0 ys reads.1)) refl
