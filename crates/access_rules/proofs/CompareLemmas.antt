-- Bytes that are compared one after the other.
use Rattle.std.proofs.Common.{arith, ◌≡◌, bytes_eq, ℕ, zero, suc, ◌+◌, ◌<◌, length, take, ◌&&◌, nat_eq, List, [], ◌∷◌, slice_index_or}

one_more : (n : ℕ) (xs ys : List ℕ) → n < length xs → length xs ≡ length ys
    → bytes_eq (take (suc n) xs) (take (suc n) ys) ≡ (bytes_eq (take n xs) (take n ys) && nat_eq (slice_index_or xs n 0) (slice_index_or ys n 0))
one_more zero (x ∷ xs) (y ∷ ys) h e = grind (arith)
one_more (suc n) (x ∷ xs) (y ∷ ys) h e = grind (arith, one_more n xs ys)
one_more n [] ys h e = grind (arith)
one_more n (x ∷ xs) [] h e = grind (arith)

-- Bytes are equal up to one byte more if they are equal up to it and if it is equal.
pub one_byte_more : (n : ℕ) (xs ys : List ℕ) → n < length xs → length xs ≡ length ys
    → bytes_eq (take (n + 1) xs) (take (n + 1) ys) ≡ (bytes_eq (take n xs) (take n ys) && nat_eq (slice_index_or xs n 0) (slice_index_or ys n 0))
one_byte_more n xs ys h e = let next : n + 1 ≡ suc n = omega arith in rw next (one_more n xs ys h e)
