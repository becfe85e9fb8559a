-- Bytes cut into pieces.
use Rattle.std.proofs.Common.{◌≡◌, ℕ, zero, suc, ◌+◌, ◌-◌, ◌*◌, ◌<◌, ◌≤◌, true, List, [], ◌∷◌, ◌++◌, length, take, drop, refl, sym, ap, ◌∙◌, arith, take-append-drop, length-drop, length-take, append_assoc, drop-drop, min, le-leb, slice_range, nat_le, lit≤}
use Rattle.std.proofs.lemmas.Bool.{and_from}
use Rattle.std.proofs.lemmas.List.Sums.{sum_by-cons}
use Rattle.std.specs.List.{list_all}
use Rattle.stamp_types.specs.declared.piece.Piece.{Piece}
use Rattle.stamp_types.specs.declared.piece.Piece.TheVariants.{Bytes}
use Rattle.stamp_types.specs.Pieces.{cut, cut_at_most, held, piece_len, is_piece, is_pieces, pieces_len}
use Rattle.stamp_values.proofs.Ranges.{range-capped}

-- the pieces have all bytes, if at least as many pieces are allowed as there are bytes
held-cut_at_most : (n : ℕ) (bs : List ℕ) → length bs ≤ n → held (cut_at_most n bs) ≡ bs
held-cut_at_most zero [] within = refl
held-cut_at_most zero (b ∷ bs) within = absurd (omega arith)
held-cut_at_most (suc n) [] within = refl
held-cut_at_most (suc n) (b ∷ bs) within =
    ap (λ rest. take 4194304 (b ∷ bs) ++ rest) (held-cut_at_most n (drop 4194304 (b ∷ bs)) (omega (arith, length-drop 4194304 (b ∷ bs))))
    ∙ take-append-drop 4194304 (b ∷ bs)

pub held-cut : (bs : List ℕ) → held (cut bs) ≡ bs
held-cut bs = held-cut_at_most (length bs) bs (omega arith)

-- if at least as many pieces are allowed as there are bytes, the number that is allowed makes no difference
cut_at_most-enough : (n m : ℕ) (bs : List ℕ) → length bs ≤ n → length bs ≤ m → cut_at_most n bs ≡ cut_at_most m bs
cut_at_most-enough zero zero bs h k = refl
cut_at_most-enough zero (suc m) [] h k = refl
cut_at_most-enough zero (suc m) (b ∷ bs) h k = absurd (omega arith)
cut_at_most-enough (suc n) zero [] h k = refl
cut_at_most-enough (suc n) zero (b ∷ bs) h k = absurd (omega arith)
cut_at_most-enough (suc n) (suc m) [] h k = refl
cut_at_most-enough (suc n) (suc m) (b ∷ bs) h k =
    ap (λ rest. Bytes (take 4194304 (b ∷ bs)) ∷ rest)
    (cut_at_most-enough n m (drop 4194304 (b ∷ bs)) (omega (arith, length-drop 4194304 (b ∷ bs))) (omega (arith, length-drop 4194304 (b ∷ bs))))

-- first a piece, and then the pieces of the rest
pub cut-step : (bs : List ℕ) → 0 < length bs → cut bs ≡ Bytes (take 4194304 bs) ∷ cut (drop 4194304 bs)
cut-step [] some = absurd (omega arith)
cut-step (b ∷ bs) some =
    ap (λ rest. Bytes (take 4194304 (b ∷ bs)) ∷ rest)
    (cut_at_most-enough (length bs) (length (drop 4194304 (b ∷ bs))) (drop 4194304 (b ∷ bs)) (omega (arith, length-drop 4194304 (b ∷ bs))) (omega arith))

-- one more piece before the pieces of what is left
pub cut_more : (ps new whole : List Piece) (bs : List ℕ) (at : ℕ) (p : Piece) → at < length bs → p ≡ Bytes (take 4194304 (drop at bs)) → new ≡ ps ++ p ∷ [] → ps ++ cut (drop at bs) ≡ whole → new ++ cut (drop (at + 4194304) bs) ≡ whole
cut_more ps new whole bs at p some is made was =
    let rest = cut (drop (at + 4194304) bs) in
    let step : p ∷ rest ≡ cut (drop at bs) =
    ap (λ q. q ∷ rest) is ∙ ap (λ l. Bytes (take 4194304 (drop at bs)) ∷ cut l) (sym (drop-drop 4194304 at bs))
    ∙ sym (cut-step (drop at bs) (omega (arith, length-drop at bs))) in
    ap (λ l. l ++ rest) made ∙ append_assoc ps (p ∷ []) rest ∙ ap (λ l. ps ++ l) step ∙ was

-- what is taken from the front
take-some : (n : ℕ) (bs : List ℕ) → 1 ≤ n → 1 ≤ length bs → 1 ≤ length (take n bs)
take-some n bs some there = omega (arith, length-take n bs)

length-take_within : (n : ℕ) (bs : List ℕ) → length (take n bs) ≤ n
length-take_within n bs = omega (arith, length-take n bs)

length-take_drop : (n : ℕ) (bs : List ℕ) → length (take n bs) + length (drop n bs) ≡ length bs
length-take_drop n bs = omega (arith, length-take n bs, length-drop n bs)

-- each piece has 1 to 4,194,304 bytes
is_piece-cut_at_most : (n : ℕ) (bs : List ℕ) → list_all is_piece (cut_at_most n bs) ≡ true
is_piece-cut_at_most zero bs = refl
is_piece-cut_at_most (suc n) [] = refl
is_piece-cut_at_most (suc n) (b ∷ bs) =
    and_from (is_piece (Bytes (take 4194304 (b ∷ bs)))) (list_all is_piece (cut_at_most n (drop 4194304 (b ∷ bs))))
    (and_from (nat_le 1 (length (take 4194304 (b ∷ bs)))) (nat_le (length (take 4194304 (b ∷ bs))) 4194304)
    (le-leb 1 (length (take 4194304 (b ∷ bs))) (take-some 4194304 (b ∷ bs) (lit≤ tt) (omega arith)))
    (le-leb (length (take 4194304 (b ∷ bs))) 4194304 (length-take_within 4194304 (b ∷ bs))))
    (is_piece-cut_at_most n (drop 4194304 (b ∷ bs)))

-- if the bytes are at most k times 4,194,304, there are at most k pieces
length-cut_at_most : (k n : ℕ) (bs : List ℕ) → length bs ≤ k * 4194304 → length (cut_at_most n bs) ≤ k
length-cut_at_most k zero bs within = omega arith
length-cut_at_most k (suc n) [] within = omega arith
length-cut_at_most zero (suc n) (b ∷ bs) within = absurd (omega arith)
length-cut_at_most (suc k) (suc n) (b ∷ bs) within =
    omega (arith, length-cut_at_most k n (drop 4194304 (b ∷ bs)) (omega (arith, length-drop 4194304 (b ∷ bs))))

pub is_pieces-cut : (bs : List ℕ) → length bs ≤ 67108864 → is_pieces (cut bs) ≡ true
is_pieces-cut bs within =
    and_from (nat_le (length (cut bs)) 16) (list_all is_piece (cut bs)) (le-leb (length (cut bs)) 16 (length-cut_at_most 16 (length bs) bs within)) (is_piece-cut_at_most (length bs) bs)

pieces_len-cut_at_most : (n : ℕ) (bs : List ℕ) → length bs ≤ n → pieces_len (cut_at_most n bs) ≡ length bs
pieces_len-cut_at_most zero [] within = refl
pieces_len-cut_at_most zero (b ∷ bs) within = absurd (omega arith)
pieces_len-cut_at_most (suc n) [] within = refl
pieces_len-cut_at_most (suc n) (b ∷ bs) within =
    let rest = cut_at_most n (drop 4194304 (b ∷ bs)) in
    sum_by-cons piece_len (Bytes (take 4194304 (b ∷ bs))) rest
    ∙ ap (λ k. length (take 4194304 (b ∷ bs)) + k) (pieces_len-cut_at_most n (drop 4194304 (b ∷ bs)) (omega (arith, length-drop 4194304 (b ∷ bs))))
    ∙ length-take_drop 4194304 (b ∷ bs)

-- the pieces have as many bytes as were cut
pub pieces_len-cut : (bs : List ℕ) → pieces_len (cut bs) ≡ length bs
pieces_len-cut bs = pieces_len-cut_at_most (length bs) bs (omega arith)

-- a slice from an index, of the bytes that are asked for, or of all bytes from there if there are fewer
pub slice-capped : (bs : List ℕ) (at n : ℕ) → at < length bs → slice_range bs at (at + min (length bs - at) n) ≡ take n (drop at bs)
slice-capped bs at n within =
    let end : at + min (length bs - at) n ≡ min (length bs) (at + n) = omega arith in
    let count : at + n - at ≡ n = omega arith in
    ap (slice_range bs at) end ∙ range-capped bs at (at + n) ∙ ap (λ k. take k (drop at bs)) count
