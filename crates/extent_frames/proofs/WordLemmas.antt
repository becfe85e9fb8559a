-- Words of bytes, and the sums that they are mixed into.
use Rattle.std.proofs.Common.{◌≡◌, ℕ, suc, ◌+◌, ◌-◌, ◌*◌, ◌/◌, ◌%◌, ◌^◌, ◌<◌, ◌≤◌, List, [], ◌∷◌, ◌++◌, length, take, drop, replicate, refl, sym, ap, ◌∙◌, arith}
use Rattle.std.specs.Prelude.{bit_xor}
use Rattle.std.specs.Int.{w64, from_be_bytes}
use Rattle.std.proofs.lemmas.List.{append-nil, take_all, length-drop, drop-replicate}
use Rattle.std.proofs.lemmas.Nat.{or_lt}
use Rattle.extent_frames.specs.WordDigests.{mixed, mixed_words, first_word, first_words, words_of, word_digest}

-- the word of eight bytes that are all there
whole_word : (t : List ℕ) → 8 ≤ length t → first_word t ≡ from_be_bytes w64 (take 8 t)
unfolding first_word
whole_word t long =
    let none : 8 - length t ≡ 0 = omega (arith, long) in
    let all : take 8 t ++ replicate (8 - length t) 0 ≡ take 8 t = ap (λ (k : ℕ). take 8 t ++ replicate k 0) none ∙ append-nil (take 8 t) in
    ap (λ (u : List ℕ). from_be_bytes w64 u) all

-- the word of at most eight bytes, with zeros after them
pub short_word : (t : List ℕ) → length t ≤ 8 → first_word t ≡ from_be_bytes w64 (t ++ drop (length t) (replicate 8 0))
unfolding first_word
short_word t short =
    let front : take 8 t ≡ t = take_all 8 t short in
    let zeros : drop (length t) (replicate 8 0) ≡ replicate (8 - length t) 0 = drop-replicate (length t) 8 0 in
    ap (λ (u : List ℕ). from_be_bytes w64 (u ++ replicate (8 - length t) 0)) front ∙ ap (λ (u : List ℕ). from_be_bytes w64 (t ++ u)) (sym zeros)

-- after the first eight bytes there is one word less
pub next_words : (sum : ℕ) (t : List ℕ) → 8 ≤ length t → mixed_words (mixed sum (from_be_bytes w64 (take 8 t))) (words_of (drop 8 t)) ≡ mixed_words sum (words_of t)
unfolding first_words
next_words sum t long =
    let count : (length t + 7) / 8 ≡ suc ((length (drop 8 t) + 7) / 8) = omega (arith, long, length-drop 8 t) in
    let word = ap (λ (w : ℕ). mixed_words (mixed sum w) (words_of (drop 8 t))) (sym (whole_word t long)) in
    word ∙ ap (λ (n : ℕ). mixed_words sum (first_words n t)) (sym count)

-- the same, for a sum and bytes that are equal to these
pub step_words : (sum sum' w : ℕ) (t word rest : List ℕ) → 8 ≤ length t → word ≡ take 8 t → rest ≡ drop 8 t → w ≡ from_be_bytes w64 word → sum' ≡ mixed sum w
    → mixed_words sum' (words_of rest) ≡ mixed_words sum (words_of t)
step_words sum sum' w t word rest long is_word is_rest is_number is_sum =
    let number : w ≡ from_be_bytes w64 (take 8 t) = is_number ∙ ap (λ (u : List ℕ). from_be_bytes w64 u) is_word in
    let new : sum' ≡ mixed sum (from_be_bytes w64 (take 8 t)) = is_sum ∙ ap (λ (k : ℕ). mixed sum k) number in
    ap (λ (s : ℕ). mixed_words s (words_of rest)) new ∙ ap (λ (u : List ℕ). mixed_words (mixed sum (from_be_bytes w64 (take 8 t))) (words_of u)) is_rest ∙ next_words sum t long

-- fewer than eight bytes are one word
pub one_word : (sum : ℕ) (t : List ℕ) → 0 < length t → length t < 8 → mixed sum (first_word t) ≡ mixed_words sum (words_of t)
unfolding first_words
one_word sum t some short =
    let count : (length t + 7) / 8 ≡ 1 = omega (arith, some, short) in
    ap (λ (n : ℕ). mixed_words sum (first_words n t)) (sym count)

-- no bytes have no word
pub no_word : (sum : ℕ) (t : List ℕ) → length t ≡ 0 → sum ≡ mixed_words sum (words_of t)
unfolding first_words
no_word sum t none =
    let count : (length t + 7) / 8 ≡ 0 = omega (arith, none) in
    ap (λ (n : ℕ). mixed_words sum (first_words n t)) (sym count)

-- the last word is mixed in last
pub mixed_last : (sum : ℕ) (ws : List ℕ) (w : ℕ) → mixed (mixed_words sum ws) w ≡ mixed_words sum (ws ++ w ∷ [])
mixed_last sum [] w = refl
mixed_last sum (v ∷ ws) w = mixed_last (mixed sum v) ws w

mixed-lt : (sum word : ℕ) → mixed sum word < 2 ^ 64
unfolding mixed
mixed-lt sum word =
    let n : ℕ = bit_xor sum word * 0x2545f4914f6cdd1d % 2 ^ 64 in
    or_lt 64 (n * 2 ^ 23 % 2 ^ 64) (n / 2 ^ 41) (omega arith) (omega arith)

pub word_digest-lt : (key segment index : ℕ) (entry : List ℕ) → word_digest key segment index entry < 2 ^ 64
unfolding word_digest
word_digest-lt key segment index entry =
    let last = mixed_last (bit_xor key segment) (index ∷ words_of entry) (length entry) in
    rw (sym last) (mixed-lt (mixed_words (bit_xor key segment) (index ∷ words_of entry)) (length entry))
