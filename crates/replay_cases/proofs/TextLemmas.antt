-- Texts that are read byte by byte, and bytes that are repeated.
use Rattle.std.proofs.Common.{◌≡◌, ℕ, zero, suc, ◌+◌, List, [], ◌∷◌, ◌++◌, Option, Some, None, IsSomeAnd, arith, length}
use Rattle.std.specs.List.{repeat}
use Rattle.replay_cases.specs.Texts.{text_bytes}
use Rattle.std.specs.Option.{option_map}
use Rattle.std.proofs.lemmas.Grind.{common_steps}

-- one more repetition at the end is the same as one more repetition at the front
pub repeat-end : {A : Type 0} (n : ℕ) (xs : List A) → repeat n xs ++ xs ≡ xs ++ repeat n xs
repeat-end zero xs = grind (arith, common_steps)
repeat-end (suc n) xs = grind (arith, common_steps, repeat-end n xs)

-- what one more repetition adds
pub repeat_next : {A : Type 0} (a : List A) (n : ℕ) (xs : List A) → (a ++ repeat n xs) ++ xs ≡ a ++ repeat (n + 1) xs
repeat_next a n xs = grind (arith, common_steps, repeat-end n xs)

-- the items and the bytes after them, or `None` if the bytes are `None`
abbrev pub after : List ℕ → Option (List ℕ) → Option (List ℕ)
after items None = None
after items (Some more) = Some (items ++ more)

-- what follows if one byte was added
pub after_step : (items : List ℕ) (b : ℕ) (o rest whole : Option (List ℕ)) → o ≡ option_map (λ bs. b ∷ bs) rest → after items o ≡ whole → after (items ++ b ∷ []) rest ≡ whole
after_step items b o None whole is e = grind (arith, common_steps)
after_step items b o (Some more) whole is e = grind (arith, common_steps)

-- what follows if nothing is left
pub after_all : (items old left : List ℕ) (whole : Option (List ℕ)) → length left ≡ 0 → after items (text_bytes left) ≡ after old whole → IsSomeAnd whole (λ more. items ≡ old ++ more)
after_all items old [] None none e = grind (arith, common_steps)
after_all items old [] (Some more) none e = grind (arith, common_steps)
after_all items old (b ∷ left) whole none e = grind (arith, common_steps)

-- what follows if what is left does not mean bytes
pub after_none : (items old : List ℕ) (left whole : Option (List ℕ)) → left ≡ None → after items left ≡ after old whole → whole ≡ None
after_none items old None None none e = grind (arith, common_steps)
after_none items old None (Some more) none e = grind (arith, common_steps)
after_none items old (Some rest) whole none e = grind (arith, common_steps)
