-- The last byte of a text in UTF-8 can be raised.
use Rattle.std.proofs.Common.{◌≡◌, ℕ, ◌+◌, ◌<◌, ◌/◌, Bool, true, false, cond, List, [], ◌∷◌, ◌++◌, length, IsTrue, IsUtf8, refl, sym, ap, ◌∙◌, arith}
use lib.Utf8.{encode, encodes, next}
use lib.Dec.{ltb}
use Rattle.std.proofs.lemmas.List.{append-nil}
use borrow.Author.Tests.{lt-ltb, ltb-true}
use Rattle.list_pages.specs.Seeks.{can_be_raised}
use Rattle.list_pages.proofs.Cuts.{can_append}

one : (b : ℕ) → b < 255 → can_be_raised (b ∷ []) ≡ true
one b small = lt-ltb b 255 small

record Ends (bs : List ℕ) : Type 0 where
  long : 0 < length bs
  can : can_be_raised bs ≡ true

next_small : (c : ℕ) → next c < 255
next_small c = omega arith

ends_by : (c : ℕ) (x y z : Bool) → (x ≡ true → c < 128)
    → Ends (cond x (c ∷ []) (cond y ((192 + c / 64) ∷ next c ∷ []) (cond z ((224 + c / 4096) ∷ next (c / 64) ∷ next c ∷ []) ((240 + c / 262144) ∷ next (c / 4096) ∷ next (c / 64) ∷ next c ∷ []))))
ends_by c true y z small = let low = small refl in record { long = omega arith; can = one c (omega arith) }
ends_by c false true z small = record { long = omega arith; can = one (next c) (next_small c) }
ends_by c false false true small = record { long = omega arith; can = one (next c) (next_small c) }
ends_by c false false false small = record { long = omega arith; can = one (next c) (next_small c) }

char_ends : (c : ℕ) → Ends (encode c)
unfolding encode
char_ends c = ends_by c (ltb c 128) (ltb c 2048) (ltb c 65536) (ltb-true c 128)

all_ends : (cs : List ℕ) → can_be_raised (encodes cs) ≡ true
all_ends [] = refl
all_ends (c ∷ cs) = by (encodes cs) refl (all_ends cs)
  where
    by : (later : List ℕ) → encodes cs ≡ later → can_be_raised later ≡ true → can_be_raised (encode c ++ encodes cs) ≡ true
    by [] is can = ap (λ t. can_be_raised (encode c ++ t)) is ∙ ap can_be_raised (append-nil (encode c)) ∙ (char_ends c).can
    by (b ∷ later) is can = ap (λ t. can_be_raised (encode c ++ t)) is ∙ can_append (encode c) (b ∷ later) (omega arith) ∙ can

-- the last byte of a text in UTF-8 can be raised
pub text_ends : (bs : List ℕ) → IsUtf8 bs → IsTrue (can_be_raised bs)
text_ends bs text = ap can_be_raised (sym text.1.1) ∙ all_ends text.0
