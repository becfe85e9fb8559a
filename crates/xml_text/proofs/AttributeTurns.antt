-- One turn of `attributes_at`.
use Rattle.std.proofs.Common.{◌≡◌, ℕ, zero, suc, ◌<◌, ◌≤◌, Bool, List, length, Option, Some, None, ap, ◌∙◌, arith}
use Rattle.xml_text.specs.Reading.{◌>>=◌, next_attribute_at, turned, attributes_at}

-- each number of turns that is enough for the whole leaves a number that is enough for what is left
abbrev pub Goes : List ℕ → List ℕ → Type 0
Goes whole left = (n : ℕ) → length whole < n → (m : ℕ) × (length left < m) × (attributes_at n whole ≡ attributes_at m left)

turned_after : (m : ℕ) (whole left rest : List ℕ) (answer : Option Bool) (n : ℕ) → length left < m → attributes_at n whole ≡ attributes_at m left → next_attribute_at left ≡ Some (answer, rest)
    → (k : ℕ) × (length left ≤ k) × (attributes_at n whole ≡ turned (attributes_at k) answer rest)
unfolding attributes_at
turned_after zero whole left rest answer n room same is = absurd (omega arith)
turned_after (suc m) whole left rest answer n room same is = (m, omega arith, same ∙ ap (λ o. o >>= (λ r. turned (attributes_at m) r.0 r.1)) is)

pub next_turn : (whole left rest : List ℕ) (answer : Option Bool) → Goes whole left → next_attribute_at left ≡ Some (answer, rest)
    → (n : ℕ) → length whole < n → (m : ℕ) × (length left ≤ m) × (attributes_at n whole ≡ turned (attributes_at m) answer rest)
next_turn whole left rest answer goes is n h =
    let (m, room, same) = goes n h in turned_after m whole left rest answer n room same is

none_after : (m : ℕ) (whole left : List ℕ) (n : ℕ) → length left < m → attributes_at n whole ≡ attributes_at m left → next_attribute_at left ≡ None → attributes_at n whole ≡ None
unfolding attributes_at
none_after zero whole left n room same is = absurd (omega arith)
none_after (suc m) whole left n room same is = same ∙ ap (λ o. o >>= (λ r. turned (attributes_at m) r.0 r.1)) is

pub no_turn : (whole left : List ℕ) → Goes whole left → next_attribute_at left ≡ None → (n : ℕ) → length whole < n → attributes_at n whole ≡ None
no_turn whole left goes is n h = let (m, room, same) = goes n h in none_after m whole left n room same is
