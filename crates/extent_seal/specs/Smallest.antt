-- The smallest of up to three lengths (SOSP 2011, section 4.3.2).
use Rattle.std.specs.Prelude.{◌≡◌, ◌≤◌, ◌⊎◌, ℕ, Bool, true}

-- some node answered
abbrev pub IsAnswered : Bool → Bool → Bool → Type 0
IsAnswered zero one two = (zero ≡ true) ⊎ ((one ≡ true) ⊎ (two ≡ true))

-- n is the smallest of the lengths of the nodes that answered
pub record IsSmallest (zero one two : Bool) (a b c n : ℕ) : Type 0 where
  pub at_zero : zero ≡ true → n ≤ a
  pub at_one : one ≡ true → n ≤ b
  pub at_two : two ≡ true → n ≤ c
  pub one_of : ((zero ≡ true) × (n ≡ a)) ⊎ (((one ≡ true) × (n ≡ b)) ⊎ ((two ≡ true) × (n ≡ c)))
