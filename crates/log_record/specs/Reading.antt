-- Values at the front of bytes, as functions: the value and the bytes after it, or nothing (docs/formats/records.md).
use Rattle.std.specs.Prelude.{ℕ, zero, suc, Bool, List, [], ◌∷◌, length, take, drop, Option, Some, None, option_and_then, nat_lt, if◌then◌else◌}
use Rattle.std.specs.Int.{Width, w32, byte_len, from_be_bytes}

-- a value, and the bytes after it
abbrev pub Read : Type 0 → Type 0
Read A = Option (A × List ℕ)

infixl 10 ◌>>=◌
-- nothing if there is no value, and otherwise what the function gives for the value
abbrev pub ◌>>=◌ : {A B : Type 0} → Option A → (A → Option B) → Option B
o >>= f = option_and_then f o

-- the first n bytes
abbrev pub front_at : ℕ → List ℕ → Read (List ℕ)
front_at n t = if nat_lt (length t) n then None else Some (take n t, drop n t)

-- the first byte
abbrev pub byte_at : List ℕ → Read ℕ
byte_at [] = None
byte_at (b ∷ t) = Some (b, t)

-- a number, the highest byte first
abbrev pub number_at : Width → List ℕ → Read ℕ
number_at w t = front_at (byte_len w) t >>= (λ f. Some (from_be_bytes w f.0, f.1))

-- a string
unfoldable pub string_at : List ℕ → Read (List ℕ)
string_at t = number_at w32 t >>= (λ n. front_at n.0 n.1)

-- an option of a value that `at` finds
unfoldable pub option_at : {A : Type 0} → (List ℕ → Read A) → List ℕ → Read (Option A)
option_at at [] = None
option_at at (zero ∷ t) = Some (None, t)
option_at at (suc zero ∷ t) = at t >>= (λ a. Some (Some a.0, a.1))
option_at at (suc (suc b) ∷ t) = None

-- n values that `at` finds, each after the one before
unfoldable pub each_at : {A : Type 0} → (List ℕ → Read A) → ℕ → List ℕ → Read (List A)
each_at at zero t = Some ([], t)
each_at at (suc n) t = at t >>= (λ a. each_at at n a.1 >>= (λ others. Some (a.0 ∷ others.0, others.1)))

-- a list of values that `at` finds
unfoldable pub list_at : {A : Type 0} → (List ℕ → Read A) → List ℕ → Read (List A)
list_at at t = number_at w32 t >>= (λ n. each_at at n.0 n.1)

-- two values, the second after the first
abbrev pub both_at : {A B : Type 0} → (List ℕ → Read A) → (List ℕ → Read B) → List ℕ → Read (A × B)
both_at first second t = first t >>= (λ a. second a.1 >>= (λ b. Some ((a.0, b.0), b.1)))

-- a value that passes a test
abbrev pub tested_at : {A : Type 0} → (A → Bool) → (List ℕ → Read A) → List ℕ → Read A
tested_at test at t = at t >>= (λ a. if test a.0 then Some a else None)

-- a value made of another value
abbrev pub made_at : {A B : Type 0} → (A → B) → (List ℕ → Read A) → List ℕ → Read B
made_at make at t = at t >>= (λ a. Some (make a.0, a.1))

-- a value that a function gives for another value, if it gives one
abbrev pub parsed_at : {A B : Type 0} → (A → Option B) → (List ℕ → Read A) → List ℕ → Read B
parsed_at parse at t = at t >>= (λ a. parse a.0 >>= (λ b. Some (b, a.1)))
