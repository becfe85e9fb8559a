-- The bytes of numbers, strings, options and lists in a record (the profile's own form: docs/formats/records.md).
use Rattle.std.specs.Prelude.{ℕ, ◌<◌, ◌^◌, List, [], ◌∷◌, ◌++◌, length, Option, Some, None, All}
use Rattle.std.specs.List.{flat_map}
use Rattle.std.specs.Int.{w32, w64, to_be_bytes}

-- a number as four bytes, the highest byte first
unfoldable pub short_bytes : ℕ → List ℕ
short_bytes n = to_be_bytes w32 n

-- a number as eight bytes, the highest byte first
unfoldable pub long_bytes : ℕ → List ℕ
long_bytes n = to_be_bytes w64 n

-- a string: how many bytes it has, and then its bytes
unfoldable pub string_bytes : List ℕ → List ℕ
string_bytes bytes = short_bytes (length bytes) ++ bytes

-- an option: the byte 0, or the byte 1 and then the value
abbrev pub option_bytes : {A : Type 0} → (A → List ℕ) → Option A → List ℕ
option_bytes bytes None = 0 ∷ []
option_bytes bytes (Some a) = 1 ∷ bytes a

-- a list: how many items it has, and then its items
unfoldable pub list_bytes : {A : Type 0} → (A → List ℕ) → List A → List ℕ
list_bytes bytes items = short_bytes (length items) ++ flat_map bytes items

-- if the option has a value, then the value fits
abbrev pub FitsOption : {A : Type 0} → (A → Type 0) → Option A → Type 0
FitsOption Fits None = Unit {0}
FitsOption Fits (Some a) = Fits a

-- each item of the list fits, and four bytes can count the items
abbrev pub FitsList : {A : Type 0} → (A → Type 0) → List A → Type 0
FitsList Fits items = (length items < 2 ^ 32) × All Fits items
