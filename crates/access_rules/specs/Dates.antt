-- The date of a request that asks by a key (Blob service REST reference, 2012-02-12, Authentication for the Azure Storage
-- Services: Specifying the Date Header).
use Rattle.std.specs.Prelude.{◌≡◌, ℕ, ◌+◌, ◌*◌, ◌≤◌, ◌⊎◌, false, List, Some, codes}
use Rattle.stamp_values.specs.Fields.{first_value, is_sent}
use Rattle.stamp_values.specs.declared.signing.Field.{Field}

-- the steps of 100 ns in one second. All moments are counted in these steps
abbrev pub steps_in_second : ℕ
steps_in_second = 10_000_000

-- the two moments are at most so many seconds apart, whichever of them comes first
abbrev pub AreWithin : ℕ → ℕ → ℕ → Type 0
AreWithin seconds a b = (a ≤ b + seconds * steps_in_second) × (b ≤ a + seconds * steps_in_second)

-- The text is the date of the request: the value of x-ms-date if x-ms-date was sent, and else the value of Date. If a header was sent
-- more than once, its first value counts
abbrev pub IsDateText : List Field → List ℕ → Type 0
IsDateText headers text =
    (first_value headers (codes "x-ms-date") ≡ Some text)
    ⊎ ((is_sent headers (codes "x-ms-date") ≡ false) × (first_value headers (codes "date") ≡ Some text))
