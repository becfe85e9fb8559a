-- The last line that is printed (this product's own choice).
use Rattle.std.specs.Prelude.{ℕ, ◌==◌, if◌then◌else◌, List, ◌++◌, codes, decimal}

-- how many cases hold, of how many
abbrev pub tally_line : ℕ → ℕ → List ℕ
tally_line holding cases =
    if holding == cases then decimal cases ++ codes " cases hold\n"
    else decimal holding ++ (codes " of " ++ (decimal cases ++ codes " cases hold\n"))
