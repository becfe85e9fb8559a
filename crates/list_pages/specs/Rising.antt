-- Lists whose texts rise.
use Rattle.std.specs.Prelude.{◌≡◌, ℕ, List, [], ◌∷◌}
use Rattle.std.specs.declared.cmp.Ordering.TheVariants.{Less}
use Rattle.stamp_values.specs.Order.{name_cmp}

-- the text comes before the texts of all entries
abbrev pub IsBeforeAll : {X : Type 0} → List ℕ → List (List ℕ × X) → Type 0
IsBeforeAll text [] = Unit
IsBeforeAll text (e ∷ es) = (name_cmp text e.0 ≡ Less) × IsBeforeAll text es

-- the texts strictly rise by their bytes, so each text is there once
abbrev pub Rises : {X : Type 0} → List (List ℕ × X) → Type 0
Rises [] = Unit
Rises (e ∷ es) = IsBeforeAll e.0 es × Rises es
