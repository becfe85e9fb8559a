-- The order of the rules of permission (the order is the stamp's own).
use Rattle.std.specs.Prelude.{◌≡◌, ℕ, ◌≤◌, Some}
use Rattle.std.specs.List.{slice_get}
use Rattle.stamp_types.specs.declared.rule.Rule.{Rule}
use Rattle.access_rules.specs.Rules.{access_rules}

-- in the list of the rules of permission, the one rule comes before the other rule, or both are the same rule
pub record IsNotAfter (one other : Rule) : Type 0 where
  pub place : ℕ
  pub is_there : slice_get access_rules place ≡ Some one
  pub other_place : ℕ
  pub other_is_there : slice_get access_rules other_place ≡ Some other
  pub order : place ≤ other_place
