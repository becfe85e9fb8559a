-- Stored policies that a container may have (Blob service REST reference, 2012-02-12, Set Container ACL).
use Rattle.std.specs.Prelude.{◌≡◌, ◌≤◌, ℕ, true, List, All, IfSome}
use Rattle.stamp_values.specs.declared.policy.Policy.{Policy}
use Rattle.stamp_values.specs.Letters.{has_permission}
use Rattle.stamp_values.specs.Policies.{is_policies}
use Rattle.stamp_values.specs.Texts.{is_utf8}

-- the last moment of the year 9999
abbrev pub last_moment : ℕ
last_moment = 2_534_023_007_999_999_999

-- the number is a moment from 1970 to 9999
abbrev pub IsMoment : ℕ → Type 0
IsMoment m = m ≤ last_moment

-- the times that the policy gives are moments, and the permissions that it gives have a permission
pub record HasKeptFields (p : Policy) : Type 0 where
  pub start : IfSome p.start IsMoment
  pub expiry : IfSome p.expiry IsMoment
  pub letters : IfSome p.letters (λ l. has_permission l ≡ true)

-- the policy has what the types of its parts keep: its id is UTF-8, and its fields are moments and permissions
pub record IsPolicy (p : Policy) : Type 0 where
  pub utf8 : is_utf8 p.id ≡ true
  pub fields : HasKeptFields p

-- a container may have these policies: there are at most five, their ids are good, and no two ids are equal
abbrev pub ArePolicies : List Policy → Type 0
ArePolicies ps = (is_policies ps ≡ true) × All IsPolicy ps
