-- Codes of the world and its parts, by which a type may be seen as one of them. The code of a record is the code of its fields, nested in pairs.
use Rattle.std.specs.Prelude.{◌≡◌, ℕ, zero, suc, Bool, List, Option, refl}
use Rattle.std.specs.FinMap as finite
use Rattle.std.specs.FinMap.{FinMap}
use Rattle.std.specs.Coded.{Coded, code_by, coded_ℕ, coded_bool, coded×, coded_list, coded_option}
use Rattle.stamp_values.specs.Order.{name_cmp}
use Rattle.stamp_values.specs.Levels.{level_number}
use Rattle.stamp_values.specs.Letters.{Permissions}
use Rattle.stamp_values.specs.Trees.{key_code}
use Rattle.stamp_types.specs.PropsFields.{PropsFields}
use Rattle.stamp_types.specs.World.{World, Part, Blob}
use Rattle.stamp_values.specs.declared.level.Level.{Level}
use Rattle.stamp_values.specs.declared.level.Level.TheVariants as level
use Rattle.stamp_values.specs.declared.meta.Meta.{Meta}
use Rattle.stamp_values.specs.declared.policy.Policy.{Policy}
use Rattle.stamp_values.specs.declared.acl.Acl.{Acl}
use Rattle.stamp_types.specs.declared.standing.Standing.{Standing}
use Rattle.stamp_types.specs.declared.committed.Block.{Block}
use Rattle.stamp_types.specs.declared.committed.Committed.{Committed}

-- the code of a text
abbrev pub text_code : Coded (List ℕ)
text_code = coded_list coded_ℕ

-- the code of a name of metadata and its value
abbrev pub meta_code : Coded Meta
meta_code = code_by (List ℕ × List ℕ) (coded× text_code text_code) (λ m. (m.name, m.value)) (λ p. record { name = p.0; value = p.1 }) (λ _. refl)

-- the code of permissions
abbrev pub permissions_code : Coded Permissions
permissions_code =
    code_by (Bool × (Bool × (Bool × Bool))) (coded× coded_bool (coded× coded_bool (coded× coded_bool coded_bool)))
    (λ p. (p.read, (p.write, (p.delete, p.list)))) (λ p. record { read = p.0; write = p.1.0; delete = p.1.1.0; list = p.1.1.1 }) (λ _. refl)

-- the code of a stored policy
abbrev pub policy_code : Coded Policy
policy_code =
    code_by (List ℕ × (Option ℕ × (Option ℕ × Option Permissions))) (coded× text_code (coded× (coded_option coded_ℕ) (coded× (coded_option coded_ℕ) (coded_option permissions_code))))
    (λ p. (p.id, (p.start, (p.expiry, p.letters)))) (λ p. record { id = p.0; start = p.1.0; expiry = p.1.1.0; letters = p.1.1.1 }) (λ _. refl)

-- the level of a number
abbrev pub numbered_level : ℕ → Level
numbered_level zero = level.Closed
numbered_level (suc zero) = level.Blob
numbered_level (suc (suc n)) = level.Container

-- the level of a level's number is that level
pub numbered_level-level_number : (l : Level) → numbered_level (level_number l) ≡ l
numbered_level-level_number level.Closed = refl
numbered_level-level_number level.Blob = refl
numbered_level-level_number level.Container = refl

-- the code of a public access level
abbrev pub level_code : Coded Level
level_code = code_by ℕ coded_ℕ level_number numbered_level numbered_level-level_number

-- the code of a container's level and policies
abbrev pub acl_code : Coded Acl
acl_code =
    code_by (Level × List Policy) (coded× level_code (coded_list policy_code)) (λ a. (a.level, a.policies)) (λ p. record { level = p.0; policies = p.1 }) (λ _. refl)

-- the code of what a container has beside its blobs
abbrev pub standing_code : Coded Standing
standing_code =
    code_by (ℕ × (ℕ × (List Meta × Acl))) (coded× coded_ℕ (coded× coded_ℕ (coded× (coded_list meta_code) acl_code)))
    (λ s. (s.etag, (s.made, (s.metadata, s.acl)))) (λ p. record { etag = p.0; made = p.1.0; metadata = p.1.1.0; acl = p.1.1.1 }) (λ _. refl)

-- the code of the headers that are kept with a blob
abbrev pub props_code : Coded PropsFields
props_code =
    code_by (List ℕ × (List ℕ × (List ℕ × (List ℕ × Option (List ℕ))))) (coded× text_code (coded× text_code (coded× text_code (coded× text_code (coded_option text_code)))))
    (λ p. (p.content_type, (p.encoding, (p.language, (p.cache_control, p.md5))))) (λ p. record { content_type = p.0; encoding = p.1.0; language = p.1.1.0; cache_control = p.1.1.1.0; md5 = p.1.1.1.1 }) (λ _. refl)

-- the code of a block
abbrev pub block_code : {C : Type 0} → Coded C → Coded (Block C)
block_code {C} c = code_by (Option (List ℕ) × C) (coded× (coded_option text_code) c) (λ b. (b.id, b.content)) (λ p. record { id = p.0; content = p.1 }) (λ _. refl)

-- the code of a committed part
abbrev pub committed_code : {C : Type 0} → Coded C → Coded (Committed C)
committed_code {C} c =
    code_by (ℕ × (ℕ × (PropsFields × (List Meta × List (Block C))))) (coded× coded_ℕ (coded× coded_ℕ (coded× props_code (coded× (coded_list meta_code) (coded_list (block_code c))))))
    (λ s. (s.etag, (s.made, (s.props, (s.metadata, s.blocks))))) (λ p. record { etag = p.0; made = p.1.0; props = p.1.1.0; metadata = p.1.1.1.0; blocks = p.1.1.1.1 }) (λ _. refl)

-- the code of a blob
abbrev pub blob_code : {C : Type 0} → Coded C → Coded (Blob C)
blob_code {C} c =
    code_by (Option (Committed C) × FinMap name_cmp C) (coded× (coded_option (committed_code c)) (finite.code text_code c))
    (λ b. (b.committed, b.uncommitted)) (λ p. record { committed = p.0; uncommitted = p.1 }) (λ _. refl)

-- the code of a container with its count and its blobs
abbrev pub part_code : {C : Type 0} → Coded C → Coded (Part C)
part_code {C} c =
    code_by (ℕ × (Option Standing × FinMap name_cmp (Blob C))) (coded× coded_ℕ (coded× (coded_option standing_code) (finite.code text_code (blob_code c))))
    (λ p. (p.count, (p.standing, p.blobs))) (λ p. record { count = p.0; standing = p.1.0; blobs = p.1.1 }) (λ _. refl)

-- the code of the world
abbrev pub world_code : {C : Type 0} → Coded C → Coded (World C)
world_code c = finite.code key_code (part_code c)
