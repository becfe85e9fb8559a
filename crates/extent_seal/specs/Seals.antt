-- How an extent is sealed (SOSP 2011, section 4.3.2).
use Rattle.std.specs.Prelude.{◌≡◌, ◌≤◌, ◌⊎◌, true, Some, List, [], ◌∷◌, ◌++◌, length, take}
use Rattle.extent_node.specs.Copies.{Block}
use Rattle.extent_seal.specs.Extents.{Open, Closed, replica}

-- a replica had at least these blocks, and was cut to them
pub record IsCutTo (r blocks : List Block) : Type 0 where
  pub long_enough : length blocks ≤ length r
  pub cut : take (length blocks) r ≡ blocks

-- the commit length is the smallest length of the replicas of the nodes that answered; some node answered, and each of these replicas is cut to that length
pub record Seals (e : Open) (s : Closed) : Type 0 where
  pub zero : s.kept.zero ≡ true → IsCutTo (replica e e.took.zero) s.blocks
  pub one : s.kept.one ≡ true → IsCutTo (replica e e.took.one) s.blocks
  pub two : s.kept.two ≡ true → IsCutTo (replica e e.took.two) s.blocks
  pub smallest : ((s.kept.zero ≡ true) × (length s.blocks ≡ length (replica e e.took.zero)))
      ⊎ (((s.kept.one ≡ true) × (length s.blocks ≡ length (replica e e.took.one)))
      ⊎ ((s.kept.two ≡ true) × (length s.blocks ≡ length (replica e e.took.two))))

-- the acknowledged blocks are within the commit length, and after them at most the block that was tried
abbrev pub IsCommitted : Open → List Block → Type 0
IsCommitted e blocks = (blocks ≡ e.blocks) ⊎ ((b : Block) × (e.tried ≡ Some b) × (blocks ≡ e.blocks ++ b ∷ []))
