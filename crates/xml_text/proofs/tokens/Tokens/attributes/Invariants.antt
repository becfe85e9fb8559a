use Rattle.std.proofs.Common.{◌≡◌, ◌≤◌, ◌<◌, ℕ, length}
use Rattle.xml_text.specs.Reading.{attributes_at}
use Rattle.xml_text.proofs.tokens.Tokens.attributes.Given as goal

abbrev pub invariant-attributes : goal.invariant-attributes
invariant-attributes l =
    (length l.self.left.now ≤ length l.fn.self.left.now)
    × ((n : ℕ) → length l.fn.self.left.now < n → (m : ℕ) × (length l.self.left.now < m) × (attributes_at n l.fn.self.left.now ≡ attributes_at m l.self.left.now))

abbrev pub decreases-attributes : goal.decreases-attributes
decreases-attributes l = length l.self.left.now
