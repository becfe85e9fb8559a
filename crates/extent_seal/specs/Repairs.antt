-- How a node gets a copy of a sealed extent again (SOSP 2011, section 4.3).
use Rattle.std.specs.Prelude.{◌≡◌, ◌≤◌, ◌⊎◌, ℕ, ◌+◌, suc, zero, true, false, length}
use Rattle.extent_node.specs.Faults.{Calls, Counts, CountsFault, CountsNone, one_more}
use Rattle.extent_node.specs.declared.wire.Node.{Node}
use Rattle.extent_node.specs.declared.wire.Node.TheVariants as node
use Rattle.extent_seal.specs.Counting.{AsksCopies, FailsCopies, asked_if, fault_if}
use Rattle.extent_seal.specs.Extents.{Closed, Three}

-- yes of the node, and the answers of the others
abbrev pub with_yes : Node → Three → Three
with_yes node.Zero a = record { zero = true; one = a.one; two = a.two }
with_yes node.One a = record { zero = a.zero; one = true; two = a.two }
with_yes node.Two a = record { zero = a.zero; one = a.one; two = true }

-- the extent, with a copy on the node
abbrev pub with_copy : Node → Closed → Closed
with_copy node e = record { blocks = e.blocks; kept = with_yes node e.kept }

-- one ask of each node that says yes, and no other ask
abbrev pub AsksThese : Three → Counts → Counts → Type 0
AsksThese these old new = (new.zero ≡ asked_if these.zero old.zero) × (new.one ≡ asked_if these.one old.one) × (new.two ≡ asked_if these.two old.two)

-- one ask of each node that says yes failed, and no other ask
abbrev pub FailsThese : Three → Counts → Counts → Type 0
FailsThese these old new = (new.zero ≡ old.zero + fault_if these.zero) × (new.one ≡ old.one + fault_if these.one) × (new.two ≡ old.two + fault_if these.two)

-- the nodes with a copy were asked once in the order 0, 1, 2 until one answered: the asks before and after, and those that failed
abbrev pub FirstAnswers : Three → Counts → Counts → Counts → Counts → Type 0
FirstAnswers kept old new failed_old failed_new =
    ((kept.zero ≡ true) × AsksThese (record { zero = true; one = false; two = false }) old new × CountsNone failed_old failed_new)
    ⊎ (((kept.one ≡ true) × AsksThese (record { zero = kept.zero; one = true; two = false }) old new
    × FailsThese (record { zero = kept.zero; one = false; two = false }) failed_old failed_new)
    ⊎ ((kept.two ≡ true) × AsksThese (record { zero = kept.zero; one = kept.one; two = true }) old new
    × FailsThese (record { zero = kept.zero; one = kept.one; two = false }) failed_old failed_new))

-- so many calls more
unfoldable pub calls_more : ℕ → ℕ → ℕ
calls_more zero n = n
calls_more (suc k) n = one_more (calls_more k n)

-- so many calls of the node, and no call of another node
abbrev pub CountsCalls : Node → ℕ → Counts → Counts → Type 0
CountsCalls node.Zero k old new = (new.zero ≡ calls_more k old.zero) × (new.one ≡ old.one) × (new.two ≡ old.two)
CountsCalls node.One k old new = (new.zero ≡ old.zero) × (new.one ≡ calls_more k old.one) × (new.two ≡ old.two)
CountsCalls node.Two k old new = (new.zero ≡ old.zero) × (new.one ≡ old.one) × (new.two ≡ calls_more k old.two)

-- at most so many calls of the node, and no call of another node
abbrev pub CountsCallsUpTo : Node → ℕ → Counts → Counts → Type 0
CountsCallsUpTo node.Zero k old new = (new.zero ≤ old.zero + k) × (new.one ≡ old.one) × (new.two ≡ old.two)
CountsCallsUpTo node.One k old new = (new.zero ≡ old.zero) × (new.one ≤ old.one + k) × (new.two ≡ old.two)
CountsCallsUpTo node.Two k old new = (new.zero ≡ old.zero) × (new.one ≡ old.one) × (new.two ≤ old.two + k)

-- a node got a copy: some node with a copy answered, and then each block was put to the node once, and no put failed
pub record Copies (n : Node) (e : Closed) (old new failed_old failed_new : Calls) : Type 0 where
  pub asks : FirstAnswers e.kept old.asks new.asks failed_old.asks failed_new.asks
  pub puts : CountsCalls n (length e.blocks) old.puts new.puts
  pub unfailed : CountsNone failed_old.puts failed_new.puts

-- a put to the node failed, after some node with a copy answered
pub record FailsAtPut (n : Node) (e : Closed) (old new failed_old failed_new : Calls) : Type 0 where
  pub asks : FirstAnswers e.kept old.asks new.asks failed_old.asks failed_new.asks
  pub puts : CountsCallsUpTo n (length e.blocks) old.puts new.puts
  pub failed : CountsFault n false failed_old.puts failed_new.puts

-- a node got no copy: each node with a copy was asked and did not answer, or a put to the node failed
abbrev pub FailsToCopy : Node → Closed → Calls → Calls → Calls → Calls → Type 0
FailsToCopy n e old new failed_old failed_new =
    (AsksCopies e.kept old new × FailsCopies e.kept failed_old failed_new) ⊎ FailsAtPut n e old new failed_old failed_new
