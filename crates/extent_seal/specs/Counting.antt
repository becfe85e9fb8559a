-- What the wire counts over calls of an extent.
use Rattle.std.specs.Prelude.{◌≡◌, ◌≤◌, ◌<◌, ◌⊎◌, ℕ, ◌+◌, Bool, true, false}
use Rattle.extent_node.specs.Faults.{Calls, Counts, CountsNone, one_more, fault_unless}
use Rattle.extent_node.specs.declared.wire.Node.{Node}
use Rattle.extent_node.specs.declared.wire.Node.TheVariants as node
use Rattle.extent_seal.specs.Extents.{Three}
use Rattle.extent_seal.specs.declared.open_extent.Appended.{Appended}
use Rattle.extent_seal.specs.declared.open_extent.Appended.TheVariants as appended

-- each number is one more
abbrev pub CountsEach : Counts → Counts → Type 0
CountsEach old new = (new.zero ≡ one_more old.zero) × (new.one ≡ one_more old.one) × (new.two ≡ one_more old.two)

-- one put to each node, and no ask
abbrev pub PutsEach : Calls → Calls → Type 0
PutsEach old new = CountsEach old.puts new.puts × CountsNone old.asks new.asks

-- one ask of each node, and no put
abbrev pub AsksEach : Calls → Calls → Type 0
AsksEach old new = CountsNone old.puts new.puts × CountsEach old.asks new.asks

-- the ask of each node that did not answer failed, and nothing else failed
abbrev pub FailsUnless : Three → Calls → Calls → Type 0
FailsUnless answered old new = CountsNone old.puts new.puts
    × (new.asks.zero ≡ old.asks.zero + fault_unless answered.zero) × (new.asks.one ≡ old.asks.one + fault_unless answered.one) × (new.asks.two ≡ old.asks.two + fault_unless answered.two)

-- one ask of each node failed, and no put
abbrev pub FailsEach : Calls → Calls → Type 0
FailsEach old new = CountsNone old.puts new.puts × (new.asks.zero ≡ old.asks.zero + 1) × (new.asks.one ≡ old.asks.one + 1) × (new.asks.two ≡ old.asks.two + 1)

-- one ask, if the node has a copy
abbrev pub asked_if : Bool → ℕ → ℕ
asked_if true n = one_more n
asked_if false n = n

-- one fault, if the node has a copy
abbrev pub fault_if : Bool → ℕ
fault_if true = 1
fault_if false = 0

-- one ask of each node with a copy, and no other call
abbrev pub AsksCopies : Three → Calls → Calls → Type 0
AsksCopies kept old new = CountsNone old.puts new.puts
    × (new.asks.zero ≡ asked_if kept.zero old.asks.zero) × (new.asks.one ≡ asked_if kept.one old.asks.one) × (new.asks.two ≡ asked_if kept.two old.asks.two)

-- one ask of each node with a copy failed, and nothing else failed
abbrev pub FailsCopies : Three → Calls → Calls → Type 0
FailsCopies kept old new = CountsNone old.puts new.puts
    × (new.asks.zero ≡ old.asks.zero + fault_if kept.zero) × (new.asks.one ≡ old.asks.one + fault_if kept.one) × (new.asks.two ≡ old.asks.two + fault_if kept.two)

-- nothing was put, and no node without a copy was asked
abbrev pub AsksNoOther : Three → Calls → Calls → Type 0
AsksNoOther kept old new = CountsNone old.puts new.puts
    × (kept.zero ≡ false → new.asks.zero ≡ old.asks.zero) × (kept.one ≡ false → new.asks.one ≡ old.asks.one) × (kept.two ≡ false → new.asks.two ≡ old.asks.two)

-- one ask of a node, which did not fail: the numbers of asks, and then those of the asks that failed
abbrev pub Answers : ℕ → ℕ → ℕ → ℕ → Type 0
Answers old new failed_old failed_new = (new ≡ one_more old) × (failed_new ≡ failed_old)

-- some node with a copy was asked once and answered: what was called before and after, and what of it failed
abbrev pub SomeAnswers : Three → Calls → Calls → Calls → Calls → Type 0
SomeAnswers kept old new failed_old failed_new =
    ((kept.zero ≡ true) × Answers old.asks.zero new.asks.zero failed_old.asks.zero failed_new.asks.zero)
    ⊎ (((kept.one ≡ true) × Answers old.asks.one new.asks.one failed_old.asks.one failed_new.asks.one)
    ⊎ ((kept.two ≡ true) × Answers old.asks.two new.asks.two failed_old.asks.two failed_new.asks.two))

-- the numbers of all nodes together
abbrev pub all_nodes : Counts → ℕ
all_nodes c = c.zero + c.one + c.two

-- the faults of all nodes, of puts and of asks
abbrev pub all_faults : Calls → ℕ
all_faults c = all_nodes c.puts + all_nodes c.asks

-- no number is smaller
abbrev pub GrowsEach : Counts → Counts → Type 0
GrowsEach old new = (old.zero ≤ new.zero) × (old.one ≤ new.one) × (old.two ≤ new.two)

-- no fault is taken back
abbrev pub Grows : Calls → Calls → Type 0
Grows old new = GrowsEach old.puts new.puts × GrowsEach old.asks new.asks

-- an append is short if and only if some put was not Done; a put failed to each node that did not take the block, and no node had two faults
abbrev pub CountsAppend : Appended → Three → Calls → Calls → Type 0
CountsAppend appended.All took old new = CountsNone old.puts new.puts × CountsNone old.asks new.asks
CountsAppend appended.Short took old new =
    (all_nodes old.puts < all_nodes new.puts)
    × (old.puts.zero + fault_unless took.zero ≤ new.puts.zero) × (old.puts.one + fault_unless took.one ≤ new.puts.one) × (old.puts.two + fault_unless took.two ≤ new.puts.two)
    × (new.puts.zero ≤ old.puts.zero + 1) × (new.puts.one ≤ old.puts.one + 1) × (new.puts.two ≤ old.puts.two + 1)
    × CountsNone old.asks new.asks

-- one ask of the node, if it has a copy, and no other call
abbrev pub AsksIf : Node → Bool → Calls → Calls → Type 0
AsksIf node.Zero there old new = CountsNone old.puts new.puts × (new.asks.zero ≡ asked_if there old.asks.zero) × (new.asks.one ≡ old.asks.one) × (new.asks.two ≡ old.asks.two)
AsksIf node.One there old new = CountsNone old.puts new.puts × (new.asks.zero ≡ old.asks.zero) × (new.asks.one ≡ asked_if there old.asks.one) × (new.asks.two ≡ old.asks.two)
AsksIf node.Two there old new = CountsNone old.puts new.puts × (new.asks.zero ≡ old.asks.zero) × (new.asks.one ≡ old.asks.one) × (new.asks.two ≡ asked_if there old.asks.two)
