-- What the wire counts over calls of a stream.
use Rattle.std.specs.Prelude.{◌≡◌, ◌≤◌, ◌⊎◌, ℕ, ◌+◌, Result, Ok, Err, List}
use Rattle.std.specs.List.{slice_get}
use Rattle.std.specs.Option.{option_map_or}
use Rattle.stamp_values.specs.declared.place.Place.{Place}
use Rattle.extent_node.specs.Faults.{Calls, Counts, CountsNone, one_more}
use Rattle.extent_seal.specs.Counting.{AsksEach, CountsEach, FailsEach, Grows, GrowsEach, all_nodes}
use Rattle.extent_seal.specs.Extents.{Closed, Three, all_three}
use Rattle.stream_manager.specs.declared.parts.Tried.{Tried}
use Rattle.stream_manager.specs.declared.parts.Tried.TheVariants as tried
use Rattle.stream_manager.specs.declared.faults.AppendFault.{AppendFault}
use Rattle.stream_manager.specs.declared.faults.AppendFault.TheVariants as fault
use Rattle.stream_manager.specs.declared.faults.Settled.{Settled}
use Rattle.stream_manager.specs.declared.faults.Settled.TheVariants as settled
use Rattle.stream_manager.specs.declared.faults.StoredFault.{StoredFault}
use Rattle.stream_manager.specs.declared.faults.StoredFault.TheVariants as stored_fault

-- at most so many puts to each node
abbrev pub PutsAtMost : ℕ → Counts → Counts → Type 0
PutsAtMost n old new = (new.zero ≤ old.zero + n) × (new.one ≤ old.one + n) × (new.two ≤ old.two + n)

-- two puts to each node
abbrev pub PutsTwice : Counts → Counts → Type 0
PutsTwice old new = (new.zero ≡ one_more (one_more old.zero)) × (new.one ≡ one_more (one_more old.one)) × (new.two ≡ one_more (one_more old.two))

-- one put to each node; or two, if an extent was sealed between them
abbrev pub PutsOnceOrTwice : ℕ → ℕ → Counts → Counts → Type 0
PutsOnceOrTwice before after old new = CountsEach old new ⊎ ((before + 1 ≤ after) × PutsTwice old new)

-- each node was asked at most once for each extent that was sealed, and `more` times beside; there were `before` sealed extents, and then `after`
abbrev pub AsksAtMost : ℕ → ℕ → ℕ → Counts → Counts → Type 0
AsksAtMost more before after old new = (new.zero + before ≤ old.zero + after + more) × (new.one + before ≤ old.one + after + more) × (new.two + before ≤ old.two + after + more)

-- at most so many puts to each node, and at most so many asks of each node beside one for each extent that was sealed
abbrev pub CallsAtMost : ℕ → ℕ → ℕ → ℕ → Calls → Calls → Type 0
CallsAtMost puts asks before after old new = PutsAtMost puts old.puts new.puts × AsksAtMost asks before after old.asks new.asks

-- no put failed, and no failed ask is taken back
abbrev pub FailsNoPut : Calls → Calls → Type 0
FailsNoPut old new = CountsNone old.puts new.puts × GrowsEach old.asks new.asks

-- an ask of each node failed at least
abbrev pub FailsEachAtLeast : Calls → Calls → Type 0
FailsEachAtLeast old new = GrowsEach old.puts new.puts × (old.asks.zero + 1 ≤ new.asks.zero) × (old.asks.one + 1 ≤ new.asks.one) × (old.asks.two + 1 ≤ new.asks.two)

-- at least so many puts failed, and no fault is taken back
abbrev pub FailsPutsAtLeast : ℕ → Calls → Calls → Type 0
FailsPutsAtLeast n old new = (all_nodes old.puts + n ≤ all_nodes new.puts) × Grows old new

-- some put failed, and then an ask of each node
abbrev pub FailsDoubt : Calls → Calls → Type 0
FailsDoubt old new = (all_nodes old.puts + 1 ≤ all_nodes new.puts) × FailsEachAtLeast old new

-- the faults of one try: none is needed if the block is placed, one put failed if it is excluded; and in a doubt an ask of each node failed after that
abbrev pub FailsTry : Tried → Calls → Calls → Type 0
FailsTry (tried.Placed p) old new = Grows old new
FailsTry tried.Excluded old new = FailsPutsAtLeast 1 old new
FailsTry tried.Doubt old new = FailsDoubt old new

-- the calls of one try: one put to each node, and one ask of each if the last extent was to be sealed
abbrev pub CallsTry : Tried → ℕ → ℕ → Calls → Calls → Type 0
CallsTry (tried.Placed p) before after old new = CountsEach old.puts new.puts × AsksAtMost 0 before after old.asks new.asks
CallsTry tried.Excluded before after old new = CountsEach old.puts new.puts × AsksAtMost 0 before after old.asks new.asks
CallsTry tried.Doubt before after old new = CountsEach old.puts new.puts × AsksAtMost 1 before after old.asks new.asks

-- the faults of an append: in a doubt a put failed, and then an ask of each node; if it is Busy, no extent was sealed and an ask of each node failed, or the block was excluded twice and two puts failed; there is no fault if it is refused
abbrev pub FailsAppend : Result Place AppendFault → ℕ → ℕ → Calls → Calls → Type 0
FailsAppend (Ok p) before after old new = Grows old new
FailsAppend (Err fault.Doubt) before after old new = FailsDoubt old new
FailsAppend (Err fault.Busy) before after old new = ((after ≡ before) × FailsEach old new) ⊎ ((before + 2 ≤ after) × FailsPutsAtLeast 2 old new)
FailsAppend (Err fault.NoMemory) before after old new = new ≡ old
FailsAppend (Err fault.TooLarge) before after old new = new ≡ old

-- the calls of an append: one put to each node, or two if the first try sealed an extent, and one ask for each extent that was sealed; in a doubt one ask more, which no node answered; if it is Busy, one ask of each node and no put, or two puts; no call if it is refused
abbrev pub CallsAppend : Result Place AppendFault → ℕ → ℕ → Calls → Calls → Type 0
CallsAppend (Ok p) before after old new = PutsOnceOrTwice before after old.puts new.puts × AsksAtMost 0 before after old.asks new.asks
CallsAppend (Err fault.Doubt) before after old new = PutsOnceOrTwice before after old.puts new.puts × AsksAtMost 1 before after old.asks new.asks
CallsAppend (Err fault.Busy) before after old new = ((after ≡ before) × AsksEach old new) ⊎ ((before + 2 ≤ after) × PutsTwice old.puts new.puts × AsksAtMost 0 before after old.asks new.asks)
CallsAppend (Err fault.NoMemory) before after old new = new ≡ old
CallsAppend (Err fault.TooLarge) before after old new = new ≡ old

-- a settle asks each node once and puts nothing; it calls no node if there is no doubt or memory runs out
abbrev pub CallsSettle : Result Settled StoredFault → Calls → Calls → Type 0
CallsSettle (Ok settled.Clean) old new = new ≡ old
CallsSettle (Ok (settled.Kept p)) old new = AsksEach old new
CallsSettle (Ok settled.Dropped) old new = AsksEach old new
CallsSettle (Err stored_fault.Busy) old new = AsksEach old new
CallsSettle (Err stored_fault.NoMemory) old new = new ≡ old

-- no put fails by a settle; it is Busy only if an ask of each node fails
abbrev pub FailsSettle : Result Settled StoredFault → Calls → Calls → Type 0
FailsSettle (Ok settled.Clean) old new = new ≡ old
FailsSettle (Ok (settled.Kept p)) old new = FailsNoPut old new
FailsSettle (Ok settled.Dropped) old new = FailsNoPut old new
FailsSettle (Err stored_fault.Busy) old new = FailsEach old new
FailsSettle (Err stored_fault.NoMemory) old new = new ≡ old

-- a seal asks each node once if it sealed an extent, and no node if not; if it is Busy, it asked each node once and sealed no extent; it puts nothing, and no node is called if memory runs out
abbrev pub CallsSeal : Result (Unit {0}) StoredFault → ℕ → ℕ → Calls → Calls → Type 0
CallsSeal (Ok _) before after old new = ((after ≡ before) × (new ≡ old)) ⊎ ((after ≡ before + 1) × AsksEach old new)
CallsSeal (Err stored_fault.Busy) before after old new = (after ≡ before) × AsksEach old new
CallsSeal (Err stored_fault.NoMemory) before after old new = (after ≡ before) × (new ≡ old)

-- no put fails by a seal; it is Busy only if an ask of each node fails
abbrev pub FailsSeal : Result (Unit {0}) StoredFault → Calls → Calls → Type 0
FailsSeal (Ok _) old new = FailsNoPut old new
FailsSeal (Err stored_fault.Busy) old new = FailsEach old new
FailsSeal (Err stored_fault.NoMemory) old new = new ≡ old

-- the nodes that have a copy of an extent: all three have a copy of the last extent
abbrev pub kept_in : List Closed → ℕ → Three
kept_in sealed e = option_map_or (λ c. c.kept) (slice_get sealed e) all_three
