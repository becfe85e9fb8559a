-- What a wire counts, what is a fault of it, and what a node takes (SOSP 2011, section 4.3).
use Rattle.std.specs.Prelude.{◌≡◌, ℕ, ◌+◌, min, Bool, true, false, Option, List, []}
use Rattle.std.specs.Option.{option_to_list}
use Rattle.extent_node.specs.declared.wire.Delivery.{Delivery}
use Rattle.extent_node.specs.declared.wire.Delivery.TheVariants as delivery
use Rattle.extent_node.specs.declared.wire.Node.{Node}
use Rattle.extent_node.specs.declared.wire.Node.TheVariants as node

-- the node took the block and said so
abbrev pub is_done : Delivery → Bool
is_done delivery.Done = true
is_done delivery.Refused = false
is_done delivery.Lost = false

-- the node took the block; a lost answer does not undo that
abbrev pub is_taken : Delivery → Bool
is_taken delivery.Done = true
is_taken delivery.Refused = false
is_taken delivery.Lost = true

-- what a node has of a block, if there is a block: the block if the node took it
abbrev pub held : {Block : Type 0} → Bool → Option Block → List Block
held true block = option_to_list block
held false block = []

-- one number for each of the three nodes
pub record Counts : Type 0 where
  pub zero : ℕ
  pub one : ℕ
  pub two : ℕ

-- puts and asks, each of them counted for each node
pub record Calls : Type 0 where
  pub puts : Counts
  pub asks : Counts

-- a call is one fault unless it ended well: a put by Done, an ask by yes
abbrev pub fault_unless : Bool → ℕ
fault_unless true = 0
fault_unless false = 1

-- one call more; a count stays at 2^128 - 1, so that a wire can keep it in a number of 128 bits
unfoldable pub one_more : ℕ → ℕ
one_more n = min (n + 1) 340_282_366_920_938_463_463_374_607_431_768_211_455

-- one call of the node, which is counted at this node alone
abbrev pub CountsCall : Node → Counts → Counts → Type 0
CountsCall node.Zero old new = (new.zero ≡ one_more old.zero) × (new.one ≡ old.one) × (new.two ≡ old.two)
CountsCall node.One old new = (new.zero ≡ old.zero) × (new.one ≡ one_more old.one) × (new.two ≡ old.two)
CountsCall node.Two old new = (new.zero ≡ old.zero) × (new.one ≡ old.one) × (new.two ≡ one_more old.two)

-- how one call of the node ended, which is counted at this node alone
abbrev pub CountsFault : Node → Bool → Counts → Counts → Type 0
CountsFault node.Zero good old new = (new.zero ≡ old.zero + fault_unless good) × (new.one ≡ old.one) × (new.two ≡ old.two)
CountsFault node.One good old new = (new.zero ≡ old.zero) × (new.one ≡ old.one + fault_unless good) × (new.two ≡ old.two)
CountsFault node.Two good old new = (new.zero ≡ old.zero) × (new.one ≡ old.one) × (new.two ≡ old.two + fault_unless good)

-- nothing is counted
abbrev pub CountsNone : Counts → Counts → Type 0
CountsNone old new = (new.zero ≡ old.zero) × (new.one ≡ old.one) × (new.two ≡ old.two)

-- one put to the node, and no ask
abbrev pub CountsPut : Node → Calls → Calls → Type 0
CountsPut node old new = CountsCall node old.puts new.puts × CountsNone old.asks new.asks

-- one ask of the node, and no put
abbrev pub CountsAsk : Node → Calls → Calls → Type 0
CountsAsk node old new = CountsNone old.puts new.puts × CountsCall node old.asks new.asks

-- how one put to the node ended; no ask failed
abbrev pub CountsPutFault : Node → Bool → Calls → Calls → Type 0
CountsPutFault node good old new = CountsFault node good old.puts new.puts × CountsNone old.asks new.asks

-- how one ask of the node ended; no put failed
abbrev pub CountsAskFault : Node → Bool → Calls → Calls → Type 0
CountsAskFault node good old new = CountsNone old.puts new.puts × CountsFault node good old.asks new.asks
