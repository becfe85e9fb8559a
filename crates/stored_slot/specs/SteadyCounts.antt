-- What the wire of nodes in memory counts (SOSP 2011, section 4.3: the calls of an append; that no call fails is the stamp's own).
use Rattle.extent_node.specs.Faults.{Calls, Counts}
use Rattle.stored_slot.specs.declared.steady.NodeCounts.{NodeCounts}

-- how often each node was called
abbrev pub node_counts : NodeCounts → Counts
node_counts n = record { zero = n.zero; one = n.one; two = n.two }

-- no call failed
abbrev pub no_faults : Calls
no_faults = record { puts = record { zero = 0; one = 0; two = 0 }; asks = record { zero = 0; one = 0; two = 0 } }
