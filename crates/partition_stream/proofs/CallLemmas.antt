-- The calls of appends and seals.
use Rattle.std.proofs.Common.{◌≡◌, ◌≤◌, ℕ, ◌+◌, ◌*◌, ◌⊎◌, inl, inr, Result, Ok, Err, ap, arith}
use Rattle.stamp_values.specs.declared.place.Place.{Place}
use Rattle.extent_node.specs.Faults.{Calls, Counts, CountsNone, one_more}
use Rattle.extent_seal.specs.Counting.{CountsEach, Grows, GrowsEach}
use Rattle.stream_manager.specs.Counting.{AsksAtMost, CallsAppend, CallsAtMost, CallsSeal, FailsAppend, FailsEachAtLeast, FailsPutsAtLeast, PutsAtMost, PutsOnceOrTwice, PutsTwice}
use Rattle.stream_manager.specs.declared.faults.AppendFault.TheVariants as append_fault
use Rattle.stream_manager.specs.declared.faults.StoredFault.{StoredFault}
use Rattle.stream_manager.specs.declared.faults.StoredFault.TheVariants as stored_fault
use Rattle.stream_manager.proofs.CountLemmas.{one_more_bound}
use Rattle.partition_stream.specs.Counting.{CallsPut, CallsSeals, FailsPut}

-- nothing was counted
none_counted : (old new : Calls) → new ≡ old → CountsNone old.puts new.puts
none_counted old new none = (ap (λ (c : Calls). c.puts.zero) none, ap (λ (c : Calls). c.puts.one) none, ap (λ (c : Calls). c.puts.two) none)

-- no node was asked, and no extent was sealed
none_asked : (before after : ℕ) (old new : Calls) → after ≡ before → new ≡ old → AsksAtMost 0 before after old.asks new.asks
none_asked before after old new same none =
    let zero = ap (λ (c : Calls). c.asks.zero) none in
    let one = ap (λ (c : Calls). c.asks.one) none in
    let two = ap (λ (c : Calls). c.asks.two) none in
    (omega (arith, same, zero), omega (arith, same, one), omega (arith, same, two))

-- each node was asked once, for an extent that was sealed or beside
each_asked : (more before after : ℕ) (old new : Counts) → before + 1 ≤ after + more → CountsEach old new → AsksAtMost more before after old new
each_asked more before after old new room each =
    (omega (arith, room, each, one_more_bound old.zero), omega (arith, room, each, one_more_bound old.one), omega (arith, room, each, one_more_bound old.two))

-- the calls of a seal of one stream, for each extent that was sealed
pub seal_calls : (r : Result (Unit {0}) StoredFault) (before after : ℕ) (old new : Calls) → CallsSeal r before after old new → CallsSeals r before after old new
seal_calls (Ok u) before after old new (inl h) = (none_counted old new h.1, none_asked before after old new h.0 h.1)
seal_calls (Ok u) before after old new (inr h) = (h.1.0, each_asked 0 before after old.asks new.asks (omega (arith, h.0)) h.1.1)
seal_calls (Err stored_fault.Busy) before after old new h = (h.1.0, each_asked 1 before after old.asks new.asks (omega (arith, h.0)) h.1.1)
seal_calls (Err stored_fault.NoMemory) before after old new h = (none_counted old new h.1, none_asked before after old new h.0 h.1)

-- two puts to each node
twice_put : (old new : Counts) → PutsTwice old new → PutsAtMost 2 old new
twice_put old new h = (twice old.zero new.zero h.0, twice old.one new.one h.1, twice old.two new.two h.2)
  where
    twice : (n m : ℕ) → m ≡ one_more (one_more n) → m ≤ n + 2
    twice n m e = omega (arith, e, one_more_bound n, one_more_bound (one_more n))

-- one put to each node, or two
once_or_twice_put : (before after : ℕ) (old new : Counts) → PutsOnceOrTwice before after old new → PutsAtMost 2 old new
once_or_twice_put before after old new (inl h) =
    (omega (arith, h, one_more_bound old.zero), omega (arith, h, one_more_bound old.one), omega (arith, h, one_more_bound old.two))
once_or_twice_put before after old new (inr h) = twice_put old new h.1

-- the calls of an append of a block that was placed
pub placed_calls : (before after : ℕ) (old new : Calls) → PutsOnceOrTwice before after old.puts new.puts × AsksAtMost 0 before after old.asks new.asks → CallsAtMost 2 0 before after old new
placed_calls before after old new h = (once_or_twice_put before after old.puts new.puts h.0, h.1)

-- the calls of an append of a block that is in doubt
pub doubt_calls : (before after : ℕ) (old new : Calls) → CallsAppend (Err append_fault.Doubt) before after old new → CallsAtMost 2 1 before after old new
doubt_calls before after old new h = (once_or_twice_put before after old.puts new.puts h.0, h.1)

-- the calls of an append of a block that was Busy
pub busy_calls : (before after : ℕ) (old new : Calls) → CallsAppend (Err append_fault.Busy) before after old new → CallsAtMost 2 1 before after old new
busy_calls before after old new (inl h) = ((omega (arith, h.1.0), omega (arith, h.1.0), omega (arith, h.1.0)), each_asked 1 before after old.asks new.asks (omega (arith, h.0)) h.1.1)
busy_calls before after old new (inr h) = (twice_put old.puts new.puts h.1, (omega (arith, h.2), omega (arith, h.2), omega (arith, h.2)))

-- the faults of an append of a block that was Busy
pub busy_faults : (before after : ℕ) (old new : Calls) → FailsAppend (Err append_fault.Busy) before after old new → FailsEachAtLeast old new ⊎ FailsPutsAtLeast 2 old new
busy_faults before after old new (inl h) =
    inl ((omega (arith, h.1.0), omega (arith, h.1.0), omega (arith, h.1.0)), omega (arith, h.1), omega (arith, h.1), omega (arith, h.1))
busy_faults before after old new (inr h) = inr h.1

-- the calls of one piece more
more_calls : (k i n before m after : ℕ) (a b c : Calls) → i + 1 ≤ n → CallsAtMost (2 * i) 0 before m a b → CallsAtMost 2 k m after b c → CallsAtMost (2 * n) k before after a c
more_calls k i n before m after a b c l h f =
    ((omega (arith, l, h, f), omega (arith, l, h, f), omega (arith, l, h, f)), (omega (arith, h, f), omega (arith, h, f), omega (arith, h, f)))

-- numbers that grow twice
grown : (a b c : Counts) → GrowsEach a b → GrowsEach b c → GrowsEach a c
grown a b c g f = (omega (arith, g, f), omega (arith, g, f), omega (arith, g, f))

-- the calls of a put that failed, after those of the pieces before it
pub failed_calls : (e : StoredFault) (i n before m after : ℕ) (a b c : Calls) → i + 1 ≤ n → CallsAtMost (2 * i) 0 before m a b
    → CallsPut {T = Place} (Err e) 1 m after b c → CallsPut {T = Place} (Err e) n before after a c
failed_calls stored_fault.Busy i n before m after a b c l h f = more_calls 1 i n before m after a b c l h f
failed_calls stored_fault.NoMemory i n before m after a b c l h f = more_calls 0 i n before m after a b c l h f

-- the faults of a put that failed, after those of the pieces before it
pub failed_faults : (e : StoredFault) (a b c : Calls) → Grows a b → FailsPut {T = Place} (Err e) b c → FailsPut {T = Place} (Err e) a c
failed_faults stored_fault.Busy a b c g (inl f) =
    inl (grown a.puts b.puts c.puts g.0 f.0, omega (arith, g, f), omega (arith, g, f), omega (arith, g, f))
failed_faults stored_fault.Busy a b c g (inr f) = inr (omega (arith, g, f), (grown a.puts b.puts c.puts g.0 f.1.0, grown a.asks b.asks c.asks g.1 f.1.1))
failed_faults stored_fault.NoMemory a b c g f = (grown a.puts b.puts c.puts g.0 f.0, grown a.asks b.asks c.asks g.1 f.1)
