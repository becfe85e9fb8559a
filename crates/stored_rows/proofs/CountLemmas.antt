-- The faults that the wire counts over calls of stored rows.
use Rattle.std.proofs.Common.{◌≡◌, ◌<◌, ℕ, Result, Ok, Err, inl, inr, refl, subst, sym, arith}
use Rattle.extent_node.specs.Faults.{Calls, Counts}
use Rattle.extent_seal.specs.Counting.{FailsEach, Grows, GrowsEach, all_faults}
use Rattle.extent_seal.specs.declared.sealed.ReadFault.{ReadFault}
use Rattle.extent_seal.specs.declared.sealed.ReadFault.TheVariants as read
use Rattle.stamp_types.specs.Changes.{KeyedAct}
use Rattle.stream_manager.specs.Counting.{FailsEachAtLeast, FailsNoPut, FailsPutsAtLeast, FailsSettle}
use Rattle.stream_manager.specs.declared.faults.Settled.{Settled}
use Rattle.stream_manager.specs.declared.faults.Settled.TheVariants as settled
use Rattle.stream_manager.specs.declared.faults.StoredFault.{StoredFault}
use Rattle.stream_manager.specs.declared.faults.StoredFault.TheVariants as stored
use Rattle.partition_stream.specs.Counting.{FailsLog, FailsPut, FailsSeals}
use Rattle.partition_stream.specs.declared.faults.TakeFault.{TakeFault}
use Rattle.partition_stream.specs.declared.faults.TakeFault.TheVariants as take
use Rattle.stored_rows.specs.Counting.{Fails, FailsLogged, FailsStored}
use Rattle.stored_rows.specs.Faults.{stored_fault_of_read, unlogged_by, unlogged_of_put}

grows_each : (a b c : Counts) → GrowsEach a b → GrowsEach b c → GrowsEach a c
grows_each a b c g f = (omega (arith, g, f), omega (arith, g, f), omega (arith, g, f))

-- numbers that grow twice
pub grows_twice : (a b c : Calls) → Grows a b → Grows b c → Grows a c
grows_twice a b c g f = (grows_each a.puts b.puts c.puts g.0 f.0, grows_each a.asks b.asks c.asks g.1 f.1)

-- a call without a count
pub grows_not : (a b : Calls) → b ≡ a → Grows a b
grows_not a b same =
    subst (λ (c : Calls). Grows a c) (sym same) ((omega arith, omega arith, omega arith), (omega arith, omega arith, omega arith))

-- a fault that comes later
pub fails_later : (a b c : Calls) → Grows a b → Fails b c → Fails a c
fails_later a b c g f = (omega (arith, g, f), grows_twice a b c g f.1)

-- an ask of each node failed
pub each_fails : (a b : Calls) → FailsEachAtLeast a b → Fails a b
each_fails a b h = (omega (arith, h), (h.0, (omega (arith, h), omega (arith, h), omega (arith, h))))

-- two puts failed
pub puts_fail : (a b : Calls) → FailsPutsAtLeast 2 a b → Fails a b
puts_fail a b h = (omega (arith, h), h.1)

each_once : (a b : Calls) → FailsEach a b → Fails a b
each_once a b h =
    (omega (arith, h), ((omega (arith, h), omega (arith, h), omega (arith, h)), (omega (arith, h), omega (arith, h), omega (arith, h))))

no_put_grows : (a b : Calls) → FailsNoPut a b → Grows a b
no_put_grows a b h = ((omega (arith, h), omega (arith, h), omega (arith, h)), h.1)

-- content was not put
pub put_fails : (T : Type 0) (f : StoredFault) (a b : Calls) → FailsPut {T = T} (Err f) a b → FailsLogged (Err (unlogged_of_put f)) a b
put_fails T stored.Busy a b (inl h) = each_fails a b h
put_fails T stored.Busy a b (inr h) = puts_fail a b h
put_fails T stored.NoMemory a b h = h

-- a change was not logged, after its content was put
pub log_fails : (f : TakeFault) (d : KeyedAct) (before after : ℕ) (a b c : Calls) → Grows a b → FailsLog (Err f) before after b c → FailsLogged (Err (unlogged_by f d)) a c
log_fails take.Doubt d before after a b c g h = fails_later a b c g (each_fails b c h.1)
log_fails take.Busy d before after a b c g (inl h) = fails_later a b c g (each_once b c h.1)
log_fails take.Busy d before after a b c g (inr h) = fails_later a b c g (puts_fail b c h.1)
log_fails take.NoMemory d before after a b c g h = grows_twice a b c g (grows_not b c h)

-- a settle
pub settle_grows : (e : Settled) (a b : Calls) → FailsSettle (Ok e) a b → Grows a b
settle_grows settled.Clean a b h = grows_not a b h
settle_grows (settled.Kept p) a b h = no_put_grows a b h
settle_grows settled.Dropped a b h = no_put_grows a b h

pub settle_fails : (T : Type 0) (f : StoredFault) (a b : Calls) → FailsSettle (Err f) a b → FailsStored {T = T} (Err f) a b
settle_fails T stored.Busy a b h = each_once a b h
settle_fails T stored.NoMemory a b h = grows_not a b h

-- a seal
pub seal_grows : (u : Unit {0}) (a b : Calls) → FailsSeals (Ok u) a b → Grows a b
seal_grows u a b h = no_put_grows a b h

pub seal_fails : (T : Type 0) (f : StoredFault) (a b : Calls) → FailsSeals (Err f) a b → FailsStored {T = T} (Err f) a b
seal_fails T stored.Busy a b h = each_fails a b h.1
seal_fails T stored.NoMemory a b h = no_put_grows a b h

-- a load
abbrev failed : (T : Type 0) → ReadFault → Result T ReadFault
failed T f = Err f

pub load_fails : (T U : Type 0) (f : ReadFault) (a b : Calls) → (failed T f ≡ failed T read.Unreachable → all_faults a < all_faults b) → Grows a b
    → FailsStored {T = U} (Err (stored_fault_of_read f)) a b
load_fails T U read.Unreachable a b h g = (h refl, g)
load_fails T U read.NoMemory a b h g = g
