-- Faults that are counted over rows that are written one after the other.
use Rattle.std.proofs.Common.{inl, inr, Result, Ok, Err, arith}
use Rattle.extent_node.specs.Faults.{Calls, Counts}
use Rattle.extent_seal.specs.Counting.{Grows, GrowsEach}
use Rattle.stream_manager.specs.declared.faults.StoredFault.{StoredFault}
use Rattle.stream_manager.specs.declared.faults.StoredFault.TheVariants as stored_fault
use Rattle.partition_stream.specs.Counting.{FailsPut}

each_twice : (a b c : Counts) → GrowsEach a b → GrowsEach b c → GrowsEach a c
each_twice a b c g f = (omega (arith, g, f), omega (arith, g, f), omega (arith, g, f))

-- numbers that grow twice
pub grows_twice : (a b c : Calls) → Grows a b → Grows b c → Grows a c
grows_twice a b c g f = (each_twice a.puts b.puts c.puts g.0 f.0, each_twice a.asks b.asks c.asks g.1 f.1)

-- nothing was counted
pub grows_none : (a : Calls) → Grows a a
grows_none a = ((omega arith, omega arith, omega arith), (omega arith, omega arith, omega arith))

-- the faults of a call, after those of the calls before it
pub put_later : {T : Type 0} (r : Result T StoredFault) (a b c : Calls) → Grows a b → FailsPut r b c → FailsPut r a c
put_later (Ok u) a b c g f = grows_twice a b c g f
put_later (Err stored_fault.Busy) a b c g (inl f) =
    inl (each_twice a.puts b.puts c.puts g.0 f.0, omega (arith, g, f), omega (arith, g, f), omega (arith, g, f))
put_later (Err stored_fault.Busy) a b c g (inr f) = inr (omega (arith, g, f), grows_twice a b c g f.1)
put_later (Err stored_fault.NoMemory) a b c g f = grows_twice a b c g f
