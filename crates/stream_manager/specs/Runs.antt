-- Runs of a stream: any list of appends, settles, seals, repairs, shares and give-ups, over any wire (SOSP 2011, section 4.3).
use Rattle.std.specs.Prelude.{◌≡◌, ◌≤◌, ◌<◌, ◌⊎◌, ℕ, Result, List, [], ◌∷◌}
use Rattle.stamp_values.specs.declared.place.Place.{Place}
use Rattle.extent_node.specs.Copies.{Block}
use Rattle.stream_manager.specs.GivenUp.{GivesUp, GivesUpFront}
use Rattle.stream_manager.specs.Outcomes.{IsAppend, IsSettled, IsSealed}
use Rattle.stream_manager.specs.Streams.{Streamed, laid}
use Rattle.stream_manager.specs.declared.faults.AppendFault.{AppendFault}
use Rattle.stream_manager.specs.declared.faults.Settled.{Settled}
use Rattle.stream_manager.specs.declared.faults.StoredFault.{StoredFault}

-- an append, with any answer
abbrev pub IsAppendStep : Streamed → Streamed → Type 0
IsAppendStep s t = (r : Result Place AppendFault) × ((block : Block) × IsAppend r (laid s) s.last block (laid t) t.last)

-- a settle, with any answer
abbrev pub IsSettleStep : Streamed → Streamed → Type 0
IsSettleStep s t = (r : Result Settled StoredFault) × IsSettled r (laid s) s.last (laid t) t.last

-- a seal, with any answer
abbrev pub IsSealStep : Streamed → Streamed → Type 0
IsSealStep s t = (r : Result (Unit {0}) StoredFault) × IsSealed r (laid s) s.last (laid t) t.last

-- a repair or a share, with any answer: the blocks of each extent and the doubt are as they were
pub record KeepsBlocks (s t : Streamed) : Type 0 where
  pub blocks : laid t ≡ laid s
  pub last : t.last ≡ s.last

-- one call that gives up no extent
abbrev pub IsStep : Streamed → Streamed → Type 0
IsStep s t = IsAppendStep s t ⊎ (IsSettleStep s t ⊎ (IsSealStep s t ⊎ KeepsBlocks s t))

-- a call that gives up no extent from a number on: any other call, or a give-up of extents before this number
abbrev pub IsCallFrom : ℕ → Streamed → Streamed → Type 0
IsCallFrom from s t = IsStep s t ⊎ (((e : ℕ) × ((e < from) × GivesUp e s t)) ⊎ ((n : ℕ) × ((n ≤ from) × GivesUpFront n s t)))

-- such calls one after the other, with the stream after each of them
abbrev pub IsRunFrom : ℕ → Streamed → List Streamed → Type 0
IsRunFrom from s [] = Unit {0}
IsRunFrom from s (t ∷ ts) = IsCallFrom from s t × IsRunFrom from t ts

-- the stream at the end of a run
abbrev pub end_of : Streamed → List Streamed → Streamed
end_of s [] = s
end_of s (t ∷ ts) = end_of t ts
