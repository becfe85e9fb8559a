-- What a script has, gives and counted.
use Rattle.std.specs.Prelude.{◌≡◌, ◌⊎◌, ℕ, ◌+◌, Bool, true, List, [], ◌∷◌, ◌++◌, length, min}
use Rattle.std.specs.List.{slice_get}
use Rattle.std.specs.Option.{unwrap_or}
use Rattle.extent_node.specs.Faults.{Calls, Counts}
use Rattle.extent_node.specs.declared.script.Tally.{Tally}
use Rattle.extent_node.specs.declared.wire.Delivery.{Delivery}
use Rattle.extent_node.specs.declared.wire.Delivery.TheVariants as delivery
use Rattle.extent_node.specs.declared.wire.Call.{Call}

-- the three numbers of a tally
abbrev pub counts_of : Tally → Counts
counts_of t = record { zero = t.zero; one = t.one; two = t.two }

-- the numbers together
abbrev pub total : Tally → ℕ
total t = t.zero + t.one + t.two

-- nothing was counted
abbrev pub no_counts : Counts
no_counts = record { zero = 0; one = 0; two = 0 }

-- no put and no ask was counted
abbrev pub no_calls : Calls
no_calls = record { puts = no_counts; asks = no_counts }

-- the lists of a script and how much of each it gave, the calls that it kept, and what it counted
pub record Scripted : Type 0 where
  pub puts : List Delivery
  pub put_count : ℕ
  pub asks : List Bool
  pub ask_count : ℕ
  pub called : List Call
  pub calls : Calls
  pub faults : Calls

-- a script that gave nothing yet
abbrev pub new_script : List Delivery → List Bool → Scripted
new_script puts asks = record { puts = puts; put_count = 0; asks = asks; ask_count = 0; called = []; calls = no_calls; faults = no_calls }

-- the delivery that is next in the list, or Done after its end
abbrev pub next_put : Scripted → Delivery
next_put s = unwrap_or (slice_get s.puts s.put_count) delivery.Done

-- the answer that is next in the list, or yes after its end
abbrev pub next_ask : Scripted → Bool
next_ask s = unwrap_or (slice_get s.asks s.ask_count) true

-- one more of a list was given, if there was one
abbrev pub given_more : {X : Type 0} → List X → ℕ → ℕ
given_more xs n = min (n + 1) (length xs)

-- the call is the last one of the list, or memory ran out for it
abbrev pub IsNoted : Call → List Call → List Call → Type 0
IsNoted call old new = (new ≡ old ++ call ∷ []) ⊎ (new ≡ old)
