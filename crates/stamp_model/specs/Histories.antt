-- The accepted changes of one container (Calder et al., SOSP 2011, section 5, a partition's commit log). What a history is, and
-- its epochs, are the stamp's own.
use Rattle.std.specs.Prelude.{◌≡◌, ◌≤◌, ℕ, nat_eq, Bool, true, false, List, ◌∷◌, ◌++◌, Option, None, IsSome, find, map, reverse}
use Rattle.std.specs.List.{fold}
use Rattle.stamp_values.specs.declared.key.Key.{Key}
use Rattle.stamp_values.specs.declared.op.Op.{Op}
use Rattle.stamp_values.specs.declared.op.Op.TheVariants as op
use Rattle.stamp_types.specs.declared.past.Past.{Past}
use Rattle.stamp_types.specs.World.{Part, no_part}
use Rattle.access_rules.specs.declared.keys.Keys.{Keys}
use Rattle.range_rows.specs.SentContent.{sizes}
use Rattle.range_rows.specs.RequestChanges.{change_of}
use Rattle.stamp_model.specs.Refusals.{refusal}
use Rattle.stamp_model.specs.Effects.{change}

-- the account's key pair of an epoch
abbrev pub pair_of : List Keys → ℕ → Option Keys
pair_of pairs epoch = find (λ pair. nat_eq pair.epoch epoch) pairs

-- the container after an entry, judged by the pair of its epoch
abbrev pub after_entry : List Keys → Part (List ℕ) → Past → Part (List ℕ)
after_entry pairs p e = change (pair_of pairs e.epoch) p e.request e.moment

-- the container after all entries in turn, from what it was before
abbrev pub replay_from : List Keys → Part (List ℕ) → List Past → Part (List ℕ)
replay_from pairs start history = fold (after_entry pairs) start history

-- the container after all entries in turn, from a container that never was
abbrev pub replay : List Keys → List Past → Part (List ℕ)
replay pairs history = replay_from pairs no_part history

-- in the history, the entry comes right after the entries of the front
abbrev pub IsEntryAfter : List Past → Past → List Past → Type 0
IsEntryAfter front e history = (rest : List Past) × (history ≡ front ++ e ∷ rest)

-- no entry of the history is of a later epoch than this epoch
abbrev pub NoneIsLater : ℕ → List Past → Type 0
NoneIsLater epoch history = (front : List Past) (e : Past) → IsEntryAfter front e history → e.epoch ≤ epoch

-- the entry changes the container as it is then: its request names the container and makes a change, and nothing refuses the request
-- by the pair of the entry's epoch
pub record IsAccepted (pairs : List Keys) (key : Key) (p : Part (List ℕ)) (e : Past) : Type 0 where
  pub own : e.request.ask.key ≡ key
  pub writes : IsSome (change_of (sizes p) e.request e.moment)
  pub allowed : refusal (pair_of pairs e.epoch) (sizes p) e.request e.moment ≡ None

-- each entry is accepted by what the entries before it left, and no entry has a lower epoch than an entry before it
pub record IsLegalFrom (pairs : List Keys) (key : Key) (start : Part (List ℕ)) (history : List Past) : Type 0 where
  pub accepted : (front : List Past) (e : Past) → IsEntryAfter front e history → IsAccepted pairs key (replay_from pairs start front) e
  pub epochs : (front between : List Past) (e later : Past) → IsEntryAfter (front ++ e ∷ between) later history → e.epoch ≤ later.epoch

-- the history is legal from a container that never was
abbrev pub IsLegal : List Keys → Key → List Past → Type 0
IsLegal pairs key history = IsLegalFrom pairs key no_part history

-- the operation makes a container or deletes it
abbrev pub makes_or_deletes : Op → Bool
makes_or_deletes op.CreateContainer = true
makes_or_deletes op.DeleteContainer = true
makes_or_deletes _ = false

-- the operations of the entries, in their order
abbrev pub operations : List Past → List Op
operations history = map (λ e. e.request.ask.op) history

-- the last operation of a history that makes the container or deletes it
abbrev pub last_making_or_deletion : List Past → Option Op
last_making_or_deletion history = find makes_or_deletes (reverse (operations history))
