-- What a slot keeps, and what its streams mean (Calder et al., SOSP 2011, section 5: a range partition, its commit log and its data). That
-- a change may be in doubt is the stamp's own.
use Rattle.std.specs.Prelude.{◌≡◌, ◌≤◌, ℕ, true, Option, Some, None}
use Rattle.stamp_values.specs.Operations.{names_container}
use Rattle.stamp_values.specs.declared.key.Key.{Key}
use Rattle.stamp_types.specs.Changes.{KeyedAct}
use Rattle.stamp_types.specs.declared.past.Past.{Past}
use Rattle.stamp_types.specs.Requests.{Asked}
use Rattle.range_rows.specs.RequestChanges.{change_of}
use Rattle.range_rows.specs.SentContent.{sizes}
use Rattle.stamp_model.specs.Histories.{IsLegal, NoneIsLater, pair_of}
use Rattle.stamp_model.specs.Refusals.{refusal}
use Rattle.stored_rows.specs.Ranges.{covers}
use Rattle.stored_rows.specs.States.{IsInDoubt, Stored, bytes_of, own_doubt_of}
use Rattle.slot_state.specs.HistoryMaps.{Histories, history_at}
use Rattle.slot_state.specs.Pairs.{AreNumbered, Pairs, current_at, epoch_of, pairs_at}
use Rattle.slot_state.specs.Slots.{SlotState, replayed_at}

-- a slot of these key pairs and histories, with the range of these rows and this doubt
abbrev pub slot_with : Pairs → Histories → Stored → Option Past → SlotState
slot_with pairs h s doubt = record { histories = h; pairs = pairs; from = s.range.from; to = s.range.to; doubt = doubt }

-- Of each container: if it is in the range, it is in bytes what its history replays to; the history is legal under the pairs of its
-- account; and no entry is of a later epoch than the pair in force. The pairs are numbered
pub record AreReplays (pairs : Pairs) (h : Histories) (s : Stored) : Type 0 where
  pub numbered : AreNumbered pairs
  pub bytes : (key : Key) → covers s.range key ≡ true → bytes_of s key ≡ replayed_at pairs h key
  pub legal : (key : Key) → IsLegal (pairs_at pairs key.account) key (history_at h key)
  pub latest : (key : Key) → NoneIsLater (epoch_of (current_at pairs key.account)) (history_at h key)

-- The request of the entry makes this change of a container of the range, as the container's history leaves it, and nothing refuses the
-- request by the pair of the entry's epoch. That epoch is not later than the pair in force, and no entry of the container is later
pub record MakesChange (pairs : Pairs) (h : Histories) (s : Stored) (e : Past) (c : KeyedAct) : Type 0 where
  pub makes : change_of (sizes (replayed_at pairs h e.request.ask.key)) e.request e.moment ≡ Some c
  pub allowed : refusal (pair_of (pairs_at pairs e.request.ask.key.account) e.epoch) (sizes (replayed_at pairs h e.request.ask.key)) e.request e.moment ≡ None
  pub covered : covers s.range e.request.ask.key ≡ true
  pub known : e.epoch ≤ epoch_of (current_at pairs e.request.ask.key.account)
  pub last : NoneIsLater e.epoch (history_at h e.request.ask.key)

-- nothing refuses a request that names a container, by the pair in force and from the container as its history leaves it
abbrev pub NothingRefuses : Pairs → Histories → Asked → ℕ → Type 0
NothingRefuses pairs h q t =
    names_container q.ask.op ≡ true → refusal (current_at pairs q.ask.key.account) (sizes (replayed_at pairs h q.ask.key)) q t ≡ None

-- an entry is in doubt: its request makes a change, and the streams have this change in doubt
pub record IsDoubted (pairs : Pairs) (h : Histories) (s : Stored) (e : Past) : Type 0 where
  pub change : KeyedAct
  pub makes : MakesChange pairs h s e change
  pub tried : IsInDoubt (change, e.epoch) s

-- The streams have a change in doubt if and only if the slot has, and it is the slot's. A row that a sweep has written may be in doubt beside: it
-- changes no container, whether it is kept or not
abbrev pub HasDoubt : Pairs → Histories → Stored → Option Past → Type 0
HasDoubt pairs h s None = own_doubt_of s ≡ None
HasDoubt pairs h s (Some e) = IsDoubted pairs h s e

-- what is true of every slot over streams
pub record AreOfStreams (pairs : Pairs) (h : Histories) (s : Stored) (doubt : Option Past) : Type 0 where
  pub replays : AreReplays pairs h s
  pub doubted : HasDoubt pairs h s doubt
