-- What a slot keeps of a range of keys, and what it does with a request (Calder et al., SOSP 2011, section 5: a range partition and
-- its commit log).
use Rattle.std.specs.Prelude.{◌≡◌, ℕ, Bool, true, false, ◌&&◌, if◌then◌else◌, List, [], Option, Some, None, is_some, refl}
use Rattle.std.specs.Coded.{Coded, code_by, coded×, coded_list, coded_option}
use Rattle.std.specs.FinMap as finite
use Rattle.stamp_values.specs.Trees.{is_below, is_from, key_code}
use Rattle.stamp_values.specs.declared.key.Key.{Key}
use Rattle.stamp_types.specs.Changes.{KeyedAct}
use Rattle.stamp_types.specs.contracts.past.Past as past
use Rattle.stamp_types.specs.declared.past.Past.{Past}
use Rattle.stamp_types.specs.declared.reply.Reply.{Reply}
use Rattle.stamp_types.specs.Requests.{Asked}
use Rattle.stamp_types.specs.World.{Part, World, part_at}
use Rattle.stamp_types.specs.WorldCodes.{text_code}
use Rattle.access_rules.specs.contracts.keys.Keys as keys
use Rattle.range_rows.specs.SentContent.{sizes}
use Rattle.stamp_model.specs.Effects.{accepted}
use Rattle.stamp_model.specs.Histories.{replay}
use Rattle.stamp_model.specs.Responses.{reply}
use Rattle.stamp_model.specs.SeenContainers.{is_between, is_seen, is_under}
use Rattle.slot_state.specs.HistoryMaps.{Histories, history_at, with_entry}
use Rattle.slot_state.specs.Pairs.{Pairs, pairs_at, current_at, epoch_of}

-- what a slot keeps: the accepted changes of each container, the key pairs, the first key of its range, the first key past its range, if
-- there is one, and the accepted change of which it is not known whether it was made, if there is one
pub record SlotState : Type 0 where
  pub histories : Histories
  pub pairs : Pairs
  pub from : Key
  pub to : Option Key
  pub doubt : Option Past

-- the code of key pairs
abbrev pub pairs_code : Coded Pairs
pairs_code = finite.code text_code (coded_list keys.the_row.coded)

-- the code of what a slot keeps
abbrev pub slot_code : Coded SlotState
slot_code =
    code_by (Histories × (Pairs × (Key × (Option Key × Option Past))))
    (coded× (finite.code key_code (coded_list past.the_row.coded)) (coded× pairs_code (coded× key_code (coded× (coded_option key_code) (coded_option past.the_row.coded)))))
    (λ s. (s.histories, (s.pairs, (s.from, (s.to, s.doubt))))) (λ p. record { histories = p.0; pairs = p.1.0; from = p.1.1.0; to = p.1.1.1.0; doubt = p.1.1.1.1 }) (λ _. refl)

-- the container of this key, as its history replays under the pairs of its account
abbrev pub replayed_at : Pairs → Histories → Key → Part (List ℕ)
replayed_at pairs h key = replay (pairs_at pairs key.account) (history_at h key)

-- the entry of a request that is served now, by the pair in force
abbrev pub entry_of : Pairs → Asked → ℕ → Past
entry_of pairs q t = record { request = q; moment = t; epoch = epoch_of (current_at pairs q.ask.key.account) }

-- the change that the request makes, from the container as its history replays
abbrev pub change_now : Pairs → Histories → Asked → ℕ → Option KeyedAct
change_now pairs h q t = accepted (current_at pairs q.ask.key.account) (sizes (replayed_at pairs h q.ask.key)) q t

-- the histories after a request: with its entry if it makes a change, and else as they were
abbrev pub histories_after : Pairs → Histories → Asked → ℕ → Histories
histories_after pairs h q t = if is_some (change_now pairs h q t) then with_entry h (entry_of pairs q t) else h

-- the slot after a request
abbrev pub slot_after : SlotState → Asked → ℕ → SlotState
slot_after s q t = record s { histories = histories_after s.pairs s.histories q t }

-- the world has each container that the reply depends on as its history replays
abbrev pub AgreesFor : Pairs → Histories → Asked → Option Key → World (List ℕ) → Type 0
AgreesFor pairs h q bound w = (key : Key) → is_seen q bound key ≡ true → part_at w key ≡ replayed_at pairs h key

-- the reply is the model's in each world that agrees with the histories on what the request sees
abbrev pub IsReplyFor : Pairs → Histories → Asked → ℕ → Option Key → Reply → Type 0
IsReplyFor pairs h q t bound r = (w : World (List ℕ)) → AgreesFor pairs h q bound w → r ≡ reply (current_at pairs q.ask.key.account) w q t bound

-- One step: the reply is the model's in each world that agrees with the histories on what the request sees; a change that is accepted
-- is the last entry of its container, and everything else stays.
pub record IsServed (s : SlotState) (q : Asked) (t : ℕ) (bound : Option Key) (r : Reply) (s' : SlotState) : Type 0 where
  pub reply : IsReplyFor s.pairs s.histories q t bound r
  pub after : s' ≡ slot_after s q t

-- the key is in the range of the slot
abbrev pub covers : SlotState → Key → Bool
covers s key = is_between s.from s.to key

-- a container whose key is outside of the range of the slot has no accepted changes in the slot
abbrev pub KeepsToRange : SlotState → Type 0
KeepsToRange s = (key : Key) → covers s key ≡ false → history_at s.histories key ≡ []

-- the key comes after the first key of the slot and before the end of its range, so that each half of the slot has a key
abbrev pub is_inside : SlotState → Key → Bool
is_inside s key = is_below key s.from && is_under s.to key

-- what the slot keeps of the keys before this key
abbrev pub lower_half : SlotState → Key → SlotState
lower_half s middle = record s { histories = finite.retain_keys s.histories (is_below middle); to = Some middle }

-- what the slot keeps of this key and of the keys after it. A doubt stays with the lower half
abbrev pub upper_half : SlotState → Key → SlotState
upper_half s middle = record s { histories = finite.retain_keys s.histories (is_from middle); from = middle; doubt = None }

-- a slot of all keys, without accepted changes
abbrev pub empty_slot : Pairs → SlotState
empty_slot pairs = record { histories = finite.empty; pairs = pairs; from = record { account = []; container = [] }; to = None; doubt = None }
