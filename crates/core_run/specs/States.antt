-- The state of the machine (Calder et al., SOSP 2011, sections 4 and 5), and what steps make of it. Its history, its doubts and its
-- tickets are the stamp's own.
use Rattle.std.specs.Prelude.{ℕ, nat_lt, Bool, not, List, [], ◌∷◌, ◌++◌, length, map, Option, Some, None, slice_get, slice_set}
use Rattle.std.specs.FinMap as finite
use Rattle.std.specs.Option.{option_and_then}
use Rattle.stamp_values.specs.declared.key.Key.{Key}
use Rattle.stamp_types.specs.declared.past.Past.{Past}
use Rattle.stamp_types.specs.declared.reply.Reply.{Reply}
use Rattle.stamp_types.specs.Changes.{KeyedAct}
use Rattle.stamp_types.specs.Requests.{Asked}
use Rattle.stamp_types.specs.World.{World, part_at}
use Rattle.access_rules.specs.declared.keys.Keys.{Keys}
use Rattle.range_rows.specs.SentContent.{sizes}
use Rattle.partition_map.specs.Spans.{bound_at, slot_of, with_point, with_two}
use Rattle.stamp_model.specs.AcceptedRequests.{timed_by}
use Rattle.stamp_model.specs.Effects.{accepted}
use Rattle.stamp_model.specs.Runs.{Timed, reply_to_one, world_after_one}
use Rattle.stamp_model.specs.SeenContainers.{routed}
use Rattle.slot_state.specs.Pairs.{Pairs, current_at, pairs_at}

-- A turn of the history: a request as it was served, and its reply. A change that was in doubt and was kept has no reply here: its
-- caller was told that the outcome was unknown
pub record Turn : Type 0 where
  pub served : Timed
  pub reply : Option Reply

-- The containers; the key pairs of the accounts; the split points of the spans; for each slot the change that is in doubt, if there is
-- one; for each ticket the reply that it holds, until the reply is fetched; and the history, which is all requests that were served, in
-- turn
pub record State : Type 0 where
  pub world : World (List ℕ)
  pub pairs : Pairs
  pub points : List Key
  pub doubts : List (Option Past)
  pub tickets : List (Option Reply)
  pub history : List Turn

-- the first state: no containers, one slot of all keys, no doubt, no ticket, and no history
abbrev pub opening : Pairs → State
opening pairs = record { world = finite.empty; pairs = pairs; points = []; doubts = None ∷ []; tickets = []; history = [] }

-- the requests of turns
abbrev pub requests : List Turn → List Timed
requests us = map (λ u. u.served) us

-- ---- requests

-- the slot that serves the request
abbrev pub slot_for : State → Asked → ℕ
slot_for s q = slot_of s.points (routed q)

-- the request as it is served in this state: by the key pair of its account that is in force, and up to the bound of its slot
abbrev pub timed_in : State → Asked → ℕ → Timed
timed_in s q t = record { request = q; moment = t; keys = current_at s.pairs q.ask.key.account; bound = bound_at s.points (routed q) }

-- the model's reply in this state
abbrev pub reply_in : State → Asked → ℕ → Reply
reply_in s q t = reply_to_one s.world (timed_in s q t)

-- the change that the request makes in this state
abbrev pub change_in : State → Asked → ℕ → Option KeyedAct
change_in s q t = accepted (current_at s.pairs q.ask.key.account) (sizes (part_at s.world q.ask.key)) q t

-- the state after a turn: the containers are those after its request
abbrev pub after_turn : State → Turn → State
after_turn s u = record s { world = world_after_one s.world u.served; history = s.history ++ u ∷ [] }

-- the state after the request was served
abbrev pub served : State → Asked → ℕ → State
served s q t = after_turn s (record { served = timed_in s q t; reply = Some (reply_in s q t) })

-- ---- tickets

-- the state with one more ticket, which holds this reply
abbrev pub with_ticket : State → Reply → State
with_ticket s r = record s { tickets = s.tickets ++ Some r ∷ [] }

-- the reply that the ticket of this number holds, if it was given and not fetched
abbrev pub held_by : State → ℕ → Option Reply
held_by s n = option_and_then (λ o. o) (slice_get s.tickets n)

-- the state in which the ticket has ended
abbrev pub without_ticket : State → ℕ → State
without_ticket s n = record s { tickets = slice_set s.tickets n None }

-- ---- doubts

-- the change of the slot that is in doubt, if there is one
abbrev pub slot_doubt : State → ℕ → Option Past
slot_doubt s i = option_and_then (λ o. o) (slice_get s.doubts i)

-- the state in which this change of the slot is in doubt
abbrev pub with_doubt : State → ℕ → Past → State
with_doubt s i e = record s { doubts = slice_set s.doubts i (Some e) }

-- the state after the doubt of the slot was dropped
abbrev pub dropped : State → ℕ → State
dropped s i = record s { doubts = slice_set s.doubts i None }

-- the change in doubt as a request: at the moment of its Serve, and by the key pair that was in force then
abbrev pub doubted : State → Past → Timed
doubted s e = timed_by (pairs_at s.pairs e.request.ask.key.account) e

-- the state after the doubt of the slot was kept
abbrev pub kept : State → ℕ → Past → State
kept s i e = after_turn (dropped s i) (record { served = doubted s e; reply = None })

-- ---- slots and accounts

-- a slot has this number
abbrev pub has_slot : State → ℕ → Bool
has_slot s i = not (nat_lt (length s.points) i)

-- the state in which the span of a slot is split at a key; neither half has a doubt
abbrev pub split : State → ℕ → Key → State
split s i middle = record s { points = with_point s.points i middle; doubts = with_two s.doubts i None None }

-- the state in which the account has one key pair more, which is in force
abbrev pub with_pair : State → List ℕ → Keys → State
with_pair s account pair = record s { pairs = finite.insert s.pairs account (pairs_at s.pairs account ++ pair ∷ []) }
