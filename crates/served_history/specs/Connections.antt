-- What a connection reads of the history (Calder et al., SOSP 2011, section 5; RFC 9112, section 9.3).
use Rattle.std.specs.Prelude.{ℕ, ◌≡◌, ◌⊎◌, List, [], ◌∷◌, ◌++◌, flat_map}
use mathlib.Core.List.{IsPrefix}
use Rattle.stamp_types.specs.declared.reply.Reply.{Reply}
use Rattle.stamp_types.specs.Requests.{Asked}
use Rattle.stamp_types.specs.World.{World}
use Rattle.stamp_model.specs.Runs.{Timed, world_after_one, reply_to_one}
use Rattle.request_form.specs.HeadForms.{with_body}
use Rattle.http_front.specs.Conversations.{Exchange}
use Rattle.http_front.specs.Conversations.Exchange.{Answered, RefusedAt}
use Rattle.served_history.specs.declared.entry.Entry.{Entry}
use Rattle.served_history.specs.declared.entry.Entry.TheVariants.{Served}
use Rattle.served_history.specs.Histories.{IsServed, served_requests, world_left}

-- a request, and the moment at which it is answered
pub record Entered : Type 0 where
  pub request : Asked
  pub moment : ℕ

-- a request that is answered at this moment
abbrev pub entered : Asked → ℕ → Entered
entered q t = record { request = q; moment = t }

-- a request at its moment, and the reply to it
abbrev pub Call : Type 0
Call = Entered × Reply

-- the call of an exchange; a head that is refused makes no call
abbrev pub call_of : Exchange → List Call
call_of (Answered form body moment reply) = (entered (with_body form body) moment, reply) ∷ []
call_of (RefusedAt denial moment) = []

-- the calls of a connection, in their order
abbrev pub calls_of : List Exchange → List Call
calls_of exchanges = flat_map call_of exchanges

-- the call of a request that was served so: its reply is the model's
abbrev pub call_at : World (List ℕ) → Timed → Call
call_at w r = (entered r.request r.moment, reply_to_one w r)

-- the requests as calls, each with the model's reply at its place in the history
abbrev pub calls_along : World (List ℕ) → List Timed → List Call
calls_along w [] = []
calls_along w (r ∷ rs) = call_at w r ∷ calls_along (world_after_one w r) rs

-- the second list has all elements of the first list, in their order, with others between them
abbrev pub IsAmong : {X : Type 0} → List X → List X → Type 0
IsAmong [] ys = Unit {0}
IsAmong {X} (x ∷ xs) ys = (before : List X) × (after : List X) × (ys ≡ before ++ x ∷ after) × IsAmong xs after

-- What a connection knew of the history was continued by these entries. Among their requests are the connection's own calls, in their
-- order, each with the model's reply at its place.
pub record ReadsHistory (known : List Entry) (calls : List Call) (known' : List Entry) : Type 0 where
  pub entries : List Entry
  pub continued : known' ≡ known ++ entries
  pub own : IsAmong calls (calls_along (world_left known) (served_requests entries))

-- the connection knows what it knew, or one request of its own was entered after what it knew
abbrev pub AddsOneAtMost : List Entry → List Entry → Type 0
AddsOneAtMost known known' = (known' ≡ known) ⊎ ((q : Asked) × (t : ℕ) × (reply : Reply) × IsServed known q t reply known')

-- both are beginnings of one history
abbrev pub AreOfOneHistory : List Entry → List Entry → Type 0
AreOfOneHistory one other = (history : List Entry) × IsPrefix one history × IsPrefix other history

-- The history that is known has an entry of the earlier call, and after it one of the later call. The earlier call has the model's reply
-- after the entries before its own. The later call has the model's reply after all entries before its own.
pub record IsReadAfter (known : List Entry) (earlier later : Call) : Type 0 where
  pub before : List Entry
  pub between : List Entry
  pub after : List Entry
  pub slot : ℕ
  pub later_slot : ℕ
  pub first : Timed
  pub second : Timed
  pub known_is : known ≡ before ++ Served slot first ∷ (between ++ Served later_slot second ∷ after)
  pub first_is : earlier ≡ call_at (world_left before) first
  pub second_is : later ≡ call_at (world_left (before ++ Served slot first ∷ between)) second
