-- Requests that are answered in turn, each by the key pair that is in force at its moment (Calder et al., SOSP 2011, section 5: the
-- changes of a partition are made one after the other).
use Rattle.std.specs.Prelude.{◌≡◌, ℕ, List, [], ◌∷◌, ◌++◌, length, Option, Some, None}
use Rattle.std.specs.List.{fold}
use Rattle.stamp_values.specs.declared.key.Key.{Key}
use Rattle.stamp_values.specs.declared.op.Op.{Op}
use Rattle.stamp_types.specs.declared.reply.Reply.{Reply}
use Rattle.stamp_types.specs.Requests.{Asked}
use Rattle.stamp_types.specs.World.{Part, World, part_at}
use Rattle.access_rules.specs.declared.keys.Keys.{Keys}
use Rattle.access_rules.specs.Routes.{Admits}
use Rattle.row_trees.specs.Access.{acl_of}
use Rattle.stamp_model.specs.Effects.{change, effect}
use Rattle.stamp_model.specs.Responses.{reply}

-- a request, the moment at which it is answered, the key pair of its account that is in force then, and the first key that it does
-- not list
pub record Timed : Type 0 where
  pub request : Asked
  pub moment : ℕ
  pub keys : Option Keys
  pub bound : Option Key

-- a request that is answered at this moment by this key pair, and that lists to the end
abbrev pub timed : Keys → Asked → ℕ → Timed
timed keys q t = record { request = q; moment = t; keys = Some keys; bound = None }

-- the container after a request on it
abbrev pub part_after_one : Part (List ℕ) → Timed → Part (List ℕ)
part_after_one p r = change r.keys p r.request r.moment

-- the container after requests on it in turn
abbrev pub part_after_all : Part (List ℕ) → List Timed → Part (List ℕ)
part_after_all p rs = fold part_after_one p rs

-- the containers after a request
abbrev pub world_after_one : World (List ℕ) → Timed → World (List ℕ)
world_after_one w r = effect r.keys w r.request r.moment

-- the containers after all requests in turn
abbrev pub world_after_all : World (List ℕ) → List Timed → World (List ℕ)
world_after_all w rs = fold world_after_one w rs

-- the reply to a request
abbrev pub reply_to_one : World (List ℕ) → Timed → Reply
reply_to_one w r = reply r.keys w r.request r.moment r.bound

-- the replies to all requests in turn; each reply follows from what the requests before it left
abbrev pub replies_to : World (List ℕ) → List Timed → List Reply
replies_to w [] = []
replies_to w (r ∷ rs) = reply_to_one w r ∷ replies_to (world_after_one w r) rs

-- The requests of the front, then this request, then the rest are answered by these replies. The answer is the reply to this
-- request: as many replies come before the answer as requests come before this request.
pub record AreAnswered (w : World (List ℕ)) (front : List Timed) (r : Timed) (rest : List Timed) (before : List Reply) (answer : Reply) (after : List Reply) : Type 0 where
  pub replies : replies_to w (front ++ r ∷ rest) ≡ before ++ answer ∷ after
  pub position : length before ≡ length front

-- permission admits the request, as the containers are then: by the account's keys, or by what its container gives to all callers
abbrev pub IsAdmitted : World (List ℕ) → Timed → Type 0
IsAdmitted w r = Admits r.keys (acl_of (part_at w r.request.ask.key)) r.request.ask.credential r.request.ask r.moment

-- the request is of this operation, in this container
pub record IsIn (o : Op) (key : Key) (q : Asked) : Type 0 where
  pub op : q.ask.op ≡ o
  pub container : q.ask.key ≡ key

-- the request is of this operation, on the blob of this name in this container
pub record IsOn (o : Op) (key : Key) (name : List ℕ) (q : Asked) : Type 0 where
  pub op : q.ask.op ≡ o
  pub container : q.ask.key ≡ key
  pub blob : q.ask.blob ≡ Some name
