-- The front of each container: its accepted changes among the entries of a history (Delegating Access with a Shared Access Signature:
-- revoking access). The front of a connection is the stamp's own.
use Rattle.std.specs.Prelude.{ℕ, List, [], ◌∷◌}
use Rattle.std.specs.FinMap as finite
use Rattle.stamp_values.specs.declared.key.Key.{Key}
use Rattle.stamp_types.specs.Requests.{Asked}
use Rattle.stamp_model.specs.AcceptedRequests.{accepted_at}
use Rattle.stamp_model.specs.Runs.{Timed}
use Rattle.served_history.specs.declared.entry.Entry.{Entry}
use Rattle.served_history.specs.Histories.{served_requests, timed_at, world_left}

-- the front of the container of this key: the requests of the entries that changed the container, in their order
abbrev pub front_at : List Entry → Key → List Timed
front_at log key = accepted_at key finite.empty (served_requests log)

-- the request at this moment, if it changes its container after these entries
abbrev pub own_change : List Entry → Asked → ℕ → List Timed
own_change log q t = accepted_at q.ask.key (world_left log) (timed_at log q t ∷ [])
