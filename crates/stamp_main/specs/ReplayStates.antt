-- Which requests the service of a replay served, at each end (the stamp's own).
use Rattle.std.specs.Prelude.{◌⊎◌, ℕ, List, [], ◌∷◌, ◌++◌, Result}
use Rattle.access_rules.specs.declared.keys.Keys.{Keys}
use Rattle.http_front.specs.declared.end.End.{End}
use Rattle.http_front.specs.declared.end.FrontFault.{FrontFault}
use Rattle.http_front.specs.Connections.{ConnectionState}
use Rattle.http_front.specs.Streams.{Item, BeginsWith}
use Rattle.http_front.specs.Streams.Item.{Requested}
use Rattle.request_form.specs.HeadForms.{Form}
use Rattle.core_run.specs.Cores.{CoreState, StandsFor}
use Rattle.core_service.specs.Services.{opening_of, served_in_turn}
use Rattle.stamp_main.specs.Replays.{ReplaysReceived, ReplayBreaksOff, ReplayEndsOutOfMemory, requests_of}

-- the core stands for the state after the requests among these items, served in turn at the moment, from that of a new stamp
abbrev pub IsAfterItems : Keys → ℕ → List Item → CoreState → Type 0
IsAfterItems keys t items core = StandsFor core (served_in_turn (opening_of keys) (requests_of keys t items))

-- the requests among these items were served; or these and one request more, with which the bytes after the items begin
abbrev pub IsAfterOneMoreAtMost : Keys → ℕ → List Item → List ℕ → CoreState → Type 0
IsAfterOneMoreAtMost keys t items rest core =
    IsAfterItems keys t items core
    ⊎ ((form : Form) × (body : List ℕ) × (later : List ℕ) × BeginsWith rest (Requested form body) later × IsAfterItems keys t (items ++ Requested form body ∷ []) core)

-- Of a replay that was not broken off, the requests among the items of the bytes that were read were served, and no others.
pub record ServesReceived (keys : Keys) (moment : ℕ) (from to : ConnectionState) (result : Result End FrontFault) (core : CoreState) : Type 0 where
  pub replays : ReplaysReceived keys moment from to result
  pub served : IsAfterItems keys moment replays.replays.items core

-- Of a replay for which memory ran out, the requests among the items that were answered in full were served, and one request more at most.
pub record ServesOutOfMemory (keys : Keys) (moment : ℕ) (from to : ConnectionState) (core : CoreState) : Type 0 where
  pub replays : ReplayEndsOutOfMemory keys moment from to
  pub served : IsAfterOneMoreAtMost keys moment replays.items replays.rest core

-- Of a replay that a failed write broke off, the requests among the items of whose output a beginning went out were served, and no others.
pub record ServesBrokenOff (keys : Keys) (moment : ℕ) (from to : ConnectionState) (core : CoreState) : Type 0 where
  pub replays : ReplayBreaksOff keys moment from to
  pub served : IsAfterItems keys moment replays.items core

-- A write failed: it broke off the output for the items, or the last bytes of a replay for which memory ran out.
abbrev pub ServesByWrite : Keys → ℕ → ConnectionState → ConnectionState → CoreState → Type 0
ServesByWrite keys moment from to core = ServesBrokenOff keys moment from to core ⊎ ServesOutOfMemory keys moment from to core
