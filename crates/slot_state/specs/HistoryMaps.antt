-- The accepted changes of each container (Calder et al., SOSP 2011, section 5: the commit log of a range partition).
use Rattle.std.specs.Prelude.{◌≢◌, List, [], ◌∷◌, ◌++◌, Some, unwrap_or}
use Rattle.std.specs.FinMap as finite
use Rattle.std.specs.FinMap.{FinMap}
use Rattle.stamp_values.specs.Order.{key_cmp}
use Rattle.stamp_values.specs.declared.key.Key.{Key}
use Rattle.stamp_types.specs.declared.past.Past.{Past}

-- the accepted changes of each container by its key
abbrev pub Histories : Type 0
Histories = FinMap key_cmp (List Past)

-- the accepted changes of the container of this key
abbrev pub history_at : Histories → Key → List Past
history_at h key = unwrap_or (finite.get h key) []

-- no list is empty: a container without accepted changes has no list
abbrev pub NoneIsEmpty : Histories → Type 0
NoneIsEmpty h = (key : Key) → finite.get h key ≢ Some []

-- the histories with one more entry, which is the last of its container
abbrev pub with_entry : Histories → Past → Histories
with_entry h e = finite.insert h e.request.ask.key (history_at h e.request.ask.key ++ e ∷ [])

-- a list without its last entry
abbrev pub front : List Past → List Past
front [] = []
front (e ∷ []) = []
front (e ∷ d ∷ es) = e ∷ front (d ∷ es)

-- the histories with this list of the key's container; an empty list is none
abbrev pub with_history : Histories → Key → List Past → Histories
with_history h key [] = finite.remove h key
with_history h key (e ∷ es) = finite.insert h key (e ∷ es)

-- the histories without the last entry of the key's container
abbrev pub without_last : Histories → Key → Histories
without_last h key = with_history h key (front (history_at h key))
