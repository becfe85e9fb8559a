-- Lists of names and their pages (Blob service REST reference, 2012-02-12, "List Blobs", "List Containers"). A text that isn't given is empty.
use Rattle.std.specs.Prelude.{ℕ, Bool, List, [], ◌∷◌, take, cond, not, nat_eq, Option, None, Some}
use Rattle.std.specs.List.{filter, filter_map, slice_get}
use Rattle.std.specs.Option.{option_map}
use Rattle.std.specs.Cmp.Lexicographic.{pointwise}
use Rattle.stamp_values.specs.Trees.{is_name_from}
pub use Rattle.body_forms.specs.ListEntries.{Entry}
use Rattle.list_pages.specs.Names.{begins_with, group_of}

-- the entry of a name: its group, if it has a group, and otherwise the name itself
abbrev pub entry_by : {X : Type 0} → Option (List ℕ) → List ℕ × X → Entry X
entry_by None e = (e.0, Some e.1)
entry_by (Some group) e = (group, None)

-- the entry under which a name is listed, if the name begins with the prefix
abbrev pub entry_of : {X : Type 0} → List ℕ → List ℕ → List ℕ × X → Option (Entry X)
entry_of prefix delimiter e = cond (begins_with e.0 prefix) (Some (entry_by (group_of prefix delimiter e.0) e)) None

-- the entry has another text
abbrev pub is_other : {X : Type 0} → List ℕ → Entry X → Bool
is_other text entry = not (pointwise nat_eq entry.0 text)

-- the entries with each text once: the first entry of each text
abbrev pub each_once : {X : Type 0} → List (Entry X) → List (Entry X)
each_once [] = []
each_once (entry ∷ entries) = entry ∷ filter (is_other entry.0) (each_once entries)

-- the whole list: the entries of the names, each text once
abbrev pub listed : {X : Type 0} → List ℕ → List ℕ → List (List ℕ × X) → List (Entry X)
listed prefix delimiter names = each_once (filter_map (entry_of prefix delimiter) names)

-- the entries at or past the marker
abbrev pub from_marker : {X : Type 0} → List ℕ → List (Entry X) → List (Entry X)
from_marker marker entries = filter (λ entry. is_name_from marker entry.0) entries

-- a page whose entries have this type, and the text of the first entry that it leaves out, if it leaves an entry out
pub record PageWith (E : Type 0) : Type 0 where
  pub entries : List E
  pub next : Option (List ℕ)

-- a page of a list
abbrev pub PageOf : Type 0 → Type 0
PageOf X = PageWith (Entry X)

-- the first `max` entries
abbrev pub page : {X : Type 0} → ℕ → List (Entry X) → PageOf X
page max entries = record { entries = take max entries; next = option_map (λ entry. entry.0) (slice_get entries max) }

-- the names of which something is shown, each with what is shown of it
abbrev pub with_value : {K X Y : Type 0} → (X → Option Y) → List (K × X) → List (K × Y)
with_value has names = filter_map (λ e. option_map (λ value. (e.0, value)) (has e.1)) names

-- a page of the names of which something is shown: the first `max` entries of their list at or past the marker
abbrev pub page_of_names : {X Y : Type 0} → (X → Option Y) → List ℕ → List ℕ → List ℕ → ℕ → List (List ℕ × X) → PageOf Y
page_of_names has prefix delimiter marker max names = page max (from_marker marker (listed prefix delimiter (with_value has names)))
