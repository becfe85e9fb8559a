-- The reading of a block list as a function.
use Rattle.std.specs.Prelude.{ℕ, if◌then◌else◌, List, codes, bytes_eq, Option, Some, None, option_map}
use Rattle.stamp_values.specs.declared.block.Lookup.{Lookup}
use Rattle.stamp_values.specs.declared.block.Lookup.TheVariants.{Latest, Committed, Uncommitted}
use Rattle.xml_text.specs.Tokens.{Tag}
use Rattle.xml_text.specs.Reading.{Read, ◌>>=◌}
use Rattle.xml_text.specs.ElementReading.{value_of, content_at, inner_at, root_of}
use Rattle.xml_text.specs.FrontReading.{body_of}
use Rattle.body_forms.specs.declared.elements.Element as code
use Rattle.body_forms.specs.BlockLists.{Entry, list_name}

-- the entry that an element of the code is
abbrev pub entry_view : code.Element → Entry
entry_view e = record { lookup = e.lookup; id_text = value_of e.written.now }

-- where a block is looked for, by the name of the element
abbrev pub lookup_of : List ℕ → Option Lookup
lookup_of name =
    if bytes_eq name (codes "Committed") then Some Committed
    else if bytes_eq name (codes "Uncommitted") then Some Uncommitted
    else if bytes_eq name (codes "Latest") then Some Latest
    else None

-- the entry that begins with this tag
unfoldable pub entry_at : Tag → List ℕ → Read Entry
entry_at tag t =
    lookup_of tag.name
    >>= (λ lookup. option_map (λ x. (record { lookup = lookup; id_text = x.0 }, x.1)) (content_at tag.kind tag.name t))

-- the entries of the block list that the text is
abbrev pub entries_of : List ℕ → Option (List Entry)
entries_of t = root_of (inner_at list_name entry_at) t

-- the entries of the block list that the body is
abbrev pub body_entries : List ℕ → Option (List Entry)
body_entries body = body_of entries_of body
