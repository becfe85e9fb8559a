-- The string to sign of a request (Blob service REST reference, 2012-02-12, Authentication for the Azure Storage
-- Services: Shared Key, versions 2009-09-19 and later).
use Rattle.std.specs.Prelude.{ℕ, Bool, ◌&&◌, if◌then◌else◌, List, [], ◌∷◌, ◌++◌, map, filter, take, bytes_eq, codes}
use Rattle.std.specs.List.{flat_map, join_with_byte}
use Rattle.std.specs.Option.{option_map_or}
use Rattle.std.specs.FinMap.{entries, from_entries}
use Rattle.stamp_values.specs.Ascii.{line_feed, comma, slash, colon}
use Rattle.stamp_values.specs.Fields.{is_sent, first_value, trimmed, standard_names}
use Rattle.stamp_values.specs.Order.{name_cmp}
use Rattle.stamp_values.specs.declared.verb.Verb.{Verb}
use Rattle.stamp_values.specs.declared.verb.Verb.TheVariants as verb
use Rattle.stamp_values.specs.declared.signing.Field.{Field}
use Rattle.stamp_values.specs.declared.signing.Signing.{Signing}
use Rattle.shared_key.specs.Arranged.{in_order}

-- a name and a value
abbrev pub Pair : Type 0
Pair = List ℕ × List ℕ

-- the verb as the request line writes it
abbrev pub verb_text : Verb → List ℕ
verb_text verb.Get = codes "GET"
verb_text verb.Head = codes "HEAD"
verb_text verb.Put = codes "PUT"
verb_text verb.Delete = codes "DELETE"

-- the name and the value of a field
abbrev pub field_pair : Field → Pair
field_pair f = (f.name, f.value)

-- the line of a standard header: its first value, trimmed. It is empty if the header was not sent, and the line of the date is
-- also empty if x-ms-date was sent
abbrev pub standard_value : List Field → List ℕ → List ℕ
standard_value headers name =
    if bytes_eq name (codes "date") && is_sent headers (codes "x-ms-date") then []
    else option_map_or trimmed (first_value headers name) []

-- the lines of standard headers, each ended by LF
abbrev pub standard_lines : List Field → List (List ℕ) → List ℕ
standard_lines headers names = flat_map (λ name. standard_value headers name ++ line_feed ∷ []) names

-- a header of the service: its name begins with `x-ms-`
abbrev pub is_ms : Field → Bool
is_ms header = bytes_eq (take 5 header.name) (codes "x-ms-")

-- each name once, with its first value, in the order of the bytes of the names
abbrev pub by_name : List Field → List Pair
by_name headers = entries (from_entries {R = name_cmp} (map field_pair headers))

-- the line of a header of the service: name, colon, trimmed value, LF
abbrev pub header_line : Pair → List ℕ
header_line p = p.0 ++ colon ∷ trimmed p.1 ++ line_feed ∷ []

-- the headers of the service, with one line for each name
abbrev pub canonicalized_headers : List Field → List ℕ
canonicalized_headers headers = flat_map header_line (by_name (filter is_ms headers))

-- the values under a name, in the order of the list
abbrev pub values_of : List Pair → List ℕ → List (List ℕ)
values_of ps name = map (λ p. p.1) (filter (λ p. bytes_eq p.0 name) ps)

-- each name once, with all its values in order; the names are in the order of their bytes
abbrev pub values_by_name : List Pair → List (List ℕ × List (List ℕ))
values_by_name ps = entries (from_entries {R = name_cmp} (map (λ p. (p.0, in_order name_cmp (values_of ps p.0))) ps))

-- the line of a name: LF, name, colon, the values joined by commas
abbrev pub parameter_line : List ℕ × List (List ℕ) → List ℕ
parameter_line g = line_feed ∷ g.0 ++ colon ∷ join_with_byte comma g.1

-- the parameters, with one line for each name
abbrev pub canonicalized_query : List Field → List ℕ
canonicalized_query query = flat_map parameter_line (values_by_name (map field_pair query))

-- the resource: the account, the path as it was sent, and the parameters
abbrev pub canonicalized_resource : Signing → List ℕ → List ℕ
canonicalized_resource s account = slash ∷ account ++ s.path ++ canonicalized_query s.query

-- the string to sign: the verb, the standard headers, the headers of the service, and the resource
unfoldable pub key_string : Signing → List ℕ → List ℕ
key_string s account =
    verb_text s.verb ++ line_feed ∷ []
    ++ standard_lines s.headers standard_names
    ++ canonicalized_headers s.headers
    ++ canonicalized_resource s account
