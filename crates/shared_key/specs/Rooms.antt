-- The room for a string to sign (Blob service REST reference, 2012-02-12, Authentication for the Azure Storage Services).
use Rattle.std.specs.Prelude.{ℕ, ◌+◌, ◌*◌, length, List}
use Rattle.stamp_values.specs.Fields.{fields_len}
use Rattle.stamp_values.specs.declared.signing.Field.{Field}
use Rattle.stamp_values.specs.declared.signing.Signing.{Signing}

-- room for each name and value, with two bytes more for each field: a colon and a line feed
abbrev pub fields_room : List Field → ℕ
fields_room fields = fields_len fields + length fields * 2

-- room for each field, the account and the path, and 32 bytes for the verb and the line feeds of absent headers
abbrev pub room_of : Signing → List ℕ → ℕ
room_of s account = fields_room s.headers + fields_room s.query + length account + length s.path + 32
