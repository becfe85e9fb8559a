-- The name of a blob in a path (Blob service REST reference, 2012-02-12, Naming and Referencing Containers, Blobs, and Metadata;
-- RFC 3986, section 2.1; RFC 3629).
use Rattle.std.specs.Prelude.{◌≡◌, ◌==◌, ℕ, not, nat_lt, if◌then◌else◌, List, length, Result, Ok, Err}
-- passed on: the bytes with each escape decoded
pub use Rattle.percent_encoding.specs.Percent.{percent_decode}
use Rattle.stamp_values.specs.Texts.{is_clean, is_utf8, char_count}
use Rattle.name_rules.specs.declared.blob_names.NameFault.{NameFault}
use Rattle.name_rules.specs.declared.blob_names.NameFault.TheVariants as fault

-- the name, or why the bytes are not a name: a name is UTF-8, has 1 to 1,024 characters and has no control character
unfoldable pub decoded_name : List ℕ → Result (List ℕ) NameFault
decoded_name name =
    if length name == 0 then Err fault.Empty
    else (if not (is_utf8 name) then Err fault.NotUtf8
    else (if nat_lt 1024 (char_count name) then Err fault.TooLong else (if not (is_clean name) then Err fault.Control else Ok name)))

-- the name that a path has after the container, decoded
abbrev pub name_of : List ℕ → Result (List ℕ) NameFault
name_of rest = decoded_name (percent_decode rest)

-- the fault is the fault of the name, unless memory runs out
abbrev pub FaultOf : List ℕ → NameFault → Type 0
FaultOf rest fault.NoMemory = Unit {0}
FaultOf rest other = name_of rest ≡ Err other
