-- The range of a head (Blob service REST reference, 2012-02-12, Specifying the Range Header for Blob Service Operations, Get Blob;
-- RFC 9110, sections 13.1.5, 14.1.2 and 14.2).
use Rattle.std.specs.Prelude.{◌≡◌, ℕ, Bool, true, false, not, ◌&&◌, ◌==◌, ◌∷◌, ◌++◌, nat_lt, min, if◌then◌else◌, List, Option, Some, None, option_and_then, bytes_eq, codes, drop}
use Rattle.std.specs.List.{before_first, after_first}
use Rattle.std.specs.Option.{option_or}
use Rattle.std.specs.Str.Parse.{digits_value}
use Rattle.stamp_values.specs.Ascii.{hyphen}
use Rattle.stamp_values.specs.Fields.{first_value, is_sent}
use Rattle.stamp_values.specs.Operations.{is_op}
use Rattle.stamp_values.specs.declared.condition.ByteRange.{ByteRange}
use Rattle.stamp_values.specs.declared.op.Op.{Op}
use Rattle.stamp_values.specs.declared.op.Op.TheVariants.{GetBlob}
use Rattle.stamp_values.specs.declared.signing.Field.{Field}
use Rattle.request_form.specs.HeadFields.{are_digits}
use Rattle.request_form.specs.Targets.{is_nothing}

-- the text of a range with these digits: `bytes=`, the digits of the first byte, a hyphen, the digits of the last byte
abbrev pub range_text : List ℕ → List ℕ → List ℕ
range_text first last = codes "bytes=" ++ first ++ hyphen ∷ last

-- the number that the digits write, or 2^64 - 1 if the number is greater
abbrev pub number_within : List ℕ → ℕ
number_within digits = min (digits_value 10 digits) 18_446_744_073_709_551_615

-- the number that the digits of the first byte write is greater than the number that the digits of the last byte write
abbrev pub is_falling : List ℕ → List ℕ → Bool
is_falling first last = nat_lt (digits_value 10 last) (digits_value 10 first)

-- the range from the byte that the first digits write to the byte that the last digits write, or up to the end if the last
-- digits are missing; no range if its first byte comes after its last byte
unfoldable pub range_between : List ℕ → List ℕ → Option ByteRange
range_between first last =
    if is_nothing last then Some (record { first = number_within first; last = None })
    else (if is_falling first last then None else Some (record { first = number_within first; last = Some (number_within last) }))

-- the byte is a hyphen
abbrev pub is_hyphen : ℕ → Bool
is_hyphen b = b == hyphen

-- what follows the first six bytes, up to the first hyphen
abbrev pub first_digits : List ℕ → List ℕ
first_digits v = before_first is_hyphen (drop 6 v)

-- what follows the first hyphen after the first six bytes
abbrev pub last_digits : List ℕ → List ℕ
last_digits v = after_first is_hyphen (drop 6 v)

-- the text begins with `bytes=`, and has a hyphen after it
unfoldable pub is_marked : List ℕ → Bool
is_marked v = bytes_eq v (range_text (first_digits v) (last_digits v))

-- the text is `bytes=`, one or more digits, a hyphen, and digits or nothing
unfoldable pub is_range : List ℕ → Bool
is_range v =
    is_marked v && not (is_nothing (first_digits v)) && are_digits (first_digits v) && are_digits (last_digits v)

-- the range that a text asks for, if the text has the form of a range
unfoldable pub range_of : List ℕ → Option ByteRange
range_of v = if is_range v then range_between (first_digits v) (last_digits v) else None

-- the text that asks for a range: the value of x-ms-range, else of Range; nothing if If-Range was sent
unfoldable pub range_sent : List Field → Option (List ℕ)
range_sent fields =
    if is_sent fields (codes "if-range") then None else option_or (first_value fields (codes "x-ms-range")) (first_value fields (codes "range"))

-- the range that comes with a request, if the operation is Get Blob
abbrev pub range_by : Op → List Field → Option ByteRange
range_by op fields = if is_op GetBlob op then option_and_then range_of (range_sent fields) else None

-- the text is that of a range with digits that have this range
pub record HasRange (text : List ℕ) (r : ByteRange) : Type 0 where
  pub first : List ℕ
  pub last : List ℕ
  pub printed : text ≡ range_text first last
  pub some : is_nothing first ≡ false
  pub first_digits : are_digits first ≡ true
  pub last_digits : are_digits last ≡ true
  pub range : range_between first last ≡ Some r
