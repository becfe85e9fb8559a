-- What the header lines of a head say (RFC 9110, section 5; RFC 4648, section 4).
use Rattle.std.specs.Prelude.{ℕ, Bool, false, not, ◌&&◌, List, filter, length, bytes_eq, codes, take}
use Rattle.std.specs.List.{list_all, list_any}
use Rattle.std.specs.Option.{option_map_or}
use Rattle.base64_text.specs.Base64.{is_base64_within}
use Rattle.stamp_values.specs.Fields.{has_name, first_value, values_under}
use Rattle.stamp_values.specs.Names.{is_digit, is_within}
use Rattle.stamp_values.specs.declared.signing.Field.{Field}

-- the header is Authorization
abbrev pub is_authorization : Field → Bool
is_authorization f = has_name (codes "authorization") f

-- all headers but Authorization, in the order sent
unfoldable pub signed_headers : List Field → List Field
signed_headers fields = filter (λ f. not (is_authorization f)) fields

-- the values of the Authorization headers, in the order sent
unfoldable pub authorization_values : List Field → List (List ℕ)
authorization_values fields = values_under fields (codes "authorization")

-- the first value that was sent under the name fails the test
unfoldable pub is_bad : List Field → List ℕ → (List ℕ → Bool) → Bool
is_bad fields name test = option_map_or (λ v. not (test v)) (first_value fields name) false

-- some value that was sent under the name fails the test
unfoldable pub has_bad : List Field → List ℕ → (List ℕ → Bool) → Bool
has_bad fields name test = list_any (λ f. has_name name f && not (test f.value)) fields

-- the bytes are digits
abbrev pub are_digits : List ℕ → Bool
are_digits text = list_all is_digit text

-- 1 to 19 digits
unfoldable pub is_number : List ℕ → Bool
is_number text = is_within 1 19 (length text) && are_digits text

-- strict Base64 of 16 bytes
abbrev pub is_md5 : List ℕ → Bool
is_md5 text = is_base64_within 16 16 text

-- the name of one of the service's own headers
abbrev pub is_own_name : List ℕ → Bool
is_own_name name = bytes_eq (take 5 name) (codes "x-ms-")

-- the name of a header of metadata
abbrev pub is_meta : List ℕ → Bool
is_meta name = bytes_eq (take 10 name) (codes "x-ms-meta-")
