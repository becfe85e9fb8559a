-- What a request target names (RFC 9112, sections 3.2.1 and 3.2.2; RFC 3986, sections 2.1 and 3; Blob service REST
-- reference, 2012-02-12, Naming and Referencing Containers, Blobs, and Metadata).
use Rattle.std.specs.Prelude.{ℕ, Bool, not, ◌&&◌, ◌||◌, ◌==◌, nat_lt, ◌+◌, if◌then◌else◌, List, map, filter, take, drop, length, slice_index, bytes_eq, codes}
use Rattle.std.specs.List.{list_all, prefix_len, before_first, after_first, slice_split}
use Rattle.http_uri.specs.ByteClasses.{is_path_byte, is_query_byte}
use Rattle.name_rules.specs.BlobNames.{percent_decode}
use Rattle.stamp_values.specs.declared.signing.Field.{Field}
-- passed on: in lower case
pub use Rattle.stamp_values.specs.Fields.{lowered}
use Rattle.stamp_values.specs.Ascii.{number_sign, ampersand, slash, equals_sign, question_mark}
use Rattle.request_form.specs.declared.rules.f1_target.Target.{Target}
use Rattle.request_form.specs.declared.parse.path_kind.PathKind.{PathKind}
use Rattle.request_form.specs.declared.parse.path_kind.PathKind.TheVariants.{Root, Account, Container, Blob}

-- the most bytes of an address that the library reads
abbrev pub address_limit : ℕ
address_limit = 65534

-- the text has no bytes
abbrev pub is_nothing : List ℕ → Bool
is_nothing text = length text == 0

-- a byte of an authority: not a slash, a question mark or a number sign
abbrev pub is_in_authority : ℕ → Bool
is_in_authority b = not (b == slash || b == question_mark || b == number_sign)

-- how many bytes the authority after `http://` has
unfoldable pub authority_len : List ℕ → ℕ
authority_len target = prefix_len is_in_authority (drop 7 target)

-- `http://` in any case, and an authority
abbrev pub is_absolute : List ℕ → Bool
is_absolute target = bytes_eq (lowered (take 7 target)) (codes "http://") && nat_lt 0 (authority_len target)

-- the origin form: what follows the authority of an absolute address, or else the target
unfoldable pub origin_of : List ℕ → List ℕ
origin_of target = if is_absolute target then drop (7 + authority_len target) target else target

-- the byte is a question mark
abbrev pub is_question_mark : ℕ → Bool
is_question_mark b = b == question_mark

-- the path as it was sent
unfoldable pub path_of : List ℕ → List ℕ
path_of origin = before_first is_question_mark origin

-- the query as it was sent, without its `?`
unfoldable pub query_text : List ℕ → List ℕ
query_text origin = after_first is_question_mark origin

-- the text is an origin form: it begins with a slash and has only bytes of a path and a query, so it has no fragment
unfoldable pub is_origin : List ℕ → Bool
is_origin origin = slice_index origin 0 == slash && list_all is_path_byte (path_of origin) && list_all is_query_byte (query_text origin)

-- the byte is an equals sign
abbrev pub is_equals : ℕ → Bool
is_equals b = b == equals_sign

-- a parameter: its text is cut at the first equals sign and each side is decoded; the name is in lower case
abbrev pub parameter_of : List ℕ → Field
parameter_of piece = record { name = lowered (percent_decode (before_first is_equals piece)); value = percent_decode (after_first is_equals piece) }

-- the pieces of a query between ampersands
abbrev pub pieces_of : List ℕ → List (List ℕ)
pieces_of query = slice_split (λ b. b == ampersand) query

-- the parameters in the order sent; an empty piece is not a parameter
unfoldable pub query_of : List ℕ → List Field
query_of origin = map parameter_of (filter (λ piece. not (is_nothing piece)) (pieces_of (query_text origin)))

-- the path and the parameters of a target
unfoldable pub target_of : List ℕ → Target
target_of target = record { path = path_of (origin_of target); query = query_of (origin_of target) }

-- the byte is a slash
abbrev pub is_slash : ℕ → Bool
is_slash b = b == slash

-- the account as it was sent: the first part of the path
unfoldable pub account_of : List ℕ → List ℕ
account_of path = before_first is_slash (drop 1 path)

-- what follows the account
unfoldable pub after_account : List ℕ → List ℕ
after_account path = after_first is_slash (drop 1 path)

-- the container as it was sent: the second part
unfoldable pub container_of : List ℕ → List ℕ
container_of path = before_first is_slash (after_account path)

-- the blob as it was sent: all that follows the container
unfoldable pub blob_of : List ℕ → List ℕ
blob_of path = after_first is_slash (after_account path)

-- what the path names; an empty last part does not count
unfoldable pub path_kind_of : List ℕ → PathKind
path_kind_of path =
    if is_nothing (drop 1 path) then Root
    else (if is_nothing (after_account path) then Account else (if is_nothing (blob_of path) then Container else Blob))
