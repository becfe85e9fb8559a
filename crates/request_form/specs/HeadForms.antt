-- What a head asks for (Blob service REST reference, 2012-02-12, Authentication for the Azure Storage Services, Put Blob, Get Blob;
-- RFC 9110, sections 7.6.1, 8.6 and 10.1.1; RFC 9112, sections 9.3 and 9.6).
use Rattle.std.specs.Prelude.{ℕ, Bool, false, true, not, ◌&&◌, ◌||◌, ◌==◌, if◌then◌else◌, List, [], ◌∷◌, Option, Some, None, option_map, option_and_then, bytes_eq, codes}
use Rattle.std.specs.List.{list_any, slice_split}
use Rattle.std.specs.Option.{option_map_or}
use Rattle.base64_text.specs.Base64.{standard, decoded_of}
use Rattle.name_rules.specs.BlobNames.{percent_decode}
use Rattle.stamp_values.specs.declared.key.Key.{Key}
use Rattle.stamp_values.specs.Fields.{has_name, first_value, is_sent, trimmed}
use Rattle.stamp_values.specs.declared.op.Op.{Op}
use Rattle.stamp_values.specs.declared.op.Op.TheVariants.{PutBlob}
use Rattle.stamp_values.specs.declared.verb.Verb.{Verb}
use Rattle.stamp_values.specs.declared.verb.Verb.TheVariants.{Put}
use Rattle.stamp_values.specs.declared.signing.Credential.{Credential}
use Rattle.stamp_values.specs.declared.signing.Credential.TheVariants.{Shared, Token, Anonymous}
use Rattle.stamp_values.specs.declared.signing.Field.{Field}
use Rattle.stamp_values.specs.declared.signing.Signing.{Signing}
use Rattle.stamp_values.specs.Operations.{checks_md5, is_op, keeps_headers, names_blob, names_container, sets_level}
use Rattle.stamp_values.specs.declared.level.Level.{Level}
use Rattle.stamp_values.specs.declared.level.Level.TheVariants.{Closed, Blob, Container}
use Rattle.stamp_types.specs.declared.args.Args.{Args}
use Rattle.stamp_types.specs.declared.args.Kept.{Kept}
use Rattle.stamp_types.specs.declared.ask.Ask.{Ask}
use Rattle.stamp_types.specs.Requests.{Asked, asked}
use Rattle.request_form.specs.Targets.{lowered, target_of, account_of, container_of, blob_of}
use Rattle.stamp_values.specs.Ascii.{comma}
use Rattle.request_form.specs.HeadBlocks.{block_by, kinds_by}
use Rattle.request_form.specs.HeadConditions.{condition_by}
use Rattle.request_form.specs.HeadMetadata.{metadata_by}
use Rattle.request_form.specs.HeadPages.{page_by}
use Rattle.request_form.specs.HeadRanges.{range_by}
use Rattle.request_form.specs.HeadRules.{verb_of, op_of, kept_value, body_len_of}
use Rattle.request_form.specs.HeadParts.{HeadParts}
use Rattle.request_form.specs.declared.parse.parsed_head.Version.{Version}
use Rattle.request_form.specs.declared.parse.parsed_head.Version.TheVariants.{Http10, Http11}

-- what a head asks for: a request without its body, how many bytes the body has, whether the client waits for the interim
-- reply before it sends the body, and whether the connection ends after the reply
pub record Form : Type 0 where
  pub ask : Ask
  pub body_len : ℕ
  pub expects : Bool
  pub closes : Bool

-- the MD5 that was sent under a name
unfoldable pub md5_under : List Field → List ℕ → Option (List ℕ)
md5_under fields name = option_and_then (decoded_of standard) (first_value fields name)

-- the headers that a blob is to keep; the plain headers count or not
unfoldable pub kept_of : Bool → List Field → Kept
kept_of takes_plain fields = record {
  content_type = kept_value takes_plain fields (codes "x-ms-blob-content-type") (codes "content-type");
  encoding = kept_value takes_plain fields (codes "x-ms-blob-content-encoding") (codes "content-encoding");
  language = kept_value takes_plain fields (codes "x-ms-blob-content-language") (codes "content-language");
  cache_control = kept_value takes_plain fields (codes "x-ms-blob-cache-control") (codes "cache-control");
  md5 = md5_under fields (codes "x-ms-blob-content-md5");
}

-- the name of the container of a path, or no bytes if the operation names no container
abbrev pub container_by : Op → List ℕ → List ℕ
container_by op path = if names_container op then container_of path else []

-- the key that the operation names by a path
abbrev pub key_by : Op → List ℕ → Key
key_by op path = record { account = account_of path; container = container_by op path }

-- the headers that a blob is to keep, if the operation keeps headers; the plain headers count for Put Blob alone
abbrev pub kept_by : Op → List Field → Option Kept
kept_by op fields = if keeps_headers op then Some (kept_of (is_op PutBlob op) fields) else None

-- the level of public access that a value names
abbrev pub level_named : List ℕ → Level
level_named v = if bytes_eq v (codes "container") then Container else (if bytes_eq v (codes "blob") then Blob else Closed)

-- the level that a request sets, if the operation sets a level; closed if no level was sent
abbrev pub level_by : Op → List Field → Option Level
level_by op fields = if sets_level op then Some (option_map_or level_named (first_value fields (codes "x-ms-blob-public-access")) Closed) else None

-- what the header lines say of a request beside its metadata
unfoldable pub line_args_of : Op → List Field → Args
line_args_of op fields = record {
  if_match = condition_by op fields (codes "if-match");
  if_none_match = condition_by op fields (codes "if-none-match");
  content_md5 = if checks_md5 op then md5_under fields (codes "content-md5") else None;
  range = range_by op fields;
  kept = kept_by op fields;
  metadata = [];
  level = level_by op fields;
  page = None;
  block = None;
  kinds = None;
}

-- what the header lines say of a request
unfoldable pub header_args_of : Op → List Field → Args
header_args_of op fields = record (line_args_of op fields) { metadata = metadata_by op fields }

-- what comes with a request
unfoldable pub args_of : Op → List Field → List Field → Args
args_of op fields query = record (header_args_of op fields) { page = page_by op query; block = block_by op query; kinds = kinds_by op query }

-- what the string to sign is made of
unfoldable pub signing_of : Verb → HeadParts → Signing
signing_of verb p = record {
  verb = verb;
  headers = p.fields;
  path = (target_of p.target).path;
  query = (target_of p.target).query;
}

-- by which word a request asks: by the values of its Authorization headers, if it has any; else by the parameter sig; else by no word
abbrev pub credential_by : List (List ℕ) → Bool → Credential
credential_by [] true = Token
credential_by [] false = Anonymous
credential_by (value ∷ values) token = Shared (value ∷ values)

-- by which word a head asks
unfoldable pub credential_of : HeadParts → Credential
credential_of p = credential_by p.authorization (is_sent (target_of p.target).query (codes "sig"))

-- the blob's name, decoded
unfoldable pub blob_name_of : List ℕ → List ℕ
blob_name_of path = percent_decode (blob_of path)

-- the blob's name, decoded, if the operation names a blob
abbrev pub blob_by : Op → List ℕ → Option (List ℕ)
blob_by op path = if names_blob op then Some (blob_name_of path) else None

-- a request without its body
unfoldable pub ask_of : Op → Verb → HeadParts → Ask
ask_of op verb p = record {
  op = op;
  key = key_by op (target_of p.target).path;
  blob = blob_by op (target_of p.target).path;
  args = args_of op p.fields (target_of p.target).query;
  signing = signing_of verb p;
  credential = credential_of p;
}

-- HTTP/1.1
abbrev pub is_newer : Version → Bool
is_newer Http10 = false
is_newer Http11 = true

-- the header asks for the interim reply
abbrev pub asks_to_go_on : Field → Bool
asks_to_go_on f = has_name (codes "expect") f && bytes_eq (lowered f.value) (codes "100-continue")

-- the client waits for the interim reply
unfoldable pub expects_of : HeadParts → Bool
expects_of p = is_newer p.version && list_any asks_to_go_on p.fields

-- the value of a Connection header has the option `close`
unfoldable pub has_close : List ℕ → Bool
has_close value = list_any (λ option. bytes_eq (lowered (trimmed option)) (codes "close")) (slice_split (λ b. b == comma) value)

-- the header asks to end the connection
abbrev pub asks_to_close : Field → Bool
asks_to_close f = has_name (codes "connection") f && has_close f.value

-- the connection ends after the reply
unfoldable pub closes_of : HeadParts → Bool
closes_of p = not (is_newer p.version) || list_any asks_to_close p.fields

-- what a head asks for, of an operation that is built
abbrev pub form_by : Op → Verb → HeadParts → Form
form_by op verb p = record { ask = ask_of op verb p; body_len = body_len_of p.fields; expects = expects_of p; closes = closes_of p }

-- what a head asks for, if its method and its operation are known
abbrev pub form_of : HeadParts → Option Form
form_of p = option_and_then (λ op. option_map (λ verb. form_by op verb p) (verb_of p.method)) (op_of p)

-- the body of a PUT; the body of another method is read and dropped
abbrev pub body_by : Verb → List ℕ → List ℕ
body_by Put body = body
body_by other body = []

-- the request of a head and the bytes that follow it
abbrev pub with_body : Form → List ℕ → Asked
with_body form body = asked form.ask (body_by form.ask.signing.verb body)
