-- The rules that refuse a head, each by itself, and the first that holds (Blob service REST reference, 2012-02-12, Common
-- REST API Error Codes and the page of each operation; RFC 9110, sections 8.6 and 9; RFC 9112, section 6). The stamp itself
-- chooses the rules and their order.
use Rattle.std.specs.Prelude.{ℕ, Bool, true, false, not, ◌&&◌, ◌||◌, ◌==◌, ◌-◌, nat_lt, if◌then◌else◌, List, [], ◌∷◌, find, is_ok, Option, Some, None, is_none, option_map, option_and_then, bytes_eq, codes, drop, length, slice_index, take}
use Rattle.std.specs.List.{list_all, list_any}
use Rattle.std.specs.Option.{option_map_or, option_or}
use Rattle.std.specs.Str.Parse.{digits_value}
use Rattle.stamp_values.specs.declared.op.Op.{Op}
use Rattle.stamp_values.specs.declared.op.Op.TheVariants.{ListContainers, CreateContainer, ContainerProperties, SetContainerMetadata, GetAcl, SetAcl, DeleteContainer, ListBlobs, PutBlob, GetBlob, BlobProperties, GetMetadata, SetMetadata, DeleteBlob, PutBlock, PutBlockList, GetBlockList}
use Rattle.stamp_values.specs.declared.verb.Verb.{Verb}
use Rattle.stamp_values.specs.declared.verb.Verb.TheVariants.{Get, Head, Put, Delete}
use Rattle.stamp_values.specs.declared.signing.Field.{Field}
use Rattle.stamp_values.specs.Names.{is_account, is_container}
use Rattle.stamp_values.specs.Operations.{body_limit, has_conditions, is_op, keeps_headers, names_blob, names_container, sets_level}
use Rattle.stamp_values.specs.Texts.{is_clean, is_utf8, is_visible}
use Rattle.stamp_types.specs.Codes.{code_status}
use Rattle.stamp_types.specs.declared.code.Code.{Code}
use Rattle.stamp_types.specs.declared.code.Code.TheVariants.{InvalidInput, UnsupportedHttpVerb, InvalidQueryParameterValue, MissingContentLengthHeader, InvalidHeaderValue, InvalidResourceName, UnsupportedHeader, InvalidMetadata, MissingRequiredHeader, RequestBodyTooLarge}
use Rattle.stamp_types.specs.declared.rule.Rule.{Rule}
use Rattle.stamp_types.specs.declared.rule.Rule.TheVariants.{F1, F2, F3, F4, F5, F6, F7, F8}
use Rattle.stamp_values.specs.Fields.{is_sent, is_sent_twice, first_value, standard_names}
use Rattle.name_rules.specs.BlobNames.{name_of}
use Rattle.stamp_values.specs.Ascii.{quote}
use Rattle.request_form.specs.Targets.{is_nothing, origin_of, is_origin, target_of, account_of, container_of, blob_of, path_kind_of}
use Rattle.base64_text.specs.Base64.{is_base64_within}
use Rattle.request_form.specs.HeadFields.{is_bad, has_bad, is_number, is_md5, is_own_name, is_meta}
use Rattle.request_form.specs.HeadMetadata.{has_bad_metadata_by}
use Rattle.request_form.specs.declared.denial.Denial.{Denial}
use Rattle.request_form.specs.declared.rules.f1_target.Target.{Target}
use Rattle.request_form.specs.HeadParts.{HeadParts}
use Rattle.request_form.specs.declared.parse.path_kind.PathKind.{PathKind}
use Rattle.request_form.specs.declared.parse.path_kind.PathKind.TheVariants as path

-- the method, if the stamp serves it
unfoldable pub verb_of : List ℕ → Option Verb
verb_of method =
    if bytes_eq method (codes "GET") then Some Get
    else (if bytes_eq method (codes "HEAD") then Some Head
    else (if bytes_eq method (codes "PUT") then Some Put else (if bytes_eq method (codes "DELETE") then Some Delete else None)))

-- by what an operation is asked for: the method, what the path names, and the values of restype and comp, if it has them
pub record OperationRow : Type 0 where
  pub verb : Verb
  pub kind : PathKind
  pub restype : Option (List ℕ)
  pub comp : Option (List ℕ)
  pub op : Op

-- the operations that are built
abbrev pub operations : List OperationRow
operations =
    record { verb = Get; kind = path.Account; restype = None; comp = Some (codes "list"); op = ListContainers }
    ∷ record { verb = Put; kind = path.Container; restype = Some (codes "container"); comp = None; op = CreateContainer }
    ∷ record { verb = Get; kind = path.Container; restype = Some (codes "container"); comp = None; op = ContainerProperties }
    ∷ record { verb = Head; kind = path.Container; restype = Some (codes "container"); comp = None; op = ContainerProperties }
    ∷ record { verb = Put; kind = path.Container; restype = Some (codes "container"); comp = Some (codes "metadata"); op = SetContainerMetadata }
    ∷ record { verb = Get; kind = path.Container; restype = Some (codes "container"); comp = Some (codes "acl"); op = GetAcl }
    ∷ record { verb = Head; kind = path.Container; restype = Some (codes "container"); comp = Some (codes "acl"); op = GetAcl }
    ∷ record { verb = Put; kind = path.Container; restype = Some (codes "container"); comp = Some (codes "acl"); op = SetAcl }
    ∷ record { verb = Delete; kind = path.Container; restype = Some (codes "container"); comp = None; op = DeleteContainer }
    ∷ record { verb = Get; kind = path.Container; restype = Some (codes "container"); comp = Some (codes "list"); op = ListBlobs }
    ∷ record { verb = Put; kind = path.Blob; restype = None; comp = None; op = PutBlob }
    ∷ record { verb = Get; kind = path.Blob; restype = None; comp = None; op = GetBlob }
    ∷ record { verb = Head; kind = path.Blob; restype = None; comp = None; op = BlobProperties }
    ∷ record { verb = Get; kind = path.Blob; restype = None; comp = Some (codes "metadata"); op = GetMetadata }
    ∷ record { verb = Head; kind = path.Blob; restype = None; comp = Some (codes "metadata"); op = GetMetadata }
    ∷ record { verb = Put; kind = path.Blob; restype = None; comp = Some (codes "metadata"); op = SetMetadata }
    ∷ record { verb = Delete; kind = path.Blob; restype = None; comp = None; op = DeleteBlob }
    ∷ record { verb = Put; kind = path.Blob; restype = None; comp = Some (codes "block"); op = PutBlock }
    ∷ record { verb = Put; kind = path.Blob; restype = None; comp = Some (codes "blocklist"); op = PutBlockList }
    ∷ record { verb = Get; kind = path.Blob; restype = None; comp = Some (codes "blocklist"); op = GetBlockList }
    ∷ []

-- the methods are the same
abbrev pub is_verb : Verb → Verb → Bool
is_verb Get Get = true
is_verb Head Head = true
is_verb Put Put = true
is_verb Delete Delete = true
is_verb verb other = false

-- the paths name things of the same kind
abbrev pub is_path_kind : PathKind → PathKind → Bool
is_path_kind path.Root path.Root = true
is_path_kind path.Account path.Account = true
is_path_kind path.Container path.Container = true
is_path_kind path.Blob path.Blob = true
is_path_kind kind other = false

-- the values are the same, or both are missing
abbrev pub is_value : Option (List ℕ) → Option (List ℕ) → Bool
is_value None None = true
is_value (Some v) (Some w) = bytes_eq v w
is_value v other = false

-- the row is the one that is asked for
abbrev pub is_row : Verb → PathKind → Option (List ℕ) → Option (List ℕ) → OperationRow → Bool
is_row verb kind restype comp row = is_verb verb row.verb && is_path_kind kind row.kind && is_value restype row.restype && is_value comp row.comp

-- the operation of the row that is asked for
abbrev pub op_by : Verb → PathKind → Option (List ℕ) → Option (List ℕ) → Option Op
op_by verb kind restype comp = option_map (λ row. row.op) (find (is_row verb kind restype comp) operations)

-- the operation of the row that a method and a target fit
unfoldable pub row_at : Verb → Target → Option Op
row_at verb target = op_by verb (path_kind_of target.path) (first_value target.query (codes "restype")) (first_value target.query (codes "comp"))

-- the operation, but not Put Block if the id of its block is not given
abbrev pub if_identified : Bool → Op → Option Op
if_identified given PutBlock = if given then Some PutBlock else None
if_identified given other = Some other

-- the operation of a method on a target
unfoldable pub op_at : Verb → Target → Option Op
op_at verb target = option_and_then (if_identified (is_sent target.query (codes "blockid"))) (row_at verb target)

-- the operation, if it is built
unfoldable pub op_of : HeadParts → Option Op
op_of p = option_and_then (λ verb. op_at verb (target_of p.target)) (verb_of p.method)

-- the head asks for this operation
abbrev pub asks_for : Op → HeadParts → Bool
asks_for op p = option_map_or (is_op op) (op_of p) false

-- the parameters of a page of names
abbrev pub page_names : List (List ℕ)
page_names = codes "prefix" ∷ codes "delimiter" ∷ codes "marker" ∷ codes "maxresults" ∷ codes "include" ∷ []

-- the parameters that operations have, beside the two parameters of blocks; they are given at most once
abbrev pub parameter_names : List (List ℕ)
parameter_names = codes "restype" ∷ codes "comp" ∷ page_names

-- the value is the strict Base64 of the id of a block
abbrev pub is_id : List ℕ → Bool
is_id v = is_base64_within 1 64 v

-- the value names a kind of blocks
abbrev pub is_kinds : List ℕ → Bool
is_kinds v = bytes_eq v (codes "committed") || bytes_eq v (codes "uncommitted") || bytes_eq v (codes "all")

-- the value is a number that is not zero
abbrev pub is_count : List ℕ → Bool
is_count v = is_number v && not (digits_value 10 v == 0)

-- the value is of the form that the parameter has
unfoldable pub is_value_of : List ℕ → List ℕ → Bool
is_value_of name v =
    if bytes_eq name (codes "maxresults") then is_count v
    else (if bytes_eq name (codes "include") then is_nothing v || bytes_eq v (codes "metadata") else true)

-- the value is a text without control characters that passes the test
abbrev pub is_good_value : (List ℕ → Bool) → List ℕ → Bool
is_good_value test v = is_utf8 v && is_clean v && test v

-- the parameter is given twice, or its value is bad by the test
unfoldable pub is_bad_parameter : List Field → List ℕ → (List ℕ → Bool) → Bool
is_bad_parameter query name test = is_sent_twice query name || is_bad query name (is_good_value test)

-- a parameter of a page of names is bad
unfoldable pub has_bad_page : List Field → Bool
has_bad_page query = list_any (λ name. is_bad_parameter query name (is_value_of name)) page_names

-- the id of a block is bad
unfoldable pub has_bad_block_id : List Field → Bool
has_bad_block_id query = is_bad_parameter query (codes "blockid") is_id

-- the kinds of blocks are bad
unfoldable pub has_bad_kinds : List Field → Bool
has_bad_kinds query = is_bad_parameter query (codes "blocklisttype") is_kinds

-- a parameter that operations have is bad
unfoldable pub has_bad_parameter : List Field → Bool
has_bad_parameter query =
    list_any (λ name. is_bad_parameter query name (is_value_of name)) parameter_names || has_bad_block_id query || has_bad_kinds query

-- the method is PUT
abbrev pub is_put_verb : Option Verb → Bool
is_put_verb (Some Put) = true
is_put_verb other = false

-- the method writes
abbrev pub is_write : Option Verb → Bool
is_write (Some Put) = true
is_write (Some Delete) = true
is_write other = false

-- the name of the account is not good, or the operation names a container whose name is not good
abbrev pub has_bad_key : Op → List ℕ → Bool
has_bad_key op path = not (is_account (account_of path)) || names_container op && not (is_container (container_of path))

-- the key is bad, or the operation names a blob whose name is not good
unfoldable pub has_bad_name : Op → List ℕ → Bool
has_bad_name op path = has_bad_key op path || names_blob op && not (is_ok (name_of (blob_of path)))

-- headers that ask for what the stamp does not serve
abbrev pub unserved_names : List (List ℕ)
unserved_names = codes "if-unmodified-since" ∷ codes "x-ms-lease-id" ∷ codes "x-ms-copy-source" ∷ []

-- one of them was sent
unfoldable pub has_unserved : List Field → Bool
has_unserved fields = list_any (is_sent fields) unserved_names

-- the text has no quotation mark
abbrev pub is_unquoted : List ℕ → Bool
is_unquoted text = list_all (λ b. not (b == quote)) text

-- the bytes between the first byte and the last byte
abbrev pub inner : List ℕ → List ℕ
inner v = take (length v - 2) (drop 1 v)

-- a quotation mark, one or more other bytes, and a quotation mark (RFC 9110, section 8.8.3)
unfoldable pub is_quoted : List ℕ → Bool
is_quoted v = nat_lt 2 (length v) && slice_index v 0 == quote && slice_index v (length v - 1) == quote && is_unquoted (inner v)

-- the value is `*` or an ETag in quotation marks (RFC 9110, sections 13.1.1 and 13.1.2)
unfoldable pub is_condition : List ℕ → Bool
is_condition v = bytes_eq v (codes "*") || is_quoted v

-- the value of a header that is kept: the value of the service's own header, else the value of the plain header, if that counts
unfoldable pub kept_value : Bool → List Field → List ℕ → List ℕ → List ℕ
kept_value takes_plain fields own plain =
    option_map_or (λ v. v) (option_or (first_value fields own) (if takes_plain then first_value fields plain else None)) []

-- a value that is to be kept has a byte that is not visible
unfoldable pub has_bad_kept : Bool → List Field → Bool
has_bad_kept takes_plain fields =
    not (is_visible (kept_value takes_plain fields (codes "x-ms-blob-content-type") (codes "content-type")))
    || not (is_visible (kept_value takes_plain fields (codes "x-ms-blob-content-encoding") (codes "content-encoding")))
    || not (is_visible (kept_value takes_plain fields (codes "x-ms-blob-content-language") (codes "content-language")))
    || not (is_visible (kept_value takes_plain fields (codes "x-ms-blob-cache-control") (codes "cache-control")))

-- the name is that of one of the service's own headers, but not of metadata, and was sent twice
abbrev pub is_own_twice : List Field → List ℕ → Bool
is_own_twice fields name = is_own_name name && not (is_meta name) && is_sent_twice fields name

-- one of the service's own headers was sent twice
unfoldable pub has_own_twice : List Field → Bool
has_own_twice fields = list_any (λ f. is_own_twice fields f.name) fields

-- a header with a line of its own in the string to sign was sent twice
unfoldable pub has_standard_twice : List Field → Bool
has_standard_twice fields = list_any (is_sent_twice fields) standard_names

-- a condition does not have its form
unfoldable pub has_bad_condition : List Field → Bool
has_bad_condition fields = is_bad fields (codes "if-match") is_condition || is_bad fields (codes "if-none-match") is_condition

-- an MD5 does not have its form
unfoldable pub has_bad_md5 : List Field → Bool
has_bad_md5 fields = is_bad fields (codes "content-md5") is_md5 || is_bad fields (codes "x-ms-blob-content-md5") is_md5

-- the operation keeps headers, and the value of a header that is to be kept is bad; the plain headers count for Put Blob alone
abbrev pub has_bad_kept_by : Op → List Field → Bool
has_bad_kept_by op fields = keeps_headers op && has_bad_kept (is_op PutBlob op) fields

-- the value names a level of public access
abbrev pub is_level : List ℕ → Bool
is_level v = bytes_eq v (codes "container") || bytes_eq v (codes "blob")

-- the operation sets a level, and the value that was sent does not name a level
abbrev pub has_bad_level_by : Op → List Field → Bool
has_bad_level_by op fields = sets_level op && is_bad fields (codes "x-ms-blob-public-access") is_level

-- the operation keeps or sets what a header says, and the value of the header is bad
abbrev pub has_bad_value_by : Op → List Field → Bool
has_bad_value_by op fields = has_bad_kept_by op fields || has_bad_level_by op fields

-- a header was sent twice that may not be, or its value is bad
unfoldable pub has_bad_line : Option Op → List Field → Bool
has_bad_line op fields =
    has_standard_twice fields || has_own_twice fields || has_bad_condition fields || has_bad_md5 fields || option_map_or (λ op. has_bad_value_by op fields) op false

-- how many bytes the body has
unfoldable pub body_len_of : List Field → ℕ
body_len_of fields = option_map_or (λ v. digits_value 10 v) (first_value fields (codes "content-length")) 0

-- F4: a PUT has no length, or the head asks for a transfer coding
unfoldable pub has_no_length : HeadParts → Bool
has_no_length p = is_put_verb (verb_of p.method) && not (is_sent p.fields (codes "content-length")) || is_sent p.fields (codes "transfer-encoding")

-- F4: the length was sent twice, or it is not a number
unfoldable pub has_bad_length : HeadParts → Bool
has_bad_length p = is_sent_twice p.fields (codes "content-length") || is_bad p.fields (codes "content-length") is_number

-- a method that writes asks whether something was modified
unfoldable pub has_date_of_a_write : HeadParts → Bool
has_date_of_a_write p = is_write (verb_of p.method) && is_sent p.fields (codes "if-modified-since")

-- If-Match or If-None-Match was sent
unfoldable pub has_condition : List Field → Bool
has_condition fields = is_sent fields (codes "if-match") || is_sent fields (codes "if-none-match")

-- a condition was sent, but the operation does not have conditions or is not built
unfoldable pub has_unserved_condition : HeadParts → Bool
has_unserved_condition p = not (option_map_or has_conditions (op_of p) false) && has_condition p.fields

-- F6: a header asks for what the stamp does not serve
unfoldable pub asks_the_unserved : HeadParts → Bool
asks_the_unserved p =
    has_bad p.fields (codes "x-ms-version") (λ v. bytes_eq v (codes "2012-02-12"))
    || has_unserved p.fields
    || has_unserved_condition p
    || has_date_of_a_write p
    || asks_for PutBlob p && has_bad p.fields (codes "x-ms-blob-type") (λ v. bytes_eq v (codes "BlockBlob"))

-- F7: a header was sent twice that may not be, or its value is bad
unfoldable pub has_bad_value : HeadParts → Bool
has_bad_value p = has_bad_line (op_of p) p.fields

-- F7: the metadata that were sent are bad
unfoldable pub has_bad_metadata : HeadParts → Bool
has_bad_metadata p = option_map_or (λ op. has_bad_metadata_by op p.fields) (op_of p) false

-- F7: Put Blob without the type of blob
unfoldable pub has_no_blob_type : HeadParts → Bool
has_no_blob_type p = asks_for PutBlob p && not (is_sent p.fields (codes "x-ms-blob-type"))

-- the rule holds of a head
abbrev pub head_holds : HeadParts → Rule → Bool
head_holds p F1 = not (is_origin (origin_of p.target))
head_holds p F2 = is_none (verb_of p.method)
head_holds p F3 = is_none (op_of p) || has_bad_parameter (target_of p.target).query
head_holds p F4 = has_no_length p || has_bad_length p
head_holds p F5 = option_map_or (λ op. has_bad_name op (target_of p.target).path) (op_of p) false
head_holds p F6 = asks_the_unserved p
head_holds p F7 = has_bad_value p || has_bad_metadata p || has_no_blob_type p
head_holds p F8 = option_map_or (λ op. nat_lt (body_limit op) (body_len_of p.fields)) (op_of p) false
head_holds p other = false

-- the rules of heads in their order
abbrev pub head_rules : List Rule
head_rules = F1 ∷ F2 ∷ F3 ∷ F4 ∷ F5 ∷ F6 ∷ F7 ∷ F8 ∷ []

-- the code of a rule; if a rule has several causes, the first cause that holds decides
abbrev pub head_code : HeadParts → Rule → Code
head_code p F2 = UnsupportedHttpVerb
head_code p F3 = InvalidQueryParameterValue
head_code p F4 = if has_no_length p then MissingContentLengthHeader else InvalidHeaderValue
head_code p F5 = InvalidResourceName
head_code p F6 = UnsupportedHeader
head_code p F7 = if has_bad_value p then InvalidHeaderValue else (if has_bad_metadata p then InvalidMetadata else MissingRequiredHeader)
head_code p F8 = RequestBodyTooLarge
head_code p other = InvalidInput

-- the verb that a refusal names; a refusal by F1 names no verb
abbrev pub denied_verb : HeadParts → Rule → Option Verb
denied_verb p F1 = None
denied_verb p other = verb_of p.method

-- the refusal by a rule
abbrev pub denied_by : Rule → Code → Option Verb → Denial
denied_by rule code verb = record { rule = rule; status = code_status code; code = code; verb = verb }

-- the refusal by the first of these rules that holds
unfoldable pub denial_among : HeadParts → List Rule → Option Denial
denial_among p rules = option_map (λ rule. denied_by rule (head_code p rule) (denied_verb p rule)) (find (head_holds p) rules)

-- how a head is refused
abbrev pub denial_of : HeadParts → Option Denial
denial_of p = denial_among p head_rules

-- how bytes that are not a head are refused
abbrev pub no_head : Denial
no_head = denied_by F1 InvalidInput None
