-- What a request may be (Blob service REST reference, 2012-02-12, the page of each operation).
use Rattle.std.specs.Prelude.{◌≡◌, ◌↔◌, ℕ, ◌+◌, ◌≤◌, false, IsTrue, not, ◌==◌, List, [], length, Option, Some, None, is_some, IsSome, IfSome}
use Rattle.stamp_types.specs.declared.args.Kept.{Kept}
use Rattle.stamp_types.specs.declared.args.Page.{Page}
use Rattle.stamp_types.specs.declared.args.Args.{Args}
use Rattle.stamp_types.specs.declared.ask.Ask.{Ask}
use Rattle.stamp_values.specs.declared.op.Op.TheVariants.{ListContainers, GetBlob, PutBlock, GetBlockList}
use Rattle.stamp_values.specs.Operations.{names_container, names_blob, has_conditions, checks_md5, keeps_headers, keeps_metadata, sets_level, lists_names, body_limit}
use Rattle.stamp_values.specs.Names.{is_account, is_container, is_blob}
use Rattle.stamp_values.specs.MetadataLists.{metadata_len}
use Rattle.stamp_values.specs.Limits.{args_limit, page_limit}

-- how many bytes a text has: 0 if the text isn't given
abbrev pub given_len : Option (List ℕ) → ℕ
given_len None = 0
given_len (Some t) = length t

-- how many bytes the four texts that a blob is to keep have together
abbrev pub kept_len : Option Kept → ℕ
kept_len None = 0
kept_len (Some k) = length k.content_type + length k.encoding + length k.language + length k.cache_control

-- how many bytes the three texts of a page have together
abbrev pub page_len : Option Page → ℕ
page_len None = 0
page_len (Some p) = given_len p.prefix + given_len p.delimiter + given_len p.marker

-- how many bytes all texts and ids that come with a request have together
abbrev pub args_len : Args → ℕ
args_len a = kept_len a.kept + metadata_len a.metadata + page_len a.page + given_len a.block

-- the text is not empty, if it is given
abbrev pub IsGiven : Option (List ℕ) → Type 0
IsGiven t = IfSome t (λ t. 1 ≤ length t)

-- names may be listed in this way
pub record IsPage (p : Page) : Type 0 where
  -- at least one name is asked for
  pub some : 1 ≤ p.max
  -- no more names are asked for than a page may have
  pub most : p.max ≤ page_limit
  -- a prefix that is given is not empty
  pub prefix : IsGiven p.prefix
  -- a delimiter that is given is not empty
  pub delimiter : IsGiven p.delimiter
  -- a marker that is given is not empty
  pub marker : IsGiven p.marker

-- account, container and blob are named as the operation needs them
pub record IsNamed (a : Ask) : Type 0 where
  -- the account's name is good
  pub account : IsTrue (is_account a.key.account)
  -- a container is named if and only if the operation names a container
  pub container : not (length a.key.container == 0) ≡ names_container a.op
  -- the container's name is good
  pub container_name : IsTrue (names_container a.op) → IsTrue (is_container a.key.container)
  -- a blob is named if and only if the operation names a blob
  pub blob : is_some a.blob ≡ names_blob a.op
  -- the blob's name is good
  pub blob_name : IfSome a.blob (λ b. IsTrue (is_blob b))

-- if the operation has no use for something that may be left out, the request does not have it
pub record HasNoMore (a : Ask) : Type 0 where
  -- If-Match comes only if the operation has conditions
  pub if_match : IsSome a.args.if_match → IsTrue (has_conditions a.op)
  -- If-None-Match comes only if the operation has conditions
  pub if_none_match : IsSome a.args.if_none_match → IsTrue (has_conditions a.op)
  -- Content-MD5 comes only if the operation checks the MD5 of the body
  pub content_md5 : IsSome a.args.content_md5 → IsTrue (checks_md5 a.op)
  -- a range comes only with Get Blob
  pub range : IsSome a.args.range → a.op ≡ GetBlob
  -- the first byte of a range is not after its last byte
  pub range_order : IfSome a.args.range (λ r. IfSome r.last (λ last. r.first ≤ last))
  -- metadata comes only if the operation keeps metadata
  pub metadata : keeps_metadata a.op ≡ false → a.args.metadata ≡ []

-- what only some operations have comes with these operations, and with no other operation
pub record HasItsOwn (a : Ask) : Type 0 where
  -- headers to keep come if and only if the operation keeps headers
  pub kept : is_some a.args.kept ≡ keeps_headers a.op
  -- a level of access comes if and only if the operation sets a level
  pub level : is_some a.args.level ≡ sets_level a.op
  -- the id of a block comes if and only if the operation is Put Block
  pub block : IsSome a.args.block ↔ (a.op ≡ PutBlock)
  -- kinds of blocks come if and only if the operation is Get Block List
  pub kinds : IsSome a.args.kinds ↔ (a.op ≡ GetBlockList)

-- a page is asked for if and only if the operation lists names, and the page is good
pub record HasItsPage (a : Ask) : Type 0 where
  -- a page comes if and only if the operation lists names
  pub page : is_some a.args.page ≡ lists_names a.op
  -- the page has good parts
  pub parts : IfSome a.args.page IsPage
  -- containers are listed with no delimiter
  pub delimiter : a.op ≡ ListContainers → IfSome a.args.page (λ p. p.delimiter ≡ None)

-- path and arguments fit the operation; what is signed and the credential may be any
pub record IsAsk (a : Ask) : Type 0 where
  -- the names are good, and are the names that the operation needs
  pub names : IsNamed a
  -- nothing comes that the operation has no use for
  pub no_more : HasNoMore a
  -- what the operation needs is there
  pub own : HasItsOwn a
  -- a page is there if the operation needs a page
  pub page : HasItsPage a
  -- texts and ids have at most 16,384 bytes together
  pub short : args_len a.args ≤ args_limit

-- a request as a value: what it asks, and its body
pub record Asked : Type 0 where
  pub ask : Ask
  pub body : List ℕ

-- the request that asks this with this body
abbrev pub asked : Ask → List ℕ → Asked
asked a b = record { ask = a; body = b }

-- a request fits its operation
pub record IsRequest (q : Asked) : Type 0 where
  -- all parts except the body fit the operation
  pub ask : IsAsk q.ask
  -- the body is not longer than the operation allows
  pub body : length q.body ≤ body_limit q.ask.op
