-- Lines of the audit book (RFC 3986, section 2.1, for bytes that are escaped; ISO 8601:2004 for moments). The form of a line is the stamp's own.
use Rattle.std.specs.Prelude.{◌≡◌, ⊤, ℕ, ◌+◌, Bool, ◌&&◌, ◌==◌, not, nat_lt, if◌then◌else◌, List, [], ◌∷◌, ◌++◌, Option, Some, None, codes, decimal, flat_map, length, slice_index, ◌/◌, ◌%◌}
use Rattle.std.specs.Io.KnownBytes.{Appends}
use Rattle.stamp_values.specs.declared.op.Op.{Op}
use Rattle.stamp_values.specs.declared.op.Op.TheVariants as op
use Rattle.stamp_types.specs.declared.ask.Ask.{Ask}
use Rattle.moment_text.specs.Civil.{time_at}
use Rattle.moment_text.specs.Iso.{iso_text, to_fraction}
use Rattle.sas_token.specs.Tokens.{Sent}
use Rattle.access_rules.specs.Parts.{first_alone}
use Rattle.access_rules.specs.Signatures.{has_true_signature}
use Rattle.access_rules.specs.TokenParts.{token_in}
use Rattle.access_rules.specs.declared.judgement.Way.{Way}
use Rattle.access_rules.specs.declared.judgement.Way.TheVariants as way
use Rattle.access_rules.specs.declared.keys.Keys.{Keys}
use Rattle.boxcar.specs.Table.{Where}
use Rattle.policy_book.specs.Entries.{AuditEntry, IsReceiptOf, Shelved}

-- the byte stands for itself: it is neither a control character, nor a space, nor the percent sign
abbrev pub is_plain : ℕ → Bool
is_plain b = nat_lt 32 b && not (b == 37) && not (b == 127)

-- the digit of a number below 16
abbrev pub hex_digit : ℕ → ℕ
hex_digit n = slice_index (codes "0123456789ABCDEF") n

-- a byte as itself, or as a percent sign and its two digits
unfoldable pub escaped_byte : ℕ → List ℕ
escaped_byte b = if is_plain b then b ∷ [] else 37 ∷ hex_digit (b / 16) ∷ hex_digit (b % 16) ∷ []

-- a text without control characters, spaces and other percent signs
abbrev pub escaped : List ℕ → List ℕ
escaped text = flat_map escaped_byte text

-- the word for a route
unfoldable pub way_word : Way → List ℕ
way_word way.Shared = codes "shared"
way_word way.Token = codes "token"
way_word way.Anonymous = codes "anonymous"

-- the word for an operation
unfoldable pub op_word : Op → List ℕ
op_word op.ListContainers = codes "ListContainers"
op_word op.CreateContainer = codes "CreateContainer"
op_word op.ContainerProperties = codes "ContainerProperties"
op_word op.SetContainerMetadata = codes "SetContainerMetadata"
op_word op.GetAcl = codes "GetAcl"
op_word op.SetAcl = codes "SetAcl"
op_word op.DeleteContainer = codes "DeleteContainer"
op_word op.ListBlobs = codes "ListBlobs"
op_word op.PutBlob = codes "PutBlob"
op_word op.GetBlob = codes "GetBlob"
op_word op.BlobProperties = codes "BlobProperties"
op_word op.GetMetadata = codes "GetMetadata"
op_word op.SetMetadata = codes "SetMetadata"
op_word op.DeleteBlob = codes "DeleteBlob"
op_word op.PutBlock = codes "PutBlock"
op_word op.PutBlockList = codes "PutBlockList"
op_word op.GetBlockList = codes "GetBlockList"

-- the id of the stored policy that a token names; empty if it names none
abbrev pub id_of : Option Sent → List ℕ
id_of None = []
id_of (Some token) = token.id

-- which of the two keys gives the signature that the request brings: the first key, or else the second; without keys it is 0
abbrev pub key_number : Option Keys → Ask → ℕ
key_number None q = 0
key_number (Some pair) q = if has_true_signature (Some (first_alone pair)) q then 1 else 2

-- the key that gives the signature
abbrev pub key_text : Option Keys → Ask → List ℕ
key_text keys q = codes "key" ++ decimal (key_number keys q)

-- the stored policy, or the key if no policy is named
abbrev pub policy_text : List ℕ → Option Keys → Ask → List ℕ
policy_text [] keys q = key_text keys q
policy_text (b ∷ bs) keys q = codes "policy=" ++ escaped (b ∷ bs)

-- by what the route allows the request: a key, a stored policy, or neither
abbrev pub by_text : Way → Option Keys → Ask → List ℕ
by_text way.Shared keys q = key_text keys q
by_text way.Token keys q = policy_text (id_of (token_in q)) keys q
by_text way.Anonymous keys q = codes "-"

-- a slash and the name of a blob, if the request names one
abbrev pub blob_in_path : Option (List ℕ) → List ℕ
blob_in_path None = []
blob_in_path (Some name) = codes "/" ++ escaped name

-- account, container and blob that the request names
abbrev pub path_text : Ask → List ℕ
path_text q = (codes "/" ++ escaped q.key.account) ++ (codes "/" ++ escaped q.key.container) ++ blob_in_path q.blob

-- a word, and the space after it
unfoldable pub field : List ℕ → List ℕ
field word = word ++ codes " "

-- the line of an entry: moment, route, key or policy, operation, path, and position in the history of the container
abbrev pub line_of : AuditEntry → List ℕ
line_of e =
    field (iso_text (to_fraction 7) (time_at e.moment)) ++ field (way_word e.way) ++ field (by_text e.way e.revision.keys e.request.ask)
    ++ field (op_word e.request.ask.op) ++ field (path_text e.request.ask) ++ decimal e.place ++ codes "\n"

-- the book has this entry at this index
abbrev pub IsAt : Shelved → ℕ → AuditEntry → Type 0
IsAt book index e = (r : Where AuditEntry) × (IsReceiptOf book r × ((r.index ≡ index) × (r.value ≡ e)))

-- the book has these entries at the indexes from this one on
abbrev pub AreAt : Shelved → ℕ → List AuditEntry → Type 0
AreAt book n [] = ⊤
AreAt book n (e ∷ es) = IsAt book n e × AreAt book (n + 1) es

-- the lines of the entries that a book has from one index up to another were appended
abbrev pub AppendsLines : Shelved → ℕ → ℕ → List ℕ → List ℕ → Type 0
AppendsLines book from to old new = (es : List AuditEntry) × (AreAt book from es × ((to ≡ from + length es) × (new ≡ old ++ flat_map line_of es)))

-- bytes that are first in what was left were written, and the others are left
abbrev pub WritesFrom : Option (List ℕ) → Option (List ℕ) → List ℕ → List ℕ → Type 0
WritesFrom held held' left left' = (bytes : List ℕ) × ((left ≡ bytes ++ left') × Appends held held' bytes)
