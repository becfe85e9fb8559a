-- Shared access signatures (Blob service REST reference, 2012-02-12, Delegating Access with a Shared Access Signature).
use Rattle.std.specs.Prelude.{◌≡◌, ◌≢◌, ◌⊎◌, ℕ, Bool, true, false, cond, ◌&&◌, ◌||◌, List, [], ◌∷◌, ◌++◌, Option, Some, None, unwrap_or, bytes_eq, codes, Ok, IsTrue, IsSomeAnd}
use Rattle.std.specs.List.{list_any, join_with_byte}
use Rattle.stamp_values.specs.Ascii.{line_feed, slash}
use Rattle.stamp_values.specs.declared.key.Key.{Key}
use Rattle.stamp_values.specs.Fields.{is_sent_twice, first_value}
use Rattle.stamp_values.specs.Letters.{Permissions, letters_text}
use Rattle.stamp_values.specs.Names.{is_account, is_container, is_blob}
use Rattle.stamp_values.specs.declared.signing.Field.{Field}
use Rattle.stamp_values.specs.Texts.{is_visible}
use Rattle.moment_text.specs.IsoReader.{iso_moment}
use Rattle.sas_token.specs.declared.fault.TokenFault.{TokenFault}
use Rattle.sas_token.specs.declared.fault.TokenFault.TheVariants.{Twice, Missing, Version, Resource as OtherResource, Letters, Time, Header, NoMemory}
use Rattle.sas_token.specs.declared.token.Resource.{Resource}
use Rattle.sas_token.specs.declared.token.Resource.TheVariants.{Container, Blob}

-- the texts that a token puts in the place of headers of the reply; an empty text replaces nothing
pub record Overridden : Type 0 where
  pub cache_control : List ℕ
  pub disposition : List ℕ
  pub encoding : List ℕ
  pub language : List ℕ
  pub content_type : List ℕ

-- nothing is replaced
abbrev pub no_overrides : Overridden
no_overrides = record { cache_control = []; disposition = []; encoding = []; language = []; content_type = [] }

-- a token: the texts that were sent, decoded, and what they say
pub record Sent : Type 0 where
  pub version : List ℕ
  pub resource : Resource
  pub permissions : List ℕ
  pub start_text : List ℕ
  pub expiry_text : List ℕ
  pub id : List ℕ
  pub signature : List ℕ
  pub letters : Option Permissions
  pub start : Option ℕ
  pub expiry : Option ℕ
  pub overrides : Overridden

-- the parameters of a token
abbrev pub parameter_names : List (List ℕ)
parameter_names = codes "sv" ∷ codes "sr" ∷ codes "sp" ∷ codes "st" ∷ codes "se" ∷ codes "si" ∷ codes "sig" ∷ []

-- the parameters of a token that replace headers of the reply
abbrev pub override_names : List (List ℕ)
override_names = codes "rscc" ∷ codes "rscd" ∷ codes "rsce" ∷ codes "rscl" ∷ codes "rsct" ∷ []

-- the first version of the service that tokens are made for
abbrev pub served_version : List ℕ
served_version = codes "2012-02-12"

-- the version whose tokens may replace headers of the reply
abbrev pub newer_version : List ℕ
newer_version = codes "2013-08-15"

-- tokens of this version may replace headers of the reply
abbrev pub has_overrides : List ℕ → Bool
has_overrides version = bytes_eq version newer_version

-- tokens may be made for this version
abbrev pub is_served : List ℕ → Bool
is_served version = bytes_eq version served_version || has_overrides version

-- the letter that names the kind of a resource
abbrev pub resource_letter : Resource → List ℕ
resource_letter Container = codes "c"
resource_letter Blob = codes "b"

-- the text that was sent under a name, or the empty text if none was sent
abbrev pub text_under : List Field → List ℕ → List ℕ
text_under query name = unwrap_or (first_value query name) []

-- the texts that were sent under the names of overrides
abbrev pub overrides_in : List Field → Overridden
overrides_in query = record {
  cache_control = text_under query (codes "rscc");
  disposition = text_under query (codes "rscd");
  encoding = text_under query (codes "rsce");
  language = text_under query (codes "rscl");
  content_type = text_under query (codes "rsct");
}

-- what a token of this version replaces: a token of the first version replaces nothing, whatever was sent
abbrev pub overrides_for : List Field → List ℕ → Overridden
overrides_for query version = cond (has_overrides version) (overrides_in query) no_overrides

-- each text is of printable ASCII
abbrev pub are_visible : Overridden → Bool
are_visible o = is_visible o.cache_control && is_visible o.disposition && is_visible o.encoding && is_visible o.language && is_visible o.content_type

-- a token of this version may override, and one of these parameters was sent more than once
abbrev pub overrides_twice : List Field → List ℕ → Bool
overrides_twice query version = has_overrides version && list_any (is_sent_twice query) override_names

-- an empty text gives no permissions, and any other text is the letters of the permissions that it gives
abbrev pub GivesLetters : List ℕ → Option Permissions → Type 0
GivesLetters text None = text ≡ []
GivesLetters text (Some p) = (text ≢ []) × (text ≡ letters_text p)

-- an empty text names no moment, and any other text is a time and names its moment
abbrev pub GivesTime : List ℕ → Option ℕ → Type 0
GivesTime text None = text ≡ []
GivesTime text (Some m) = (text ≢ []) × (iso_moment text ≡ Ok m)

-- the query is this token
pub record IsToken (query : List Field) (t : Sent) : Type 0 where
  -- none of the seven parameters was sent more than once, not even with empty values
  pub once : list_any (is_sent_twice query) parameter_names ≡ false
  -- the version was sent, and is a version that is served
  pub version : first_value query (codes "sv") ≡ Some t.version
  pub served : is_served t.version ≡ true
  -- the letter of the resource was sent
  pub resource : first_value query (codes "sr") ≡ Some (resource_letter t.resource)
  -- a signature was sent
  pub signature : first_value query (codes "sig") ≡ Some t.signature
  -- the other texts are those that were sent, and are empty if nothing was sent
  pub permissions : t.permissions ≡ text_under query (codes "sp")
  pub start_text : t.start_text ≡ text_under query (codes "st")
  pub expiry_text : t.expiry_text ≡ text_under query (codes "se")
  pub id : t.id ≡ text_under query (codes "si")
  -- permissions and moments are what these texts give
  pub letters : GivesLetters t.permissions t.letters
  pub start : GivesTime t.start_text t.start
  pub expiry : GivesTime t.expiry_text t.expiry
  -- if the version may override: no override was sent more than once, and each is of printable ASCII
  pub overrides_once : overrides_twice query t.version ≡ false
  pub overrides : t.overrides ≡ overrides_for query t.version
  pub visible : are_visible t.overrides ≡ true

-- the query has the cause of the fault
abbrev pub HasCause : List Field → TokenFault → Type 0
HasCause query Twice = (list_any (is_sent_twice query) parameter_names || overrides_twice query (text_under query (codes "sv"))) ≡ true
HasCause query Missing =
    (first_value query (codes "sv") ≡ None) ⊎ ((first_value query (codes "sr") ≡ None) ⊎ (first_value query (codes "sig") ≡ None))
HasCause query Version = is_served (text_under query (codes "sv")) ≡ false
HasCause query OtherResource = (r : Resource) → text_under query (codes "sr") ≢ resource_letter r
HasCause query Letters = (p : Option Permissions) → ¬ GivesLetters (text_under query (codes "sp")) p
HasCause query Time =
    ((m : Option ℕ) → ¬ GivesTime (text_under query (codes "st")) m) ⊎ ((m : Option ℕ) → ¬ GivesTime (text_under query (codes "se")) m)
HasCause query Header = are_visible (overrides_for query (text_under query (codes "sv"))) ≡ false
HasCause query NoMemory = ⊥

-- the faults in the order in which they are named
abbrev pub fault_order : List TokenFault
fault_order = Twice ∷ Missing ∷ Version ∷ OtherResource ∷ Letters ∷ Time ∷ Header ∷ NoMemory ∷ []

-- the fault is the first of these faults that has a cause
abbrev pub IsFirst : (TokenFault → Type 0) → List TokenFault → TokenFault → Type 0
IsFirst P [] fault = ⊥
IsFirst P (f ∷ fs) fault = (P f × (fault ≡ f)) ⊎ (¬ P f × IsFirst P fs fault)

-- the query is not a token for this reason, and for no reason before it
abbrev pub IsFault : List Field → TokenFault → Type 0
IsFault query fault = IsFirst (HasCause query) fault_order fault

-- what comes after the container in the line of the resource: a slash and the blob's name if the token is for a blob
abbrev pub blob_text : Resource → Option (List ℕ) → List ℕ
blob_text Blob (Some name) = slash ∷ name
blob_text Blob None = []
blob_text Container name = []

-- the line of the resource: a slash, the account, a slash, the container, and the blob if the token is for a blob
abbrev pub resource_text : Resource → Key → Option (List ℕ) → List ℕ
resource_text resource key blob = slash ∷ key.account ++ slash ∷ key.container ++ blob_text resource blob

-- each of the five texts that replace headers, after a line feed of its own
unfoldable pub overrides_text : Overridden → List ℕ
overrides_text o =
    line_feed ∷ o.cache_control ++ line_feed ∷ o.disposition ++ line_feed ∷ o.encoding ++ line_feed ∷ o.language ++ line_feed ∷ o.content_type

-- what the string of a token has after its version
abbrev pub back_string : Sent → List ℕ
back_string t = cond (has_overrides t.version) (overrides_text t.overrides) []

-- permissions, start, expiry, resource, id and version as they were sent, with a line feed between two
unfoldable pub front_string : Sent → Key → Option (List ℕ) → List ℕ
front_string t key blob =
    join_with_byte line_feed
    (t.permissions ∷ t.start_text ∷ t.expiry_text ∷ resource_text t.resource key blob ∷ t.id ∷ t.version ∷ [])

-- the string to sign: in the newer version the texts that replace headers follow, each after a line feed, also if it is empty
unfoldable pub token_string : Sent → Key → Option (List ℕ) → List ℕ
token_string t key blob = front_string t key blob ++ back_string t

-- the names are good, as those of a request are, and if the token is for a blob, the blob is named
pub record HasGoodNames (t : Sent) (key : Key) (name : Option (List ℕ)) : Type 0 where
  pub account : IsTrue (is_account key.account)
  pub container : IsTrue (is_container key.container)
  pub blob : t.resource ≡ Blob → IsSomeAnd name (λ name. IsTrue (is_blob name))

-- both tokens give the same permissions and the same times by the same texts, name the same policy, and are for the same resource
pub record MeanTheSame (t u : Sent) (k l : Key) (a b : Option (List ℕ)) : Type 0 where
  pub permissions : t.permissions ≡ u.permissions
  pub letters : t.letters ≡ u.letters
  pub start_text : t.start_text ≡ u.start_text
  pub start : t.start ≡ u.start
  pub expiry_text : t.expiry_text ≡ u.expiry_text
  pub expiry : t.expiry ≡ u.expiry
  pub id : t.id ≡ u.id
  pub resource : t.resource ≡ u.resource
  pub account : k.account ≡ l.account
  pub container : k.container ≡ l.container
  pub blob : t.resource ≡ Blob → a ≡ b
  pub overrides : t.overrides ≡ u.overrides
