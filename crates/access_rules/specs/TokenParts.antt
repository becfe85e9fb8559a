-- The parts of a request that the rules of the signature route judge (Blob service REST reference, 2012-02-12, Delegating Access with
-- a Shared Access Signature).
use Rattle.std.specs.Prelude.{ℕ, Bool, true, false, ◌&&◌, is_some, List, [], ◌∷◌, Option, Some, None}
use Rattle.stamp_values.specs.Letters.{Permissions}
use Rattle.stamp_types.specs.declared.ask.Ask.{Ask}
use Rattle.sas_token.specs.TokenReading.{token_of}
use Rattle.sas_token.specs.Tokens.{Sent, token_string}
use Rattle.sas_token.specs.declared.token.Resource.{Resource}
use Rattle.sas_token.specs.declared.token.Resource.TheVariants.{Container, Blob}
use Rattle.access_rules.specs.declared.needs.Letter.{Letter}
use Rattle.access_rules.specs.declared.needs.Letter.TheVariants as letter

-- the token that the query of a request is, if the query is a token
abbrev pub token_in : Ask → Option Sent
token_in q = token_of q.signing.query

-- the name has a byte
abbrev pub is_named : List ℕ → Bool
is_named [] = false
is_named (b ∷ bs) = true

-- the request names what a token is for: a container, and also a blob, if the token is for a blob
abbrev pub names_resource : Ask → Resource → Bool
names_resource q Container = is_named q.key.container
names_resource q Blob = is_named q.key.container && is_some q.blob

-- the string that the maker of the token signed, if the token is for what the request names
abbrev pub text_of : Ask → Sent → List ℕ
text_of q token = token_string token q.key q.blob

-- the field that a token and its policy give together; a field that both give has no value
abbrev pub given_once : {A : Type 0} → Option A → Option A → Option A
given_once (Some own) (Some stored) = None
given_once (Some own) None = Some own
given_once None stored = stored

-- the permissions have the letter
abbrev pub allows : Letter → Permissions → Bool
allows letter.Read p = p.read
allows letter.Write p = p.write
allows letter.Delete p = p.delete
allows letter.List p = p.list
