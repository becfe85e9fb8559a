-- The parts of a request that the rules of the key route judge (Blob service REST reference, 2012-02-12, Authentication
-- for the Azure Storage Services: the headers Authorization, x-ms-date and Date).
use Rattle.std.specs.Prelude.{ℕ, ◌+◌, Bool, true, false, ◌||◌, cond, nat_lt, List, Option, Some, None, option_and_then, bytes_eq, codes}
use Rattle.std.specs.Option.{option_or}
use Rattle.std.specs.Result.{result_ok}
use Rattle.stamp_values.specs.Fields.{first_value}
use Rattle.stamp_values.specs.declared.signing.Credential.{Credential}
use Rattle.stamp_values.specs.declared.signing.Credential.TheVariants.{Shared, Token, Anonymous}
use Rattle.stamp_values.specs.declared.signing.Field.{Field}
use Rattle.stamp_types.specs.declared.ask.Ask.{Ask}
use Rattle.hmac_sign.specs.Signature.{signature_of}
use Rattle.moment_text.specs.Http.{http_moment}
use Rattle.shared_key.specs.Authorizations.{Claim}
use Rattle.shared_key.specs.Readings.{authorization_of}
use Rattle.shared_key.specs.Strings.{key_string}
use Rattle.access_rules.specs.declared.judgement.SignedBy.{SignedBy}
use Rattle.access_rules.specs.declared.judgement.SignedBy.TheVariants as by
use Rattle.access_rules.specs.declared.keys.Keys.{Keys}

-- the claim that Authorization makes, if it was sent once and in its form
abbrev pub claim_in : List (List ℕ) → Option Claim
claim_in values = result_ok (authorization_of values)

-- the claim that a credential makes; the credentials of the other routes make no claim
abbrev pub claim_of : Credential → Option Claim
claim_of (Shared values) = claim_in values
claim_of Token = None
claim_of Anonymous = None

-- the keys that the stamp has for the account; keys of another account count as no keys
abbrev pub keys_for : Option Keys → List ℕ → Option Keys
keys_for None account = None
keys_for (Some pair) account = cond (bytes_eq pair.account account) (Some pair) None

-- the text of the date: x-ms-date if it was sent, and else Date
abbrev pub date_text : List Field → Option (List ℕ)
date_text headers = option_or (first_value headers (codes "x-ms-date")) (first_value headers (codes "date"))

-- the moment that the date of the request names
abbrev pub date_in : List Field → Option ℕ
date_in headers = option_and_then (λ text. result_ok (http_moment text)) (date_text headers)

-- the string to sign of a request
abbrev pub string_of : Ask → List ℕ
string_of q = key_string q.signing q.key.account

-- 900 seconds, in steps of 100 ns
abbrev pub leeway : ℕ
leeway = 9_000_000_000

-- the date is more than 900 seconds before the moment, or after it
abbrev pub is_far : ℕ → ℕ → Bool
is_far moment date = nat_lt (date + leeway) moment || nat_lt (moment + leeway) date

-- one of the two keys gives this signature for the string
abbrev pub is_signed : Keys → List ℕ → List ℕ → Bool
is_signed pair string signature =
    bytes_eq signature (signature_of pair.first string) || bytes_eq signature (signature_of pair.second string)

-- the first key in both places
abbrev pub first_alone : Keys → Keys
first_alone pair = record { account = pair.account; first = pair.first; second = pair.first; epoch = pair.epoch }

-- one of the two keys gives the signature
abbrev pub is_by_either : SignedBy → Bool
is_by_either by.First = true
is_by_either by.Second = true
is_by_either by.Neither = false

-- the first key gives the signature
abbrev pub is_by_first : SignedBy → Bool
is_by_first by.First = true
is_by_first by.Second = false
is_by_first by.Neither = false
