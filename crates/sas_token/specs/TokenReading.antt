-- The token that a query is, as a function (Blob service REST reference, 2012-02-12, Delegating Access with a Shared Access Signature).
-- A law says that it gives the tokens of the definition, and nothing else.
use Rattle.std.specs.Prelude.{ℕ, cond, List, [], ◌∷◌, Option, Some, None, option_and_then, option_map, bytes_eq, codes}
use Rattle.std.specs.List.{list_any}
use Rattle.std.specs.Option.{option_map_or}
use Rattle.std.specs.Result.{result_ok}
use Rattle.stamp_values.specs.Fields.{is_sent_twice, first_value}
use Rattle.stamp_values.specs.Letters.{Permissions, letters_of}
use Rattle.stamp_values.specs.declared.signing.Field.{Field}
use Rattle.moment_text.specs.IsoReader.{iso_moment}
use Rattle.sas_token.specs.declared.token.Resource.{Resource}
use Rattle.sas_token.specs.declared.token.Resource.TheVariants.{Container, Blob}
use Rattle.sas_token.specs.Tokens.{Sent, Overridden, are_visible, is_served, no_overrides, overrides_for, overrides_twice, parameter_names, text_under}

-- the version, if it is a version that is served
abbrev pub if_served : List ℕ → Option (List ℕ)
if_served version = cond (is_served version) (Some version) None

-- the kind of resource that a letter names
abbrev pub resource_of : List ℕ → Option Resource
resource_of letter = cond (bytes_eq letter (codes "b")) (Some Blob) (cond (bytes_eq letter (codes "c")) (Some Container) None)

-- the permissions that a text gives, if it is empty or is the letters of permissions; an empty text gives no permissions
unfoldable pub letters_given : List ℕ → Option (Option Permissions)
letters_given [] = Some None
letters_given (b ∷ bs) = option_map (λ permissions. Some permissions) (letters_of (b ∷ bs))

-- the moment that a text names, if it is empty or is a time; an empty text names no moment
unfoldable pub time_given : List ℕ → Option (Option ℕ)
time_given [] = Some None
time_given (b ∷ bs) = option_map (λ moment. Some moment) (result_ok (iso_moment (b ∷ bs)))

-- what the query replaces by this version, if no override was sent more than once and each is of printable ASCII
abbrev pub overrides_given : List Field → List ℕ → Option Overridden
overrides_given query version =
    cond (overrides_twice query version) None (cond (are_visible (overrides_for query version)) (Some (overrides_for query version)) None)

-- the token with the other texts of the query, if each of these parts could be read
abbrev pub token_by : List Field → Option (List ℕ) → Option Resource → Option (List ℕ) → Option (Option Permissions) → Option (Option ℕ) → Option (Option ℕ) → Option Overridden → Option Sent
token_by query (Some version) (Some resource) (Some signature) (Some letters) (Some start) (Some expiry) (Some overrides) = Some (record {
  version = version;
  resource = resource;
  permissions = text_under query (codes "sp");
  start_text = text_under query (codes "st");
  expiry_text = text_under query (codes "se");
  id = text_under query (codes "si");
  signature = signature;
  letters = letters;
  start = start;
  expiry = expiry;
  overrides = overrides;
})
token_by query version resource signature letters start expiry overrides = None

-- the token that a query is: none of the seven parameters was sent more than once, and each part can be read
unfoldable pub token_of : List Field → Option Sent
token_of query =
    cond (list_any (is_sent_twice query) parameter_names) None
    (token_by query
    (option_and_then if_served (first_value query (codes "sv")))
    (option_and_then resource_of (first_value query (codes "sr")))
    (first_value query (codes "sig"))
    (letters_given (text_under query (codes "sp")))
    (time_given (text_under query (codes "st")))
    (time_given (text_under query (codes "se")))
    (overrides_given query (text_under query (codes "sv"))))

-- what the token that a query is replaces; a query that is not a token replaces nothing
abbrev pub replaced_headers : List Field → Overridden
replaced_headers query = option_map_or (λ t. t.overrides) (token_of query) no_overrides
