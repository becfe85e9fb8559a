-- The first bytes of the strings that keys and tokens sign.
use Rattle.std.proofs.Common.{◌≡◌, ◌≢◌, ℕ, nat_eq, Bool, true, false, ◌||◌, List, [], ◌∷◌, Option, Some, None, refl, sym, ap, ◌∙◌, true≢false}
use Rattle.stamp_values.specs.Letters.{Permissions, letters_text}
use Rattle.stamp_values.specs.declared.key.Key.{Key}
use Rattle.stamp_values.specs.declared.signing.Field.{Field}
use Rattle.stamp_values.specs.declared.signing.Signing.{Signing}
use Rattle.stamp_values.specs.declared.verb.Verb.{Verb}
use Rattle.stamp_values.specs.declared.verb.Verb.TheVariants.{Get, Head, Put, Delete}
use Rattle.sas_token.specs.Tokens.{GivesLetters, IsToken, Sent, front_string, token_string}
use Rattle.shared_key.specs.Strings.{key_string}

-- the text begins with the first letter of a method: D, G, H or P
abbrev begins_as_method : List ℕ → Bool
begins_as_method [] = false
begins_as_method (b ∷ bs) = nat_eq b 68 || nat_eq b 71 || nat_eq b 72 || nat_eq b 80

-- the string of a key begins with a method
key_begins : (s : Signing) (account : List ℕ) (verb : Verb) → begins_as_method (key_string (record s { verb = verb }) account) ≡ true
unfolding key_string
key_begins s account Get = refl
key_begins s account Head = refl
key_begins s account Put = refl
key_begins s account Delete = refl

module _ (t : Sent) (key : Key) (blob : Option (List ℕ)) where
  -- the string of a token with these permissions
  abbrev string_with : List ℕ → List ℕ
  string_with permissions = token_string (record t { permissions = permissions }) key blob

  -- the string of a token begins with a letter of its permissions, or with the line feed after no permissions
  letters_begin : (read write delete list : Bool) → begins_as_method (string_with (letters_text (record { read = read; write = write; delete = delete; list = list }))) ≡ false
  unfolding token_string front_string
  letters_begin true write delete list = refl
  letters_begin false true delete list = refl
  letters_begin false false true list = refl
  letters_begin false false false true = refl
  letters_begin false false false false = refl

  token_begins : (given : Option Permissions) → GivesLetters t.permissions given → begins_as_method (token_string t key blob) ≡ false
  unfolding token_string front_string
  token_begins None empty = ap (λ x. begins_as_method (string_with x)) empty
  token_begins (Some p) letters = ap (λ x. begins_as_method (string_with x)) letters.1 ∙ letters_begin p.read p.write p.delete p.list

-- the string that a token signs is not a string that a key signs
pub token_not_key : (query : List Field) (t : Sent) → IsToken query t → (key : Key) (blob : Option (List ℕ)) (s : Signing) (account : List ℕ) → token_string t key blob ≢ key_string s account
token_not_key query t reads key blob s account = λ same.
    true≢false (sym (key_begins s account s.verb) ∙ ap begins_as_method (sym same) ∙ token_begins t key blob t.letters reads.letters)
