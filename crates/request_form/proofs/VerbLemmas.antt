-- Bytes that are not a token are not a method that the stamp serves.
use Rattle.std.proofs.Common.{◌≡◌, ℕ, Bool, true, false, List, None, refl, sym, subst, arith}
use Rattle.std.specs.Prelude.{bytes_eq, codes}
use Rattle.std.proofs.lemmas.Slice.Eq.{bytes_eq-Decides}
use Rattle.http_header.specs.Token.{is_token_byte, IsToken}
use Rattle.http_header.proofs.TokenLemmas.{AllPass-from_test}
use Rattle.request_form.specs.HeadRules.{verb_of}

get_token : IsToken (codes "GET")
unfolding is_token_byte
get_token = (omega arith, AllPass-from_test is_token_byte (codes "GET") refl)

head_token : IsToken (codes "HEAD")
unfolding is_token_byte
head_token = (omega arith, AllPass-from_test is_token_byte (codes "HEAD") refl)

put_token : IsToken (codes "PUT")
unfolding is_token_byte
put_token = (omega arith, AllPass-from_test is_token_byte (codes "PUT") refl)

delete_token : IsToken (codes "DELETE")
unfolding is_token_byte
delete_token = (omega arith, AllPass-from_test is_token_byte (codes "DELETE") refl)

-- bytes that are not a token are not this token
other_bytes : (bytes token : List ℕ) → ¬ (IsToken bytes) → IsToken token → bytes_eq bytes token ≡ false
other_bytes bytes token other is = by_case (bytes_eq bytes token) refl
  where
    by_case : (b : Bool) → bytes_eq bytes token ≡ b → b ≡ false
    by_case true e = absurd (other (subst IsToken (sym ((bytes_eq-Decides bytes token).0 e)) is))
    by_case false e = refl

-- bytes that are not a token are not served
pub verb_of_other : (method : List ℕ) → ¬ (IsToken method) → verb_of method ≡ None
unfolding verb_of
verb_of_other method other =
    rw (other_bytes method (codes "GET") other get_token, other_bytes method (codes "HEAD") other head_token, other_bytes method (codes "PUT") other put_token, other_bytes method (codes "DELETE") other delete_token) refl
