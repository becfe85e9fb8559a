-- An id that was decoded into an array.
use Rattle.std.proofs.Common.{◌≡◌, ◌∙◌, ℕ, Bool, true, false, cond, List, length, Option, Some, None, IfOk, IfSome, MatchOption, Result, Ok, Err, ap}
use Rattle.std.specs.Result.{result_ok}
use Rattle.std.proofs.lemmas.Option.{same_Some}
use Rattle.stamp_values.specs.Names.{is_within}
use Rattle.base64.specs.GeneralPurpose.{decode_of}
use Rattle.base64_text.specs.Base64.{standard, encode_of, IsBytes}
use Rattle.base64_text.proofs.AlphabetLemmas.{encode_of-decoded}
use Rattle.base64_text.proofs.DecodingLemmas.{decoded_is}
use Rattle.body_forms.specs.Ids.{if_id}

same_by : (b : Bool) (bytes id : List ℕ) → cond b (Some bytes) None ≡ Some id → bytes ≡ id
same_by true bytes id h = same_Some bytes id h
same_by false bytes id h = cc

-- the bytes that are an id are the bytes of this id
same_id : (bytes id : List ℕ) → if_id bytes ≡ Some id → bytes ≡ id
same_id bytes id h = same_by (is_within 1 64 (length bytes)) bytes id h

-- if a text decodes to bytes, and the bytes are an id, the text is the Base64 of this id
pub short_read : {E : Type 0} (text bytes : List ℕ) (r : Result (Option (List ℕ)) E) → IsBytes text → decode_of standard text ≡ Ok bytes
    → IfOk r (λ o. MatchOption o (if_id bytes ≡ None) (λ id. if_id bytes ≡ Some id)) → IfOk r (λ o. IfSome o (λ id. text ≡ encode_of standard id))
short_read text bytes (Ok None) below decoded is = tt
short_read text bytes (Ok (Some id)) below decoded is =
    encode_of-decoded text bytes below (decoded_is standard text ∙ ap result_ok decoded) ∙ ap (encode_of standard) (same_id bytes id is)
short_read text bytes (Err e) below decoded is = tt
