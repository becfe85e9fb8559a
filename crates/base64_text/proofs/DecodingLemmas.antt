-- What a text decodes to, by what the decoder answers.
use Rattle.std.proofs.Common.{◌≡◌, refl, rules, List, ℕ, Some, None, ap, ◌∙◌, subst, IfErr, Result}
use Rattle.std.specs.Result.{result_ok}
use Rattle.std.specs.declared.result.Result.TheVariants.{Ok, Err}
use Rattle.base64.specs.declared.decode.DecodeError.{DecodeError}
use Rattle.base64.specs.declared.decode.DecodeAllocError.{DecodeAllocError}
use Rattle.base64.specs.declared.decode.DecodeAllocError.TheVariants.{DecodeError as Failed}
use Rattle.base64.specs.declared.engine.general_purpose.GeneralPurpose.{GeneralPurpose}
use Rattle.base64.specs.GeneralPurpose.{decode_of, decoded_of, IsDecodeFailure}
use Rattle.base64.proofs.EngineFacts.{decode_of-encode_of}
use Rattle.base64_text.specs.Base64.{standard, base64_of, IsBytes}

-- the decoded bytes are those of the answer
pub decoded_is : (e : GeneralPurpose) (text : List ℕ) → decoded_of e text ≡ result_ok (decode_of e text)
unfolding decoded_of
decoded_is e text = refl

-- the decoder answers bytes
pub decoded_some : (e : GeneralPurpose) (text bytes : List ℕ) → decode_of e text ≡ Ok bytes → decoded_of e text ≡ Some bytes
decoded_some e text bytes same = decoded_is e text ∙ ap result_ok same

-- the decoder refuses the text
pub decoded_none : {T : Type 0} (e : GeneralPurpose) (text : List ℕ) (r : Result T DecodeAllocError) (whole : DecodeAllocError) (fault : DecodeError)
    → IfErr r (IsDecodeFailure e text) → r ≡ Err whole → whole ≡ Failed fault → decoded_of e text ≡ None
decoded_none e text r whole fault known is kind =
    let failed : IsDecodeFailure e text whole = subst (λ x. IfErr x (IsDecodeFailure e text)) is known in
    let refused : decode_of e text ≡ Err fault = subst (IsDecodeFailure e text) kind failed in
    decoded_is e text ∙ ap result_ok refused

-- bytes with one text in Base64 are the same
pub same_bytes : (bytes others : List ℕ) → IsBytes bytes → IsBytes others → base64_of bytes ≡ base64_of others → bytes ≡ others
same_bytes bytes others below others_below same_text =
    let read = decode_of-encode_of standard bytes (search rules) below in
    let other_read = decode_of-encode_of standard others (search rules) others_below in
    cc (same_text, read, other_read)
