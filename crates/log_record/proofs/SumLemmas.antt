-- MD5s as texts in Base64.
use Rattle.std.proofs.Common.{◌≡◌, ℕ, ◌==◌, Bool, true, false, cond, List, [], ◌∷◌, ◌++◌, length, Option, Some, None, refl, sym, ap, subst, ◌∙◌, arith}
use Rattle.std.specs.Result.{result_ok}
use Rattle.base64.proofs.EngineFacts.{decode_of-encode_of, encode_of-nil}
use Rattle.base64_text.specs.Base64.{standard, encode_of, decoded_of, IsBytes}
use Rattle.base64_text.proofs.AlphabetLemmas.{encode_of-decoded}
use Rattle.base64_text.proofs.DecodingLemmas.{decoded_is}
use Rattle.log_record.specs.Forms.{short_bytes, string_bytes, FitsOption}
use Rattle.log_record.specs.Fits.{IsSum}
use Rattle.log_record.specs.Records.{md5_text}
use Rattle.log_record.specs.ReadFields.{sum_of, md5_of}
use Rattle.log_record.proofs.FormLemmas as forms

decoded_of-encode_of : (bytes : List ℕ) → IsBytes bytes → decoded_of standard (encode_of standard bytes) ≡ Some bytes
decoded_of-encode_of bytes good = decoded_is standard (encode_of standard bytes) ∙ ap result_ok (decode_of-encode_of standard bytes refl good)

sum_again : (sum : List ℕ) → length sum ≡ 16 → sum_of sum ≡ Some (Some sum)
sum_again [] len = absurd (omega (arith, len))
sum_again (b ∷ t) len = rw len refl

-- an MD5 is read again from its text
pub md5_of-md5_text : (o : Option (List ℕ)) → FitsOption IsSum o → md5_of (md5_text o) ≡ Some o
md5_of-md5_text None fits = ap (λ t. md5_of t) (sym (encode_of-nil standard)) ∙ rw (decoded_of-encode_of [] (λ i. omega arith)) refl
md5_of-md5_text (Some sum) fits = rw (decoded_of-encode_of sum fits.1) (sum_again sum fits.0)

sum_taken : (bytes : List ℕ) (o : Option (List ℕ)) → sum_of bytes ≡ Some o → encode_of standard bytes ≡ md5_text o
sum_taken [] o e = encode_of-nil standard ∙ ap md5_text (forms.some_is None o e)
sum_taken (b ∷ t) o e = by (length (b ∷ t) == 16) e
  where
    by : (c : Bool) → cond c (Some (Some (b ∷ t))) None ≡ Some o → encode_of standard (b ∷ t) ≡ md5_text o
    by true h = ap md5_text (forms.some_is (Some (b ∷ t)) o h)
    by false h = absurd cc

-- a text from which an MD5 is read is the text of that MD5
pub md5_taken : (text : List ℕ) (o : Option (List ℕ)) → IsBytes text → md5_of text ≡ Some o → text ≡ md5_text o
md5_taken text o good e =
    let bytes = forms.bind_some (decoded_of standard text) sum_of o e in
    encode_of-decoded text bytes.0 good bytes.1 ∙ sum_taken bytes.0 o bytes.2

-- the bytes of a string at the front of bytes are bytes
pub string_within : (t s rest : List ℕ) → IsBytes t → t ≡ string_bytes s ++ rest → IsBytes s
unfolding string_bytes
string_within t s rest good e =
    forms.rest_bytes (short_bytes (length s)) s (forms.front_bytes (short_bytes (length s) ++ s) rest (subst IsBytes e good))
