-- Texts in records.
use Rattle.std.proofs.Common.{◌≡◌, List, ℕ, IsUtf8, IsTrue, true}
use Rattle.std.proofs.lemmas.Bool.{and_from}
use Rattle.stamp_values.specs.Texts.{is_utf8, is_clean}
use Rattle.stamp_values.proofs.Utf8Lemmas.{utf8_passes}
use Rattle.log_record.specs.Fits.{is_text}

-- a text in UTF-8 without control characters is a text of a record
pub text_good : (t : List ℕ) → IsUtf8 t → IsTrue (is_clean t) → is_text t ≡ true
text_good t utf8 clean = and_from (is_utf8 t) (is_clean t) (utf8_passes t utf8) clean
