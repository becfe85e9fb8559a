-- The empty text is the Base64 of the empty key only, the name of a container is a text, and what is answered to a line that asks for a split.
use Rattle.std.specs.Prelude.{◌≡◌, ◌≢◌, ℕ, Bool, false, true, List, [], Some, length}
use Rattle.std.proofs.Common.{◌∙◌, IsUtf8, ap, refl, rules, sym}
use Rattle.std.proofs.lemmas.List.{nil_from_length}
use Rattle.base64.proofs.EngineFacts.{encode_of-nil}
use Rattle.base64_text.specs.Base64.{IsBytes, base64_of, standard}
use Rattle.base64_text.proofs.DecodingLemmas.{same_bytes}
use Rattle.stamp_values.specs.Names.{is_container}
use Rattle.stamp_values.specs.Texts.{is_clean}
use Rattle.request_form.proofs.TextLemmas.{container_visible, not_utf8, visible_clean}
use Rattle.served_history.specs.declared.entry.Entry.{Entry}
use Rattle.stamp_main.specs.OperatorLines.{AnswersSplit, Obeys, split_in}
use Rattle.stamp_main.specs.declared.operator_lines.Answer.{Answer}
use Rattle.stamp_main.specs.declared.operator_lines.Answer.TheVariants as answer

-- a text that is not empty is not the Base64 of the empty key
pub key_of_text : (text key : List ℕ) → length text ≢ 0 → text ≡ base64_of key → key ≢ []
key_of_text text key some is none = some (ap length (is ∙ (ap base64_of none ∙ encode_of-nil standard)))

-- an empty text is the Base64 of no other key
pub text_of_key : (text key : List ℕ) → length text ≡ 0 → IsBytes key → key ≢ [] → text ≢ base64_of key
text_of_key text key none key_is some is = some (same_bytes key [] key_is (search rules) (sym is ∙ (nil_from_length text none ∙ sym (encode_of-nil standard))))

-- ---- the name of a container

contradicts : (b : Bool) → b ≡ true → b ≡ false → ⊥
contradicts true is not = cc
contradicts false is not = cc

-- it is UTF-8
pub container_utf8 : (t : List ℕ) → is_container t ≡ true → ¬ (IsUtf8 t) → ⊥
container_utf8 t good none = contradicts _ (container_visible t good) (not_utf8 t none)

-- it has no control characters
pub container_clean : (t : List ℕ) → is_container t ≡ true → is_clean t ≡ true
container_clean t good = visible_clean t (container_visible t good)

-- ---- a split

-- a line that asks for a split is obeyed by the answer to the split
pub obeyed : (known : List Entry) (account line name : List ℕ) (a : Answer) → split_in line ≡ Some name → AnswersSplit account name a → Obeys known account line a known
obeyed known account line name answer.Split asked is = ((name, asked, is), refl)
obeyed known account line name answer.Name asked is = ((name, asked, is), refl)
obeyed known account line name answer.FirstKey asked is = ((name, asked, is), refl)
obeyed known account line name answer.Full asked is = ((name, asked, is), refl)
obeyed known account line name answer.NoMemory asked is = refl
obeyed known account line name (answer.Epoch epoch) asked is = elim is [ ]
obeyed known account line name answer.Form asked is = elim is [ ]
obeyed known account line name answer.Key asked is = elim is [ ]
obeyed known account line name answer.Long asked is = elim is [ ]
obeyed known account line name answer.Last asked is = elim is [ ]
