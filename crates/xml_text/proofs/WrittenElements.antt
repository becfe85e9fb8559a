-- What is written as elements is elements of the grammar, for any name and any inner form.
use Rattle.std.proofs.Common.{◌≡◌, inl, ℕ, true, List, [], ◌∷◌, ◌++◌, refl, sym, ap, append_assoc, append-nil}
use Rattle.std.proofs.lemmas.List.Elements.{All-nil}
use Rattle.xml_text.specs.declared.tokens.Kind.TheVariants.{Opening, Closing}
use Rattle.stamp_values.specs.Ascii.{slash}
use Rattle.xml_text.specs.Markup.{greater_than, less_than}
use Rattle.xml_text.specs.Tokens.{IsAttribute, AreAttributes, IsTag, is_name}
use Rattle.xml_text.specs.Texts.{Token, text, AreTokens}
use Rattle.xml_text.specs.Elements.{opening, closing, without_white_ends, IsTextElement, AreElements, IsElementOf, IsRoot}
use Rattle.xml_text.specs.Escapes.{escaped}
use Rattle.xml_text.specs.WrittenElements.{opening_text, closing_text, element_text}
use Rattle.xml_text.proofs.TextLemmas.{gap_text}
use Rattle.xml_text.proofs.EscapeLemmas.{read_back}
use Rattle.xml_text.proofs.ElementsSound.{join, one_token}

-- the bytes are an element of this form
abbrev pub IsWritten : (A : Type 0) → (A → List Token → Type 0) → A → List ℕ → Type 0
IsWritten A IsOne a s = (tokens : List Token) × IsOne a tokens × AreTokens tokens s

-- the bytes are these elements, each of this form
abbrev pub AreWritten : (A : Type 0) → (A → List Token → Type 0) → List A → List ℕ → Type 0
AreWritten A IsOne inner s = (tokens : List Token) × AreElements IsOne inner tokens × AreTokens tokens s

-- ---- tags

no_attributes : AreAttributes []
no_attributes = ([], [], All-nil IsAttribute, refl, refl)

pub opening_is : (name : List ℕ) → is_name name ≡ true → IsTag (record { kind = Opening; name = name }) (opening_text name)
unfolding opening_text
opening_is name named = (named, ([], no_attributes, ap (λ l. less_than ∷ (l ++ greater_than ∷ [])) (sym (append-nil name))))

pub closing_is : (name : List ℕ) → is_name name ≡ true → IsTag (record { kind = Closing; name = name }) (closing_text name)
unfolding closing_text
closing_is name named = (named, ([], refl, ap (λ l. less_than ∷ slash ∷ (l ++ greater_than ∷ [])) (sym (append-nil name))))

closing_token : (name : List ℕ) → is_name name ≡ true → AreTokens (closing name ∷ []) (closing_text name)
closing_token name named = one_token (closing name) (closing_text name) (closing_is name named)

-- ---- elements

-- an element of a text alone
pub text_written : (name v t : List ℕ) → is_name name ≡ true → v ≡ without_white_ends t → IsWritten (List ℕ) (IsTextElement name) v (element_text name t)
unfolding element_text
text_written name v t named value = (
  opening name ∷ text t ∷ closing name ∷ [],
  inl (t, refl, value),
  (
    opening_text name,
    escaped t ++ closing_text name,
    opening_is name named,
    (escaped t, closing_text name, (read_back t).written, closing_token name named, refl),
    append_assoc (opening_text name) (escaped t) (closing_text name),
  ),
)

-- no elements
pub none_written : (A : Type 0) (IsOne : A → List Token → Type 0) → AreWritten A IsOne [] []
none_written A IsOne = ([], refl, refl)

-- one element more, before the others
pub one_written : (A : Type 0) (IsOne : A → List Token → Type 0) (a : A) (more : List A) (s r : List ℕ) → IsWritten A IsOne a s → AreWritten A IsOne more r → AreWritten A IsOne (a ∷ more) (s ++ r)
one_written A IsOne a more s r (front, is, are) (back, elements, others) =
    (front ++ text [] ∷ back, (front, [], back, is, refl, elements, refl), join front (text [] ∷ back) s r are ([], r, gap_text [] refl, others, refl))

-- an element with these elements inside
pub element_written : (A : Type 0) (name : List ℕ) (IsOne : A → List Token → Type 0) (inner : List A) (s : List ℕ) → is_name name ≡ true → AreWritten A IsOne inner s
    → IsWritten (List A) (IsElementOf name IsOne) inner (opening_text name ++ s ++ closing_text name)
element_written A name IsOne inner s named (inside, elements, are) = (
  opening name ∷ text [] ∷ (inside ++ closing name ∷ []),
  inl ([], inside, refl, elements, refl),
  (
    opening_text name,
    s ++ closing_text name,
    opening_is name named,
    ([], s ++ closing_text name, gap_text [] refl, join inside (closing name ∷ []) s (closing_text name) are (closing_token name named), refl),
    append_assoc (opening_text name) s (closing_text name),
  ),
)

-- a root without white space before it and after it
pub root_written : (IsElement : List Token → Type 0) (s : List ℕ) → ((tokens : List Token) × IsElement tokens × AreTokens tokens s) → IsRoot IsElement s
root_written IsElement s (tokens, is, are) = ([], tokens, s, [], refl, is, are, refl, sym (append-nil s))
