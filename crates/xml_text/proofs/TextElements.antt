-- An element of a text alone, from its first tag to its last.
use Rattle.std.proofs.Common.{◌≡◌, ℕ, true, cond, List, ◌++◌, Some, None, refl, sym, ap, ◌∙◌, subst, append_assoc}
use Rattle.std.specs.Prelude.{bytes_eq}
use Rattle.std.proofs.lemmas.Option.{option_and_then_some}
use Rattle.std.proofs.lemmas.Slice.Eq.{bytes_eq-Decides}
use Rattle.xml_text.specs.Tokens.{Tag}
use Rattle.xml_text.specs.Texts.{Token, AreTokens}
use Rattle.xml_text.specs.Elements.{IsTextElement}
use Rattle.xml_text.specs.Reading.{tag_at}
use Rattle.xml_text.specs.ElementReading.{content_at, text_element_at}
use Rattle.xml_text.proofs.Runs.{if_none}
use Rattle.xml_text.proofs.Complete.{tag_read}
use Rattle.xml_text.proofs.Sound.{tag_sound}
use Rattle.xml_text.proofs.ElementsSound.{content_sound}
use Rattle.xml_text.proofs.ElementsComplete.{content_read}

same_name : (name : List ℕ) → bytes_eq name name ≡ true
same_name name = (bytes_eq-Decides name name).1 refl

-- what is written as the element is read as it
pub element_read : (name v s r : List ℕ) (tokens : List Token) → IsTextElement name v tokens → AreTokens tokens s → text_element_at name (s ++ r) ≡ Some (v, r)
unfolding text_element_at
element_read name v s r tokens is are =
    let (kind, front, back, first, other, whole, read) = content_read name v tokens s r is are in
    let shape : s ++ r ≡ front ++ (back ++ r) = ap (λ l. l ++ r) whole ∙ append_assoc front back r in
    rw (shape, tag_read (record { kind = kind; name = name }) front (back ++ r) first, same_name name, read) refl

-- what is read as the element is written as it
pub element_sound : (name v t r : List ℕ) → text_element_at name t ≡ Some (v, r) → (tokens : List Token) × (s : List ℕ) × IsTextElement name v tokens × AreTokens tokens s × (t ≡ s ++ r)
unfolding text_element_at
element_sound name v t r e =
    option_and_then_some (λ (g : Tag × List ℕ). cond (bytes_eq g.0.name name) (content_at g.0.kind g.0.name g.1) None) (tag_at t) (v, r) e λ g is e₁.
    let (named, e₂) = if_none (bytes_eq g.0.name name) (content_at g.0.kind g.0.name g.1) (v, r) e₁ in
    let (front, first, whole) = tag_sound t g.1 g.0 is in
    let same : g.0.name ≡ name = (bytes_eq-Decides g.0.name name).0 named in
    let (tokens, s, element, are, rest) = content_sound g.0.kind g.0.name front g.1 r v first e₂ in
    (tokens, front ++ s, subst (λ n. IsTextElement n v tokens) same element, are, whole ∙ ap (λ l. front ++ l) rest ∙ sym (append_assoc front s r))
