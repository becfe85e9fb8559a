-- A block list is read as its entries, and what is read as a block list is a block list of these entries.
use Rattle.std.proofs.Common.{◌≡◌, ◌++◌, ℕ, Bool, true, false, cond, List, Some, None, refl, sym, ap, ◌∙◌, subst}
use Rattle.std.specs.Prelude.{codes, bytes_eq, option_map}
use Rattle.std.proofs.lemmas.Option.{option_and_then_some, same_Some}
use Rattle.std.proofs.lemmas.Slice.Eq.{bytes_eq-Decides}
use Rattle.stamp_values.specs.declared.block.Lookup.{Lookup}
use Rattle.stamp_values.specs.declared.block.Lookup.TheVariants.{Committed, Uncommitted, Latest}
use Rattle.xml_text.specs.declared.tokens.Kind.TheVariants.{Closing}
use Rattle.xml_text.specs.Tokens.{Tag, IsTag}
use Rattle.xml_text.specs.Texts.{Token, AreTokens}
use Rattle.body_forms.specs.BlockLists.{IsBlockListBody, lookup_name, list_name, Entry, IsEntry, IsBlockListText}
use Rattle.body_forms.specs.BlockListReading.{body_entries, lookup_of, entry_at, entries_of}
use Rattle.xml_text.specs.ElementReading.{is_kind, content_at, inner_at}
use Rattle.xml_text.proofs.Sound.{mapped_some}
use Rattle.xml_text.proofs.FrontLemmas.{body_sound, body_read}
use Rattle.xml_text.proofs.ElementsSound.{content_sound, inner_sound, root_sound}
use Rattle.xml_text.proofs.ElementsComplete.{content_read, inner_read, root_read}

lookup_sound : (name : List ℕ) (s : Lookup) → lookup_of name ≡ Some s → name ≡ lookup_name s
lookup_sound name s e =
    let third = λ (b : Bool). cond b (Some Latest) None in
    let second = λ (b : Bool). cond b (Some Uncommitted) (third (bytes_eq name (codes "Latest"))) in
    elim (bytes_eq name (codes "Committed")) as (λ b. bytes_eq name (codes "Committed") ≡ b → cond b (Some Committed) (second (bytes_eq name (codes "Uncommitted"))) ≡ Some s → name ≡ lookup_name s) [
      | true ↦ λ h is. (bytes_eq-Decides name (codes "Committed")).0 h ∙ ap lookup_name (same_Some Committed s is)
      | false ↦ λ _ is.
          elim (bytes_eq name (codes "Uncommitted")) as (λ b. bytes_eq name (codes "Uncommitted") ≡ b → second b ≡ Some s → name ≡ lookup_name s) [
            | true ↦ λ h is. (bytes_eq-Decides name (codes "Uncommitted")).0 h ∙ ap lookup_name (same_Some Uncommitted s is)
            | false ↦ λ _ is.
                elim (bytes_eq name (codes "Latest")) as (λ b. bytes_eq name (codes "Latest") ≡ b → third b ≡ Some s → name ≡ lookup_name s) [
                  | true ↦ λ h is. (bytes_eq-Decides name (codes "Latest")).0 h ∙ ap lookup_name (same_Some Latest s is)
                  | false ↦ λ _ is. cc
                ] refl is
          ] refl is
    ] refl e

lookup_read : (lookup : Lookup) → lookup_of (lookup_name lookup) ≡ Some lookup
lookup_read Committed = refl
lookup_read Uncommitted = refl
lookup_read Latest = refl

entry_sound : (g : Tag) (front t r : List ℕ) (e : Entry) → IsTag g front → entry_at g t ≡ Some (e, r) → (tokens : List Token) × (s : List ℕ) × IsEntry e tokens × AreTokens tokens (front ++ s) × (t ≡ s ++ r)
unfolding entry_at
entry_sound g front t r e first h =
    option_and_then_some (λ (lookup : Lookup). option_map (λ (x : List ℕ × List ℕ). let p : Entry × List ℕ = (record { lookup = lookup; id_text = x.0 }, x.1) in p) (content_at g.kind g.name t)) (lookup_of g.name) (e, r) h λ lookup is h₁.
    mapped_some _ (content_at g.kind g.name t) (e, r) h₁ λ x read same.
    let name = lookup_sound g.name lookup is in
    let content = ap (λ n. content_at g.kind n t) (sym name) ∙ read in
    let (tokens, s, one, are, whole) = content_sound g.kind (lookup_name lookup) front t x.1 x.0 (subst (λ n. IsTag (record { kind = g.kind; name = n }) front) name first) content in
    subst (λ (q : Entry × List ℕ). (tokens : List Token) × (s : List ℕ) × IsEntry q.0 tokens × AreTokens tokens (front ++ s) × (t ≡ s ++ q.1)) same (tokens, s, one, are, whole)

entry_read : (e : Entry) (tokens : List Token) (s r : List ℕ) → IsEntry e tokens → AreTokens tokens s
    → (g : Tag) × (front : List ℕ) × (back : List ℕ) × IsTag g front × (is_kind g.kind Closing ≡ false) × (s ≡ front ++ back) × (entry_at g (back ++ r) ≡ Some (e, r))
unfolding entry_at
entry_read e tokens s r is are =
    let (kind, front, back, first, other, whole, read) = content_read (lookup_name e.lookup) e.id_text tokens s r is are in
    (record { kind = kind; name = lookup_name e.lookup }, front, back, first, other, whole, rw (lookup_read e.lookup, read) refl)

pub list_sound : (t : List ℕ) (es : List Entry) → entries_of t ≡ Some es → IsBlockListText t es
list_sound t es h = root_sound (List Entry) (inner_at list_name entry_at) _ (inner_sound Entry list_name entry_at IsEntry entry_sound) t es h

pub list_read : (t : List ℕ) (es : List Entry) → IsBlockListText t es → entries_of t ≡ Some es
list_read t es is = root_read (List Entry) (inner_at list_name entry_at) _ (inner_read Entry list_name entry_at IsEntry entry_read) t es is

-- ---- the body

pub entries_sound : (body : List ℕ) (es : List Entry) → body_entries body ≡ Some es → IsBlockListBody body es
entries_sound body es h = body_sound (List Entry) entries_of (λ es t. IsBlockListText t es) list_sound body es h

pub entries_read : (body : List ℕ) (es : List Entry) → IsBlockListBody body es → body_entries body ≡ Some es
entries_read body es is = body_read (List Entry) (inner_at list_name entry_at) (λ es t. IsBlockListText t es) list_read body es is

pub one_body : (body : List ℕ) (one other : List Entry) → IsBlockListBody body one → IsBlockListBody body other → one ≡ other
one_body body one other is too = same_Some one other (sym (entries_read body one is) ∙ entries_read body other too)

pub not_a_body : (body : List ℕ) (es : List Entry) → body_entries body ≡ None → IsBlockListBody body es → ⊥
not_a_body body es none is = let read = entries_read body es is in cc
