-- The list of a container rises.
use Rattle.std.proofs.Common.{◌≡◌, ℕ, Bool, true, false, cond, not, List, [], ◌∷◌, Option, Some, None, refl, sym, ap, ◌∙◌, subst, ◌⊎◌, inl, inr, nat_eq}
use Rattle.std.specs.List.{filter, filter_map, cons_option}
use Rattle.std.specs.FinMap.{FinMap, entries, entries_sorted}
use Rattle.std.specs.Cmp.Lexicographic.{pointwise, bytes_decides}
use Rattle.std.specs.declared.cmp.Ordering.{Ordering}
use Rattle.std.specs.declared.cmp.Ordering.TheVariants.{Less, Equal, Greater}
use Rattle.std.proofs.lemmas.Map.Lookups.{exact_bytes}
use Rattle.stamp_values.specs.Order.{name_cmp}
use Rattle.stamp_values.specs.Trees.{is_name_from}
use Rattle.list_pages.specs.Names.{begins_with, group_of}
use Rattle.list_pages.specs.Pages.{Entry, is_other, each_once, listed, from_marker, with_value}
use Rattle.list_pages.proofs.Orders.{not_both, before, past_from, from_less, begins_between, is_le_by, from_itself}
use Rattle.list_pages.proofs.Groups.{group_is, no_some, same_some}
use Rattle.list_pages.specs.Rising.{IsBeforeAll, Rises}
use Rattle.list_pages.proofs.Lists.{rises}
use Rattle.list_pages.proofs.Walk.{IsSeen, seen, walked_is, if_seen}

less_by : (a b : List ℕ) (r : Ordering) → name_cmp a b ≡ r → is_name_from a b ≡ true → (a ≡ b → ⊥) → name_cmp a b ≡ Less
less_by a b Less is from apart = is
less_by a b Equal is from apart = absurd (apart (exact_bytes a b is))
less_by a b Greater is from apart = not_both from (is_le_by (name_cmp a b) is)

module _ {Y : Type 0} where
  -- what is at a text or past it
  abbrev From : List ℕ → List (Entry Y) → Type 0
  From text [] = Unit
  From text (item ∷ items) = (is_name_from text item.0 ≡ true) × From text items

  -- no text falls
  abbrev Weakly : List (Entry Y) → Type 0
  Weakly [] = Unit
  Weakly (item ∷ items) = From item.0 items × Weakly items

  from_filter_by : (text : List ℕ) (test : Entry Y → Bool) (item : Entry Y) (items : List (Entry Y)) (b : Bool) → is_name_from text item.0 ≡ true → From text (filter test items) → From text (cond b (item ∷ filter test items) (filter test items))
  from_filter_by text test item items true at more = (at, more)
  from_filter_by text test item items false at more = more

  from_filter : (text : List ℕ) (test : Entry Y → Bool) (items : List (Entry Y)) → From text items → From text (filter test items)
  from_filter text test [] from = tt
  from_filter text test (item ∷ items) from = from_filter_by text test item items (test item) from.0 (from_filter text test items from.1)

  above_filter_by : (text : List ℕ) (test : Entry Y → Bool) (item : Entry Y) (items : List (Entry Y)) (b : Bool) → name_cmp text item.0 ≡ Less → IsBeforeAll text (filter test items) → IsBeforeAll text (cond b (item ∷ filter test items) (filter test items))
  above_filter_by text test item items true at more = (at, more)
  above_filter_by text test item items false at more = more

  above_filter : (text : List ℕ) (test : Entry Y → Bool) (items : List (Entry Y)) → IsBeforeAll text items → IsBeforeAll text (filter test items)
  above_filter text test [] up = tt
  above_filter text test (item ∷ items) up = above_filter_by text test item items (test item) up.0 (above_filter text test items up.1)

  rises_filter_by : (test : Entry Y → Bool) (item : Entry Y) (items : List (Entry Y)) (b : Bool) → IsBeforeAll item.0 items → Rises (filter test items) → Rises (cond b (item ∷ filter test items) (filter test items))
  rises_filter_by test item items true up more = (above_filter item.0 test items up, more)
  rises_filter_by test item items false up more = more

  -- what is kept of a rising list rises
  pub rises_filter : (test : Entry Y → Bool) (items : List (Entry Y)) → Rises items → Rises (filter test items)
  rises_filter test [] up = tt
  rises_filter test (item ∷ items) up = rises_filter_by test item items (test item) up.0 (rises_filter test items up.1)

  -- another text that is at a text or past it is past it
  others_above_by : (text : List ℕ) (item : Entry Y) (items : List (Entry Y)) (b : Bool) → pointwise nat_eq item.0 text ≡ b → is_name_from text item.0 ≡ true → IsBeforeAll text (filter (is_other text) items)
      → IsBeforeAll text (cond (not b) (item ∷ filter (is_other text) items) (filter (is_other text) items))
  others_above_by text item items true same at more = more
  others_above_by text item items false same at more = (less_by text item.0 (name_cmp text item.0) refl at (λ e. not_both ((bytes_decides item.0 text).1 (sym e)) same), more)

  others_above : (text : List ℕ) (items : List (Entry Y)) → From text items → IsBeforeAll text (filter (is_other text) items)
  others_above text [] from = tt
  others_above text (item ∷ items) from = others_above_by text item items (pointwise nat_eq item.0 text) refl from.0 (others_above text items from.1)

  from_once : (text : List ℕ) (items : List (Entry Y)) → From text items → From text (each_once items)
  from_once text [] from = tt
  from_once text (item ∷ items) from = (from.0, from_filter text (is_other item.0) (each_once items) (from_once text items from.1))

  -- each text of a list that does not fall, once, rises
  pub rises_once : (items : List (Entry Y)) → Weakly items → Rises (each_once items)
  rises_once [] up = tt
  rises_once (item ∷ items) up = (others_above item.0 (each_once items) (from_once item.0 items up.0), rises_filter (is_other item.0) (each_once items) (rises_once items up.1))

module _ {X Y : Type 0} (has : X → Option Y) (p d m : List ℕ) where
  -- the entry of a later name is at the entry of an earlier name or past it
  in_order : (e f : List ℕ × X) (a b : Entry Y) → name_cmp e.0 f.0 ≡ Less → IsSeen has p d m e.0 a → IsSeen has p d m f.0 b → is_name_from a.0 b.0 ≡ true
  in_order e f a b later first second = by second.kind
    where
      outside : group_of p d f.0 ≡ Some b.0 → begins_with e.0 b.0 ≡ false → (c : Bool) → is_name_from b.0 e.0 ≡ c → is_name_from a.0 b.0 ≡ true
      outside group out true at = not_both (begins_between b.0 e.0 f.0 (group_is p d f.0 b.0 second.begins group).begins at later) out
      outside group out false at = past_from a.0 b.0 (from_less a.0 e.0 b.0 first.under (before b.0 e.0 at))

      inside : group_of p d f.0 ≡ Some b.0 → begins_with e.0 b.0 ≡ true → ((a.0 ≡ e.0) × (group_of p d e.0 ≡ None)) ⊎ (group_of p d e.0 ≡ Some a.0) → is_name_from a.0 b.0 ≡ true
      inside group within (inl name) = no_some (sym name.1 ∙ ((group_is p d f.0 b.0 second.begins group).same e.0 within).1)
      inside group within (inr is) = ap (is_name_from a.0) (same_some b.0 a.0 (sym ((group_is p d f.0 b.0 second.begins group).same e.0 within).1 ∙ is)) ∙ from_itself a.0

      of_group : group_of p d f.0 ≡ Some b.0 → (c : Bool) → begins_with e.0 b.0 ≡ c → is_name_from a.0 b.0 ≡ true
      of_group group true within = inside group within first.kind
      of_group group false out = outside group out (is_name_from b.0 e.0) refl

      by : ((b.0 ≡ f.0) × (group_of p d f.0 ≡ None)) ⊎ (group_of p d f.0 ≡ Some b.0) → is_name_from a.0 b.0 ≡ true
      by (inl name) = ap (is_name_from a.0) name.0 ∙ past_from a.0 f.0 (from_less a.0 e.0 f.0 first.under later)
      by (inr group) = of_group group (begins_with e.0 b.0) refl

  all_from : (e : List ℕ × X) (a : Entry Y) → IsSeen has p d m e.0 a → (es : List (List ℕ × X)) → IsBeforeAll e.0 es → From a.0 (filter_map (seen has p d m) es)
  all_from e a first [] up = tt
  all_from e a first (f ∷ es) up =
      if_seen has p d m (λ o. From a.0 (cons_option o (filter_map (seen has p d m) es))) f (all_from e a first es up.1)
      (λ b second. (in_order e f a b up.0 first second, all_from e a first es up.1))

  weakly : (es : List (List ℕ × X)) → Rises es → Weakly (filter_map (seen has p d m) es)
  weakly [] up = tt
  weakly (e ∷ es) up =
      if_seen has p d m (λ o. Weakly (cons_option o (filter_map (seen has p d m) es))) e (weakly es up.1)
      (λ a first. (all_from e a first es up.0, weakly es up.1))

at_first : (text : List ℕ) → is_name_from [] text ≡ true
at_first [] = refl
at_first (x ∷ text) = refl

pub all_at : {Y : Type 0} (items : List (Entry Y)) → from_marker [] items ≡ items
all_at [] = refl
all_at (item ∷ items) = ap (λ b. cond b (item ∷ from_marker [] items) (from_marker [] items)) (at_first item.0) ∙ ap (λ t. item ∷ t) (all_at items)

-- the whole list rises
pub list_rises : {X Y : Type 0} (has : X → Option Y) (p d : List ℕ) (rows : FinMap name_cmp X) → Rises (listed p d (with_value has (entries rows)))
list_rises has p d rows =
    subst Rises (sym (walked_is has p d [] (entries rows)) ∙ all_at (listed p d (with_value has (entries rows))))
    (rises_once (filter_map (seen has p d []) (entries rows)) (weakly has p d [] (entries rows) (rises (entries rows) (entries_sorted rows))))

-- the list of rising names rises, if each name has a value
pub names_rise : {X : Type 0} (p d : List ℕ) (names : List (List ℕ × X)) → Rises names → Rises (listed p d names)
names_rise p d names up =
    subst Rises (sym (walked_is (λ x. Some x) p d [] names) ∙ all_at (listed p d (with_value (λ x. Some x) names)) ∙ ap (listed p d) (all_values names))
    (rises_once (filter_map (seen (λ x. Some x) p d []) names) (weakly (λ x. Some x) p d [] names up))
  where
    all_values : {X : Type 0} (names : List (List ℕ × X)) → with_value (λ x. Some x) names ≡ names
    all_values [] = refl
    all_values (e ∷ names) = ap (λ t. e ∷ t) (all_values names)
