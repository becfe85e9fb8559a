-- The walk over the names in their order, that goes on after a group at the group's raised text.
use Rattle.std.proofs.Common.{◌≡◌, ℕ, Bool, true, false, cond, ◌&&◌, not, List, [], ◌∷◌, ◌++◌, Option, Some, None, refl, sym, ap, ◌∙◌, nat_eq, ◌⊎◌, inl, inr}
use Rattle.std.specs.List.{filter, filter_map, cons_option}
use Rattle.std.specs.Option.{option_map, option_and_then}
use Rattle.std.specs.declared.cmp.Ordering.TheVariants.{Less}
use Rattle.std.specs.Cmp.Lexicographic.{pointwise, bytes_decides}
use Rattle.stamp_values.specs.Order.{name_cmp}
use Rattle.stamp_values.specs.Trees.{is_name_from}
use Rattle.list_pages.specs.Names.{begins_with, group_of}
use Rattle.list_pages.specs.Seeks.{raised}
use Rattle.list_pages.specs.Pages.{Entry, entry_by, entry_of, is_other, each_once, listed, from_marker, with_value}
use Rattle.list_pages.proofs.Orders.{not_both, past_from, from_less, from_from, not_itself, from_raised, begins_from, begins_between, begins_itself, from_itself}
use Rattle.list_pages.proofs.Groups.{IsGroupOf, group_is, no_some, same_some}
use Rattle.list_pages.specs.Rising.{IsBeforeAll, Rises}
use Rattle.list_pages.proofs.Lists.{Passes, filter-each_once, filter-filter_map, filter_map-filter_map, kept_if, rest_above, only_rest, nothing_later, all_pass, tested_before, only_kept}

module _ {X Y : Type 0} (has : X → Option Y) (prefix delimiter marker : List ℕ) where
  -- what a name with its row is on a list from the marker on
  abbrev pub seen_by : Option Y → List ℕ → Bool → Option (List ℕ) → Option (Entry Y)
  seen_by None name begins group = None
  seen_by (Some value) name false group = None
  seen_by (Some value) name true None = cond (is_name_from marker name) (Some (name, Some value)) None
  seen_by (Some value) name true (Some group) = cond (is_name_from marker group) (Some (group, None)) None

  abbrev pub seen : List ℕ × X → Option (Entry Y)
  seen e = seen_by (has e.1) e.0 (begins_with e.0 prefix) (group_of prefix delimiter e.0)

  -- the whole list from the marker on, in one pass over the rows
  abbrev pub walked : List (List ℕ × X) → List (Entry Y)
  walked es = each_once (filter_map seen es)

  abbrev at_marker : List ℕ → Bool
  at_marker text = is_name_from marker text

  seen_is : (e : List ℕ × X) (value : Option Y) (begins : Bool) (group : Option (List ℕ))
      → kept_if (λ (item : Entry Y). is_name_from marker item.0) (option_and_then (λ (v : List ℕ × Y). cond begins (Some (entry_by group v)) None) (option_map (λ value. (e.0, value)) value)) ≡ seen_by value e.0 begins group
  seen_is e None begins group = refl
  seen_is e (Some value) false group = refl
  seen_is e (Some value) true None = refl
  seen_is e (Some value) true (Some group) = refl

  seen_and_then : (e : List ℕ × X) (value : Option Y)
      → option_and_then (entry_of prefix delimiter) (option_map (λ value. (e.0, value)) value)
      ≡ option_and_then (λ (v : List ℕ × Y). cond (begins_with e.0 prefix) (Some (entry_by (group_of prefix delimiter e.0) v)) None) (option_map (λ value. (e.0, value)) value)
  seen_and_then e None = refl
  seen_and_then e (Some value) = refl

  seen_each : (e : List ℕ × X) → kept_if (λ (item : Entry Y). is_name_from marker item.0) (option_and_then (entry_of prefix delimiter) (option_map (λ value. (e.0, value)) (has e.1))) ≡ seen e
  seen_each e = ap (kept_if (λ (item : Entry Y). is_name_from marker item.0)) (seen_and_then e (has e.1)) ∙ seen_is e (has e.1) (begins_with e.0 prefix) (group_of prefix delimiter e.0)

  -- the definition, in one pass
  pub walked_is : (es : List (List ℕ × X)) → from_marker marker (listed prefix delimiter (with_value has es)) ≡ walked es
  walked_is es =
      filter-each_once at_marker (filter_map (entry_of prefix delimiter) (with_value has es))
      ∙ ap each_once (
      ap (filter (λ (item : Entry Y). is_name_from marker item.0)) (filter_map-filter_map (entry_of prefix delimiter) (λ (e : List ℕ × X). option_map (λ value. (e.0, value)) (has e.1)) es)
      ∙ filter-filter_map (λ (item : Entry Y). is_name_from marker item.0) (λ (e : List ℕ × X). option_and_then (entry_of prefix delimiter) (option_map (λ value. (e.0, value)) (has e.1))) es
      ∙ (λ i. filter_map (λ e. seen_each e i) es))

  -- ---- what is seen of a name

  -- what an entry says of its name
  pub record IsSeen (name : List ℕ) (item : Entry Y) : Type 0 where
    pub begins : begins_with name prefix ≡ true
    pub at : is_name_from marker item.0 ≡ true
    pub under : is_name_from item.0 name ≡ true
    pub kind : ((item.0 ≡ name) × (group_of prefix delimiter name ≡ None)) ⊎ (group_of prefix delimiter name ≡ Some item.0)

  if_at : (b : Bool) (shown item : Entry Y) → cond b (Some shown) None ≡ Some item → (b ≡ true) × (shown ≡ item)
  if_at true shown item e = (refl, same_some shown item e)
  if_at false shown item e = no_some e

  seen_says_by : (value : Option Y) (name : List ℕ) (begins : Bool) (group : Option (List ℕ)) (item : Entry Y) → begins_with name prefix ≡ begins → group_of prefix delimiter name ≡ group
      → seen_by value name begins group ≡ Some item → IsSeen name item
  seen_says_by None name begins group item b g e = no_some e
  seen_says_by (Some value) name false group item b g e = no_some e
  seen_says_by (Some value) name true None item b g e =
      let shown = if_at (is_name_from marker name) (name, Some value) item e in
      let text : name ≡ item.0 = ap (λ (item : Entry Y). item.0) shown.1 in
      record { begins = b; at = ap (is_name_from marker) (sym text) ∙ shown.0; under = ap (λ t. is_name_from t name) (sym text) ∙ from_itself name; kind = inl (sym text, g) }
  seen_says_by (Some value) name true (Some group) item b g e =
      let shown = if_at (is_name_from marker group) (group, None) item e in
      let text : group ≡ item.0 = ap (λ (item : Entry Y). item.0) shown.1 in
      record {
        begins = b;
        at = ap (is_name_from marker) (sym text) ∙ shown.0;
        under = ap (λ t. is_name_from t name) (sym text) ∙ begins_from group name (group_is prefix delimiter name group b g).begins;
        kind = inr (g ∙ ap Some text);
      }

  seen_says : (e : List ℕ × X) (item : Entry Y) → seen e ≡ Some item → IsSeen e.0 item
  seen_says e item = seen_says_by (has e.1) e.0 (begins_with e.0 prefix) (group_of prefix delimiter e.0) item refl refl

  -- to show something of what is seen, if anything is seen
  pub if_seen : (P : Option (Entry Y) → Type 0) (e : List ℕ × X) → P None → ((item : Entry Y) → IsSeen e.0 item → P (Some item)) → P (seen e)
  if_seen P e none some = by (seen e) refl
    where
      by : (o : Option (Entry Y)) → seen e ≡ o → P o
      by None is = none
      by (Some item) is = some item (seen_says e item is)

  -- ---- a name is passed by

  pub pass_by : (e : List ℕ × X) (rest : List (List ℕ × X)) → seen e ≡ None → walked (e ∷ rest) ≡ walked rest
  pass_by e rest none = ap (λ o. each_once (cons_option o (filter_map seen rest))) none

  -- a name that does not begin with the prefix, and is past it: nothing is left
  pub end : (e : List ℕ × X) (rest : List (List ℕ × X)) → IsBeforeAll e.0 rest → begins_with e.0 prefix ≡ false → is_name_from prefix e.0 ≡ true → walked (e ∷ rest) ≡ []
  end e rest up out past = ap each_once (
      ap (λ o. cons_option o (filter_map seen rest)) (if_seen (λ o. o ≡ None) e refl (λ item is. not_both is.begins out))
      ∙ nothing_later seen e.0 (λ f later. if_seen (λ o. o ≡ None) f refl (λ item is. not_both (begins_between prefix e.0 f.0 is.begins past later) out)) rest up)

  -- ---- a name without a group

  pub name_step : (e : List ℕ × X) (rest : List (List ℕ × X)) (item : Entry Y) → IsBeforeAll e.0 rest → seen e ≡ Some item → item.0 ≡ e.0 → group_of prefix delimiter e.0 ≡ None → walked (e ∷ rest) ≡ item ∷ walked rest
  name_step e rest item up is text alone =
      ap (λ o. each_once (cons_option o (filter_map seen rest))) is
      ∙ ap (λ t. item ∷ t) (
      filter-each_once (λ t. not (pointwise nat_eq t item.0)) (filter_map seen rest)
      ∙ ap each_once (all_pass seen e.0 (is_other item.0) (λ f later. if_seen (Passes (is_other item.0) true) f tt (λ other has. apart f other later has (pointwise nat_eq other.0 item.0) refl)) rest up))
    where
      same : (f : List ℕ × X) (other : Entry Y) → name_cmp e.0 f.0 ≡ Less → IsSeen f.0 other → other.0 ≡ e.0 → ⊥
      same f other later has equal = by has.kind
        where
          by : ((other.0 ≡ f.0) × (group_of prefix delimiter f.0 ≡ None)) ⊎ (group_of prefix delimiter f.0 ≡ Some other.0) → ⊥
          by (inl name) = not_itself e.0 (ap (name_cmp e.0) (sym equal ∙ name.0) ∙ later)
          by (inr group) = no_some (sym alone ∙ ((group_is prefix delimiter f.0 other.0 has.begins group).same e.0 (ap (λ t. begins_with t other.0) (sym equal) ∙ begins_itself other.0)).1)

      apart : (f : List ℕ × X) (other : Entry Y) → name_cmp e.0 f.0 ≡ Less → IsSeen f.0 other → (b : Bool) → pointwise nat_eq other.0 item.0 ≡ b → is_other item.0 other ≡ true
      apart f other later has true equal = absurd (same f other later has ((bytes_decides other.0 item.0).0 equal ∙ text))
      apart f other later has false equal = ap not equal

  -- ---- a name with a group

  module _ (front : List (List ℕ × X)) (e : List ℕ × X) (rest : List (List ℕ × X)) (group : List ℕ) (up : Rises (front ++ e ∷ rest)) (begins : begins_with e.0 prefix ≡ true) (has_group : group_of prefix delimiter e.0 ≡ Some group) where
    of_group : IsGroupOf prefix delimiter group e.0
    of_group = group_is prefix delimiter e.0 group begins has_group

    abbrev keep : List ℕ × X → Bool
    keep f = is_name_from (raised group) f.0

    keeps : (f : List ℕ × X) → is_name_from group f.0 ≡ true → keep f ≡ not (begins_with f.0 group)
    keeps f past = from_raised group f.0 of_group.long ∙ ap (λ t. t && not (begins_with f.0 group)) past

    e_out : keep e ≡ false
    e_out = keeps e (begins_from group e.0 of_group.begins) ∙ ap not of_group.begins

    later_past : (f : List ℕ × X) → name_cmp e.0 f.0 ≡ Less → is_name_from group f.0 ≡ true
    later_past f later = past_from group f.0 (from_less group e.0 f.0 (begins_from group e.0 of_group.begins) later)

    text_by : (f : List ℕ × X) (other : Entry Y) → IsSeen f.0 other → (b : Bool) → begins_with f.0 group ≡ b → (c : Bool) → pointwise nat_eq other.0 group ≡ c → c ≡ b
    text_by f other has true in_group true same = refl
    text_by f other has true in_group false other_text = absurd (by has.kind)
      where
        by : ((other.0 ≡ f.0) × (group_of prefix delimiter f.0 ≡ None)) ⊎ (group_of prefix delimiter f.0 ≡ Some other.0) → ⊥
        by (inl name) = no_some (sym name.1 ∙ (of_group.same f.0 in_group).1)
        by (inr is) = not_both ((bytes_decides other.0 group).1 (same_some other.0 group (sym is ∙ (of_group.same f.0 in_group).1))) other_text
    text_by f other has false outside true same = absurd (by has.kind ((bytes_decides other.0 group).0 same))
      where
        by : ((other.0 ≡ f.0) × (group_of prefix delimiter f.0 ≡ None)) ⊎ (group_of prefix delimiter f.0 ≡ Some other.0) → other.0 ≡ group → ⊥
        by (inl name) text = not_both (ap (λ t. begins_with t group) (sym name.0 ∙ text) ∙ begins_itself group) outside
        by (inr is) text = not_both (group_is prefix delimiter f.0 group has.begins (is ∙ ap Some text)).begins outside
    text_by f other has false outside false other_text = refl

    agrees : (f : List ℕ × X) → name_cmp e.0 f.0 ≡ Less → Passes (is_other group) (keep f) (seen f)
    agrees f later = if_seen (Passes (is_other group) (keep f)) f tt (λ other has.
        ap not (text_by f other has (begins_with f.0 group) refl (pointwise nat_eq other.0 group) refl) ∙ sym (keeps f (later_past f later)))

    -- what is after the group is after the name
    pub rest_after : filter keep (front ++ e ∷ rest) ≡ filter keep rest
    rest_after = only_rest (raised group) front e rest up e_out

    others : filter (is_other group) (filter_map seen rest) ≡ filter_map seen (filter keep (front ++ e ∷ rest))
    others = tested_before seen e.0 (is_other group) keep agrees rest (rest_above front e rest up) ∙ ap (filter_map seen) (sym rest_after)

    -- the group is the next entry, and the walk goes on after it
    pub group_step : seen e ≡ Some (group, None) → walked (e ∷ rest) ≡ (group, None) ∷ walked (filter keep (front ++ e ∷ rest))
    group_step is =
        ap (λ o. each_once (cons_option o (filter_map seen rest))) is
        ∙ ap (λ (t : List (Entry Y)). (group, None) ∷ t) (filter-each_once (λ t. not (pointwise nat_eq t group)) (filter_map seen rest) ∙ ap each_once others)

    -- the group is before the marker, and the walk goes on after it
    pub group_passed : seen e ≡ None → is_name_from marker group ≡ false → walked (e ∷ rest) ≡ walked (filter keep (front ++ e ∷ rest))
    group_passed none early =
        pass_by e rest none
        ∙ ap each_once (sym (all_pass seen e.0 (is_other group) (λ f later. if_seen (Passes (is_other group) true) f tt (λ other has. apart other has (pointwise nat_eq other.0 group) refl)) rest (rest_above front e rest up)) ∙ others)
      where
        apart : (other : Entry Y) {name : List ℕ} → IsSeen name other → (b : Bool) → pointwise nat_eq other.0 group ≡ b → is_other group other ≡ true
        apart other has true same = not_both (ap (is_name_from marker) (sym ((bytes_decides other.0 group).0 same)) ∙ has.at) early
        apart other has false same = ap not same

  -- ---- where the walk begins

  early : (e : List ℕ × X) (b : Bool) → is_name_from prefix marker ≡ b → is_name_from (cond b marker prefix) e.0 ≡ false → (item : Entry Y) → IsSeen e.0 item → ⊥
  early e true later out item is = not_both (from_from marker item.0 e.0 is.at is.under) out
  early e false later out item is = not_both (begins_from prefix e.0 is.begins) out

  -- no name before the prefix or before the marker is seen
  pub walk_from : (es : List (List ℕ × X)) → walked es ≡ walked (filter (λ e. is_name_from (cond (is_name_from prefix marker) marker prefix) e.0) es)
  walk_from es = ap each_once (only_kept seen (λ e. is_name_from (cond (is_name_from prefix marker) marker prefix) e.0)
      (λ e out. if_seen (λ o. o ≡ None) e refl (λ item is. absurd (early e (is_name_from prefix marker) refl out item is))) es)
