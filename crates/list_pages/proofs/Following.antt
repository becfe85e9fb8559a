-- Following the markers.
use Rattle.std.proofs.Common.{◌≡◌, ℕ, zero, suc, ◌+◌, ◌<◌, ◌≤◌, cond, List, [], ◌∷◌, ◌++◌, length, take, Option, Some, None, refl, sym, ap, ◌∙◌, subst, arith, append_assoc}
use Rattle.std.specs.List.{slice_get}
use Rattle.std.specs.Option.{option_map}
use Rattle.stamp_values.specs.Order.{name_cmp}
use Rattle.list_pages.specs.Pages.{Entry, PageOf, from_marker, page}
use Rattle.std.specs.declared.cmp.Ordering.TheVariants.{Less}
use Rattle.std.proofs.lemmas.List.{take_all}
use Rattle.list_pages.proofs.Orders.{not_from, past_from, from_itself}
use Rattle.list_pages.specs.Rising.{IsBeforeAll, Rises}
use Rattle.stamp_types.specs.declared.args.Page.{Page}
use Rattle.list_pages.specs.Laws.{AreSome, asked, followed, joined}
use Rattle.list_pages.specs.Lists.{given}

-- the pages of a list from a marker on, joined: each is asked with the NextMarker of the page before it and with the next largest number
abbrev pub followed_list : {X : Type 0} → List ℕ → List ℕ → List (Entry X) → Option (List (Entry X))
followed_list [] marker items = None
followed_list (max ∷ maxes) marker items =
    joined (page max (from_marker marker items)).entries (page max (from_marker marker items)).next (λ next. followed_list maxes next items)

module _ {Y : Type 0} where
  pub above_at : (text : List ℕ) (front : List (Entry Y)) (x : Entry Y) (back : List (Entry Y)) → IsBeforeAll text (front ++ x ∷ back) → name_cmp text x.0 ≡ Less
  above_at text [] x back up = up.0
  above_at text (f ∷ front) x back up = above_at text front x back up.1

  pub all_past : (text : List ℕ) (items : List (Entry Y)) → IsBeforeAll text items → from_marker text items ≡ items
  all_past text [] up = refl
  all_past text (item ∷ items) up =
      ap (λ b. cond b (item ∷ from_marker text items) (from_marker text items)) (past_from text item.0 up.0)
      ∙ ap (λ t. item ∷ t) (all_past text items up.1)

  -- what is at an entry of a rising list or past it is the list from this entry on
  pub from_place : (front : List (Entry Y)) (x : Entry Y) (back : List (Entry Y)) → Rises (front ++ x ∷ back) → from_marker x.0 (front ++ x ∷ back) ≡ x ∷ back
  from_place [] x back up =
      ap (λ b. cond b (x ∷ from_marker x.0 back) (from_marker x.0 back)) (from_itself x.0)
      ∙ ap (λ t. x ∷ t) (all_past x.0 back up.0)
  from_place (f ∷ front) x back up =
      ap (λ b. cond b (f ∷ from_marker x.0 (front ++ x ∷ back)) (from_marker x.0 (front ++ x ∷ back))) (not_from x.0 f.0 (above_at f.0 front x back up.0))
      ∙ from_place front x back up.1

  -- a list is cut at a place, or is no longer than the place
  pub cut_at : (n : ℕ) (back : List (Entry Y)) → (P : Type 0) → (length back ≤ n → P) → ((x : Entry Y) (later : List (Entry Y)) → back ≡ take n back ++ x ∷ later → slice_get back n ≡ Some x → length back ≡ n + suc (length later) → P) → P
  cut_at n [] P short long = short (omega arith)
  cut_at zero (x ∷ back) P short long = long x back refl refl (omega arith)
  cut_at (suc n) (x ∷ back) P short long = cut_at n back P (λ s. short (omega arith)) (λ y later is get count. long y later (ap (λ t. x ∷ t) is) get (omega arith))

  pub none_at : (back : List (Entry Y)) (n : ℕ) → length back ≤ n → slice_get back n ≡ None
  none_at [] n s = refl
  none_at (x ∷ back) zero s = absurd (omega arith)
  none_at (x ∷ back) (suc n) s = none_at back n (omega arith)

  pub follow : (items : List (Entry Y)) → Rises items → (maxes : List ℕ) → AreSome maxes → (marker : List ℕ) (front back : List (Entry Y)) → items ≡ front ++ back → from_marker marker items ≡ back → length back < length maxes
      → followed_list maxes marker items ≡ Some back
  follow items up [] some marker front back is from enough = absurd (omega arith)
  follow items up (max ∷ maxes) some marker front back is from enough =
      ap (λ t. joined (take max t) (option_map (λ item. item.0) (slice_get t max)) (λ next. followed_list maxes next items)) from
      ∙ cut_at max back (joined (take max back) (option_map (λ item. item.0) (slice_get back max)) (λ next. followed_list maxes next items) ≡ Some back)
      (λ short.
      ap (λ (o : Option (Entry Y)). joined (take max back) (option_map (λ item. item.0) o) (λ next. followed_list maxes next items)) (none_at back max short)
      ∙ ap Some (take_all max back short))
      (λ x later cut get count.
      let place : items ≡ (front ++ take max back) ++ x ∷ later = is ∙ ap (λ t. front ++ t) cut ∙ sym (append_assoc front (take max back) (x ∷ later)) in
      let next : from_marker x.0 items ≡ x ∷ later = ap (from_marker x.0) place ∙ from_place (front ++ take max back) x later (subst Rises place up) in
      ap (λ (o : Option (Entry Y)). joined (take max back) (option_map (λ item. item.0) o) (λ next. followed_list maxes next items)) get
      ∙ ap (option_map (λ more. take max back ++ more)) (follow items up maxes some.1 x.0 (front ++ take max back) (x ∷ later) place next (omega (arith, some.0)))
      ∙ ap Some (sym cut))

  -- pages that are those of the list, followed, are the list's pages, followed
  pub followed_alike : (answer : Page → PageOf Y) (q : Page) (items : List (Entry Y)) → ((marker : Option (List ℕ)) (max : ℕ) → answer (asked q marker max) ≡ page max (from_marker (given marker) items))
      → (maxes : List ℕ) (marker : Option (List ℕ)) → followed answer q marker maxes ≡ followed_list maxes (given marker) items
  followed_alike answer q items is [] marker = refl
  followed_alike answer q items is (max ∷ maxes) marker =
      λ i. joined (is marker max i).entries (is marker max i).next (λ next. followed_alike answer q items is maxes (Some next) i)
