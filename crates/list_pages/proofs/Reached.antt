-- Which names a page has.
use Rattle.std.proofs.Common.{◌≡◌, ℕ, zero, suc, Bool, true, false, cond, not, List, [], ◌∷◌, map, Option, Some, None, IfSome, refl, sym, ap, ◌∙◌, subst, nat_eq, take}
use Rattle.std.specs.Cmp.Lexicographic.{pointwise, bytes_decides}
use Rattle.std.specs.FinMap.{entries, entries_sorted, find, get}
use Rattle.std.specs.FinMap.Entries.{find-where_key}
use Rattle.std.specs.List.{cons_option, filter, slice_get}
use Rattle.std.specs.Option.{option_map, option_to_list}
use Rattle.std.specs.Ordering.{eq_by_cmp, is_eq}
use Rattle.std.specs.declared.cmp.Ordering.{Ordering}
use Rattle.std.specs.declared.cmp.Ordering.TheVariants.{Less, Equal, Greater}
use Rattle.std.specs.Cmp.{eq_by_cmp_equiv}
use Rattle.stamp_values.specs.Order.{key_cmp, keys_exact, keys_total, name_cmp, names_exact, names_total}
use Rattle.stamp_values.specs.Trees.{is_name_from}
use Rattle.stamp_values.specs.declared.key.Key.{Key}
use Rattle.stamp_types.specs.declared.args.Page.{Page}
use Rattle.stamp_types.specs.World.{Part, World, part_at}
use Rattle.list_pages.specs.Containers.{before_end, end_of, is_ended, of_account, or_else}
use Rattle.list_pages.specs.Laws.{Reaches, entries_at, own_entry, shown_at}
use Rattle.list_pages.specs.Lists.{ShownBlob, ShownContainer, given, page_of_blobs, page_of_containers, shown_blob, shown_container}
use Rattle.list_pages.specs.Names.{begins_with}
use Rattle.list_pages.specs.Pages.{Entry, PageOf, from_marker, listed, page, with_value}
use Rattle.list_pages.specs.Ranges.{key_of}
use Rattle.list_pages.specs.Rising.{IsBeforeAll, Rises}
use Rattle.list_pages.proofs.Keys.{rises_shown, same_account, shown_is}
use Rattle.list_pages.proofs.Lists.{rises}
use Rattle.list_pages.proofs.Orders.{chain_less, not_both, not_from, not_itself}
use Rattle.list_pages.proofs.Over.{rises_with_value}
use Rattle.list_pages.proofs.Rising.{names_rise, rises_filter}
use Rattle.list_pages.proofs.Shown.{container_alike, find_shown, shown_before_end}
use Rattle.list_pages.proofs.Under.{listed_names}

equal : (r : Ordering) → is_eq r ≡ true → r ≡ Equal
equal Less e = cc
equal Equal e = refl
equal Greater e = cc

-- the names are the same if and only if their comparison says so
same_name : (a b : List ℕ) → pointwise nat_eq a b ≡ eq_by_cmp name_cmp b a
same_name a b = by (pointwise nat_eq a b) refl (eq_by_cmp name_cmp b a) refl
  where
    by : (s : Bool) → pointwise nat_eq a b ≡ s → (t : Bool) → eq_by_cmp name_cmp b a ≡ t → s ≡ t
    by true e true f = refl
    by false e false f = refl
    by true e false f =
        let same : a ≡ b = (bytes_decides a b).0 e in
        let tie : eq_by_cmp name_cmp b a ≡ true = ap (λ x. eq_by_cmp name_cmp b x) same ∙ (eq_by_cmp_equiv names_total).refl b in
        sym tie ∙ f
    by false e true f =
        let same : a ≡ b = sym (names_exact b a (equal (name_cmp b a) f)) in
        sym e ∙ (bytes_decides a b).1 same

module _ {V : Type 0} (text : List ℕ) where
  abbrev is_at : List ℕ × V → Bool
  is_at e = pointwise nat_eq e.0 text

  none_by : (e : List ℕ × V) (es : List (List ℕ × V)) (b : Bool) → pointwise nat_eq e.0 text ≡ b → name_cmp text e.0 ≡ Less → filter is_at es ≡ [] → cond b (e ∷ filter is_at es) (filter is_at es) ≡ []
  none_by e es true is past none = absurd (not_itself text (ap (name_cmp text) (sym ((bytes_decides e.0 text).0 is)) ∙ past))
  none_by e es false is past none = none

  -- a text that comes before all entries has no entry
  none_before : (es : List (List ℕ × V)) → IsBeforeAll text es → filter is_at es ≡ []
  none_before [] before = refl
  none_before (e ∷ es) before = none_by e es (pointwise nat_eq e.0 text) refl before.0 (none_before es before.1)

  later_before : (x : List ℕ) (es : List (List ℕ × V)) → name_cmp text x ≡ Less → IsBeforeAll x es → IsBeforeAll text es
  later_before x [] past before = tt
  later_before x (e ∷ es) past before = (chain_less text x e.0 past before.0, later_before x es past before.1)

  at_by : (e : List ℕ × V) (es : List (List ℕ × V)) (b : Bool) → pointwise nat_eq e.0 text ≡ b → IsBeforeAll e.0 es
      → filter is_at es ≡ option_to_list (option_map (λ v. (text, v)) (find name_cmp text es))
      → cond b (e ∷ filter is_at es) (filter is_at es) ≡ option_to_list (option_map (λ v. (text, v)) (cond b (Some e.1) (find name_cmp text es)))
  at_by e es true is before more =
      let same : e.0 ≡ text = (bytes_decides e.0 text).0 is in
      let none : filter is_at es ≡ [] = none_before es (subst (λ x. IsBeforeAll x es) same before) in
      ap (λ t. e ∷ t) none ∙ ap (λ x. (x, e.1) ∷ []) same
  at_by e es false is before more = more

  -- a rising list has at most one entry of a text: the one that is found
  at_rising : (es : List (List ℕ × V)) → Rises es → filter is_at es ≡ option_to_list (option_map (λ v. (text, v)) (find name_cmp text es))
  at_rising [] up = refl
  at_rising (e ∷ es) up =
      at_by e es (pointwise nat_eq e.0 text) refl up.0 (at_rising es up.1)
      ∙ ap (λ b. option_to_list (option_map (λ v. (text, v)) (cond b (Some e.1) (find name_cmp text es)))) (same_name e.0 text)

  -- what comes before the first entry that is left out is not left out
  at_taken : (n : ℕ) (es : List (List ℕ × V)) → Rises es → IfSome (option_map (λ e. e.0) (slice_get es n)) (λ next. name_cmp text next ≡ Less) → filter is_at (take n es) ≡ filter is_at es
  at_taken n [] up past = none_of n
    where
      none_of : (n : ℕ) → filter is_at (take n []) ≡ []
      none_of zero = refl
      none_of (suc n) = refl
  at_taken zero (e ∷ es) up past = sym (none_before (e ∷ es) (past, later_before e.0 es past up.0))
  at_taken (suc n) (e ∷ es) up past = ap (λ t. cond (is_at e) (e ∷ t) t) (at_taken n es up.1 past)

  none_taken_by : (e : List ℕ × V) (es taken : List (List ℕ × V)) (b : Bool) → cond b (e ∷ filter is_at es) (filter is_at es) ≡ [] → (filter is_at es ≡ [] → filter is_at taken ≡ []) → cond b (e ∷ filter is_at taken) (filter is_at taken) ≡ []
  none_taken_by e es taken true none more = cc
  none_taken_by e es taken false none more = more none

  -- what a list does not have, no beginning of it has
  none_taken : (n : ℕ) (es : List (List ℕ × V)) → filter is_at es ≡ [] → filter is_at (take n es) ≡ []
  none_taken zero es none = refl
  none_taken (suc n) [] none = refl
  none_taken (suc n) (e ∷ es) none = none_taken_by e es (take n es) (is_at e) none (none_taken n es)

named_by : {Y : Type 0} (text : List ℕ) (e : List ℕ × Y) (es : List (List ℕ × Y)) (b : Bool) → find name_cmp text (map (λ e. (e.0, Some e.1)) es) ≡ option_map (λ y. Some y) (find name_cmp text es)
    → cond b (Some (Some e.1)) (find name_cmp text (map (λ e. (e.0, Some e.1)) es)) ≡ option_map (λ y. Some y) (cond b (Some e.1) (find name_cmp text es))
named_by text e es true more = refl
named_by text e es false more = more

-- what is found among the entries of names
find_named : {Y : Type 0} (text : List ℕ) (es : List (List ℕ × Y)) → find name_cmp text (map (λ e. (e.0, Some e.1)) es) ≡ option_map (λ y. Some y) (find name_cmp text es)
find_named text [] = refl
find_named text (e ∷ es) = named_by text e es (eq_by_cmp name_cmp text e.0) (find_named text es)

module _ {Y : Type 0} (prefix marker name : List ℕ) (names : List (List ℕ × Y)) (up : Rises names) where
  abbrev names_listed : List (Entry Y)
  names_listed = from_marker marker (listed prefix [] names)

  rises_listed : Rises names_listed
  rises_listed = rises_filter (λ entry. is_name_from marker entry.0) (listed prefix [] names) (names_rise prefix [] names up)

  -- the entry of a name in the list from the marker on
  found_listed : find name_cmp name names_listed ≡ cond (is_name_from marker name) (option_map (λ y. Some y) (cond (begins_with name prefix) (find name_cmp name names) None)) None
  found_listed =
      find-where_key name_cmp (λ text. is_name_from marker text) name (λ other e. ap (is_name_from marker) (sym (names_exact name other e))) (listed prefix [] names)
      ∙ ap (λ o. cond (is_name_from marker name) o None)
      (ap (find name_cmp name) (listed_names prefix names up)
      ∙ find_named name (filter (λ e. begins_with e.0 prefix) names)
      ∙ ap (option_map (λ y. Some y))
      (find-where_key name_cmp (λ text. begins_with text prefix) name (λ other e. ap (λ text. begins_with text prefix) (sym (names_exact name other e))) names))

  as_entry : (o : Option Y) → option_to_list (option_map (λ v. (name, v)) (option_map (λ y. Some y) o)) ≡ own_entry name o
  as_entry None = refl
  as_entry (Some y) = refl

  -- a page of names has the entry of a name that it reaches
  pub entry_in_page : (max : ℕ) → is_name_from marker name ≡ true → begins_with name prefix ≡ true → IfSome (page max names_listed).next (λ next. name_cmp name next ≡ Less)
      → entries_at name (page max names_listed).entries ≡ own_entry name (find name_cmp name names)
  entry_in_page max from begins before =
      at_taken name max names_listed rises_listed before
      ∙ at_rising name names_listed rises_listed
      ∙ ap (λ o. option_to_list (option_map (λ v. (name, v)) o)) (found_listed ∙ (λ i. cond (from i) (option_map (λ y. Some y) (cond (begins i) (find name_cmp name names) None)) None))
      ∙ as_entry (find name_cmp name names)

  nothing_found : (a b : Bool) → cond a (option_map (λ (y : Y). Some y) (cond b None None)) None ≡ None
  nothing_found true true = refl
  nothing_found true false = refl
  nothing_found false b = refl

  -- a name that is not among the names is on no page of them
  pub none_in_page : (max : ℕ) → find name_cmp name names ≡ None → entries_at name (page max names_listed).entries ≡ []
  none_in_page max none =
      none_taken name max names_listed
      (at_rising name names_listed rises_listed
      ∙ ap (λ o. option_to_list (option_map (λ v. (name, v)) o))
      (found_listed ∙ ap (λ (o : Option Y). cond (is_name_from marker name) (option_map (λ y. Some y) (cond (begins_with name prefix) o None)) None) none
      ∙ nothing_found (is_name_from marker name) (begins_with name prefix)))

-- ---- blobs

module _ (q : Page) (p : Part ℕ) (name : List ℕ) (plain : q.delimiter ≡ None) where
  abbrev names_shown : List (List ℕ × ShownBlob)
  names_shown = with_value shown_blob (entries p.blobs)

  names_shown_rise : Rises names_shown
  names_shown_rise = rises_with_value shown_blob (entries p.blobs) (rises (entries p.blobs) (entries_sorted p.blobs))

  page_is : page_of_blobs q p ≡ page q.max (names_listed (given q.prefix) (given q.marker) name names_shown names_shown_rise)
  page_is = ap (λ (d : Option (List ℕ)). page q.max (from_marker (given q.marker) (listed (given q.prefix) (given d) names_shown))) plain

  -- a page has exactly one entry of a committed name that it reaches, and no entry of another name
  pub entry_reached : Reaches q (page_of_blobs q p).next name → entries_at name (page_of_blobs q p).entries ≡ own_entry name (shown_at p name)
  entry_reached reaches =
      ap (λ (r : PageOf ShownBlob). entries_at name r.entries) page_is
      ∙ entry_in_page (given q.prefix) (given q.marker) name names_shown names_shown_rise q.max reaches.from reaches.begins
      (subst (λ (r : PageOf ShownBlob). IfSome r.next (λ next. name_cmp name next ≡ Less)) page_is reaches.before)
      ∙ ap (own_entry name) (find_shown name_cmp names_total shown_blob name p.blobs)

  -- a name of which nothing is shown is on no page
  pub entry_none : shown_at p name ≡ None → entries_at name (page_of_blobs q p).entries ≡ []
  entry_none none =
      ap (λ (r : PageOf ShownBlob). entries_at name r.entries) page_is
      ∙ none_in_page (given q.prefix) (given q.marker) name names_shown names_shown_rise q.max (find_shown name_cmp names_total shown_blob name p.blobs ∙ none)

-- ---- containers

module _ {Y : Type 0} (account name : List ℕ) where
  own_by : (e : Key × Y) (es : List (Key × Y)) (b : Bool) → pointwise nat_eq e.0.account account ≡ b
      → find name_cmp name (of_account account es) ≡ find key_cmp (key_of account name) es
      → find name_cmp name (cons_option (cond b (Some (e.0.container, e.1)) None) (of_account account es)) ≡ cond (eq_by_cmp key_cmp (key_of account name) e.0) (Some e.1) (find key_cmp (key_of account name) es)
  own_by e es true is more =
      let same : account ≡ e.0.account = sym ((bytes_decides e.0.account account).0 is) in
      (λ i. cond (is_eq (sym (same_account (key_of account name) e.0 same) i)) (Some e.1) (more i))
  own_by e es false is more =
      more ∙ ap (λ b. cond b (Some e.1) (find key_cmp (key_of account name) es)) (sym (other_key (eq_by_cmp key_cmp (key_of account name) e.0) refl))
    where
      other_key : (b : Bool) → eq_by_cmp key_cmp (key_of account name) e.0 ≡ b → eq_by_cmp key_cmp (key_of account name) e.0 ≡ false
      other_key false tie = tie
      other_key true tie =
          let same : key_of account name ≡ e.0 = keys_exact (key_of account name) e.0 (equal (key_cmp (key_of account name) e.0) tie) in
          not_both ((bytes_decides e.0.account account).1 (ap (λ (k : Key). k.account) (sym same))) is

  -- a name among the containers of an account is found under its key
  find_of_account : (es : List (Key × Y)) → find name_cmp name (of_account account es) ≡ find key_cmp (key_of account name) es
  find_of_account [] = refl
  find_of_account (e ∷ es) = own_by e es (pointwise nat_eq e.0.account account) refl (find_of_account es)

  pub find_before_end : (end : Option (List ℕ)) (names : List (List ℕ × Y)) → is_ended end name ≡ false → find name_cmp name (before_end end names) ≡ find name_cmp name names
  find_before_end None names within = refl
  find_before_end (Some end) names within =
      find-where_key name_cmp (λ text. not (is_name_from end text)) name (λ other e. ap (λ text. not (is_name_from end text)) (sym (names_exact name other e))) names
      ∙ ap (λ b. cond (not b) (find name_cmp name names) None) within

module _ (account name : List ℕ) where
  within_end : (bound : Option Key) → IfSome bound (λ end. key_cmp (key_of account name) end ≡ Less) → is_ended (end_of account bound) name ≡ false
  within_end None before = refl
  within_end (Some end) before = by (pointwise nat_eq end.account account) refl
    where
      by : (b : Bool) → pointwise nat_eq end.account account ≡ b → is_ended (cond b (Some end.container) None) name ≡ false
      by false is = refl
      by true is =
          let same : account ≡ end.account = sym ((bytes_decides end.account account).0 is) in
          not_from end.container name (sym (same_account (key_of account name) end same) ∙ before)

module _ {C : Type 0} (account : List ℕ) (q : Page) (bound : Option Key) (w : World C) (name : List ℕ) where
  abbrev end_told : Option (List ℕ)
  end_told = end_of account bound

  abbrev containers_shown : List (List ℕ × ShownContainer)
  containers_shown = with_value shown_container (before_end end_told (of_account account (entries w)))

  containers_rise_up : Rises containers_shown
  containers_rise_up =
      rises_with_value shown_container (before_end end_told (of_account account (entries w)))
      (subst Rises (sym (shown_is account end_told (entries w))) (rises_shown account end_told (entries w) (entries_sorted w)))

  container_found : IfSome bound (λ end. key_cmp (key_of account name) end ≡ Less) → find name_cmp name containers_shown ≡ shown_container (part_at w (key_of account name))
  container_found before =
      ap (find name_cmp name) (shown_before_end shown_container account end_told (entries w))
      ∙ find_before_end account name end_told (of_account account (with_value shown_container (entries w))) (within_end account name bound before)
      ∙ find_of_account account name (with_value shown_container (entries w))
      ∙ find_shown key_cmp keys_total shown_container (key_of account name) w
      ∙ sym (container_alike (get w (key_of account name)))

  first_next : (first end : Option (List ℕ)) → IfSome (or_else first end) (λ next. name_cmp name next ≡ Less) → IfSome first (λ next. name_cmp name next ≡ Less)
  first_next None end before = tt
  first_next (Some next) end before = before

  -- a page has exactly one entry of a container that it reaches, if the container exists
  pub container_reached : IfSome bound (λ end. key_cmp (key_of account name) end ≡ Less) → Reaches q (page_of_containers account q bound w).next name
      → entries_at name (page_of_containers account q bound w).entries ≡ own_entry name (shown_container (part_at w (key_of account name)))
  container_reached before reaches =
      entry_in_page (given q.prefix) (given q.marker) name containers_shown containers_rise_up q.max reaches.from reaches.begins
      (first_next (page q.max (from_marker (given q.marker) (listed (given q.prefix) [] containers_shown))).next end_told reaches.before)
      ∙ ap (own_entry name) (container_found before)
