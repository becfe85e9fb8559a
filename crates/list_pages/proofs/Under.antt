-- Each name is under one entry of its list.
use Rattle.std.proofs.Common.{◌≡◌, ◌≢◌, ℕ, Bool, true, false, cond, not, List, [], ◌∷◌, ◌++◌, length, map, Option, Some, None, refl, sym, ap, ◌∙◌, subst, nat_eq, append_assoc, unwrap_or}
use Rattle.std.specs.Prelude.{IsSome}
use Rattle.std.specs.Cmp.Lexicographic.{pointwise, bytes_decides, nat_list_cmp_total}
use Rattle.std.specs.FinMap.{entries, entries_sorted, find}
use Rattle.std.specs.List.{AllByRecursion, cons_option, filter, filter_map}
use Rattle.std.specs.Ordering.{eq_by_cmp, is_eq, ordering_reverse}
use Rattle.std.specs.declared.cmp.Ordering.{Ordering}
use Rattle.std.specs.declared.cmp.Ordering.TheVariants.{Less, Equal, Greater}
use Rattle.std.proofs.lemmas.Cmp.{tied_itself}
use Rattle.stamp_values.specs.Order.{name_cmp, names_exact, names_total}
use Rattle.stamp_types.specs.declared.args.Page.{Page}
use Rattle.stamp_types.specs.World.{Part}
use Rattle.list_pages.specs.Laws.{IsOfSomeName, entries_at, listed_text, shown_at}
use Rattle.list_pages.specs.Lists.{ShownBlob, blob_list, given, shown_blob}
use Rattle.list_pages.specs.Names.{begins_with, group_of}
use Rattle.list_pages.specs.Pages.{Entry, each_once, entry_by, entry_of, is_other, listed, with_value}
use Rattle.list_pages.specs.Rising.{IsBeforeAll, Rises}
use Rattle.list_pages.proofs.Bounds.{all_once, passed}
use Rattle.list_pages.proofs.Lists.{filter-each_once, rises}
use Rattle.list_pages.proofs.Orders.{not_itself}
use Rattle.list_pages.proofs.Over.{rises_with_value}
use Rattle.list_pages.proofs.Shown.{find_shown}
use mathlib.Core.Bool.{true≢false}

equal : (r : Ordering) → is_eq r ≡ true → r ≡ Equal
equal Less e = absurd (true≢false (sym e))
equal Equal e = refl
equal Greater e = absurd (true≢false (sym e))

-- the text is that under which a name is listed
abbrev has_text : List ℕ → List ℕ → List ℕ → List ℕ → Bool
has_text prefix delimiter name text = pointwise nat_eq text (listed_text prefix delimiter name)

-- ---- entries of one text

module _ {Y : Type 0} where
  none_other_by : (text : List ℕ) (item : Entry Y) (items : List (Entry Y)) (b : Bool) → pointwise nat_eq item.0 text ≡ b → b ≡ true → filter (is_other text) items ≡ []
      → cond (not b) (item ∷ filter (is_other text) items) (filter (is_other text) items) ≡ []
  none_other_by text item items true is same more = more
  none_other_by text item items false is same more = absurd (true≢false (sym same))

  none_other : (text : List ℕ) (items : List (Entry Y)) → AllByRecursion (λ (item : Entry Y). pointwise nat_eq item.0 text ≡ true) items → filter (is_other text) items ≡ []
  none_other text [] all = refl
  none_other text (item ∷ items) all = none_other_by text item items (pointwise nat_eq item.0 text) refl all.0 (none_other text items all.1)

  -- entries that all have one text leave one entry
  once_alike : (text : List ℕ) (item : Entry Y) (items : List (Entry Y)) → AllByRecursion (λ (item : Entry Y). pointwise nat_eq item.0 text ≡ true) (item ∷ items) → each_once (item ∷ items) ≡ item ∷ []
  once_alike text item items all =
      let same : item.0 ≡ text = (bytes_decides item.0 text).0 all.0 in
      let others : AllByRecursion (λ (other : Entry Y). pointwise nat_eq other.0 item.0 ≡ true) items = subst (λ text. AllByRecursion (λ (other : Entry Y). pointwise nat_eq other.0 text ≡ true) items) (sym same) all.1 in
      ap (λ t. item ∷ t) (none_other item.0 (each_once items) (all_once (λ (other : Entry Y). pointwise nat_eq other.0 item.0 ≡ true) items others))

  one_if_some : (text : List ℕ) (items : List (Entry Y)) → AllByRecursion (λ (item : Entry Y). pointwise nat_eq item.0 text ≡ true) items → items ≢ [] → length (each_once items) ≡ 1
  one_if_some text [] all some = absurd (some refl)
  one_if_some text (item ∷ items) all some = ap (λ (t : List (Entry Y)). length t) (once_alike text item items all)

  not_empty : {x : Entry Y} {xs : List (Entry Y)} → x ∷ xs ≢ []
  not_empty e = true≢false (sym (ap is_empty e))
    where
      is_empty : List (Entry Y) → Bool
      is_empty [] = true
      is_empty (x ∷ xs) = false

  some_by : (test : Entry Y → Bool) (item : Entry Y) (items : List (Entry Y)) (b : Bool) → filter test items ≢ [] → cond b (item ∷ filter test items) (filter test items) ≢ []
  some_by test item items true some = not_empty
  some_by test item items false some = some

  some_first : (test : Entry Y → Bool) (o : Option (Entry Y)) (items : List (Entry Y)) → filter test items ≢ [] → filter test (cons_option o items) ≢ []
  some_first test None items some = some
  some_first test (Some item) items some = some_by test item items (test item) some

  module _ (prefix delimiter name : List ℕ) (begins : begins_with name prefix ≡ true) where
    entry_text : (y : Y) (group : Option (List ℕ)) → (entry_by group (name, y)).0 ≡ unwrap_or group name
    entry_text y None = refl
    entry_text y (Some group) = refl

    -- the name's own entry has its text
    own : (y : Y) (items : List (Entry Y)) → filter (λ (item : Entry Y). has_text prefix delimiter name item.0) (cons_option (entry_of prefix delimiter (name, y)) items) ≢ []
    own y items =
        subst (λ b. filter (λ (item : Entry Y). has_text prefix delimiter name item.0) (cons_option (cond b (Some (entry_by (group_of prefix delimiter name) (name, y))) None) items) ≢ []) (sym begins)
        (subst (λ b. cond b (entry_by (group_of prefix delimiter name) (name, y) ∷ filter (λ (item : Entry Y). has_text prefix delimiter name item.0) items) (filter (λ (item : Entry Y). has_text prefix delimiter name item.0) items) ≢ [])
        (sym ((bytes_decides (entry_by (group_of prefix delimiter name) (name, y)).0 (listed_text prefix delimiter name)).1 (entry_text y (group_of prefix delimiter name)))) not_empty)

    there_by : (e : List ℕ × Y) (es : List (List ℕ × Y)) (y : Y) (b : Bool) → eq_by_cmp name_cmp name e.0 ≡ b
        → (find name_cmp name es ≡ Some y → filter (λ (item : Entry Y). has_text prefix delimiter name item.0) (filter_map (entry_of prefix delimiter) es) ≢ [])
        → cond b (Some e.1) (find name_cmp name es) ≡ Some y → filter (λ (item : Entry Y). has_text prefix delimiter name item.0) (cons_option (entry_of prefix delimiter e) (filter_map (entry_of prefix delimiter) es)) ≢ []
    there_by e es y true tie more found =
        subst (λ n. filter (λ (item : Entry Y). has_text prefix delimiter name item.0) (cons_option (entry_of prefix delimiter (n, e.1)) (filter_map (entry_of prefix delimiter) es)) ≢ []) (names_exact name e.0 (equal (name_cmp name e.0) tie))
        (own e.1 (filter_map (entry_of prefix delimiter) es))
    there_by e es y false tie more found = some_first (λ (item : Entry Y). has_text prefix delimiter name item.0) (entry_of prefix delimiter e) (filter_map (entry_of prefix delimiter) es) (more found)

    there : (es : List (List ℕ × Y)) (y : Y) → find name_cmp name es ≡ Some y → filter (λ (item : Entry Y). has_text prefix delimiter name item.0) (filter_map (entry_of prefix delimiter) es) ≢ []
    there [] y found = absurd (true≢false (sym (ap is_there found)))
      where
        is_there : Option Y → Bool
        is_there None = false
        is_there (Some y) = true
    there (e ∷ es) y found = there_by e es y (eq_by_cmp name_cmp name e.0) refl (there es y) found

    -- a name that begins with the prefix has one entry
    pub one_entry : (es : List (List ℕ × Y)) (y : Y) → find name_cmp name es ≡ Some y → length (entries_at (listed_text prefix delimiter name) (listed prefix delimiter es)) ≡ 1
    one_entry es y found =
        ap (λ (items : List (Entry Y)). length items) (filter-each_once (has_text prefix delimiter name) (filter_map (entry_of prefix delimiter) es))
        ∙ one_if_some (listed_text prefix delimiter name) (filter (λ (item : Entry Y). has_text prefix delimiter name item.0) (filter_map (entry_of prefix delimiter) es))
        (passed (λ (item : Entry Y). has_text prefix delimiter name item.0) (filter_map (entry_of prefix delimiter) es)) (there es y found)

pub committed_name : (q : Page) (p : Part ℕ) (name : List ℕ) → IsSome (shown_at p name) → begins_with name (given q.prefix) ≡ true
    → length (entries_at (listed_text (given q.prefix) (given q.delimiter) name) (blob_list q p)) ≡ 1
committed_name q p name some begins = by (shown_at p name) refl some
  where
    by : (o : Option ShownBlob) → shown_at p name ≡ o → IsSome o → length (entries_at (listed_text (given q.prefix) (given q.delimiter) name) (blob_list q p)) ≡ 1
    by None is some = absurd (true≢false (sym some))
    by (Some shown) is some =
        one_entry (given q.prefix) (given q.delimiter) name begins (with_value shown_blob (entries p.blobs)) shown (find_shown name_cmp names_total shown_blob name p.blobs ∙ is)

-- ---- each entry is that of a name

module _ {Y : Type 0} where
  -- the value of a name in a rising list
  find_at : (front : List (List ℕ × Y)) (e : List ℕ × Y) (rest : List (List ℕ × Y)) → Rises (front ++ e ∷ rest) → find name_cmp e.0 (front ++ e ∷ rest) ≡ Some e.1
  find_at [] e rest up = ap (λ r. cond (is_eq r) (Some e.1) (find name_cmp e.0 rest)) (tied_itself nat_list_cmp_total e.0)
  find_at (f ∷ front) e rest up =
      let past : name_cmp e.0 f.0 ≡ Greater = nat_list_cmp_total.antisymm e.0 f.0 ∙ ap ordering_reverse (name_at f.0 front e rest up.0) in
      ap (λ r. cond (is_eq r) (Some f.1) (find name_cmp e.0 (front ++ e ∷ rest))) past ∙ find_at front e rest up.1
    where
      name_at : (text : List ℕ) (front : List (List ℕ × Y)) (e : List ℕ × Y) (rest : List (List ℕ × Y)) → IsBeforeAll text (front ++ e ∷ rest) → name_cmp text e.0 ≡ Less
      name_at text [] e rest up = up.0
      name_at text (f ∷ front) e rest up = name_at text front e rest up.1

module _ (q : Page) (p : Part ℕ) where
  abbrev names : List (List ℕ × ShownBlob)
  names = with_value shown_blob (entries p.blobs)

  names_rise_up : Rises names
  names_rise_up = rises_with_value shown_blob (entries p.blobs) (rises (entries p.blobs) (entries_sorted p.blobs))

  abbrev IsOne : Entry ShownBlob → Type 0
  IsOne = IsOfSomeName p (given q.prefix) (given q.delimiter)

  of_by : (e : List ℕ × ShownBlob) (o : Option (Entry ShownBlob)) (items : List (Entry ShownBlob)) → entry_of (given q.prefix) (given q.delimiter) e ≡ o → shown_at p e.0 ≡ Some e.1
      → AllByRecursion IsOne items → AllByRecursion IsOne (cons_option o items)
  of_by e None items is at more = more
  of_by e (Some entry) items is at more = ((e.0, e.1, at, is), more)

  of_names : (front es : List (List ℕ × ShownBlob)) → names ≡ front ++ es → AllByRecursion IsOne (filter_map (entry_of (given q.prefix) (given q.delimiter)) es)
  of_names front [] is = tt
  of_names front (e ∷ es) is =
      let found : find name_cmp e.0 names ≡ Some e.1 = ap (find name_cmp e.0) is ∙ find_at front e es (subst Rises is names_rise_up) in
      of_by e (entry_of (given q.prefix) (given q.delimiter) e) (filter_map (entry_of (given q.prefix) (given q.delimiter)) es) refl
      (sym (find_shown name_cmp names_total shown_blob e.0 p.blobs) ∙ found)
      (of_names (front ++ e ∷ []) es (is ∙ sym (append_assoc front (e ∷ []) es)))

  -- each entry is that of a committed name
  pub each_of_names : AllByRecursion IsOne (blob_list q p)
  each_of_names = all_once IsOne (filter_map (entry_of (given q.prefix) (given q.delimiter)) names) (of_names [] names refl)

-- ---- without a delimiter

module _ {Y : Type 0} (prefix : List ℕ) where
  -- the entry of a name that has no group
  abbrev name_entry : List ℕ × Y → Entry Y
  name_entry e = (e.0, Some e.1)

  entry_first : (e : List ℕ × Y) (b : Bool) (es : List (List ℕ × Y)) (items : List (Entry Y)) → items ≡ map name_entry es → cons_option (cond b (Some (name_entry e)) None) items ≡ map name_entry (cond b (e ∷ es) es)
  entry_first e true es items more = ap (λ t. name_entry e ∷ t) more
  entry_first e false es items more = more

  entries_are : (es : List (List ℕ × Y)) → filter_map (entry_of prefix []) es ≡ map name_entry (filter (λ e. begins_with e.0 prefix) es)
  entries_are [] = refl
  entries_are (e ∷ es) = entry_first e (begins_with e.0 prefix) (filter (λ e. begins_with e.0 prefix) es) (filter_map (entry_of prefix []) es) (entries_are es)

  all_other_by : (text : List ℕ) (item : Entry Y) (items : List (Entry Y)) (b : Bool) → pointwise nat_eq item.0 text ≡ b → name_cmp text item.0 ≡ Less → filter (is_other text) items ≡ items
      → cond (not b) (item ∷ filter (is_other text) items) (filter (is_other text) items) ≡ item ∷ items
  all_other_by text item items true is past more = absurd (not_itself text (ap (name_cmp text) (sym ((bytes_decides item.0 text).0 is)) ∙ past))
  all_other_by text item items false is past more = ap (λ t. item ∷ t) more

  all_other : (text : List ℕ) (items : List (Entry Y)) → IsBeforeAll text items → filter (is_other text) items ≡ items
  all_other text [] up = refl
  all_other text (item ∷ items) up = all_other_by text item items (pointwise nat_eq item.0 text) refl up.0 (all_other text items up.1)

  -- a rising list has each text once
  once_rising : (items : List (Entry Y)) → Rises items → each_once items ≡ items
  once_rising [] up = refl
  once_rising (item ∷ items) up = ap (λ t. item ∷ t) (ap (filter (is_other item.0)) (once_rising items up.1) ∙ all_other item.0 items up.0)

  before_map : (text : List ℕ) (es : List (List ℕ × Y)) → IsBeforeAll text es → IsBeforeAll text (map name_entry es)
  before_map text [] up = tt
  before_map text (e ∷ es) up = (up.0, before_map text es up.1)

  rises_map : (es : List (List ℕ × Y)) → Rises es → Rises (map name_entry es)
  rises_map [] up = tt
  rises_map (e ∷ es) up = (before_map e.0 es up.0, rises_map es up.1)

  before_filter_by : (test : List ℕ × Y → Bool) (text : List ℕ) (e : List ℕ × Y) (es : List (List ℕ × Y)) (b : Bool) → name_cmp text e.0 ≡ Less → IsBeforeAll text (filter test es) → IsBeforeAll text (cond b (e ∷ filter test es) (filter test es))
  before_filter_by test text e es true at more = (at, more)
  before_filter_by test text e es false at more = more

  before_filter : (test : List ℕ × Y → Bool) (text : List ℕ) (es : List (List ℕ × Y)) → IsBeforeAll text es → IsBeforeAll text (filter test es)
  before_filter test text [] up = tt
  before_filter test text (e ∷ es) up = before_filter_by test text e es (test e) up.0 (before_filter test text es up.1)

  rises_filter_by : (test : List ℕ × Y → Bool) (e : List ℕ × Y) (es : List (List ℕ × Y)) (b : Bool) → IsBeforeAll e.0 es → Rises (filter test es) → Rises (cond b (e ∷ filter test es) (filter test es))
  rises_filter_by test e es true up more = (before_filter test e.0 es up, more)
  rises_filter_by test e es false up more = more

  rises_names : (test : List ℕ × Y → Bool) (es : List (List ℕ × Y)) → Rises es → Rises (filter test es)
  rises_names test [] up = tt
  rises_names test (e ∷ es) up = rises_filter_by test e es (test e) up.0 (rises_names test es up.1)

  -- without a delimiter the entries are the names
  pub listed_names : (es : List (List ℕ × Y)) → Rises es → listed prefix [] es ≡ map (λ e. (e.0, Some e.1)) (filter (λ e. begins_with e.0 prefix) es)
  listed_names es up =
      ap each_once (entries_are es)
      ∙ once_rising (map name_entry (filter (λ e. begins_with e.0 prefix) es)) (rises_map (filter (λ e. begins_with e.0 prefix) es) (rises_names (λ e. begins_with e.0 prefix) es up))

pub names_alone : (q : Page) (p : Part ℕ) → q.delimiter ≡ None → blob_list q p ≡ map (λ e. (e.0, Some e.1)) (filter (λ e. begins_with e.0 (given q.prefix)) (with_value shown_blob (entries p.blobs)))
names_alone q p none =
    ap (λ (d : Option (List ℕ)). listed (given q.prefix) (given d) (with_value shown_blob (entries p.blobs))) none
    ∙ listed_names (given q.prefix) (with_value shown_blob (entries p.blobs)) (rises_with_value shown_blob (entries p.blobs) (rises (entries p.blobs) (entries_sorted p.blobs)))
