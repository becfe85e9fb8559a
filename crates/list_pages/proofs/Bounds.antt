-- A page is in order and within its bounds.
use Rattle.std.proofs.Common.{◌≡◌, ℕ, zero, suc, Bool, true, false, cond, not, List, [], ◌∷◌, ◌++◌, drop, length, take, IsTrue, Option, Some, None, refl, sym, ap, ◌∙◌, subst, arith}
use Rattle.std.proofs.lemmas.List.{length-take}
use Rattle.std.specs.Prelude.{IfSome}
use Rattle.std.specs.FinMap.{entries}
use Rattle.std.specs.List.{AllByRecursion, cons_option, filter, filter_map, slice_get}
use Rattle.std.specs.Option.{option_map}
use Rattle.std.specs.declared.cmp.Ordering.TheVariants.{Less}
use Rattle.stamp_values.specs.Order.{name_cmp}
use Rattle.stamp_values.specs.Trees.{is_name_from}
use Rattle.stamp_values.specs.declared.key.Key.{Key}
use Rattle.stamp_types.specs.declared.args.Page.{Page}
use Rattle.stamp_types.specs.World.{Part, World}
use Rattle.list_pages.specs.Containers.{before_end, end_of, of_account, or_else, page_of_account}
use Rattle.list_pages.specs.Laws.{IsInBounds}
use Rattle.list_pages.specs.Lists.{ShownContainer, blob_list, container_list, given, page_of_blobs, page_of_containers, shown_blob, shown_container}
use Rattle.list_pages.specs.Names.{begins_with, cut_after, group_of}
use Rattle.list_pages.specs.Pages.{Entry, each_once, entry_by, entry_of, from_marker, is_other, listed, page, with_value}
use Rattle.list_pages.specs.Rising.{IsBeforeAll, Rises}
use Rattle.list_pages.specs.Seeks.{later_of}
use Rattle.list_pages.proofs.Following.{above_at, cut_at, none_at}
use Rattle.list_pages.proofs.Groups.{no_some, same_some}
use Rattle.list_pages.proofs.Orders.{before, begins_from, begins_with-append, from_from, from_itself, past_from}
use Rattle.list_pages.proofs.Over.{containers_rise, paged, part}
use Rattle.list_pages.proofs.Rising.{list_rises, rises_filter}

-- ---- a fact of each element

module _ {X : Type 0} (P : X → Type 0) where
  all_by : (test : X → Bool) (x : X) (xs : List X) (b : Bool) → P x → AllByRecursion P (filter test xs) → AllByRecursion P (cond b (x ∷ filter test xs) (filter test xs))
  all_by test x xs true holds more = (holds, more)
  all_by test x xs false holds more = more

  pub all_filter : (test : X → Bool) (xs : List X) → AllByRecursion P xs → AllByRecursion P (filter test xs)
  all_filter test [] all = tt
  all_filter test (x ∷ xs) all = all_by test x xs (test x) all.0 (all_filter test xs all.1)

  pub all_take : (n : ℕ) (xs : List X) → AllByRecursion P xs → AllByRecursion P (take n xs)
  all_take zero [] all = tt
  all_take zero (x ∷ xs) all = tt
  all_take (suc n) [] all = tt
  all_take (suc n) (x ∷ xs) all = (all.0, all_take n xs all.1)

pub all_once : {Y : Type 0} (P : Entry Y → Type 0) (items : List (Entry Y)) → AllByRecursion P items → AllByRecursion P (each_once items)
all_once P [] all = tt
all_once P (item ∷ items) all = (all.0, all_filter P (is_other item.0) (each_once items) (all_once P items all.1))

passed_by : {X : Type 0} (test : X → Bool) (x : X) (xs : List X) (b : Bool) → test x ≡ b → AllByRecursion (λ x. test x ≡ true) (filter test xs) → AllByRecursion (λ x. test x ≡ true) (cond b (x ∷ filter test xs) (filter test xs))
passed_by test x xs true is more = (is, more)
passed_by test x xs false is more = more

-- what passed a test passes it
pub passed : {X : Type 0} (test : X → Bool) (xs : List X) → AllByRecursion (λ x. test x ≡ true) (filter test xs)
passed test [] = tt
passed test (x ∷ xs) = passed_by test x xs (test x) refl (passed test xs)

-- a fact of each element that follows from another
pub all_so : {X : Type 0} (P Q : X → Type 0) → ((x : X) → P x → Q x) → (xs : List X) → AllByRecursion P xs → AllByRecursion Q xs
all_so P Q so [] all = tt
all_so P Q so (x ∷ xs) all = (so x all.0, all_so P Q so xs all.1)

-- ---- entries begin with the prefix

group_begins : (prefix delimiter name group : List ℕ) → group_of prefix delimiter name ≡ Some group → begins_with group prefix ≡ true
group_begins prefix delimiter name group e = by (cut_after delimiter (drop (length prefix) name)) e
  where
    by : (cut : Option (List ℕ)) → option_map (λ cut. prefix ++ cut) cut ≡ Some group → begins_with group prefix ≡ true
    by None e = no_some e
    by (Some cut) e = ap (λ t. begins_with t prefix) (sym (same_some (prefix ++ cut) group e)) ∙ begins_with-append prefix cut

module _ {Y : Type 0} (prefix delimiter : List ℕ) where
  begins_by : (e : List ℕ × Y) (items : List (Entry Y)) (b : Bool) (group : Option (List ℕ)) → begins_with e.0 prefix ≡ b → group_of prefix delimiter e.0 ≡ group
      → AllByRecursion (λ entry. IsTrue (begins_with entry.0 prefix)) items → AllByRecursion (λ (entry : Entry Y). IsTrue (begins_with entry.0 prefix)) (cons_option (cond b (Some (entry_by group e)) None) items)
  begins_by e items false group is of more = more
  begins_by e items true None is of more = (is, more)
  begins_by e items true (Some group) is of more = (group_begins prefix delimiter e.0 group of, more)

  entries_begin : (es : List (List ℕ × Y)) → AllByRecursion (λ (entry : Entry Y). IsTrue (begins_with entry.0 prefix)) (filter_map (entry_of prefix delimiter) es)
  entries_begin [] = tt
  entries_begin (e ∷ es) = begins_by e (filter_map (entry_of prefix delimiter) es) (begins_with e.0 prefix) (group_of prefix delimiter e.0) refl refl (entries_begin es)

  -- each entry of a list begins with the prefix
  pub list_begins : (es : List (List ℕ × Y)) → AllByRecursion (λ (entry : Entry Y). IsTrue (begins_with entry.0 prefix)) (listed prefix delimiter es)
  list_begins es = all_once (λ (entry : Entry Y). IsTrue (begins_with entry.0 prefix)) (filter_map (entry_of prefix delimiter) es) (entries_begin es)

later_by : (p m text : List ℕ) (b : Bool) → is_name_from p m ≡ b → begins_with text p ≡ true → is_name_from (cond b m p) text ≡ is_name_from m text
later_by p m text true is begins = refl
later_by p m text false is begins = begins_from p text begins ∙ sym (from_from m p text (past_from m p (before p m is)) (begins_from p text begins))

-- what begins with the prefix is at the marker or past it, if it is at the later of both or past it
from_later : {Y : Type 0} (p m : List ℕ) (items : List (Entry Y)) → AllByRecursion (λ (entry : Entry Y). IsTrue (begins_with entry.0 p)) items → from_marker (later_of p m) items ≡ from_marker m items
from_later p m [] all = refl
from_later p m (item ∷ items) all =
    λ i. cond (later_by p m item.0 (is_name_from p m) refl all.0 i) (item ∷ from_later p m items all.1 i) (from_later p m items all.1 i)

-- a page of containers from the later of prefix and marker on is the page from the marker on
pub page_from_later : {X Y : Type 0} (has : X → Option Y) (account p m : List ℕ) (max : ℕ) (end : Option (List ℕ)) (rows : List (Key × X)) → page_of_account has account p (later_of p m) max end rows ≡ page_of_account has account p m max end rows
page_from_later {X} {Y} has account p m max end rows =
    let items : List (Entry Y) = listed p [] (with_value has (before_end end (of_account account rows))) in
    let same : from_marker (later_of p m) items ≡ from_marker m items = from_later p m items (list_begins p [] (with_value has (before_end end (of_account account rows)))) in
    λ i. record { entries = (page max (same i)).entries; next = or_else (page max (same i)).next end }

-- the later of prefix and marker is at the prefix or past it
pub later_from : (p m : List ℕ) → is_name_from p (later_of p m) ≡ true
later_from p m = by (is_name_from p m) refl
  where
    by : (b : Bool) → is_name_from p m ≡ b → is_name_from p (cond b m p) ≡ true
    by true is = is
    by false is = from_itself p

or_nothing : (x : Option (List ℕ)) → or_else x None ≡ x
or_nothing None = refl
or_nothing (Some x) = refl

-- ---- the first entries of a rising list

module _ {Y : Type 0} where
  before_take : (text : List ℕ) (n : ℕ) (items : List (Entry Y)) → IsBeforeAll text items → IsBeforeAll text (take n items)
  before_take text zero [] up = tt
  before_take text zero (item ∷ items) up = tt
  before_take text (suc n) [] up = tt
  before_take text (suc n) (item ∷ items) up = (up.0, before_take text n items up.1)

  rises_take : (n : ℕ) (items : List (Entry Y)) → Rises items → Rises (take n items)
  rises_take zero [] up = tt
  rises_take zero (item ∷ items) up = tt
  rises_take (suc n) [] up = tt
  rises_take (suc n) (item ∷ items) up = (before_take item.0 n items up.0, rises_take n items up.1)

  -- what comes before an entry of a rising list
  front_before : (front : List (Entry Y)) (x : Entry Y) (back : List (Entry Y)) → Rises (front ++ x ∷ back) → AllByRecursion (λ (entry : Entry Y). name_cmp entry.0 x.0 ≡ Less) front
  front_before [] x back up = tt
  front_before (f ∷ front) x back up = (above_at f.0 front x back up.0, front_before front x back up.1)

  -- the text is past each entry
  abbrev IsPast : List (Entry Y) → List ℕ → Type 0
  IsPast entries next = AllByRecursion (λ (entry : Entry Y). name_cmp entry.0 next ≡ Less) entries

  next_by : (entries : List (Entry Y)) (x end : Option (List ℕ)) → IfSome x (IsPast entries) → IfSome end (IsPast entries) → IfSome (or_else x end) (IsPast entries)
  next_by entries None end first second = second
  next_by entries (Some next) end first second = first

  next_past : (max : ℕ) (items : List (Entry Y)) → Rises items → IfSome (option_map (λ (entry : Entry Y). entry.0) (slice_get items max)) (IsPast (take max items))
  next_past max items up =
      cut_at max items (IfSome (option_map (λ (entry : Entry Y). entry.0) (slice_get items max)) (IsPast (take max items)))
      (λ short. subst (λ (o : Option (Entry Y)). IfSome (option_map (λ (entry : Entry Y). entry.0) o) (IsPast (take max items))) (sym (none_at items max short)) tt)
      (λ x later is get count.
      subst (λ (o : Option (Entry Y)). IfSome (option_map (λ (entry : Entry Y). entry.0) o) (IsPast (take max items))) (sym get)
      (front_before (take max items) x later (subst Rises is up)))

  all_end : (max : ℕ) (items : List (Entry Y)) (end : Option (List ℕ)) → IfSome end (IsPast items) → IfSome end (IsPast (take max items))
  all_end max items None past = tt
  all_end max items (Some end) past = all_take (λ (entry : Entry Y). name_cmp entry.0 end ≡ Less) max items past

  -- a page of a rising list before an end
  pub page_in_bounds : (prefix marker : List ℕ) (max : ℕ) (end : Option (List ℕ)) (items : List (Entry Y)) → Rises items → AllByRecursion (λ (entry : Entry Y). IsTrue (is_name_from marker entry.0)) items
      → AllByRecursion (λ (entry : Entry Y). IsTrue (begins_with entry.0 prefix)) items → IfSome end (IsPast items)
      → IsInBounds prefix marker max (record { entries = take max items; next = or_else (option_map (λ (entry : Entry Y). entry.0) (slice_get items max)) end })
  page_in_bounds prefix marker max end items up from begins past = record {
    rises = rises_take max items up;
    from = all_take (λ (entry : Entry Y). IsTrue (is_name_from marker entry.0)) max items from;
    begins = all_take (λ (entry : Entry Y). IsTrue (begins_with entry.0 prefix)) max items begins;
    most = omega (arith, length-take max items);
    next = next_by (take max items) (option_map (λ (entry : Entry Y). entry.0) (slice_get items max)) end (next_past max items up) (all_end max items end past);
  }

  -- a page of a rising list
  pub whole_in_bounds : (prefix marker : List ℕ) (max : ℕ) (items : List (Entry Y)) → Rises items → AllByRecursion (λ (entry : Entry Y). IsTrue (begins_with entry.0 prefix)) items → IsInBounds prefix marker max (page max (from_marker marker items))
  whole_in_bounds prefix marker max items up begins =
      subst (λ (next : Option (List ℕ)). IsInBounds {X = Y} prefix marker max (record { entries = take max (from_marker marker items); next = next }))
      (or_nothing (option_map (λ (entry : Entry Y). entry.0) (slice_get (from_marker marker items) max)))
      (page_in_bounds prefix marker max None (from_marker marker items) (rises_filter (λ entry. is_name_from marker entry.0) items up) (passed (λ (entry : Entry Y). is_name_from marker entry.0) items)
      (all_filter (λ (entry : Entry Y). IsTrue (begins_with entry.0 prefix)) (λ entry. is_name_from marker entry.0) items begins) tt)

-- ---- the pages of containers and of accounts

pub blobs_in_bounds : (q : Page) (p : Part ℕ) → IsInBounds (given q.prefix) (given q.marker) q.max (page_of_blobs q p)
blobs_in_bounds q p =
    whole_in_bounds (given q.prefix) (given q.marker) q.max (blob_list q p) (list_rises shown_blob (given q.prefix) (given q.delimiter) p.blobs)
    (list_begins (given q.prefix) (given q.delimiter) (with_value shown_blob (entries p.blobs)))

module _ {C : Type 0} (account : List ℕ) (q : Page) (bound : Option Key) (w : World C) where
  abbrev the_end : Option (List ℕ)
  the_end = end_of account bound

  -- what the page is cut from
  abbrev cut_from_list : List (Entry ShownContainer)
  cut_from_list = from_marker (given q.marker) (listed (given q.prefix) [] (with_value shown_container (before_end the_end (of_account account (entries w)))))

  abbrev by_list : List (Entry ShownContainer)
  by_list = part the_end (from_marker (given q.marker) (container_list account q w))

  is_by_list : cut_from_list ≡ by_list
  is_by_list = paged account q w the_end (given q.marker)

  part_rises : (end : Option (List ℕ)) (items : List (Entry ShownContainer)) → Rises items → Rises (part end items)
  part_rises None items up = up
  part_rises (Some end) items up = rises_filter (λ item. not (is_name_from end item.0)) items up

  is_not : (b : Bool) → not b ≡ true → b ≡ false
  is_not true e = sym e
  is_not false e = refl

  part_ends : (end : Option (List ℕ)) (items : List (Entry ShownContainer)) → IfSome end (IsPast (part end items))
  part_ends None items = tt
  part_ends (Some end) items =
      all_so (λ item. not (is_name_from end item.0) ≡ true) (λ item. name_cmp item.0 end ≡ Less) (λ item e. before end item.0 (is_not (is_name_from end item.0) e)) (part (Some end) items)
      (passed (λ item. not (is_name_from end item.0)) items)

  pub containers_in_bounds : IsInBounds (given q.prefix) (given q.marker) q.max (page_of_containers account q bound w)
  containers_in_bounds =
      page_in_bounds (given q.prefix) (given q.marker) q.max the_end cut_from_list
      (subst Rises (sym is_by_list) (part_rises the_end (from_marker (given q.marker) (container_list account q w)) (rises_filter (λ item. is_name_from (given q.marker) item.0) (container_list account q w) (containers_rise account q w))))
      (passed (λ (item : Entry ShownContainer). is_name_from (given q.marker) item.0) (listed (given q.prefix) [] (with_value shown_container (before_end the_end (of_account account (entries w))))))
      (all_filter (λ (entry : Entry ShownContainer). IsTrue (begins_with entry.0 (given q.prefix))) (λ item. is_name_from (given q.marker) item.0) (listed (given q.prefix) [] (with_value shown_container (before_end the_end (of_account account (entries w)))))
      (list_begins (given q.prefix) [] (with_value shown_container (before_end the_end (of_account account (entries w))))))
      (subst (λ items. IfSome the_end (IsPast items)) (sym is_by_list) (part_ends the_end (from_marker (given q.marker) (container_list account q w))))
