-- A page of containers depends on the containers of its range alone.
use Rattle.std.proofs.Common.{◌≡◌, ◌≢◌, ℕ, Bool, true, false, cond, ◌&&◌, T, List, [], ◌∷◌, Option, Some, None, refl, sym, ap, ◌∙◌, nat_eq}
use Rattle.std.specs.Prelude.{IfSome}
use Rattle.std.specs.Cmp.Lexicographic.{pointwise, bytes_decides}
use Rattle.std.specs.FinMap.{entries, entries_sorted, find, get, is_sorted}
use Rattle.std.specs.FinMap.Entries.{find-where_key, is_sorted-where_key, same_entries}
use Rattle.std.specs.List.{filter, filter_map}
use Rattle.std.specs.Option.{option_and_then}
use Rattle.std.specs.Ordering.{is_le, is_lt, ordering_then}
use Rattle.std.specs.declared.cmp.Ordering.{Ordering}
use Rattle.std.specs.declared.cmp.Ordering.TheVariants.{Less, Equal, Greater}
use Rattle.stamp_values.specs.Order.{key_cmp, keys_exact, keys_total, name_cmp, names_exact}
use Rattle.stamp_values.specs.Trees.{is_from, is_name_from}
use Rattle.stamp_values.specs.declared.key.Key.{Key}
use Rattle.stamp_types.specs.declared.args.Page.{Page}
use Rattle.stamp_types.specs.World.{World, part_at}
use Rattle.list_pages.specs.Containers.{before_end, end_of, is_ended, of_account, or_else, page_to}
use Rattle.list_pages.specs.Lists.{ShownContainer, given, page_of_containers, shown_container}
use Rattle.list_pages.specs.Pages.{Entry, each_once, from_marker, listed, page, with_value}
use Rattle.list_pages.specs.Ranges.{AreSameInRange, key_of}
use Rattle.list_pages.proofs.Keys.{same_account, shown, shown_by, shown_is}
use Rattle.list_pages.proofs.Lists.{filter_map-filter_map, only_kept}
use Rattle.list_pages.proofs.Orders.{before, both_true, first_true, from_from, not_both, second_true}
use Rattle.list_pages.proofs.Over.{is_less}
use Rattle.list_pages.proofs.Shown.{container_alike, find_shown, shown_before_end, sorted_shown}
use Rattle.list_pages.proofs.Walk.{if_seen, seen, walked_is}

-- the key is before the bound, if there is a bound
abbrev pub is_before : Option Key → Key → Bool
is_before None key = true
is_before (Some end) key = is_lt (key_cmp key end)

-- ---- keys of an account before its end

-- what is before a key of another account, that is past one key of this account, is after all keys of this account
other_account : (a b : List ℕ) (r s t : Ordering) → name_cmp a b ≡ r → (a ≢ b) → ordering_then r s ≡ Less → ordering_then r t ≡ Less
other_account a b Less s t is apart past = refl
other_account a b Equal s t is apart past = absurd (apart (names_exact a b is))
other_account a b Greater s t is apart past = past

module _ (account marker : List ℕ) where
  before_by : (end key : Key) (b : Bool) → pointwise nat_eq end.account account ≡ b → key.account ≡ account → key_cmp (key_of account marker) end ≡ Less
      → is_ended (cond b (Some end.container) None) key.container ≡ false → key_cmp key end ≡ Less
  before_by end key true is same past within_end =
      same_account key end (same ∙ sym ((bytes_decides end.account account).0 is)) ∙ before end.container key.container within_end
  before_by end key false is same past within_end =
      other_account key.account end.account (name_cmp key.account end.account) (name_cmp marker end.container) (name_cmp key.container end.container) refl
      (λ e. not_both ((bytes_decides end.account account).1 (sym e ∙ same)) is)
      (ap (λ a. ordering_then (name_cmp a end.account) (name_cmp marker end.container)) same ∙ past)

  is_before_bound : (bound : Option Key) (key : Key) → IfSome bound (λ end. key_cmp (key_of account marker) end ≡ Less) → key.account ≡ account → is_ended (end_of account bound) key.container ≡ false → is_before bound key ≡ true
  is_before_bound None key past same within_end = refl
  is_before_bound (Some end) key past same within_end = ap is_lt (before_by end key (pointwise nat_eq end.account account) refl same past within_end)

-- ---- the rows of the range

module _ {X Y : Type 0} (has : X → Option Y) (account prefix marker : List ℕ) (bound : Option Key) (past : IfSome bound (λ end. key_cmp (key_of account marker) end ≡ Less)) where
  abbrev in_range : Key → Bool
  in_range key = pointwise nat_eq key.account account && (is_from (key_of account marker) key && is_before bound key)

  abbrev listed_row : Key × X → Option (Entry Y)
  listed_row e = option_and_then (seen has prefix [] marker) (shown account (end_of account bound) e)

  row_by : (e : Key × X) (b c : Bool) → pointwise nat_eq e.0.account account ≡ b → is_ended (end_of account bound) e.0.container ≡ c → in_range e.0 ≡ false
      → option_and_then (seen has prefix [] marker) (shown_by account (end_of account bound) b c e) ≡ None
  row_by e false c is at out = refl
  row_by e true true is at out = refl
  row_by e true false is at out =
      let same : e.0.account ≡ account = (bytes_decides e.0.account account).0 is in
      if_seen has prefix [] marker (λ (o : Option (Entry Y)). o ≡ None) (e.0.container, e.1) refl
      (λ item is_seen.
      let name_from : is_name_from marker e.0.container ≡ true = from_from marker item.0 e.0.container is_seen.at is_seen.under in
      let key_from : is_from (key_of account marker) e.0 ≡ true = ap is_le (same_account (key_of account marker) e.0 (sym same)) ∙ name_from in
      not_both (both_true (pointwise nat_eq e.0.account account) (is_from (key_of account marker) e.0 && is_before bound e.0) is
      (both_true (is_from (key_of account marker) e.0) (is_before bound e.0) key_from (is_before_bound account marker bound e.0 past same at))) out)

  row_out : (e : Key × X) → in_range e.0 ≡ false → listed_row e ≡ None
  row_out e out = row_by e (pointwise nat_eq e.0.account account) (is_ended (end_of account bound) e.0.container) refl refl out

  -- what a page is cut from depends on the rows of the range
  pub cut_of_range : (rows : List (Key × X)) → from_marker marker (listed prefix [] (with_value has (before_end (end_of account bound) (of_account account rows))))
      ≡ each_once (filter_map listed_row (filter (λ e. in_range e.0) rows))
  cut_of_range rows =
      ap (λ names. from_marker marker (listed prefix [] (with_value has names))) (shown_is account (end_of account bound) rows)
      ∙ walked_is has prefix [] marker (filter_map (shown account (end_of account bound)) rows)
      ∙ ap each_once (filter_map-filter_map (seen has prefix [] marker) (shown account (end_of account bound)) rows ∙ only_kept listed_row (λ e. in_range e.0) row_out rows)

each_shown : {K Y : Type 0} (es : List (K × Y)) → with_value (λ y. Some y) es ≡ es
each_shown [] = refl
each_shown (e ∷ es) = ap (λ more. e ∷ more) (each_shown es)

abbrev rows_shown : {C : Type 0} → World C → List (Key × ShownContainer)
rows_shown w = with_value shown_container (entries w)

module _ {C : Type 0} (test : Key → Bool) where
  -- what is shown of the rows whose keys pass the test
  abbrev rows_where : World C → List (Key × ShownContainer)
  rows_where w = filter (λ e. test e.0) (rows_shown w)

  find_where : (w : World C) (key : Key) → find key_cmp key (rows_where w) ≡ cond (test key) (option_and_then shown_container (get w key)) None
  find_where w key =
      find-where_key key_cmp test key (λ other e. ap test (sym (keys_exact key other e))) (rows_shown w)
      ∙ ap (λ o. cond (test key) o None) (find_shown key_cmp keys_total shown_container key w)

  sorted_where : (w : World C) → T (is_sorted key_cmp (rows_where w))
  sorted_where w = is_sorted-where_key key_cmp test (rows_shown w) (sorted_shown key_cmp keys_total shown_container (entries w) (entries_sorted w))

  module _ (w v : World C) (same : (key : Key) → test key ≡ true → option_and_then shown_container (get w key) ≡ option_and_then shown_container (get v key)) where
    shown_by_key : (key : Key) (b : Bool) → test key ≡ b → cond b (option_and_then shown_container (get w key)) None ≡ cond b (option_and_then shown_container (get v key)) None
    shown_by_key key false is = refl
    shown_by_key key true is = same key is

    -- rows that show the same under these keys
    same_where : rows_where w ≡ rows_where v
    same_where =
        same_entries key_cmp keys_total keys_exact (rows_where w) (rows_where v) (sorted_where w) (sorted_where v)
        (λ key. find_where w key ∙ shown_by_key key (test key) refl ∙ sym (find_where v key))

-- ---- an account

module _ (account : List ℕ) where
  abbrev owns : Key → Bool
  owns key = pointwise nat_eq key.account account

  own_rows : (rows : List (Key × ShownContainer)) → of_account account rows ≡ of_account account (filter (λ e. owns e.0) rows)
  own_rows rows =
      only_kept (λ e. cond (owns e.0) (Some (e.0.container, e.1)) None) (λ e. owns e.0) (λ e other. ap (λ b. cond b (Some (e.0.container, e.1)) None) other) rows

  -- a page of containers depends on what is shown of the containers of its account
  pub page_of_account_shown : {C : Type 0} (q : Page) (bound : Option Key) (w v : World C) → ((key : Key) → key.account ≡ account → shown_container (part_at w key) ≡ shown_container (part_at v key))
      → page_of_containers account q bound w ≡ page_of_containers account q bound v
  page_of_account_shown q bound w v same =
      ap (page_to (end_of account bound) (given q.prefix) (given q.marker) q.max)
      (shown_before_end shown_container account (end_of account bound) (entries w)
      ∙ ap (before_end (end_of account bound)) (own_rows (rows_shown w) ∙ ap (of_account account) (same_where owns w v same_key) ∙ sym (own_rows (rows_shown v)))
      ∙ sym (shown_before_end shown_container account (end_of account bound) (entries v)))
    where
      same_key : (key : Key) → owns key ≡ true → option_and_then shown_container (get w key) ≡ option_and_then shown_container (get v key)
      same_key key own = sym (container_alike (get w key)) ∙ same key ((bytes_decides key.account account).0 own) ∙ container_alike (get v key)

-- ---- a range

module _ (account : List ℕ) (q : Page) (bound : Option Key) (past : IfSome bound (λ end. key_cmp (key_of account (given q.marker)) end ≡ Less)) where
  -- the key is of the account, at the marker or past it, and before the bound
  abbrev pub within : Key → Bool
  within key = pointwise nat_eq key.account account && (is_from (key_of account (given q.marker)) key && is_before bound key)

  cut_by_rows : {C : Type 0} (w : World C) → from_marker (given q.marker) (listed (given q.prefix) [] (with_value shown_container (before_end (end_of account bound) (of_account account (entries w)))))
      ≡ each_once (filter_map (listed_row (λ y. Some y) account (given q.prefix) (given q.marker) bound past) (rows_where within w))
  cut_by_rows w =
      ap (λ names. from_marker (given q.marker) (listed (given q.prefix) [] names))
      (shown_before_end shown_container account (end_of account bound) (entries w) ∙ sym (each_shown (before_end (end_of account bound) (of_account account (rows_shown w)))))
      ∙ cut_of_range (λ y. Some y) account (given q.prefix) (given q.marker) bound past (rows_shown w)

  -- a page of containers depends on what is shown of the containers of its account, from the marker on and before the bound
  pub page_of_shown : {C : Type 0} (w v : World C) → ((key : Key) → within key ≡ true → option_and_then shown_container (get w key) ≡ option_and_then shown_container (get v key))
      → page_of_containers account q bound w ≡ page_of_containers account q bound v
  page_of_shown w v same = λ i. record {
    entries = (page q.max (cut i)).entries;
    next = or_else (page q.max (cut i)).next (end_of account bound);
  }
    where
      cut : from_marker (given q.marker) (listed (given q.prefix) [] (with_value shown_container (before_end (end_of account bound) (of_account account (entries w)))))
          ≡ from_marker (given q.marker) (listed (given q.prefix) [] (with_value shown_container (before_end (end_of account bound) (of_account account (entries v)))))
      cut =
          cut_by_rows w
          ∙ ap (λ rows. each_once (filter_map (listed_row (λ y. Some y) account (given q.prefix) (given q.marker) bound past) rows)) (same_where within w v same)
          ∙ sym (cut_by_rows v)

before_of : (bound : Option Key) (key : Key) → is_before bound key ≡ true → IfSome bound (λ end. key_cmp key end ≡ Less)
before_of None key e = tt
before_of (Some end) key e = is_less (key_cmp key end) e

pub page_of_range : {C : Type 0} (account : List ℕ) (q : Page) (bound : Option Key) (w v : World C) → IfSome bound (λ end. key_cmp (key_of account (given q.marker)) end ≡ Less)
    → AreSameInRange (key_of account (given q.marker)) bound w v → page_of_containers account q bound w ≡ page_of_containers account q bound v
page_of_range account q bound w v past same =
    page_of_shown account q bound past w v
    (λ key is.
    let start = key_of account (given q.marker) in
    let in_order = second_true (pointwise nat_eq key.account account) (is_from start key && is_before bound key) is in
    ap (option_and_then shown_container)
    (same key (first_true (is_from start key) (is_before bound key) in_order) (before_of bound key (second_true (is_from start key) (is_before bound key) in_order))))
