-- Following the markers over several ranges.
use Rattle.std.proofs.Common.{◌≡◌, ℕ, suc, ◌+◌, ◌<◌, ◌≤◌, Bool, true, false, not, cond, List, [], ◌∷◌, ◌++◌, length, take, nat_eq, Option, Some, None, refl, sym, ap, ◌∙◌, subst, arith, append_assoc, length-append}
use Rattle.std.specs.List.{filter, filter_map, slice_get, cons_option}
use Rattle.std.specs.Option.{option_map}
use Rattle.std.specs.Ordering.{is_le, is_lt}
use Rattle.std.specs.FinMap.{entries, entries_sorted}
use Rattle.std.specs.Cmp.Lexicographic.{pointwise, bytes_decides}
use Rattle.std.proofs.lemmas.Cmp.{tied_itself}
use Rattle.std.specs.declared.cmp.Ordering.{Ordering}
use Rattle.std.specs.declared.cmp.Ordering.TheVariants.{Less, Equal, Greater}
use Rattle.std.proofs.lemmas.List.{take_all, length-take-le, append-nil}
use Rattle.std.proofs.lemmas.List.Elements.{filter-append}
use mathlib.Core.Bool.{true≢false}
use Rattle.stamp_values.specs.Order.{key_cmp, keys_total, name_cmp}
use Rattle.stamp_values.specs.Trees.{is_from, is_name_from}
use Rattle.stamp_values.specs.declared.key.Key.{Key}
use Rattle.stamp_types.specs.declared.args.Page.{Page}
use Rattle.stamp_types.specs.World.{World}
use Rattle.list_pages.specs.Names.{begins_with}
use Rattle.list_pages.specs.Pages.{Entry, PageOf, listed, entry_of, each_once, from_marker, page, with_value}
use Rattle.list_pages.specs.Containers.{before_end, end_of, of_account, or_else}
use Rattle.list_pages.specs.Lists.{ShownContainer, container_list, given, page_of_containers, shown_container}
use Rattle.list_pages.proofs.Orders.{not_both, past_from, from_from, from_less}
use Rattle.list_pages.specs.Rising.{IsBeforeAll, Rises}
use Rattle.list_pages.proofs.Lists.{filter-each_once, filter-filter_map, filter-swap, filter-absorb, length_filter, kept_if}
use Rattle.list_pages.specs.Laws.{AreSome, FollowingGivesAll, followed, joined}
use Rattle.list_pages.specs.Ranges.{bound_of, key_of}
use Rattle.list_pages.proofs.Rising.{all_at, names_rise}
use Rattle.list_pages.proofs.Groups.{no_some, same_some}
use Rattle.list_pages.proofs.Keys.{rises_shown, same_account, shown_is}
use Rattle.list_pages.proofs.Following.{cut_at, none_at, from_place}

-- ---- a test of the names is a test of the entries, without a delimiter

module _ {X : Type 0} (prefix : List ℕ) (test : List ℕ → Bool) where
  entry_by : (e : List ℕ × X) (b c : Bool) → test e.0 ≡ c → (es gs : List (Entry X)) → es ≡ gs
      → cons_option (cond c (cond b (Some (e.0, Some e.1)) None) None) es ≡ cons_option (kept_if (λ (item : Entry X). test item.0) (cond b (Some (e.0, Some e.1)) None)) gs
  entry_by e false true is es gs more = more
  entry_by e false false is es gs more = more
  entry_by e true c is es gs more = (λ i. cons_option (cond (sym is i) (Some (e.0, Some e.1)) None) (more i))

  cut_by : (c : Bool) (e : List ℕ × X) (es : List (List ℕ × X)) → filter_map (entry_of prefix []) (cond c (e ∷ es) es) ≡ cons_option (cond c (entry_of prefix [] e) None) (filter_map (entry_of prefix []) es)
  cut_by true e es = refl
  cut_by false e es = refl

  entries_of : (es : List (List ℕ × X)) → filter_map (entry_of prefix []) (filter (λ e. test e.0) es) ≡ filter_map (λ e. kept_if (λ item. test item.0) (entry_of prefix [] e)) es
  entries_of [] = refl
  entries_of (e ∷ es) =
      cut_by (test e.0) e (filter (λ e. test e.0) es)
      ∙ entry_by e (begins_with e.0 prefix) (test e.0) refl (filter_map (entry_of prefix []) (filter (λ e. test e.0) es)) (filter_map (λ e. kept_if (λ item. test item.0) (entry_of prefix [] e)) es) (entries_of es)

  pub listed-filter : (es : List (List ℕ × X)) → listed prefix [] (filter (λ e. test e.0) es) ≡ filter (λ item. test item.0) (listed prefix [] es)
  listed-filter es =
      ap each_once (entries_of es ∙ sym (filter-filter_map (λ item. test item.0) (entry_of prefix []) es))
      ∙ sym (filter-each_once test (filter_map (entry_of prefix []) es))

-- ---- the split points past a marker

from_less_key : (a b c : Key) → is_from a b ≡ true → key_cmp b c ≡ Less → key_cmp a c ≡ Less
from_less_key a b c e f = by (key_cmp a b) refl e
  where
    by : (r : Ordering) → key_cmp a b ≡ r → is_le r ≡ true → key_cmp a c ≡ Less
    by Less is e = keys_total.trans a b c is f
    by Equal is e = keys_total.congr a b c is ∙ f
    by Greater is e = absurd (true≢false (sym e))

pub is_less : (r : Ordering) → is_lt r ≡ true → r ≡ Less
is_less Less e = refl
is_less Equal e = absurd (true≢false (sym e))
is_less Greater e = absurd (true≢false (sym e))

module _ (account : List ℕ) (splits : List Key) where
  -- the split points past a marker
  abbrev pub past : List ℕ → List Key
  past marker = filter (λ split. is_lt (key_cmp (key_of account marker) split)) splits

  -- the name at which the range of a marker ends
  abbrev pub range_end : List ℕ → Option (List ℕ)
  range_end marker = end_of account (bound_of splits (key_of account marker))

  key_from : (a b : List ℕ) → is_name_from a b ≡ true → is_from (key_of account a) (key_of account b) ≡ true
  key_from a b later = ap is_le (same_account (key_of account a) (key_of account b) refl) ∙ later

  fails : (a b : List ℕ) (split : Key) → is_name_from a b ≡ true → (c d : Bool) → is_lt (key_cmp (key_of account a) split) ≡ c → is_lt (key_cmp (key_of account b) split) ≡ d → c ≡ false → d ≡ false
  fails a b split later c false p q e = refl
  fails a b split later c true p q e =
      not_both (ap is_lt (from_less_key (key_of account a) (key_of account b) split (key_from a b later) (is_less (key_cmp (key_of account b) split) q))) (p ∙ e)

  -- a later marker has no split point past it that an earlier marker does not have
  again : (a b : List ℕ) → is_name_from a b ≡ true → past b ≡ filter (λ split. is_lt (key_cmp (key_of account b) split)) (past a)
  again a b later =
      sym (filter-absorb (λ split. is_lt (key_cmp (key_of account b) split)) (λ split. is_lt (key_cmp (key_of account a) split))
      (λ split e. fails a b split later (is_lt (key_cmp (key_of account a) split)) (is_lt (key_cmp (key_of account b) split)) refl refl e) splits)

  pub no_more : (a b : List ℕ) → is_name_from a b ≡ true → length (past b) ≤ length (past a)
  no_more a b later = omega (arith, ap length (again a b later), length_filter (λ split. is_lt (key_cmp (key_of account b) split)) (past a))

  -- what the end of a range says of its bound
  record IsFirst (marker end : List ℕ) : Type 0 where
    later : List Key
    first : past marker ≡ key_of account end ∷ later
    less : key_cmp (key_of account marker) (key_of account end) ≡ Less

  first_less : (test : Key → Bool) (xs : List Key) (x : Key) (ys : List Key) → filter test xs ≡ x ∷ ys → test x ≡ true
  first_less test [] x ys e = absurd (true≢false (ap is_nothing e))
    where
      is_nothing : List Key → Bool
      is_nothing [] = true
      is_nothing (z ∷ zs) = false
  first_less test (z ∷ xs) x ys e = by (test z) refl e (first_less test xs x ys)
    where
      head_of : List Key → Key
      head_of [] = z
      head_of (k ∷ ks) = k

      by : (b : Bool) → test z ≡ b → cond b (z ∷ filter test xs) (filter test xs) ≡ x ∷ ys → (filter test xs ≡ x ∷ ys → test x ≡ true) → test x ≡ true
      by true is e more = ap test (sym (ap head_of e)) ∙ is
      by false is e more = more e

  first_by : (marker end : List ℕ) (split : Key) (later : List Key) (b : Bool) → past marker ≡ split ∷ later → pointwise nat_eq split.account account ≡ b → cond b (Some split.container) None ≡ Some end → IsFirst marker end
  first_by marker end split later false is same e = no_some e
  first_by marker end split later true is same e =
      let key : split ≡ key_of account end = λ i. record { account = (bytes_decides split.account account).0 same i; container = same_some split.container end e i } in
      record {
        later = later;
        first = is ∙ ap (λ k. k ∷ later) key;
        less = ap (key_cmp (key_of account marker)) (sym key) ∙ is_less (key_cmp (key_of account marker) split) (first_less (λ split. is_lt (key_cmp (key_of account marker) split)) splits split later is);
      }

  first_of : (marker end : List ℕ) (left : List Key) → past marker ≡ left → end_of account (slice_get left 0) ≡ Some end → IsFirst marker end
  first_of marker end [] is e = no_some e
  first_of marker end (split ∷ later) is e = first_by marker end split later (pointwise nat_eq split.account account) is refl e

  is_first : (marker end : List ℕ) → range_end marker ≡ Some end → IsFirst marker end
  is_first marker end e = first_of marker end (past marker) refl e

  -- the end of a range is past the marker that the range has
  pub end_past : (marker end : List ℕ) → range_end marker ≡ Some end → name_cmp marker end ≡ Less
  end_past marker end e = sym (same_account (key_of account marker) (key_of account end) refl) ∙ (is_first marker end e).less

  pub fewer : (marker end : List ℕ) → range_end marker ≡ Some end → length (past end) < length (past marker)
  fewer marker end e =
      let is = is_first marker end e in
      let later = past_from marker end (end_past marker end e) in
      let out : is_lt (key_cmp (key_of account end) (key_of account end)) ≡ false = ap is_lt (tied_itself keys_total (key_of account end)) in
      let rest = ap length (again marker end later ∙ ap (filter (λ split. is_lt (key_cmp (key_of account end) split))) is.first
      ∙ ap (λ t. cond t (key_of account end ∷ filter (λ split. is_lt (key_cmp (key_of account end) split)) is.later) (filter (λ split. is_lt (key_cmp (key_of account end) split)) is.later)) out) in
      omega (arith, rest, ap length is.first, length_filter (λ split. is_lt (key_cmp (key_of account end) split)) is.later)

past_marker : (a b : List ℕ) → name_cmp a b ≡ Less → (text : List ℕ) → is_name_from a text ≡ false → is_name_from b text ≡ false
past_marker a b later text out = by (is_name_from b text) refl
  where
    by : (c : Bool) → is_name_from b text ≡ c → is_name_from b text ≡ false
    by false e = e
    by true e = not_both (from_from a b text (past_from a b later) e) out

-- ---- a rising list before and from a bound

module _ {Y : Type 0} where
  abbrev before : List ℕ → List (Entry Y) → List (Entry Y)
  before bound items = filter (λ item. not (is_name_from bound item.0)) items

  nothing_before : (bound : List ℕ) (items : List (Entry Y)) (text : List ℕ) → IsBeforeAll text items → is_name_from bound text ≡ true → before bound items ≡ []
  nothing_before bound [] text up at = refl
  nothing_before bound (item ∷ items) text up at =
      let here : is_name_from bound item.0 ≡ true = past_from bound item.0 (from_less bound text item.0 at up.0) in
      ap (λ t. cond (not t) (item ∷ before bound items) (before bound items)) here ∙ nothing_before bound items text up.1 at

  all_from : (bound : List ℕ) (items : List (Entry Y)) (text : List ℕ) → IsBeforeAll text items → is_name_from bound text ≡ true → from_marker bound items ≡ items
  all_from bound [] text up at = refl
  all_from bound (item ∷ items) text up at =
      let here : is_name_from bound item.0 ≡ true = past_from bound item.0 (from_less bound text item.0 at up.0) in
      ap (λ t. cond t (item ∷ from_marker bound items) (from_marker bound items)) here ∙ ap (λ t. item ∷ t) (all_from bound items text up.1 at)

  split_by : (bound : List ℕ) (item : Entry Y) (items : List (Entry Y)) (b : Bool) → is_name_from bound item.0 ≡ b → IsBeforeAll item.0 items → items ≡ before bound items ++ from_marker bound items
      → item ∷ items ≡ cond (not b) (item ∷ before bound items) (before bound items) ++ cond b (item ∷ from_marker bound items) (from_marker bound items)
  split_by bound item items true at up more = λ i. sym (nothing_before bound items item.0 up at) i ++ item ∷ sym (all_from bound items item.0 up at) i
  split_by bound item items false at up more = ap (λ t. item ∷ t) more

  -- a rising list is what is before a bound, and then what is at it or past it
  split_at : (bound : List ℕ) (items : List (Entry Y)) → Rises items → items ≡ before bound items ++ from_marker bound items
  split_at bound [] up = refl
  split_at bound (item ∷ items) up = split_by bound item items (is_name_from bound item.0) refl up.0 (split_at bound items up.1)

  rises_back : (front back : List (Entry Y)) → Rises (front ++ back) → Rises back
  rises_back [] back up = up
  rises_back (item ∷ front) back up = rises_back front back up.1

  abbrev pub part : Option (List ℕ) → List (Entry Y) → List (Entry Y)
  part None items = items
  part (Some bound) items = before bound items

  -- the part of a list from a marker to the end of the marker's range, and what is after that
  from_part : (end : Option (List ℕ)) (marker : List ℕ) (items : List (Entry Y)) → from_marker marker (part end items) ≡ part end (from_marker marker items)
  from_part None marker items = refl
  from_part (Some bound) marker items = filter-swap (λ item. is_name_from marker item.0) (λ item. not (is_name_from bound item.0)) items

  test_at : (test : Entry Y → Bool) (xs : List (Entry Y)) (x : Entry Y) (ys : List (Entry Y)) → filter test (xs ++ x ∷ ys) ≡ xs ++ x ∷ ys → test x ≡ true
  test_at test xs x ys is = by (test x) refl
    where
      by : (b : Bool) → test x ≡ b → test x ≡ true
      by true e = e
      by false e =
          let shorter = ap (λ (zs : List (Entry Y)). length zs) (sym is ∙ filter-append test xs (x ∷ ys) ∙ ap (λ t. filter test xs ++ cond t (x ∷ filter test ys) (filter test ys)) e) in
          absurd (omega (arith, shorter, length-append xs (x ∷ ys), length-append (filter test xs) (filter test ys), length_filter test xs, length_filter test ys))

  -- the ends of ranges, and a number that falls from one range to the next
  module _ (range_end : List ℕ → Option (List ℕ)) (left : List ℕ → ℕ) (no_more : (a b : List ℕ) → is_name_from a b ≡ true → left b ≤ left a)
      (end_past : (a b : List ℕ) → range_end a ≡ Some b → name_cmp a b ≡ Less) (fewer : (a b : List ℕ) → range_end a ≡ Some b → left b < left a) (items : List (Entry Y)) (up : Rises items) where
    abbrev pub over : List ℕ → List ℕ → Option (List (Entry Y))
    over [] marker = None
    over (max ∷ maxes) marker =
        joined (page max (part (range_end marker) (from_marker marker items))).entries
        (or_else (page max (part (range_end marker) (from_marker marker items))).next (range_end marker))
        (λ next. over maxes next)

    step : (maxes : List ℕ) → ((marker : List ℕ) (front back : List (Entry Y)) → items ≡ front ++ back → from_marker marker items ≡ back → length back + left marker < length maxes → over maxes marker ≡ Some back)
        → (max : ℕ) → 1 ≤ max → (marker : List ℕ) (front back : List (Entry Y)) → items ≡ front ++ back → from_marker marker items ≡ back → length back + left marker < suc (length maxes)
        → (end : Option (List ℕ)) → range_end marker ≡ end → (now rest : List (Entry Y)) → now ≡ part end back → back ≡ now ++ rest → ((bound : List ℕ) → end ≡ Some bound → from_marker bound items ≡ rest) → (end ≡ None → rest ≡ [])
        → joined (take max now) (or_else (option_map (λ item. item.0) (slice_get now max)) end) (λ next. over maxes next) ≡ Some back
    step maxes more max some marker front back is from enough end ends now rest nows cut after last =
        cut_at max now (joined (take max now) (or_else (option_map (λ item. item.0) (slice_get now max)) end) (λ next. over maxes next) ≡ Some back)
        (λ short.
        ap (λ (o : Option (Entry Y)). joined (take max now) (or_else (option_map (λ item. item.0) o) end) (λ next. over maxes next)) (none_at now max short)
        ∙ ap (λ t. joined t end (λ next. over maxes next)) (take_all max now short)
        ∙ at_end end ends after last)
        (λ x later split get count.
        let whole : back ≡ take max now ++ x ∷ (later ++ rest) = cut ∙ ap (λ t. t ++ rest) split ∙ append_assoc (take max now) (x ∷ later) rest in
        let place : items ≡ (front ++ take max now) ++ x ∷ (later ++ rest) = is ∙ ap (λ t. front ++ t) whole ∙ sym (append_assoc front (take max now) (x ∷ (later ++ rest))) in
        let next : from_marker x.0 items ≡ x ∷ (later ++ rest) = ap (from_marker x.0) place ∙ from_place (front ++ take max now) x (later ++ rest) (subst Rises place up) in
        let past : is_name_from marker x.0 ≡ true = there x (take max now) (later ++ rest) whole in
        let sizes = no_more marker x.0 past in
        let lengths = ap (λ (xs : List (Entry Y)). length xs) whole in
        let front_length = length-append (take max now) (x ∷ (later ++ rest)) in
        let taken : length (take max now) ≡ max = length-take-le max now (omega arith) in
        ap (λ (o : Option (Entry Y)). joined (take max now) (or_else (option_map (λ item. item.0) o) end) (λ next. over maxes next)) get
        ∙ ap (option_map (λ more. take max now ++ more)) (more x.0 (front ++ take max now) (x ∷ (later ++ rest)) place next (omega (arith, sizes, lengths, front_length, taken)))
        ∙ ap Some (sym whole))
      where
        there : (x : Entry Y) (xs ys : List (Entry Y)) → back ≡ xs ++ x ∷ ys → is_name_from marker x.0 ≡ true
        there x xs ys whole =
            let tested : from_marker marker back ≡ back = ap (from_marker marker) (sym from) ∙ filter-absorb (λ item. is_name_from marker item.0) (λ item. is_name_from marker item.0) (λ item e. e) items ∙ from in
            test_at (λ item. is_name_from marker item.0) xs x ys (ap (from_marker marker) (sym whole) ∙ tested ∙ whole)

        at_end : (end : Option (List ℕ)) → range_end marker ≡ end → ((bound : List ℕ) → end ≡ Some bound → from_marker bound items ≡ rest) → (end ≡ None → rest ≡ []) → joined now end (λ next. over maxes next) ≡ Some back
        at_end None ends after last = ap Some (sym (cut ∙ ap (λ t. now ++ t) (last refl) ∙ append-nil now))
        at_end (Some bound) ends after last =
            let sizes = fewer marker bound ends in
            let lengths = ap (λ (xs : List (Entry Y)). length xs) cut in
            let place : items ≡ (front ++ now) ++ rest = is ∙ ap (λ t. front ++ t) cut ∙ sym (append_assoc front now rest) in
            ap (option_map (λ more. now ++ more)) (more bound (front ++ now) rest place (after bound refl) (omega (arith, sizes, lengths, length-append now rest)))
            ∙ ap Some (sym cut)

    parts : (end : Option (List ℕ)) (marker : List ℕ) (back : List (Entry Y)) → range_end marker ≡ end → from_marker marker items ≡ back → Rises back
        → (P : Type 0) → ((rest : List (Entry Y)) → back ≡ part end back ++ rest → ((bound : List ℕ) → end ≡ Some bound → from_marker bound items ≡ rest) → (end ≡ None → rest ≡ []) → P) → P
    parts None marker back ends from rising P give = give [] (sym (append-nil back)) (λ bound e. absurd (true≢false (sym (ap is_there e)))) (λ e. refl)
      where
        is_there : Option (List ℕ) → Bool
        is_there None = false
        is_there (Some x) = true
    parts (Some bound) marker back ends from rising P give =
        give (from_marker bound back) (split_at bound back rising)
        (λ other e.
        ap (λ o. from_marker (from_some o) items) (sym e)
        ∙ sym (filter-absorb (λ item. is_name_from bound item.0) (λ item. is_name_from marker item.0) (λ item out. past_marker marker bound (end_past marker bound ends) item.0 out) items)
        ∙ ap (from_marker bound) from)
        (λ e. absurd (true≢false (ap is_there e)))
      where
        is_there : Option (List ℕ) → Bool
        is_there None = false
        is_there (Some x) = true

        from_some : Option (List ℕ) → List ℕ
        from_some None = bound
        from_some (Some x) = x

    pub over_all : (maxes : List ℕ) → AreSome maxes → (marker : List ℕ) (front back : List (Entry Y)) → items ≡ front ++ back → from_marker marker items ≡ back → length back + left marker < length maxes → over maxes marker ≡ Some back
    over_all [] some marker front back is from enough = absurd (omega arith)
    over_all (max ∷ maxes) some marker front back is from enough =
        parts (range_end marker) marker back refl from (rises_back front back (subst Rises is up)) (over (max ∷ maxes) marker ≡ Some back)
        (λ rest cut after last.
        ap (λ back. joined (take max (part (range_end marker) back)) (or_else (option_map (λ item. item.0) (slice_get (part (range_end marker) back) max)) (range_end marker)) (λ next. over maxes next)) from
        ∙ step maxes (over_all maxes some.1) max some.0 marker front back is from enough (range_end marker) refl (part (range_end marker) back) rest refl cut after last)

-- ---- the containers of an account, and their list

module _ {X Y : Type 0} (has : X → Option Y) where
  test_by : (test : List ℕ → Bool) (name : List ℕ) (x : X) (b : Bool) (o : Option Y) → test name ≡ b → (es : List (List ℕ × X)) → with_value has (filter (λ e. test e.0) es) ≡ filter (λ e. test e.0) (with_value has es)
      → o ≡ has x → with_value has (cond b ((name, x) ∷ filter (λ e. test e.0) es) (filter (λ e. test e.0) es)) ≡ filter (λ e. test e.0) (cons_option (option_map (λ value. (name, value)) o) (with_value has es))
  test_by test name x true None is es more shown = ap (λ o. cons_option (option_map (λ value. (name, value)) o) (with_value has (filter (λ e. test e.0) es))) (sym shown) ∙ more
  test_by test name x true (Some y) is es more shown =
      ap (λ o. cons_option (option_map (λ value. (name, value)) o) (with_value has (filter (λ e. test e.0) es))) (sym shown)
      ∙ ap (λ t. (name, y) ∷ t) more
      ∙ sym (ap (λ t. cond t ((name, y) ∷ filter (λ e. test e.0) (with_value has es)) (filter (λ e. test e.0) (with_value has es))) is)
  test_by test name x false None is es more shown = more
  test_by test name x false (Some y) is es more shown =
      more ∙ sym (ap (λ t. cond t ((name, y) ∷ filter (λ e. test e.0) (with_value has es)) (filter (λ e. test e.0) (with_value has es))) is)

  -- a test of the names, before or after what is shown of them
  pub with_value-filter : (test : List ℕ → Bool) (es : List (List ℕ × X)) → with_value has (filter (λ e. test e.0) es) ≡ filter (λ e. test e.0) (with_value has es)
  with_value-filter test [] = refl
  with_value-filter test (e ∷ es) = test_by test e.0 e.1 (test e.0) (has e.1) refl es (with_value-filter test es) refl

  pub with_value-before_end : (end : Option (List ℕ)) (es : List (List ℕ × X)) → with_value has (before_end end es) ≡ before_end end (with_value has es)
  with_value-before_end None es = refl
  with_value-before_end (Some end) es = with_value-filter (λ name. not (is_name_from end name)) es

  before_by : (text name : List ℕ) (o : Option Y) (es : List (List ℕ × Y)) → name_cmp text name ≡ Less → IsBeforeAll text es → IsBeforeAll text (cons_option (option_map (λ value. (name, value)) o) es)
  before_by text name None es at more = more
  before_by text name (Some y) es at more = (at, more)

  before_shown : (text : List ℕ) (es : List (List ℕ × X)) → IsBeforeAll text es → IsBeforeAll text (with_value has es)
  before_shown text [] up = tt
  before_shown text (e ∷ es) up = before_by text e.0 (has e.1) (with_value has es) up.0 (before_shown text es up.1)

  rises_by : (name : List ℕ) (o : Option Y) (es : List (List ℕ × Y)) → IsBeforeAll name es → Rises es → Rises (cons_option (option_map (λ value. (name, value)) o) es)
  rises_by name None es up more = more
  rises_by name (Some y) es up more = (up, more)

  -- what is shown of rising names rises
  pub rises_with_value : (es : List (List ℕ × X)) → Rises es → Rises (with_value has es)
  rises_with_value [] up = tt
  rises_with_value (e ∷ es) up = rises_by e.0 (has e.1) (with_value has es) (before_shown e.0 es up.0) (rises_with_value es up.1)

module _ {C : Type 0} (account : List ℕ) (q : Page) (w : World C) where
  -- the containers of the account that exist
  abbrev pub shown_names : List (List ℕ × ShownContainer)
  shown_names = with_value shown_container (of_account account (entries w))

  pub names_up : Rises shown_names
  names_up =
      rises_with_value shown_container (of_account account (entries w))
      (subst Rises (sym (shown_is account None (entries w))) (rises_shown account None (entries w) (entries_sorted w)))

  pub containers_rise : Rises (container_list account q w)
  containers_rise = names_rise (given q.prefix) [] shown_names names_up

  listed_part : (end : Option (List ℕ)) (names : List (List ℕ × ShownContainer)) → listed (given q.prefix) [] (before_end end names) ≡ part end (listed (given q.prefix) [] names)
  listed_part None names = refl
  listed_part (Some bound) names = listed-filter (given q.prefix) (λ t. not (is_name_from bound t)) names

  -- what a page is cut from, by the whole list
  pub paged : (end : Option (List ℕ)) (marker : List ℕ) → from_marker marker (listed (given q.prefix) [] (with_value shown_container (before_end end (of_account account (entries w))))) ≡ part end (from_marker marker (container_list account q w))
  paged end marker =
      ap (λ names. from_marker marker (listed (given q.prefix) [] names)) (with_value-before_end shown_container end (of_account account (entries w)))
      ∙ ap (from_marker marker) (listed_part end shown_names)
      ∙ from_part end marker (container_list account q w)

  module _ (splits : List Key) where
    -- each page is answered with the bound of its marker's range
    abbrev pub answer_of_range : Page → PageOf ShownContainer
    answer_of_range q = page_of_containers account q (bound_of splits (key_of account (given q.marker))) w

    abbrev over_ranges : List ℕ → List ℕ → Option (List (Entry ShownContainer))
    over_ranges = over (range_end account splits) (λ marker. length (past account splits marker)) (no_more account splits) (end_past account splits) (fewer account splits) (container_list account q w) containers_rise

    same_over : (maxes : List ℕ) (marker : Option (List ℕ)) → followed answer_of_range q marker maxes ≡ over_ranges maxes (given marker)
    same_over [] marker = refl
    same_over (max ∷ maxes) marker = λ i.
        joined (page max (paged (range_end account splits (given marker)) (given marker) i)).entries
        (or_else (page max (paged (range_end account splits (given marker)) (given marker) i)).next (range_end account splits (given marker)))
        (λ next. same_over maxes (Some next) i)

    pub ranges_are_one : FollowingGivesAll answer_of_range q (container_list account q w) (length (container_list account q w) + length splits)
    ranges_are_one maxes some enough =
        same_over maxes None
        ∙ over_all (range_end account splits) (λ marker. length (past account splits marker)) (no_more account splits) (end_past account splits) (fewer account splits) (container_list account q w) containers_rise
        maxes some [] [] (container_list account q w) refl (all_at (container_list account q w))
        (omega (arith, enough, length_filter (λ split. is_lt (key_cmp (key_of account []) split)) splits))

  -- the same without split points
  pub containers_follow : FollowingGivesAll (λ q. page_of_containers account q None w) q (container_list account q w) (length (container_list account q w))
  containers_follow maxes some enough = ranges_are_one [] maxes some (omega (arith, enough))
