-- Lists that are filtered, and lists of each text once.
use Rattle.std.proofs.Common.{◌≡◌, ℕ, Bool, true, false, cond, ◌&&◌, not, T, List, [], ◌∷◌, ◌++◌, Option, Some, None, refl, sym, ap, ◌∙◌, nat_eq, length, ◌≤◌, suc, arith}
use Rattle.std.specs.List.{filter, filter_map, cons_option}
use Rattle.std.specs.Option.{option_and_then}
use Rattle.std.specs.Ordering.{is_lt}
use Rattle.std.specs.declared.cmp.Ordering.{Ordering}
use Rattle.std.specs.declared.cmp.Ordering.TheVariants.{Less, Equal, Greater}
use Rattle.std.specs.FinMap.{is_sorted}
use Rattle.std.specs.FinMap.Entries.{below_all}
use Rattle.std.specs.Cmp.Lexicographic.{pointwise, bytes_decides}
use mathlib.Core.Bool.{true≢false}
use Rattle.stamp_values.specs.Order.{name_cmp}
use Rattle.stamp_values.specs.Trees.{is_name_from}
use Rattle.list_pages.specs.Rising.{IsBeforeAll, Rises}
use Rattle.list_pages.specs.Pages.{Entry, is_other, each_once}
use Rattle.list_pages.proofs.Orders.{not_both, before, not_from, chain_less, past_from, from_less}

-- ---- filter

module _ {X : Type 0} (p q : X → Bool) where
  swap_by : (x : X) (xs : List X) (a b : Bool) → p x ≡ a → q x ≡ b → filter p (filter q xs) ≡ filter q (filter p xs)
      → filter p (cond b (x ∷ filter q xs) (filter q xs)) ≡ filter q (cond a (x ∷ filter p xs) (filter p xs))
  swap_by x xs true true i j e = ap (λ t. cond t (x ∷ filter p (filter q xs)) (filter p (filter q xs))) i ∙ ap (λ t. x ∷ t) e ∙ sym (ap (λ t. cond t (x ∷ filter q (filter p xs)) (filter q (filter p xs))) j)
  swap_by x xs true false i j e = e ∙ sym (ap (λ t. cond t (x ∷ filter q (filter p xs)) (filter q (filter p xs))) j)
  swap_by x xs false true i j e = ap (λ t. cond t (x ∷ filter p (filter q xs)) (filter p (filter q xs))) i ∙ e
  swap_by x xs false false i j e = e

  pub filter-swap : (xs : List X) → filter p (filter q xs) ≡ filter q (filter p xs)
  filter-swap [] = refl
  filter-swap (x ∷ xs) = swap_by x xs (p x) (q x) refl refl (filter-swap xs)

  absorb_by : (x : X) (xs : List X) (a b : Bool) → p x ≡ a → q x ≡ b → (q x ≡ false → p x ≡ false) → filter p (filter q xs) ≡ filter p xs → filter p (cond b (x ∷ filter q xs) (filter q xs)) ≡ cond a (x ∷ filter p xs) (filter p xs)
  absorb_by x xs a true i j f e = ap (λ t. cond t (x ∷ filter p (filter q xs)) (filter p (filter q xs))) i ∙ ap (λ t. cond a (x ∷ t) t) e
  absorb_by x xs true false i j f e = not_both i (f j)
  absorb_by x xs false false i j f e = e

  -- what the second test refuses, the first refuses too
  pub filter-absorb : ((x : X) → q x ≡ false → p x ≡ false) → (xs : List X) → filter p (filter q xs) ≡ filter p xs
  filter-absorb f [] = refl
  filter-absorb f (x ∷ xs) = absorb_by x xs (p x) (q x) refl refl (f x) (filter-absorb f xs)

-- ---- each text once

module _ {X : Type 0} where
  other_alike : (test : List ℕ → Bool) (item other : Entry X) → test item.0 ≡ false → is_other item.0 other ≡ false → test other.0 ≡ false
  other_alike test item other fails same = by (pointwise nat_eq other.0 item.0) refl same
    where
      by : (b : Bool) → pointwise nat_eq other.0 item.0 ≡ b → not b ≡ false → test other.0 ≡ false
      by true e n = ap test ((bytes_decides other.0 item.0).0 e) ∙ fails
      by false e n = absurd (true≢false n)

  once_by : (test : List ℕ → Bool) (item : Entry X) (items : List (Entry X)) (b : Bool) → test item.0 ≡ b → filter (λ item. test item.0) (each_once items) ≡ each_once (filter (λ item. test item.0) items)
      → cond b (item ∷ filter (λ item. test item.0) (filter (is_other item.0) (each_once items))) (filter (λ item. test item.0) (filter (is_other item.0) (each_once items)))
      ≡ each_once (cond b (item ∷ filter (λ item. test item.0) items) (filter (λ item. test item.0) items))
  once_by test item items true is e = ap (λ t. item ∷ t) (filter-swap (λ item. test item.0) (is_other item.0) (each_once items) ∙ ap (filter (is_other item.0)) e)
  once_by test item items false is e = filter-absorb (λ item. test item.0) (is_other item.0) (λ other same. other_alike test item other is same) (each_once items) ∙ e

  -- a test of the texts before or after
  pub filter-each_once : (test : List ℕ → Bool) (items : List (Entry X)) → filter (λ item. test item.0) (each_once items) ≡ each_once (filter (λ item. test item.0) items)
  filter-each_once test [] = refl
  filter-each_once test (item ∷ items) = once_by test item items (test item.0) refl (filter-each_once test items)

-- ---- what a function gives of a list, tested

abbrev pub kept_if : {X : Type 0} → (X → Bool) → Option X → Option X
kept_if test None = None
kept_if test (Some x) = cond (test x) (Some x) None

module _ {X Y : Type 0} (test : Y → Bool) (h : X → Option Y) where
  filter_first : (y : Option Y) (xs : List Y) → filter test (cons_option y xs) ≡ cons_option (kept_if test y) (filter test xs)
  filter_first None xs = refl
  filter_first (Some y) xs = by (test y)
    where
      by : (b : Bool) → cond b (y ∷ filter test xs) (filter test xs) ≡ cons_option (cond b (Some y) None) (filter test xs)
      by true = refl
      by false = refl

  pub filter-filter_map : (xs : List X) → filter test (filter_map h xs) ≡ filter_map (λ x. kept_if test (h x)) xs
  filter-filter_map [] = refl
  filter-filter_map (x ∷ xs) = filter_first (h x) (filter_map h xs) ∙ ap (λ t. cons_option (kept_if test (h x)) t) (filter-filter_map xs)

module _ {X Y Z : Type 0} (h : Y → Option Z) (k : X → Option Y) where
  filter_map_first : (y : Option Y) (ys : List Y) → filter_map h (cons_option y ys) ≡ cons_option (option_and_then h y) (filter_map h ys)
  filter_map_first None ys = refl
  filter_map_first (Some y) ys = refl

  pub filter_map-filter_map : (xs : List X) → filter_map h (filter_map k xs) ≡ filter_map (λ x. option_and_then h (k x)) xs
  filter_map-filter_map [] = refl
  filter_map-filter_map (x ∷ xs) = filter_map_first (k x) (filter_map k xs) ∙ ap (λ t. cons_option (option_and_then h (k x)) t) (filter_map-filter_map xs)

-- ---- rising names

pub less : (r : Ordering) → T (is_lt r) → r ≡ Less
less Less p = refl
less Equal p = absurd p
less Greater p = absurd p

pub T_first : (a b : Bool) → T (a && b) → T a
T_first true b p = tt
T_first false b p = p

pub T_second : (a b : Bool) → T (a && b) → T b
T_second true b p = p
T_second false b p = absurd p

module _ {X : Type 0} where
  above : (name : List ℕ) (es : List (List ℕ × X)) → T (below_all name_cmp name es) → IsBeforeAll name es
  above name [] p = tt
  above name (e ∷ es) p = (less (name_cmp name e.0) (T_first (is_lt (name_cmp name e.0)) (below_all name_cmp name es) p), above name es (T_second (is_lt (name_cmp name e.0)) (below_all name_cmp name es) p))

  -- the entries of a finite map rise
  pub rises : (es : List (List ℕ × X)) → T (is_sorted name_cmp es) → Rises es
  rises [] p = tt
  rises (e ∷ es) p = (above e.0 es (T_first (below_all name_cmp e.0 es) (is_sorted name_cmp es) p), rises es (T_second (below_all name_cmp e.0 es) (is_sorted name_cmp es) p))

  above_at : (name : List ℕ) (front : List (List ℕ × X)) (e : List ℕ × X) (rest : List (List ℕ × X)) → IsBeforeAll name (front ++ e ∷ rest) → name_cmp name e.0 ≡ Less
  above_at name [] e rest up = up.0
  above_at name (f ∷ front) e rest up = above_at name front e rest up.1

  -- what comes after an entry is past it
  pub rest_above : (front : List (List ℕ × X)) (e : List ℕ × X) (rest : List (List ℕ × X)) → Rises (front ++ e ∷ rest) → IsBeforeAll e.0 rest
  rest_above [] e rest up = up.0
  rest_above (f ∷ front) e rest up = rest_above front e rest up.1

  -- a bound past an entry is past what comes before it
  pub only_rest : (bound : List ℕ) (front : List (List ℕ × X)) (e : List ℕ × X) (rest : List (List ℕ × X)) → Rises (front ++ e ∷ rest) → is_name_from bound e.0 ≡ false
      → filter (λ e. is_name_from bound e.0) (front ++ e ∷ rest) ≡ filter (λ e. is_name_from bound e.0) rest
  only_rest bound [] e rest up out = ap (λ t. cond t (e ∷ filter (λ e. is_name_from bound e.0) rest) (filter (λ e. is_name_from bound e.0) rest)) out
  only_rest bound (f ∷ front) e rest up out =
      let first_out : is_name_from bound f.0 ≡ false = not_from bound f.0 (chain_less f.0 e.0 bound (above_at f.0 front e rest up.0) (before bound e.0 out)) in
      ap (λ t. cond t (f ∷ filter (λ e. is_name_from bound e.0) (front ++ e ∷ rest)) (filter (λ e. is_name_from bound e.0) (front ++ e ∷ rest))) first_out
      ∙ only_rest bound front e rest up.1 out

-- ---- steps over names past a name

-- each, if there is one, passes the test
abbrev pub Passes : {X : Type 0} → (X → Bool) → Bool → Option X → Type 0
Passes test b None = Unit
Passes test b (Some x) = test x ≡ b

module _ {X Y : Type 0} (F : List ℕ × X → Option Y) (name : List ℕ) where
  none_first : (y : Option Y) (ys : List Y) → y ≡ None → cons_option y ys ≡ ys
  none_first y ys e = ap (λ y. cons_option y ys) e

  -- nothing is given
  pub nothing_later : ((e : List ℕ × X) → name_cmp name e.0 ≡ Less → F e ≡ None) → (es : List (List ℕ × X)) → IsBeforeAll name es → filter_map F es ≡ []
  nothing_later none [] up = refl
  nothing_later none (e ∷ es) up = none_first (F e) (filter_map F es) (none e up.0) ∙ nothing_later none es up.1

  passed : (test : Y → Bool) (y : Option Y) (ys : List Y) → Passes test true y → filter test (cons_option y ys) ≡ cons_option y (filter test ys)
  passed test None ys e = refl
  passed test (Some y) ys e = ap (λ t. cond t (y ∷ filter test ys) (filter test ys)) e

  refused : (test : Y → Bool) (y : Option Y) (ys : List Y) → Passes test false y → filter test (cons_option y ys) ≡ filter test ys
  refused test None ys e = refl
  refused test (Some y) ys e = ap (λ t. cond t (y ∷ filter test ys) (filter test ys)) e

  -- all pass
  pub all_pass : (test : Y → Bool) → ((e : List ℕ × X) → name_cmp name e.0 ≡ Less → Passes test true (F e)) → (es : List (List ℕ × X)) → IsBeforeAll name es → filter test (filter_map F es) ≡ filter_map F es
  all_pass test pass [] up = refl
  all_pass test pass (e ∷ es) up = passed test (F e) (filter_map F es) (pass e up.0) ∙ ap (λ t. cons_option (F e) t) (all_pass test pass es up.1)

  module _ (test : Y → Bool) (keep : List ℕ × X → Bool) (agrees : (e : List ℕ × X) → name_cmp name e.0 ≡ Less → Passes test (keep e) (F e)) where
    choose : (e : List ℕ × X) (es : List (List ℕ × X)) (b : Bool) → Passes test b (F e) → filter test (filter_map F es) ≡ filter_map F (filter keep es)
        → filter test (cons_option (F e) (filter_map F es)) ≡ filter_map F (cond b (e ∷ filter keep es) (filter keep es))
    choose e es true pass more = passed test (F e) (filter_map F es) pass ∙ ap (λ t. cons_option (F e) t) more
    choose e es false pass more = refused test (F e) (filter_map F es) pass ∙ more

    -- a test of what is given is a test of the names
    pub tested_before : (es : List (List ℕ × X)) → IsBeforeAll name es → filter test (filter_map F es) ≡ filter_map F (filter keep es)
    tested_before [] up = refl
    tested_before (e ∷ es) up = choose e es (keep e) (agrees e up.0) (tested_before es up.1)

module _ {A Y : Type 0} (F : A → Option Y) (keep : A → Bool) (none : (e : A) → keep e ≡ false → F e ≡ None) where
  drop_by : (e : A) (es : List A) (b : Bool) → keep e ≡ b → filter_map F es ≡ filter_map F (filter keep es) → cons_option (F e) (filter_map F es) ≡ filter_map F (cond b (e ∷ filter keep es) (filter keep es))
  drop_by e es true is more = ap (λ t. cons_option (F e) t) more
  drop_by e es false is more = ap (λ y. cons_option y (filter_map F es)) (none e is) ∙ more

  -- names that give nothing may be left out
  pub only_kept : (es : List A) → filter_map F es ≡ filter_map F (filter keep es)
  only_kept [] = refl
  only_kept (e ∷ es) = drop_by e es (keep e) refl (only_kept es)

pub length_filter : {X : Type 0} (test : X → Bool) (xs : List X) → length (filter test xs) ≤ length xs
length_filter test [] = omega arith
length_filter test (x ∷ xs) = by (test x) (length_filter test xs)
  where
    by : (b : Bool) → length (filter test xs) ≤ length xs → length (cond b (x ∷ filter test xs) (filter test xs)) ≤ suc (length xs)
    by true more = omega arith
    by false more = omega arith

-- the list ends with the entries
abbrev pub IsEndOf : {X : Type 0} → List X → List X → Type 0
IsEndOf {X} ys xs = (front : List X) × (xs ≡ front ++ ys)

module _ {X : Type 0} (bound : List ℕ) where
  all_from : (es : List (List ℕ × X)) (name : List ℕ) → IsBeforeAll name es → is_name_from bound name ≡ true → filter (λ e. is_name_from bound e.0) es ≡ es
  all_from [] name up at = refl
  all_from (e ∷ es) name up at =
      let here : is_name_from bound e.0 ≡ true = past_from bound e.0 (from_less bound name e.0 at up.0) in
      ap (λ t. cond t (e ∷ filter (λ e. is_name_from bound e.0) es) (filter (λ e. is_name_from bound e.0) es)) here ∙ ap (λ t. e ∷ t) (all_from es name up.1 at)

  end_by : (e : List ℕ × X) (es : List (List ℕ × X)) (b : Bool) → is_name_from bound e.0 ≡ b → IsBeforeAll e.0 es → IsEndOf (filter (λ e. is_name_from bound e.0) es) es
      → IsEndOf (cond b (e ∷ filter (λ e. is_name_from bound e.0) es) (filter (λ e. is_name_from bound e.0) es)) (e ∷ es)
  end_by e es true at up more = ([], ap (λ t. e ∷ t) (sym (all_from es e.0 up at)))
  end_by e es false at up more = (e ∷ more.0, ap (λ t. e ∷ t) more.1)

  -- rising entries end with those from a bound on
  pub end_of_all : (es : List (List ℕ × X)) → Rises es → IsEndOf (filter (λ e. is_name_from bound e.0) es) es
  end_of_all [] up = ([], refl)
  end_of_all (e ∷ es) up = end_by e es (is_name_from bound e.0) refl up.0 (end_of_all es up.1)
