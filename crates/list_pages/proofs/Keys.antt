-- The walk over the containers of an account.
use Rattle.std.proofs.Common.{◌≡◌, ℕ, Bool, true, false, cond, ◌&&◌, not, T, List, [], ◌∷◌, Option, Some, None, refl, sym, ap, ◌∙◌, subst, nat_eq}
use Rattle.std.specs.List.{filter, filter_map, cons_option}
use Rattle.std.specs.Ordering.{is_le, is_lt, ordering_then}
use Rattle.std.specs.declared.cmp.Ordering.{Ordering}
use Rattle.std.specs.declared.cmp.Ordering.TheVariants.{Less, Equal, Greater}
use Rattle.std.specs.FinMap.{FinMap, entries, is_sorted, entries_sorted}
use Rattle.std.specs.FinMap.Entries.{below_all}
use Rattle.std.specs.Cmp.Lexicographic.{pointwise, bytes_decides, nat_list_cmp_total}
use Rattle.std.proofs.lemmas.Cmp.{tied_itself}
use Rattle.std.proofs.lemmas.Map.Lookups.{exact_bytes}
use mathlib.Core.Bool.{true≢false}
use Rattle.stamp_values.specs.Order.{key_cmp, name_cmp}
use Rattle.stamp_values.specs.Trees.{is_name_from}
use Rattle.stamp_values.specs.declared.key.Key.{Key}
use Rattle.list_pages.specs.Containers.{of_account, before_end, is_ended, is_out, or_else, page_of_account}
use Rattle.list_pages.specs.Ranges.{key_of}
use Rattle.list_pages.specs.Pages.{PageOf, page_of_names}
use Rattle.list_pages.proofs.Orders.{not_both, from_from}
use Rattle.list_pages.specs.Rising.{IsBeforeAll, Rises}
use Rattle.list_pages.proofs.Lists.{kept_if, filter-filter_map, less, T_first, T_second}

module _ {X : Type 0} (account : List ℕ) (end : Option (List ℕ)) where
  -- the container of a row, if the row has the account and is before the end
  abbrev pub shown_by : Bool → Bool → Key × X → Option (List ℕ × X)
  shown_by false ended e = None
  shown_by true true e = None
  shown_by true false e = Some (e.0.container, e.1)

  abbrev pub shown : Key × X → Option (List ℕ × X)
  shown e = shown_by (pointwise nat_eq e.0.account account) (is_ended end e.0.container) e

shown_each : {X : Type 0} (account end : List ℕ) (e : Key × X) (b c : Bool) → pointwise nat_eq e.0.account account ≡ b → is_name_from end e.0.container ≡ c
    → kept_if (λ (f : List ℕ × X). not (is_name_from end f.0)) (cond b (Some (e.0.container, e.1)) None) ≡ shown_by account (Some end) b c e
shown_each account end e false c is at = refl
shown_each account end e true true is at = ap (λ t. cond (not t) (Some (e.0.container, e.1)) None) at
shown_each account end e true false is at = ap (λ t. cond (not t) (Some (e.0.container, e.1)) None) at

shown_all : {X : Type 0} (account : List ℕ) (e : Key × X) (b : Bool) → cond b (Some (e.0.container, e.1)) None ≡ shown_by account None b false e
shown_all account e true = refl
shown_all account e false = refl

-- the containers of the account before the end, in one pass over the rows
pub shown_is : {X : Type 0} (account : List ℕ) (end : Option (List ℕ)) (es : List (Key × X)) → before_end end (of_account account es) ≡ filter_map (shown account end) es
shown_is account None es = λ i. filter_map (λ e. shown_all account e (pointwise nat_eq e.0.account account) i) es
shown_is account (Some end) es =
    filter-filter_map (λ f. not (is_name_from end f.0)) (λ e. cond (pointwise nat_eq e.0.account account) (Some (e.0.container, e.1)) None) es
    ∙ (λ i. filter_map (λ e. shown_each account end e (pointwise nat_eq e.0.account account) (is_name_from end e.0.container) refl refl i) es)

-- ---- the order of keys with one account

pub same_account : (k l : Key) → k.account ≡ l.account → key_cmp k l ≡ name_cmp k.container l.container
same_account k l is = ap (λ t. ordering_then t (name_cmp k.container l.container)) (ap (name_cmp k.account) (sym is) ∙ tied_itself nat_list_cmp_total k.account)

module _ (account : List ℕ) (end : Option (List ℕ)) where
  other_by : (start e f : Key) (r s : Ordering) → name_cmp start.account e.account ≡ r → name_cmp e.account f.account ≡ s → start.account ≡ account → f.account ≡ account → is_le (ordering_then r (name_cmp start.container e.container)) ≡ true → is_le (ordering_then s (name_cmp e.container f.container)) ≡ true → e.account ≡ account
  other_by start e f Equal s p q first same from later = sym (exact_bytes start.account e.account p) ∙ first
  other_by start e f Greater s p q first same from later = absurd (true≢false (sym from))
  other_by start e f Less Equal p q first same from later = exact_bytes e.account f.account q ∙ same
  other_by start e f Less Greater p q first same from later = absurd (true≢false (sym later))
  other_by start e f Less Less p q first same from later =
      absurd (true≢false (ap is_lt (sym (nat_list_cmp_total.trans account e.account account (ap (λ t. name_cmp t e.account) (sym first) ∙ p) (ap (name_cmp e.account) (sym same) ∙ q)) ∙ tied_itself nat_list_cmp_total account)))

  ended_on : (a b : List ℕ) → is_ended end a ≡ true → is_name_from a b ≡ true → is_ended end b ≡ true
  ended_on a b ended later = by end ended
    where
      by : (end : Option (List ℕ)) → is_ended end a ≡ true → is_ended end b ≡ true
      by None ended = ended
      by (Some stop) ended = from_from stop a b ended later

  -- after a row that is out each row is out
  out_later : (start e f : Key) (b c : Bool) → pointwise nat_eq f.account account ≡ b → is_ended end f.container ≡ c → start.account ≡ account → is_le (key_cmp start e) ≡ true → is_le (key_cmp e f) ≡ true → is_out account end e ≡ true → b && not c ≡ false
  out_later start e f false c is at first from later out = refl
  out_later start e f true true is at first from later out = refl
  out_later start e f true false is at first from later out =
      let same : f.account ≡ account = (bytes_decides f.account account).0 is in
      let there : e.account ≡ account = other_by start e f (name_cmp start.account e.account) (name_cmp e.account f.account) refl refl first same from later in
      let same_here : pointwise nat_eq e.account account ≡ true = (bytes_decides e.account account).1 there in
      let ended : is_ended end e.container ≡ true = turned (pointwise nat_eq e.account account) (is_ended end e.container) same_here out in
      not_both (ended_on e.container f.container ended (ap is_le (sym (same_account e f (there ∙ sym same))) ∙ later)) at
    where
      turned : (b c : Bool) → b ≡ true → not (b && not c) ≡ true → c ≡ true
      turned true true p q = refl
      turned true false p q = absurd (true≢false (sym q))
      turned false c p q = absurd (true≢false (sym p))

  out_false : (b : Bool) → not b ≡ true → b ≡ false
  out_false true e = absurd (true≢false (sym e))
  out_false false e = refl

  lesser : (e f : Key) → e.account ≡ account → f.account ≡ account → key_cmp e f ≡ Less → name_cmp e.container f.container ≡ Less
  lesser e f p q later = sym (same_account e f (p ∙ sym q)) ∙ later

-- ---- rows in the order of their keys

module _ {X : Type 0} where
  -- what is at a key or past it
  abbrev pub FromKey : Key → List (Key × X) → Type 0
  FromKey key [] = Unit
  FromKey key (e ∷ es) = (is_le (key_cmp key e.0) ≡ true) × FromKey key es

  -- no key falls
  abbrev pub InKeyOrder : List (Key × X) → Type 0
  InKeyOrder [] = Unit
  InKeyOrder (e ∷ es) = FromKey e.0 es × InKeyOrder es

  from_below : (key : Key) (es : List (Key × X)) → T (below_all key_cmp key es) → FromKey key es
  from_below key [] p = tt
  from_below key (e ∷ es) p = (
    ap is_le (less (key_cmp key e.0) (T_first (is_lt (key_cmp key e.0)) (below_all key_cmp key es) p)),
    from_below key es (T_second (is_lt (key_cmp key e.0)) (below_all key_cmp key es) p),
  )

  -- the entries of a finite map are in order
  pub in_key_order : (es : List (Key × X)) → T (is_sorted key_cmp es) → InKeyOrder es
  in_key_order [] p = tt
  in_key_order (e ∷ es) p = (from_below e.0 es (T_first (below_all key_cmp e.0 es) (is_sorted key_cmp es) p), in_key_order es (T_second (below_all key_cmp e.0 es) (is_sorted key_cmp es) p))

  kept_from_by : (key : Key) (test : Key × X → Bool) (e : Key × X) (es : List (Key × X)) (b : Bool) → is_le (key_cmp key e.0) ≡ true → FromKey key (filter test es) → FromKey key (cond b (e ∷ filter test es) (filter test es))
  kept_from_by key test e es true at more = (at, more)
  kept_from_by key test e es false at more = more

  kept_from : (key : Key) (test : Key × X → Bool) (es : List (Key × X)) → FromKey key es → FromKey key (filter test es)
  kept_from key test [] from = tt
  kept_from key test (e ∷ es) from = kept_from_by key test e es (test e) from.0 (kept_from key test es from.1)

  kept_in_by : (test : Key × X → Bool) (e : Key × X) (es : List (Key × X)) (b : Bool) → FromKey e.0 es → InKeyOrder (filter test es) → InKeyOrder (cond b (e ∷ filter test es) (filter test es))
  kept_in_by test e es true from more = (kept_from e.0 test es from, more)
  kept_in_by test e es false from more = more

  -- what is kept of rows in order is in order
  pub kept_in : (test : Key × X → Bool) (es : List (Key × X)) → InKeyOrder es → InKeyOrder (filter test es)
  kept_in test [] up = tt
  kept_in test (e ∷ es) up = kept_in_by test e es (test e) up.0 (kept_in test es up.1)

  tested_by : (key : Key) (e : Key × X) (es : List (Key × X)) (b : Bool) → is_le (key_cmp key e.0) ≡ b → FromKey key (filter (λ e. is_le (key_cmp key e.0)) es)
      → FromKey key (cond b (e ∷ filter (λ e. is_le (key_cmp key e.0)) es) (filter (λ e. is_le (key_cmp key e.0)) es))
  tested_by key e es true at more = (at, more)
  tested_by key e es false at more = more

  -- the rows from a key on are from this key on
  pub tested_from : (key : Key) (es : List (Key × X)) → FromKey key (filter (λ e. is_le (key_cmp key e.0)) es)
  tested_from key [] = tt
  tested_from key (e ∷ es) = tested_by key e es (is_le (key_cmp key e.0)) refl (tested_from key es)

  -- ---- the rows of an account

  module _ (account : List ℕ) (end : Option (List ℕ)) where
    none_by : (e : Key × X) (b c : Bool) → b && not c ≡ false → shown_by account end b c e ≡ None
    none_by e false c out = refl
    none_by e true true out = refl
    none_by e true false out = absurd (true≢false out)

    nothing_by : (start e : Key) (fs : List (Key × X)) → start.account ≡ account → is_le (key_cmp start e) ≡ true → is_out account end e ≡ true → FromKey e fs → filter_map (shown account end) fs ≡ []
    nothing_by start e [] first from out later = refl
    nothing_by start e (f ∷ fs) first from out later =
        ap (λ o. cons_option o (filter_map (shown account end) fs)) (none_by f (pointwise nat_eq f.0.account account) (is_ended end f.0.container) (out_later account end start e f.0 (pointwise nat_eq f.0.account account) (is_ended end f.0.container) refl refl first from later.0 out))
        ∙ nothing_by start e fs first from out later.1

    -- at a row that is out the list of the account ends
    pub at_out : (start : Key) (e : Key × X) (fs : List (Key × X)) → start.account ≡ account → FromKey start (e ∷ fs) → InKeyOrder (e ∷ fs) → is_out account end e.0 ≡ true → filter_map (shown account end) (e ∷ fs) ≡ []
    at_out start e fs first from up out =
        ap (λ o. cons_option o (filter_map (shown account end) fs)) (none_by e (pointwise nat_eq e.0.account account) (is_ended end e.0.container) (out_false account end (pointwise nat_eq e.0.account account && not (is_ended end e.0.container)) out))
        ∙ nothing_by start e.0 fs first from.0 out up.0

    in_by : (e : Key × X) (b c : Bool) → not (b && not c) ≡ false → shown_by account end b c e ≡ Some (e.0.container, e.1)
    in_by e true false is = refl
    in_by e true true is = absurd (true≢false is)
    in_by e false c is = absurd (true≢false is)

    -- a row that is not out is the next one of the account
    pub at_in : (e : Key × X) (fs : List (Key × X)) → is_out account end e.0 ≡ false → filter_map (shown account end) (e ∷ fs) ≡ (e.0.container, e.1) ∷ filter_map (shown account end) fs
    at_in e fs is = ap (λ o. cons_option o (filter_map (shown account end) fs)) (in_by e (pointwise nat_eq e.0.account account) (is_ended end e.0.container) is)

    -- ---- the rows from a key of the account on

    start_by : (bound : List ℕ) (e : Key × X) (b c : Bool) → pointwise nat_eq e.0.account account ≡ b → is_ended end e.0.container ≡ c → (d : Bool) → is_le (key_cmp (key_of account bound) e.0) ≡ d → (es gs : List (List ℕ × X)) → es ≡ gs
        → cons_option (cond d (shown_by account end b c e) None) es ≡ cons_option (kept_if (λ f. is_name_from bound f.0) (shown_by account end b c e)) gs
    start_by bound e false c is at true key es gs more = more
    start_by bound e false c is at false key es gs more = more
    start_by bound e true true is at true key es gs more = more
    start_by bound e true true is at false key es gs more = more
    start_by bound e true false is at d key es gs more =
        let same : is_name_from bound e.0.container ≡ d = ap is_le (sym (same_account (key_of account bound) e.0 (sym ((bytes_decides e.0.account account).0 is)))) ∙ key in
        (λ i. cons_option (cond (sym same i) (Some (e.0.container, e.1)) None) (more i))

    cut_by : (d : Bool) (e : Key × X) (es : List (Key × X)) → filter_map (shown account end) (cond d (e ∷ es) es) ≡ cons_option (cond d (shown account end e) None) (filter_map (shown account end) es)
    cut_by true e es = refl
    cut_by false e es = refl

    -- what the rows from a key of the account on list
    pub from_start : (bound : List ℕ) (es : List (Key × X)) → filter_map (shown account end) (filter (λ e. is_le (key_cmp (key_of account bound) e.0)) es) ≡ filter_map (λ e. kept_if (λ f. is_name_from bound f.0) (shown account end e)) es
    from_start bound [] = refl
    from_start bound (e ∷ es) =
        cut_by (is_le (key_cmp (key_of account bound) e.0)) e (filter (λ e. is_le (key_cmp (key_of account bound) e.0)) es)
        ∙ start_by bound e (pointwise nat_eq e.0.account account) (is_ended end e.0.container) refl refl (is_le (key_cmp (key_of account bound) e.0)) refl
        (filter_map (shown account end) (filter (λ e. is_le (key_cmp (key_of account bound) e.0)) es)) (filter_map (λ e. kept_if (λ f. is_name_from bound f.0) (shown account end e)) es) (from_start bound es)

    -- ---- the list of the account rises

    above_by : (e f : Key × X) (fs : List (List ℕ × X)) (b c : Bool) → pointwise nat_eq f.0.account account ≡ b → is_ended end f.0.container ≡ c → e.0.account ≡ account → key_cmp e.0 f.0 ≡ Less → IsBeforeAll e.0.container fs → IsBeforeAll e.0.container (cons_option (shown_by account end b c f) fs)
    above_by e f fs false c is at first later more = more
    above_by e f fs true true is at first later more = more
    above_by e f fs true false is at first later more = (lesser account end e.0 f.0 first ((bytes_decides f.0.account account).0 is) later, more)

    above_shown : (e : Key × X) (fs : List (Key × X)) → e.0.account ≡ account → T (below_all key_cmp e.0 fs) → IsBeforeAll e.0.container (filter_map (shown account end) fs)
    above_shown e [] first p = tt
    above_shown e (f ∷ fs) first p =
        above_by e f (filter_map (shown account end) fs) (pointwise nat_eq f.0.account account) (is_ended end f.0.container) refl refl first (less (key_cmp e.0 f.0) (T_first (is_lt (key_cmp e.0 f.0)) (below_all key_cmp e.0 fs) p))
        (above_shown e fs first (T_second (is_lt (key_cmp e.0 f.0)) (below_all key_cmp e.0 fs) p))

    rises_by : (e : Key × X) (fs : List (Key × X)) (b c : Bool) → pointwise nat_eq e.0.account account ≡ b → T (below_all key_cmp e.0 fs) → Rises (filter_map (shown account end) fs) → Rises (cons_option (shown_by account end b c e) (filter_map (shown account end) fs))
    rises_by e fs false c is p more = more
    rises_by e fs true true is p more = more
    rises_by e fs true false is p more = (above_shown e fs ((bytes_decides e.0.account account).0 is) p, more)

    pub rises_shown : (es : List (Key × X)) → T (is_sorted key_cmp es) → Rises (filter_map (shown account end) es)
    rises_shown [] p = tt
    rises_shown (e ∷ es) p = rises_by e es (pointwise nat_eq e.0.account account) (is_ended end e.0.container) refl (T_first (below_all key_cmp e.0 es) (is_sorted key_cmp es) p) (rises_shown es (T_second (below_all key_cmp e.0 es) (is_sorted key_cmp es) p))

-- ---- the walk

module _ {X Y : Type 0} (has : X → Option Y) (account : List ℕ) (end : Option (List ℕ)) (p m : List ℕ) (rows : FinMap key_cmp X) where
  -- the containers of the account before the end
  abbrev pub listed_rows : List (List ℕ × X)
  listed_rows = filter_map (shown account end) (entries rows)

  pub listed_up : Rises listed_rows
  listed_up = rises_shown account end (entries rows) (entries_sorted rows)

  -- the rows from the start on list what is from the start on
  pub start_left : (start : Key) (raw : List (Key × X)) (bound : List ℕ) → start ≡ (key_of account bound) → raw ≡ filter (λ e. is_le (key_cmp start e.0)) (entries rows)
      → filter_map (shown account end) raw ≡ filter (λ e. is_name_from bound e.0) listed_rows
  start_left start raw bound first is =
      ap (filter_map (shown account end)) (is ∙ ap (λ start. filter (λ e. is_le (key_cmp start e.0)) (entries rows)) first)
      ∙ from_start account end bound (entries rows)
      ∙ sym (filter-filter_map (λ f. is_name_from bound f.0) (shown account end) (entries rows))

  pub start_from : (start : Key) (raw : List (Key × X)) → raw ≡ filter (λ e. is_le (key_cmp start e.0)) (entries rows) → FromKey start raw
  start_from start raw is = subst (FromKey start) (sym is) (tested_from start (entries rows))

  pub start_order : (start : Key) (raw : List (Key × X)) → raw ≡ filter (λ e. is_le (key_cmp start e.0)) (entries rows) → InKeyOrder raw
  start_order start raw is = subst InKeyOrder (sym is) (kept_in (λ e. is_le (key_cmp start e.0)) (entries rows) (in_key_order (entries rows) (entries_sorted rows)))

  -- a page of the list, with the end
  pub to_page : (r q : PageOf Y) (max : ℕ) → q ≡ page_of_names has p [] m max listed_rows → r.entries ≡ q.entries → r.next ≡ or_else q.next end → r ≡ page_of_account has account p m max end (entries rows)
  to_page r q max is shown_entries shown_next =
      let whole : q ≡ page_of_names has p [] m max (before_end end (of_account account (entries rows))) =
      is ∙ ap (λ es. page_of_names has p [] m max es) (sym (shown_is account end (entries rows))) in
      λ i. record {
        entries = (shown_entries ∙ ap (λ (q : PageOf Y). q.entries) whole) i;
        next = (shown_next ∙ ap (λ (q : PageOf Y). or_else q.next end) whole) i;
      }
