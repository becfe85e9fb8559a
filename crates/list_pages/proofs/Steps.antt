-- The steps of the walk over the tree, one for each way through the loop.
use Rattle.std.proofs.Common.{◌≡◌, ℕ, zero, suc, ◌<◌, ◌≤◌, Bool, true, false, cond, List, [], ◌∷◌, ◌++◌, length, take, Option, Some, None, refl, sym, ap, ◌∙◌, subst, arith, append_assoc}
use Rattle.std.specs.List.{filter, slice_get}
use Rattle.std.specs.Option.{option_map}
use Rattle.std.proofs.lemmas.List.{take_all, take_at, append-nil}
use Rattle.stamp_values.specs.Trees.{is_name_from}
use Rattle.list_pages.specs.Names.{begins_with, group_of}
use Rattle.list_pages.specs.Seeks.{raised, later_of}
use Rattle.list_pages.specs.Pages.{Entry, PageOf, listed, from_marker, page, with_value, page_of_names}
use Rattle.list_pages.specs.Rising.{Rises}
use Rattle.list_pages.proofs.Orders.{before, from_from, from_itself, past_from}
use Rattle.list_pages.proofs.Lists.{IsEndOf, rest_above, end_of_all, length_filter}
use Rattle.list_pages.proofs.Walk.{seen, seen_by, walked, walked_is, pass_by, end, name_step, group_step, group_passed, rest_after, walk_from}

-- ---- a page of a list that is known so far

module _ {Y : Type 0} where
  after_all : (xs : List (Entry Y)) (n : ℕ) → length xs ≤ n → slice_get xs n ≡ None
  after_all [] n long = refl
  after_all (x ∷ xs) zero long = absurd (omega arith)
  after_all (x ∷ xs) (suc n) long = after_all xs n (omega arith)

  at_end : (xs : List (Entry Y)) (x : Entry Y) (ys : List (Entry Y)) → slice_get (xs ++ x ∷ ys) (length xs) ≡ Some x
  at_end [] x ys = refl
  at_end (z ∷ xs) x ys = at_end xs x ys

  -- all that is listed is on the page
  pub page_all : (r : PageOf Y) (max : ℕ) (items out : List (Entry Y)) → items ≡ out → length out ≤ max → r.entries ≡ out → r.next ≡ None → r ≡ page max items
  page_all r max items out is within entries next = λ i. record {
    entries = (entries ∙ sym (take_all max out within) ∙ ap (take max) (sym is)) i;
    next = (next ∙ ap (option_map (λ item. item.0)) (sym (after_all out max within) ∙ ap (λ xs. slice_get xs max) (sym is))) i;
  }

  -- the page is full, and one more is listed
  pub page_full : (r : PageOf Y) (max : ℕ) (items out : List (Entry Y)) (item : Entry Y) (later : List (Entry Y)) → items ≡ out ++ item ∷ later → length out ≡ max → r.entries ≡ out → r.next ≡ Some item.0 → r ≡ page max items
  page_full r max items out item later is full entries next = λ i. record {
    entries = (entries ∙ sym (take_at out (item ∷ later) max full) ∙ ap (take max) (sym is)) i;
    next = (next ∙ ap (option_map (λ item. item.0)) (sym (at_end out item later) ∙ ap (slice_get (out ++ item ∷ later)) full ∙ ap (λ xs. slice_get xs max) (sym is))) i;
  }

-- ---- names that are at the marker or past it

module _ {X : Type 0} (m : List ℕ) where
  abbrev pub AreFrom : List (List ℕ × X) → Type 0
  AreFrom [] = Unit
  AreFrom (e ∷ es) = (is_name_from m e.0 ≡ true) × AreFrom es

  kept_by : (e : List ℕ × X) (b : Bool) (es : List (List ℕ × X)) → is_name_from m e.0 ≡ true → AreFrom es → AreFrom (cond b (e ∷ es) es)
  kept_by e true es at more = (at, more)
  kept_by e false es at more = more

  -- a test keeps such names
  are_kept : (keep : List ℕ × X → Bool) (es : List (List ℕ × X)) → AreFrom es → AreFrom (filter keep es)
  are_kept keep [] from = tt
  are_kept keep (e ∷ es) from = kept_by e (keep e) (filter keep es) from.0 (are_kept keep es from.1)

  past_by : (bound : List ℕ) (e : List ℕ × X) (b : Bool) (es : List (List ℕ × X)) → is_name_from m bound ≡ true → is_name_from bound e.0 ≡ b → AreFrom es → AreFrom (cond b (e ∷ es) es)
  past_by bound e true es at is more = (from_from m bound e.0 at is, more)
  past_by bound e false es at is more = more

  -- what is past a bound that is at the marker or past it
  are_past : (bound : List ℕ) → is_name_from m bound ≡ true → (es : List (List ℕ × X)) → AreFrom (filter (λ e. is_name_from bound e.0) es)
  are_past bound at [] = tt
  are_past bound at (e ∷ es) = past_by bound e (is_name_from bound e.0) (filter (λ e. is_name_from bound e.0) es) at refl (are_past bound at es)

start_by : (p m : List ℕ) (b : Bool) → is_name_from p m ≡ b → is_name_from m (cond b m p) ≡ true
start_by p m true is = from_itself m
start_by p m false is = past_from m p (before p m is)

module _ {X Y : Type 0} (has : X → Option Y) (p d m : List ℕ) (es : List (List ℕ × X)) where
  -- the list that a page is of
  abbrev pub wanted : List (Entry Y)
  wanted = from_marker m (listed p d (with_value has es))

  -- the walk has put out some entries, and some rows are left
  pub record IsAt (out : List (Entry Y)) (left : List (List ℕ × X)) : Type 0 where
    pub so_far : wanted ≡ out ++ walked has p d m left
    pub place : IsEndOf left es
    pub from : AreFrom m left

  -- the part of a list that passes a test that no later entry fails ends the list
  abbrev from_bound : List ℕ → List (List ℕ × X)
  from_bound bound = filter (λ e. is_name_from bound e.0) es

  module _ (up : Rises es) where
    pub ends_from : (bound : List ℕ) (left : List (List ℕ × X)) → left ≡ from_bound bound → IsEndOf left es
    ends_from bound left is = subst (λ left. IsEndOf left es) (sym is) (end_of_all bound es up)

    at_first : (left : List (List ℕ × X)) → left ≡ from_bound (later_of p m) → IsAt [] left
    at_first left is = record {
      so_far = walked_is has p d m es ∙ walk_from has p d m es ∙ ap (walked has p d m) (sym is);
      place = ends_from (later_of p m) left is;
      from = subst (λ left. AreFrom m left) (sym is) (are_past m (later_of p m) (start_by p m (is_name_from p m) refl) es);
    }

    pub at_start : (out : List (Entry Y)) (left : List (List ℕ × X)) (bound : List ℕ) → out ≡ [] → bound ≡ later_of p m → left ≡ from_bound bound → IsAt out left
    at_start out left bound none start is = subst (λ out. IsAt out left) (sym none) (at_first left (is ∙ ap from_bound start))

    module _ (out : List (Entry Y)) (left : List (List ℕ × X)) (name : List ℕ) (v : X) (later : List (List ℕ × X)) (at : IsAt out left) (is : left ≡ (name, v) ∷ later) where
      abbrev here : List ℕ × X
      here = (name, v)

      there : es ≡ at.place.0 ++ here ∷ later
      there = at.place.1 ∙ ap (λ es. at.place.0 ++ es) is

      rest_up : Rises (at.place.0 ++ here ∷ later)
      rest_up = subst Rises there up

      reached : wanted ≡ out ++ walked has p d m (here ∷ later)
      reached = at.so_far ∙ ap (λ es. out ++ walked has p d m (es)) is

      later_place : IsEndOf later es
      later_place = (at.place.0 ++ here ∷ [], there ∙ sym (append_assoc at.place.0 (here ∷ []) later))

      all_from : AreFrom m (here ∷ later)
      all_from = subst (λ left. AreFrom m left) is at.from

      -- the name is at the marker or past it
      pub at_name : is_name_from m name ≡ true
      at_name = all_from.0

      kept : (group : List ℕ) (after : List (List ℕ × X)) → begins_with name p ≡ true → group_of p d name ≡ Some group → after ≡ from_bound (raised group) → after ≡ filter (λ e. is_name_from (raised group) e.0) later
      kept group after f g from = from ∙ ap (filter (λ e. is_name_from (raised group) e.0)) there ∙ rest_after has p d m at.place.0 here later group rest_up f g

      after_from : (group : List ℕ) (after : List (List ℕ × X)) → begins_with name p ≡ true → group_of p d name ≡ Some group → after ≡ from_bound (raised group) → AreFrom m after
      after_from group after f g from = subst (λ left. AreFrom m left) (sym (kept group after f g from)) (are_kept m (λ e. is_name_from (raised group) e.0) later all_from.1)

      -- ---- what is seen of the name
      no_prefix : (value : Option Y) (group : Option (List ℕ)) → seen_by has p d m value name false group ≡ None
      no_prefix None group = refl
      no_prefix (Some value) group = refl

      seen_without : begins_with name p ≡ false → seen has p d m here ≡ None
      seen_without e = ap (λ b. seen_by has p d m (has v) name b (group_of p d name)) e ∙ no_prefix (has v) (group_of p d name)

      seen_none : has v ≡ None → seen has p d m here ≡ None
      seen_none e = ap (λ o. seen_by has p d m o name (begins_with name p) (group_of p d name)) e

      seen_as : (value : Y) (group : Option (List ℕ)) → has v ≡ Some value → begins_with name p ≡ true → group_of p d name ≡ group → seen has p d m here ≡ seen_by has p d m (Some value) name true group
      seen_as value group e f g = λ i. seen_by has p d m (e i) name (f i) (g i)

      seen_name : (value : Y) (b : Bool) → has v ≡ Some value → begins_with name p ≡ true → group_of p d name ≡ None → is_name_from m name ≡ b → seen has p d m here ≡ cond b (Some (name, Some value)) None
      seen_name value b e f g h = seen_as value None e f g ∙ ap (λ b. cond b (Some (name, Some value)) None) h

      seen_group : (value : Y) (group : List ℕ) (b : Bool) → has v ≡ Some value → begins_with name p ≡ true → group_of p d name ≡ Some group → is_name_from m group ≡ b → seen has p d m here ≡ cond b (Some (group, None)) None
      seen_group value group b e f g h = seen_as value (Some group) e f g ∙ ap (λ b. cond b (Some (group, None)) None) h

      -- ---- the steps
      skip : seen has p d m here ≡ None → IsAt out later
      skip none = record { so_far = reached ∙ ap (λ t. out ++ t) (pass_by has p d m here later none); place = later_place; from = all_from.1 }

      -- the name does not begin with the prefix
      pub skip_without : begins_with name p ≡ false → IsAt out later
      skip_without e = skip (seen_without e)

      -- the name has no committed part
      pub skip_none : has v ≡ None → IsAt out later
      skip_none e = skip (seen_none e)

      one_more : (item : Entry Y) (items : List (Entry Y)) → wanted ≡ out ++ item ∷ items → wanted ≡ (out ++ item ∷ []) ++ items
      one_more item items e = e ∙ sym (append_assoc out (item ∷ []) items)

      name_next : (value : Y) → has v ≡ Some value → begins_with name p ≡ true → group_of p d name ≡ None → is_name_from m name ≡ true → wanted ≡ out ++ (name, Some value) ∷ walked has p d m later
      name_next value e f g h = reached ∙ ap (λ t. out ++ t) (name_step has p d m here later (name, Some value) (rest_above at.place.0 here later rest_up) (seen_name value true e f g h) refl g)

      -- the name is the next entry
      pub take_name : (value : Y) → has v ≡ Some value → begins_with name p ≡ true → group_of p d name ≡ None → is_name_from m name ≡ true → (more : List (Entry Y)) → more ≡ out ++ (name, Some value) ∷ [] → IsAt more later
      take_name value e f g h more put = subst (λ out. IsAt out later) (sym put) (record { so_far = one_more (name, Some value) (walked has p d m later) (name_next value e f g h); place = later_place; from = all_from.1 })

      -- the name is the first entry that is left out
      pub full_name : (r : PageOf Y) (max : ℕ) (value : Y) → has v ≡ Some value → begins_with name p ≡ true → group_of p d name ≡ None → is_name_from m name ≡ true → length out ≡ max → r.entries ≡ out → r.next ≡ Some name
          → r ≡ page_of_names has p d m max es
      full_name r max value e f g h full shown next = page_full r max wanted out (name, Some value) (walked has p d m later) (name_next value e f g h) full shown next

      group_next : (value : Y) (group : List ℕ) → has v ≡ Some value → begins_with name p ≡ true → group_of p d name ≡ Some group → is_name_from m group ≡ true → wanted ≡ out ++ (group, None) ∷ walked has p d m (from_bound (raised group))
      group_next value group e f g h =
          reached
          ∙ ap (λ t. out ++ t) (group_step has p d m at.place.0 here later group rest_up f g (seen_group value group true e f g h))
          ∙ ap (λ es. out ++ (group, None) ∷ walked has p d m (filter (λ e. is_name_from (raised group) e.0) es)) (sym there)

      -- the group is the next entry
      pub take_group : (value : Y) (group : List ℕ) (after : List (List ℕ × X)) → has v ≡ Some value → begins_with name p ≡ true → group_of p d name ≡ Some group → is_name_from m group ≡ true → after ≡ from_bound (raised group)
          → (more : List (Entry Y)) → more ≡ out ++ (group, None) ∷ [] → IsAt more after
      take_group value group after e f g h from more put = subst (λ out. IsAt out after) (sym put) (record {
        so_far = one_more (group, None) (walked has p d m after) (group_next value group e f g h ∙ ap (λ es. out ++ (group, None) ∷ walked has p d m es) (sym from));
        place = ends_from (raised group) after from;
        from = after_from group after f g from;
      })

      -- the group is before the marker
      pub skip_group : (value : Y) (group : List ℕ) (after : List (List ℕ × X)) → has v ≡ Some value → begins_with name p ≡ true → group_of p d name ≡ Some group → is_name_from m group ≡ false → after ≡ from_bound (raised group)
          → IsAt out after
      skip_group value group after e f g h from = record {
        so_far = reached
            ∙ ap (λ t. out ++ t) (group_passed has p d m at.place.0 here later group rest_up f g (seen_group value group false e f g h) h)
            ∙ ap (λ es. out ++ walked has p d m (filter (λ e. is_name_from (raised group) e.0) es)) (sym there)
            ∙ ap (λ es. out ++ walked has p d m es) (sym from);
        place = ends_from (raised group) after from;
        from = after_from group after f g from;
      }

      -- the group is the first entry that is left out
      pub full_group : (r : PageOf Y) (max : ℕ) (value : Y) (group : List ℕ) → has v ≡ Some value → begins_with name p ≡ true → group_of p d name ≡ Some group → is_name_from m group ≡ true → length out ≡ max → r.entries ≡ out → r.next ≡ Some group
          → r ≡ page_of_names has p d m max es
      full_group r max value group e f g h full shown next = page_full r max wanted out (group, None) (walked has p d m (from_bound (raised group))) (group_next value group e f g h) full shown next

      -- no later name begins with the prefix
      pub past_prefix : (r : PageOf Y) (max : ℕ) → begins_with name p ≡ false → is_name_from p name ≡ true → length out ≤ max → r.entries ≡ out → r.next ≡ None → r ≡ page_of_names has p d m max es
      past_prefix r max e f within shown next =
          page_all r max wanted out (reached ∙ ap (λ t. out ++ t) (end has p d m here later (rest_above at.place.0 here later rest_up) e f) ∙ append-nil out) within shown next

      -- the rows after a group are fewer
      pub fewer : (group : List ℕ) (after : List (List ℕ × X)) → begins_with name p ≡ true → group_of p d name ≡ Some group → after ≡ from_bound (raised group) → length after < length left
      fewer group after f g from =
          let few = length_filter (λ (e : List ℕ × X). is_name_from (raised group) e.0) later in
          omega (arith, ap length (kept group after f g from), few, ap length is)

    -- no row is left
    pub all_walked : (r : PageOf Y) (max : ℕ) (out : List (Entry Y)) (left : List (List ℕ × X)) → IsAt out left → left ≡ [] → length out ≤ max → r.entries ≡ out → r.next ≡ None → r ≡ page_of_names has p d m max es
    all_walked r max out left at is within shown next = page_all r max wanted out (at.so_far ∙ ap (λ es. out ++ walked has p d m (es)) is ∙ append-nil out) within shown next
