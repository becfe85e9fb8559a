-- The first entry of a map after the keys that a cursor has passed, and the row that comes next.
use Rattle.std.proofs.Common.{◌≡◌, ◌∙◌, ◌&&◌, ℕ, Bool, true, false, cond, T, List, [], ◌∷◌, Option, Some, None, MatchOption, All, filter, refl, sym, ap, subst, true≢false}
use Rattle.std.specs.Cmp.{IsTotalOrder}
use Rattle.std.specs.FinMap.{FinMap, entries, entries_sorted, find, get, get-entries, is_sorted}
use Rattle.std.specs.FinMap.Entries.{below_all, find-where_key, is_sorted-where_key}
use Rattle.std.specs.Global.{Vec}
use Rattle.std.specs.Option.{option_map}
use Rattle.std.specs.Ordering.{is_eq, is_gt, is_le, is_lt, ordering_reverse}
use Rattle.std.specs.declared.cmp.Ordering.{Ordering}
use Rattle.std.specs.declared.cmp.Ordering.TheVariants.{Less, Equal, Greater}
use Rattle.std.proofs.lemmas.Cmp.{alike_right, tied_itself}
use Rattle.std.proofs.lemmas.List.Elements.{All-head, filter_passes}
use Rattle.stamp_values.specs.Order.{name_cmp}
use Rattle.stamp_values.specs.declared.key.Key.{Key}
use Rattle.stamp_types.specs.Changes.{KeyedAct}
use Rattle.stamp_types.specs.World.{Blob, World, part_at}
use Rattle.stamp_types.specs.declared.piece.Piece.{Piece}
use Rattle.row_trees.specs.RowRecords.{blob_row_of}
use Rattle.stored_rows.specs.NextRows.{IsFirstAfter, IsFirstEntry, IsNextBlob, IsNextOfSweep}
use Rattle.stored_rows.specs.Swept.{is_upto}
use Rattle.stored_rows.specs.declared.cursor.Cursor.TheVariants as cursor
use Rattle.stored_rows.specs.declared.next_row.NextRow.TheVariants as next

-- ---- orders

parts : (a b : Bool) → T (a && b) → T a × T b
parts true b h = (tt, h)
parts false b h = absurd h

less : (r : Ordering) → T (is_lt r) → r ≡ Less
less Less h = refl
less Equal h = absurd h
less Greater h = absurd h

greater : (r : Ordering) → is_gt r ≡ true → r ≡ Greater
greater Less h = absurd (true≢false (sym h))
greater Equal h = absurd (true≢false (sym h))
greater Greater h = refl

not_le : (r : Ordering) → is_le r ≡ false → r ≡ Greater
not_le Less h = absurd (true≢false h)
not_le Equal h = absurd (true≢false h)
not_le Greater h = refl

module _ {K : Type 0} {R : K → K → Ordering} (o : IsTotalOrder R) where
  -- what is not after a key comes before each key that comes after it
  upto_less : (a b c : K) → is_gt (R a b) ≡ false → R b c ≡ Less → R a c ≡ Less
  upto_less a b c upto later = by (R a b) refl upto
    where
      by : (r : Ordering) → R a b ≡ r → is_gt r ≡ false → R a c ≡ Less
      by Less is h = o.trans a b c is later
      by Equal is h = o.congr a b c is ∙ later
      by Greater is h = absurd (true≢false h)

  -- the same, said the other way
  from_less : (a b c : K) → is_le (R a b) ≡ true → R b c ≡ Less → R a c ≡ Less
  from_less a b c from later = by (R a b) refl from
    where
      by : (r : Ordering) → R a b ≡ r → is_le r ≡ true → R a c ≡ Less
      by Less is h = o.trans a b c is later
      by Equal is h = o.congr a b c is ∙ later
      by Greater is h = absurd (true≢false (sym h))

  turned : (a b : K) → R a b ≡ Greater → R b a ≡ Less
  turned a b is = o.antisymm b a ∙ ap ordering_reverse is

  turned_back : (a b : K) → R a b ≡ Less → R b a ≡ Greater
  turned_back a b is = o.antisymm b a ∙ ap ordering_reverse is

-- ---- lists that rise

-- the keys that were not passed have in the list what they have in the map, and the list rises
record AreLeft {K X : Type 0} {R : K → K → Ordering} (past : K → Bool) (m : FinMap R X) (es : List (K × X)) : Type 0 where
  looked : (k : K) → past k ≡ false → get m k ≡ find R k es
  rises : T (is_sorted R es)

module _ {K X : Type 0} {R : K → K → Ordering} (o : IsTotalOrder R) (m : FinMap R X) where
  -- a key that comes before the first key of a list has no value in it
  none_before : (k : K) (e : K × X) (es : List (K × X)) → R k e.0 ≡ Less → T (below_all R e.0 es) → find R k (e ∷ es) ≡ None
  none_before k e es before up = ap (λ r. cond (is_eq r) (Some e.1) (find R k es)) before ∙ others es up
    where
      others : (ds : List (K × X)) → T (below_all R e.0 ds) → find R k ds ≡ None
      others [] rise = refl
      others (d ∷ ds) rise =
          let more = parts (is_lt (R e.0 d.0)) (below_all R e.0 ds) rise in
          ap (λ r. cond (is_eq r) (Some d.1) (find R k ds)) (o.trans k e.0 d.0 before (less (R e.0 d.0) more.0)) ∙ others ds more.1

  found_first : (e : K × X) (es : List (K × X)) → find R e.0 (e ∷ es) ≡ Some e.1
  found_first e es = ap (λ r. cond (is_eq r) (Some e.1) (find R e.0 es)) (tied_itself o e.0)

  first_left : (past : K → Bool) (e : K × X) (es : List (K × X)) → AreLeft past m (e ∷ es) → past e.0 ≡ false → IsFirstEntry past m e
  first_left past e es left out = record {
    there = left.looked e.0 out ∙ found_first e es;
    after = out;
    first = λ k outside before. left.looked k outside ∙ none_before k e es (turned o e.0 k (greater (R e.0 k) before)) (parts (below_all R e.0 es) (is_sorted R es) left.rises).0;
  }

  -- the next step of a walk over what is left gives the first entry, if its key was not passed
  next_left : {A : Type 0} (view : A → K × X) (past : K → Bool) (es ds : List (K × X)) (r : Option A) → AreLeft past m es
      → ((e : K × X) (fs : List (K × X)) → es ≡ e ∷ fs → past e.0 ≡ false) → MatchOption r ((es ≡ []) × (ds ≡ [])) (λ x. es ≡ view x ∷ ds)
      → IsFirstAfter past m (option_map view r)
  next_left view past es ds None left out is = λ k outside. left.looked k outside ∙ ap (find R k) is.0
  next_left view past es ds (Some x) left out is = first_left past (view x) ds (subst (AreLeft past m) is left) (out (view x) ds is)

  -- the first step of a walk over all entries, if no key was passed
  pub next_of_all : {A : Type 0} (view : A → K × X) (past : K → Bool) (es ds : List (K × X)) (r : Option A) → ((k : K) → past k ≡ false) → es ≡ entries m
      → MatchOption r ((es ≡ []) × (ds ≡ [])) (λ x. es ≡ view x ∷ ds) → IsFirstAfter past m (option_map view r)
  next_of_all view past es ds r out all is =
      next_left view past es ds r (record { looked = λ k outside. get-entries m k ∙ ap (find R k) (sym all); rises = subst (λ l. T (is_sorted R l)) (sym all) (entries_sorted m) }) (λ e fs first. out e.0) is

  module _ (last : K) (es : List (K × X)) (from : es ≡ filter (λ e. is_le (R last e.0)) (entries m)) where
    abbrev is_passed : K → Bool
    is_passed k = is_le (R k last)

    abbrev is_at : K → Bool
    is_at k = is_le (R last k)

    at_later : (k : K) → is_passed k ≡ false → is_at k ≡ true
    at_later k out = ap is_le (turned o k last (not_le (R k last) out))

    all_from : AreLeft is_passed m es
    all_from = subst (AreLeft is_passed m) (sym from) (record {
      looked = λ k out. get-entries m k ∙ sym (find-where_key R is_at k (λ x tied. ap is_le (sym (alike_right o k x last tied))) (entries m) ∙ ap (λ b. cond b (find R k (entries m)) None) (at_later k out));
      rises = is_sorted-where_key R is_at (entries m) (entries_sorted m);
    })

    -- no entry is at a key or past it
    pub none_from : es ≡ [] → (k : K) → is_passed k ≡ false → get m k ≡ None
    none_from none k out = all_from.looked k out ∙ ap (find R k) none

    -- the first entry at a key or past it is past it
    pub first_past : (e : K × X) (ds : List (K × X)) → es ≡ e ∷ ds → is_gt (R e.0 last) ≡ true → IsFirstEntry is_passed m e
    first_past e ds is later = first_left is_passed e ds (subst (AreLeft is_passed m) is all_from) (ap is_le (greater (R e.0 last) later))

    -- it is not past it, so that the next entry is the first one past it
    pub second_past : {A : Type 0} (view : A → K × X) (e : K × X) (ds fs : List (K × X)) (r : Option A) → es ≡ e ∷ ds → is_gt (R e.0 last) ≡ false
        → MatchOption r ((ds ≡ []) × (fs ≡ [])) (λ x. ds ≡ view x ∷ fs) → IsFirstAfter is_passed m (option_map view r)
    second_past view e ds fs r is upto steps =
        let left : AreLeft is_passed m (e ∷ ds) = subst (AreLeft is_passed m) is all_from in
        let rise = parts (below_all R e.0 ds) (is_sorted R ds) left.rises in
        let here : is_at e.0 ≡ true = All-head (λ (d : K × X). is_at d.0 ≡ true) e ds (subst (All (λ (d : K × X). is_at d.0 ≡ true)) (sym from ∙ is) (filter_passes (λ (d : K × X). is_at d.0) (entries m))) in
        next_left view is_passed ds fs r (record {
          looked = λ k out. left.looked k out
              ∙ ap (λ s. cond (is_eq s) (Some e.1) (find R k ds)) (turned_back o e.0 k (upto_less o e.0 last k upto (turned o k last (not_le (R k last) out))));
          rises = rise.1;
        }) (λ d gs first. ap is_le (turned_back o last d.0 (from_less o last e.0 d.0 here (less (R e.0 d.0) (parts (is_lt (R e.0 d.0)) (below_all R e.0 gs) (subst (λ l. T (below_all R e.0 l)) first rise.0)).0)))) steps

-- ---- the row that comes next

-- the first blob after a name, with copies of its key and its name
pub blob_next : (at : Key) (last : Option (Vec ℕ)) (w : World (List Piece)) (name : List ℕ) (b : Blob (List Piece)) (key : Key) (bytes : Vec ℕ) (row : KeyedAct) → key ≡ at → bytes.items ≡ name
    → row ≡ record { key = at; act = blob_row_of (name, b) } → IsFirstAfter (is_upto last) (part_at w at).blobs (Some (name, b)) → IsNextBlob (cursor.In at last) w (key, (bytes, row))
blob_next at last w name b key bytes row same named is first =
    let here : IsFirstEntry (is_upto last) (part_at w at).blobs (bytes.items, b) = subst (λ n. IsFirstEntry (is_upto last) (part_at w at).blobs (n, b)) (sym named) first in
    let own : IsFirstEntry (is_upto last) (part_at w key).blobs (bytes.items, b) = subst (λ k. IsFirstEntry (is_upto last) (part_at w k).blobs (bytes.items, b)) (sym same) here in
    record {
      last = last;
      at = ap (λ k. cursor.In k last) (sym same);
      blob = b;
      there = own.there;
      row = is ∙ (λ i. record { key = sym same i; act = blob_row_of (sym named i, b) });
      after = own.after;
      first = λ other out before. own.first other out (ap is_gt (not_le (name_cmp bytes.items other) before));
    }

-- no blob is left, with a copy of the key
pub no_blob_next : (at : Key) (last : Option (Vec ℕ)) (w : World (List Piece)) (key : Key) → key ≡ at → IsFirstAfter (is_upto last) (part_at w at).blobs None → IsNextOfSweep (cursor.In at last) w (next.NoBlob key)
no_blob_next at last w key same none =
    (last, (ap (λ k. cursor.In k last) (sym same), subst (λ k. (name : List ℕ) → is_upto last name ≡ false → get (part_at w k).blobs name ≡ None) (sym same) none))
