-- The rows of a checkpoint, taken one after the other.
use Rattle.std.proofs.Common.{◌≡◌, ℕ, ◌+◌, Bool, true, false, cond, ◌&&◌, T, List, [], ◌∷◌, map, Option, Some, None, refl, sym, ap, ◌∙◌, subst}
use Rattle.std.specs.Prelude.{fold}
use Rattle.std.specs.Cmp.{IsTotalOrder}
use Rattle.std.specs.Ordering.{eq_by_cmp, is_eq, is_lt}
use Rattle.std.specs.declared.cmp.Ordering.{Ordering}
use Rattle.std.specs.declared.cmp.Ordering.TheVariants.{Less, Equal, Greater}
use Rattle.std.specs.FinMap.{FinMap, empty, entries, entries_sorted, find, get, get-empty, get-entries, get-insert, insert, is_sorted, same_map}
use Rattle.std.specs.FinMap.Entries.{below_all}
use Rattle.stamp_values.specs.Order.{name_cmp, names_exact, names_total}
use Rattle.stamp_types.specs.declared.piece.Piece.{Piece}
use Rattle.stamp_types.specs.World.{Blob, Part, no_part}
use Rattle.stamp_types.proofs.WorldLemmas.{equal_if_is_eq}
use Rattle.block_blobs.proofs.RowLemmas.{container_again}
use Rattle.row_trees.specs.RowRecords.{after_acts, blob_row_of, rows_of}

parts : (a b : Bool) → T (a && b) → T a × T b
parts true b h = (tt, h)
parts false b h = absurd h

-- a value, or else another option
abbrev or_else : {X : Type 0} → Option X → Option X → Option X
or_else (Some x) o = Some x
or_else None o = o

module _ {K X : Type 0} {R : K → K → Ordering} (o : IsTotalOrder R) where
  -- the map with each entry put into it, from the first entry to the last
  abbrev pub put_each : List (K × X) → FinMap R X → FinMap R X
  put_each es m = fold (λ n e. insert n e.0 e.1) m es

  -- a key that comes before all keys of a list is not in the list
  apart : (q k : K) (es : List (K × X)) → R q k ≡ Equal → T (below_all R k es) → find R q es ≡ None
  apart q k [] tied up = refl
  apart q k (e ∷ es) tied up =
      let rise = parts (is_lt (R k e.0)) (below_all R k es) up in
      let other : is_eq (R q e.0) ≡ false = not_both (R q e.0) (subst (λ r. T (is_lt r)) (sym (o.congr q k e.0 tied)) rise.0) in
      ap (λ b. cond b (Some e.1) (find R q es)) other ∙ apart q k es tied rise.1
    where
      not_both : (r : Ordering) → T (is_lt r) → is_eq r ≡ false
      not_both Less h = refl
      not_both Equal h = absurd h
      not_both Greater h = absurd h

  -- what a map with sorted entries put into it has under a key
  get-put_each : (es : List (K × X)) (m : FinMap R X) (q : K) → T (is_sorted R es) → get (put_each es m) q ≡ or_else (find R q es) (get m q)
  get-put_each [] m q up = refl
  get-put_each (e ∷ es) m q up =
      let rise = parts (below_all R e.0 es) (is_sorted R es) up in
      get-put_each es (insert m e.0 e.1) q rise.1
      ∙ ap (or_else (find R q es)) (get-insert o m e.0 e.1 q)
      ∙ chosen (eq_by_cmp R q e.0) (find R q es) e.1 (get m q) (λ same. apart q e.0 es (equal_if_is_eq (R q e.0) same) rise.0)
    where
      chosen : (b : Bool) (found : Option X) (v : X) (kept : Option X) → (b ≡ true → found ≡ None)
          → or_else found (cond b (Some v) kept) ≡ or_else (cond b (Some v) found) kept
      chosen true found v kept none = ap (λ (f : Option X). or_else f (Some v)) (none refl)
      chosen false found v kept none = refl

or_nothing : {X : Type 0} (o : Option X) → or_else o None ≡ o
or_nothing None = refl
or_nothing (Some x) = refl

-- the entries of a map, put into an empty map, are the map again
put_again : {X : Type 0} (m : FinMap name_cmp X) → put_each names_total (entries m) empty ≡ m
put_again m =
    same_map names_total names_exact _ _ (λ q.
    get-put_each names_total (entries m) empty q (entries_sorted m)
    ∙ ap (or_else (find name_cmp q (entries m))) (get-empty name_cmp q)
    ∙ or_nothing (find name_cmp q (entries m))
    ∙ sym (get-entries m q))

-- a container with these blobs
abbrev with_blobs : Part (List Piece) → FinMap name_cmp (Blob (List Piece)) → Part (List Piece)
with_blobs p blobs = record { count = p.count; standing = p.standing; blobs = blobs }

-- the rows of blobs put their blobs into the container, and change nothing else
taken_each : (es : List (List ℕ × Blob (List Piece))) (p : Part (List Piece)) → after_acts (map blob_row_of es) p ≡ with_blobs p (put_each names_total es p.blobs)
taken_each [] p = refl
taken_each (e ∷ es) p =
    ap (λ (q : Part (List Piece)). after_acts (map blob_row_of es) q) (ap (with_blobs p) (container_again (p.count + 1) e.0 e.1 p))
    ∙ taken_each es (with_blobs p (insert p.blobs e.0 e.1))

-- the rows of a container make it of a container that never was
pub made_again : (p : Part (List Piece)) → after_acts (rows_of p) no_part ≡ p
made_again p = taken_each (entries p.blobs) (with_blobs p empty) ∙ ap (with_blobs p) (put_again p.blobs)
