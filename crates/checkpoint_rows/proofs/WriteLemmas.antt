-- Rows that are written one after the other.
use Rattle.std.proofs.Common.{◌≡◌, ◌∙◌, ◌==◌, ℕ, Bool, true, false, cond, List, [], ◌∷◌, ◌++◌, All, map, None, refl, sym, ap, subst, append_assoc, append-nil}
use Rattle.std.specs.FinMap.{entries}
use Rattle.std.proofs.lemmas.Bool.{eqb-true}
use Rattle.std.proofs.lemmas.List.{map-append}
use Rattle.std.proofs.lemmas.List.Elements.{All-nil, All-cons, All-head, All-tail}
use Rattle.std.proofs.lemmas.List.Concat.{flat_map-cons}
use Rattle.stamp_values.specs.declared.key.Key.{Key}
use Rattle.stamp_types.specs.Changes.{KeyedAct}
use Rattle.stamp_types.specs.World.{Blob, Part}
use Rattle.stamp_types.specs.declared.act.Act.TheVariants as act
use Rattle.stamp_types.specs.declared.piece.Piece.{Piece}
use Rattle.row_trees.specs.RowRecords.{blob_row_of, container_row_of}
use Rattle.stream_manager.specs.Streams.{Streamed}
use Rattle.partition_stream.specs.Changes.{Recorded}
use Rattle.partition_stream.specs.Checkpoints.{HasOneRow, new_rows}
use Rattle.partition_stream.specs.Storing.{IsStoredChange}
use Rattle.checkpoint_rows.specs.Writing.{HasRows, all_records, container_records, own_acts, recorded}

-- no row more
pub no_more : (s : Streamed) → s.last.tried ≡ None → HasRows s [] s
no_more s whole = record { rows = sym (append-nil (new_rows s)); whole = whole; stored = λ es old own. old }

-- one row, and then others
pub one_more : (s t u : Streamed) (c : KeyedAct) (cs : List Recorded) → HasOneRow s c t → HasRows t cs u → HasRows s ((c, 0) ∷ cs) u
one_more s t u c cs one others = record {
  rows = others.rows ∙ ap (λ l. l ++ cs) one.rows ∙ append_assoc (new_rows s) ((c, 0) ∷ []) cs;
  whole = others.whole;
  stored = λ es old own.
      others.stored es (one.stored es old (All-head (λ (d : Recorded). IsStoredChange es d.0) (c, 0) cs own)) (All-tail (λ (d : Recorded). IsStoredChange es d.0) (c, 0) cs own);
}

-- some rows, and then others
pub then_more : (s t u : Streamed) (cs ds : List Recorded) → HasRows s cs t → HasRows t ds u → HasRows s (cs ++ ds) u
then_more s t u cs ds some others = record {
  rows = others.rows ∙ ap (λ l. l ++ ds) some.rows ∙ append_assoc (new_rows s) cs ds;
  whole = others.whole;
  stored = λ es old own.
      let both = split (λ (d : Recorded). IsStoredChange es d.0) cs ds own in
      others.stored es (some.stored es old both.0) both.1;
}
  where
    split : {X : Type 0} (P : X → Type 0) (xs ys : List X) → All P (xs ++ ys) → All P xs × All P ys
    split P [] ys all = (All-nil P, all)
    split P (x ∷ xs) ys all =
        let rest = split P xs ys (All-tail P x (xs ++ ys) all) in
        (All-cons P x xs (All-head P x (xs ++ ys) all) rest.0, rest.1)

-- the rows of no list
pub same_rows : (s t : Streamed) (cs ds : List Recorded) → cs ≡ ds → HasRows s ds t → HasRows s cs t
same_rows s t cs ds same has = subst (λ l. HasRows s l t) (sym same) has

-- a container that has seen no change has no row of its own
pub no_row : (s : Streamed) (key : Key) (p : Part (List Piece)) → s.last.tried ≡ None → (p.count == 0) ≡ true → HasRows s (map (recorded key) (own_acts p)) s
no_row s key p whole unseen = same_rows s s _ [] (ap (λ b. map (recorded key) (cond b [] (act.ContainerRow (container_row_of p) ∷ []))) unseen) (no_more s whole)

seen : (n : ℕ) → (n ≡ 0 → ⊥) → (n == 0) ≡ false
seen n some = by (n == 0) refl
  where
    by : (b : Bool) → (n == 0) ≡ b → (n == 0) ≡ false
    by true is = absurd (some (eqb-true n 0 is))
    by false is = is

-- one that has seen a change has one
pub only_row : (s t : Streamed) (key : Key) (p : Part (List Piece)) → (p.count ≡ 0 → ⊥)
    → HasOneRow s (record { key = key; act = act.ContainerRow (container_row_of p) }) t → HasRows s (map (recorded key) (own_acts p)) t
only_row s t key p some one =
    same_rows s t _ (recorded key (act.ContainerRow (container_row_of p)) ∷ []) (ap (λ b. map (recorded key) (cond b [] (act.ContainerRow (container_row_of p) ∷ []))) (seen p.count some))
    (one_more s t t _ [] one (no_more t one.whole))

-- the row of a container, and then those of its blobs
pub both_rows : (s t u : Streamed) (key : Key) (p : Part (List Piece)) (es : List (List ℕ × Blob (List Piece))) → es ≡ entries p.blobs
    → HasRows s (map (recorded key) (own_acts p)) t → HasRows t (map (recorded key) (map blob_row_of es)) u → HasRows s (container_records (key, p)) u
both_rows s t u key p es same own blobs =
    same_rows s u _ _ (map-append (recorded key) (own_acts p) (map blob_row_of (entries p.blobs)))
    (then_more s t u _ _ own (subst (λ l. HasRows t (map (recorded key) (map blob_row_of l)) u) same blobs))

-- the rows of one container, and then those of others
pub container_more : (s t u : Streamed) (e : Key × Part (List Piece)) (es : List (Key × Part (List Piece))) → HasRows s (container_records e) t → HasRows t (all_records es) u → HasRows s (all_records (e ∷ es)) u
container_more s t u e es own others = same_rows s u _ _ (flat_map-cons container_records e es) (then_more s t u _ _ own others)

-- the row of one blob, and then those of others
pub blob_more : (s t u : Streamed) (key : Key) (e : List ℕ × Blob (List Piece)) (es : List (List ℕ × Blob (List Piece))) → HasOneRow s (recorded key (blob_row_of e)).0 t
    → HasRows t (map (recorded key) (map blob_row_of es)) u → HasRows s (map (recorded key) (map blob_row_of (e ∷ es))) u
blob_more s t u key e es one others = one_more s t u (recorded key (blob_row_of e)).0 (map (recorded key) (map blob_row_of es)) one others
