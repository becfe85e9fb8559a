-- Stored rows after one row of a sweep.
use Rattle.std.proofs.Common.{◌≡◌, ◌≤◌, ◌==◌, ◌&&◌, ◌||◌, ◌∙◌, ◌⊎◌, inl, inr, ℕ, Bool, true, false, Option, Some, None, IfSome, IsSome, Result, Ok, Err, List, ap, refl, sym, subst, unwrap_or, arith}
use Rattle.std.proofs.lemmas.Bool.{eqb-false, eqb-true}
use Rattle.std.specs.Cmp.{eq_by_cmp_equiv}
use Rattle.std.specs.FinMap as finite
use Rattle.std.specs.Global.{Vec}
use Rattle.std.specs.Ordering.{is_eq, is_le}
use Rattle.std.specs.Prelude.{is_none, not}
use Rattle.std.specs.declared.cmp.Ordering.{Ordering}
use Rattle.std.specs.declared.cmp.Ordering.TheVariants.{Less, Equal, Greater}
use Rattle.stamp_values.specs.Order.{key_cmp, keys_total}
use Rattle.stamp_values.specs.Trees.{is_name_from}
use Rattle.stamp_values.specs.declared.key.Key.{Key}
use Rattle.stamp_types.specs.Changes.{KeyedAct}
use Rattle.stamp_types.specs.World.{Blob, Part, World, blob_in, no_blob, no_part, part_at}
use Rattle.stamp_types.specs.declared.act.Act.{Act}
use Rattle.stamp_types.specs.declared.act.Act.TheVariants as act
use Rattle.stamp_types.specs.declared.act.StoredBlob.{StoredBlob}
use Rattle.stamp_types.specs.declared.piece.Piece.{Piece}
use Rattle.block_blobs.specs.StoredRows.{is_left}
use Rattle.row_trees.specs.RowRecords.{blob_row_of, container_row_of}
use Rattle.partition_stream.specs.Meanings.{held_of}
use Rattle.partition_stream.specs.Positions.{all_changes}
use Rattle.partition_stream.specs.Storing.{AreKept}
use Rattle.partition_stream.specs.Streams.{ThreeStreams, logged}
use Rattle.partition_stream.specs.declared.faults.TakeFault.{TakeFault}
use Rattle.row_trees.proofs.RowSwaps.{left_is_there}
use Rattle.checkpoint_rows.specs.Writing.{IsWritableBlob}
use Rattle.checkpoint_rows.proofs.WritableLemmas.{held_of-writable}
use Rattle.partition_stream.specs.declared.faults.TakeFault.TheVariants as take
use Rattle.extent_node.specs.Faults.{Calls}
use Rattle.extent_seal.specs.Counting.{Grows}
use Rattle.stored_rows.specs.Compactions.{KeepsTheRange}
use Rattle.stored_rows.specs.Loaded.{AreLoaded}
use Rattle.stored_rows.specs.NextRows.{IsNextBlob, IsNextContainer, IsOutside}
use Rattle.stored_rows.specs.Noting.{taken_by}
use Rattle.stored_rows.specs.Ranges.{covers}
use Rattle.stored_rows.specs.Rewriting.{AreOfOneBlob, FailsStep, GoOn, IfLogged, IsRewritten, IsRowLogged, IsStepped, IsSwapped, LeavesRowDoubt, doubt_after}
use Rattle.stored_rows.specs.RowDoubts.{HasSpare}
use Rattle.stored_rows.specs.States.{Stored}
use Rattle.stored_rows.specs.Swept.{AreSwept, IsBegun, IsNewRow, is_past, is_touched, is_unseen, is_upto, knows_row, with_blob_row, with_container, with_new_change}
use Rattle.stored_rows.specs.declared.cursor.Cursor.TheVariants as cursor
use Rattle.stored_rows.specs.declared.key_range.KeyRange.{KeyRange}
use Rattle.stored_rows.specs.declared.logging.Unlogged.{Unlogged}
use Rattle.stored_rows.specs.declared.logging.Unlogged.TheVariants as fault
use Rattle.stored_rows.specs.declared.sweep.Sweep.{Sweep}
use Rattle.stored_rows.proofs.CheckpointLemmas.{rows_writable}
use Rattle.stored_rows.proofs.CountLemmas.{fails_later, grows_twice}
use Rattle.stored_rows.proofs.CursorLemmas.{none_new}
use Rattle.stored_rows.proofs.CursorMoves.{past_blob, past_container}
use Rattle.stored_rows.proofs.KnownLemmas.{either_true, new_more, nothing_in}
use Rattle.stored_rows.proofs.LoadLemmas.{part_of-apart, part_of-covered}
use Rattle.stored_rows.proofs.RowDoubtLemmas.{no_row, own_spare, row_again}
use Rattle.stored_rows.proofs.RowWriteLemmas.{logged_then}
use Rattle.stored_rows.proofs.StepLemmas.{IsReady, IsRowFor, blob_new, blob_row_for, blob_still_loaded, own_new, own_row_for, own_still_loaded, still_doubt, still_means, still_swept, swept_by}
use Rattle.stored_rows.proofs.TouchLemmas.{blob_noted, container_noted}

-- ---- the rows of the range

module _ (s : ThreeStreams) (range : KeyRange) (v : World (List Piece)) (e : Option KeyedAct) (old : AreLoaded s (Some v) e range) where
  -- a container of the range is in memory as the streams mean it
  pub held_in_rows : (key : Key) → covers range key ≡ true → part_at v key ≡ held_of (logged s) key
  held_in_rows key covered = old.rows key ∙ part_of-covered range key (all_changes s) covered

  -- a container that was seen in the rows is one of the range
  something_covered : (key : Key) (b : Bool) → covers range key ≡ b → (part_at v key ≡ no_part → ⊥) → covers range key ≡ true
  something_covered key true covered seen = covered
  something_covered key false apart seen = absurd (seen (old.rows key ∙ part_of-apart range key (all_changes s) apart))

  pub counted_covered : (key : Key) → 1 ≤ (part_at v key).count → covers range key ≡ true
  counted_covered key seen =
      something_covered key (covers range key) refl (λ none. let zero : (part_at v key).count ≡ 0 = ap (λ (p : Part (List Piece)). p.count) none in omega (arith, zero, seen))

  pub blob_covered : (key : Key) (name : List ℕ) (b : Blob (List Piece)) → finite.get (part_at v key).blobs name ≡ Some b → covers range key ≡ true
  blob_covered key name b there =
      something_covered key (covers range key) refl (λ none. let nothing : Some b ≡ None = sym there ∙ nothing_in (part_at v key) name none in cc)

-- ---- a row that was logged, or not

ok_only : (r : Result KeyedAct Unlogged) → taken_by r ≡ Ok tt → (d : KeyedAct) × (r ≡ Ok d)
ok_only (Ok d) is = (d, refl)
ok_only (Err (fault.Doubt d)) is = cc
ok_only (Err fault.Busy) is = cc
ok_only (Err fault.NoMemory) is = cc

-- the own row of a container
module _ (s t : ThreeStreams) (range : KeyRange) (w : Sweep) (v : World (List Piece)) (e x : Option KeyedAct) (old : AreLoaded s (Some v) e range) (swept : AreSwept w range s)
    (none : (logged s).doubt ≡ None) (kept : AreKept s) (on : GoOn s t) (key : Key) (covered : covers range key ≡ true) (r : Result KeyedAct Unlogged) (h : IsRowLogged r s t)
    (own : IfLogged r (λ d. d ≡ record { key = key; act = act.ContainerRow (container_row_of (part_at v key)) })) (is : x ≡ doubt_after r e) (spare : Option (Blob (List Piece))) where
  own_for : IfLogged r (IsRowFor s t range w swept)
  own_for =
      logged_then (λ d. d ≡ record { key = key; act = act.ContainerRow (container_row_of (part_at v key)) }) (IsRowFor s t range w swept)
      (λ d same. own_row_for s t range w swept key (part_at v key) d covered (held_in_rows s range v e old key covered) same) r own

  own_loaded_now : AreLoaded t (Some v) x range
  own_loaded_now =
      subst (λ y. AreLoaded t (Some v) y range) (sym is)
      (own_still_loaded s t range w swept on none r key (part_at v key) v e old h own_for (held_in_rows s range v e old key covered) own)

  own_stepped : (u : Sweep) → AreSwept u range t → IsStepped range s t v x spare u
  own_stepped u now = record {
    loaded = own_loaded_now;
    swept = now;
    means = still_means s t range w swept on none r kept h own_for;
    limits = on.limits;
    again = row_again s t range w swept spare r h own_for (own_spare key (part_at v key) spare r own);
  }

  -- the sweep is as it was
  pub own_not_noted : IsStepped range s t v x spare w
  own_not_noted = own_stepped w (still_swept s t range w swept on none r h own_for)

  pub own_doubt : LeavesRowDoubt (taken_by r) t
  own_doubt = still_doubt s t range w swept on none r h own_for

  begun_by : (q : Result KeyedAct Unlogged) → IsRowLogged q s t → IfLogged q (IsRowFor s t range w swept)
      → IfLogged q (λ d. d ≡ record { key = key; act = act.ContainerRow (container_row_of (part_at v key)) }) → taken_by q ≡ Ok tt
      → (now : AreSwept w range t) × IsBegun (now.news key) (held_of (logged t) key)
  begun_by (Ok d) l for same ok =
      let now = swept_by s t range w swept on none d l for in
      (now.0, subst (λ n. IsBegun (n key) (held_of (logged t) key)) (sym now.1) (own_new swept.news d key (held_of (logged t) key) (ap (λ c. c.key) same)))
  begun_by (Err (fault.Doubt d)) l for same ok = cc
  begun_by (Err fault.Busy) l for same ok = cc
  begun_by (Err fault.NoMemory) l for same ok = cc

  -- the cursor moves past the row
  pub own_passed : IsOutside w.cursor → IsNextContainer w.cursor v key → taken_by r ≡ Ok tt → IsStepped range s t v x spare (record w { cursor = cursor.In key None })
  own_passed outside next ok =
      let now = begun_by r h own_for own ok in
      own_stepped (record w { cursor = cursor.In key None }) (past_container w range t now.0 v own_loaded_now.rows key outside next now.1)

  -- the row is noted
  pub own_noted : taken_by r ≡ Ok tt → IsStepped range s t v x spare (with_container w key)
  own_noted ok =
      let now = begun_by r h own_for own ok in
      own_stepped (with_container w key) (container_noted w range t now.0 key now.1)

-- the row of a blob
module _ (s t : ThreeStreams) (range : KeyRange) (w : Sweep) (v u : World (List Piece)) (e x : Option KeyedAct) (old : AreLoaded s (Some v) e range) (swept : AreSwept w range s)
    (none : (logged s).doubt ≡ None) (kept : AreKept s) (on : GoOn s t) (c : KeyedAct) (covered : covers range c.key ≡ true) (ready : IsReady (swept.news c.key) (held_of (logged s) c.key))
    (r : Result KeyedAct Unlogged) (h : IsRowLogged r s t) (re : IfLogged r (IsRewritten s c t)) (swapped : IsSwapped r v u) (is : x ≡ doubt_after r e)
    (spare : Option (Blob (List Piece))) (made : HasSpare r spare) where
  blob_for : IfLogged r (IsRowFor s t range w swept)
  blob_for = logged_then (IsRewritten s c t) (IsRowFor s t range w swept) (λ d again. blob_row_for s t range w swept c d covered ready again) r re

  blob_loaded_now : AreLoaded t (Some u) x range
  blob_loaded_now = subst (λ y. AreLoaded t (Some u) y range) (sym is) (blob_still_loaded s t range w swept on none r v u e old h blob_for swapped)

  blob_stepped : (z : Sweep) → AreSwept z range t → IsStepped range s t u x spare z
  blob_stepped z now = record {
    loaded = blob_loaded_now;
    swept = now;
    means = still_means s t range w swept on none r kept h blob_for;
    limits = on.limits;
    again = row_again s t range w swept spare r h blob_for made;
  }

  -- the sweep is as it was
  pub blob_not_noted : IsStepped range s t u x spare w
  blob_not_noted = blob_stepped w (still_swept s t range w swept on none r h blob_for)

  pub blob_doubt : LeavesRowDoubt (taken_by r) t
  blob_doubt = still_doubt s t range w swept on none r h blob_for

  -- after the row of the blob of this name
  module _ (name : List ℕ) (b : Blob (List Piece)) (row : c.act ≡ blob_row_of (name, b)) where
    record IsNow (now : AreSwept w range t) : Type 0 where
      pub begun : IsBegun (now.news c.key) (held_of (logged t) c.key)
      pub own : IsNewRow (now.news c.key) (held_of (logged t) c.key) name
      pub more : (n : List ℕ) → IsNewRow (swept.news c.key) (held_of (logged s) c.key) n → IsNewRow (now.news c.key) (held_of (logged t) c.key) n

    named_new : (d : KeyedAct) (a : Act) → d.act ≡ a → d.key ≡ c.key → AreOfOneBlob (blob_row_of (name, b)) a
        → IsNewRow (with_new_change swept.news (d, 0) c.key) (held_of (logged t) c.key) name
    named_new d (act.StoredBlob a) act_is key one =
        subst (λ n. IsNewRow (with_new_change swept.news (d, 0) c.key) (held_of (logged t) c.key) n) one
        (blob_new swept.news d c.key a (held_of (logged t) c.key) key act_is)
    named_new d (act.CreateContainer a) act_is key one = absurd one
    named_new d (act.SetContainerMetadata a) act_is key one = absurd one
    named_new d (act.SetAcl a) act_is key one = absurd one
    named_new d act.DeleteContainer act_is key one = absurd one
    named_new d (act.PutBlob a) act_is key one = absurd one
    named_new d (act.SetMetadata a) act_is key one = absurd one
    named_new d (act.DeleteBlob a) act_is key one = absurd one
    named_new d (act.PutBlock a) act_is key one = absurd one
    named_new d (act.PutBlockList a) act_is key one = absurd one
    named_new d (act.ContainerRow a) act_is key one = absurd one

    now_by : (q : Result KeyedAct Unlogged) → IsRowLogged q s t → IfLogged q (IsRowFor s t range w swept) → IfLogged q (IsRewritten s c t) → taken_by q ≡ Ok tt
        → (now : AreSwept w range t) × IsNow now
    now_by (Ok d) l for again ok =
        let now = swept_by s t range w swept on none d l for in (
          now.0,
          record {
            begun = subst (λ n. IsBegun (n c.key) (held_of (logged t) c.key)) (sym now.1) (own_new swept.news d c.key (held_of (logged t) c.key) again.key);
            own = subst (λ n. IsNewRow (n c.key) (held_of (logged t) c.key) name) (sym now.1)
                (named_new d d.act refl again.key (subst (λ a. AreOfOneBlob a d.act) row again.name));
            more = λ n new. subst (λ m. IsNewRow (m c.key) (held_of (logged t) c.key) n) (sym now.1)
                (new_more w.cursor w.touched swept.news (covers range) s t (d, 0) swept.known l.more c.key n new);
          },
        )
    now_by (Err (fault.Doubt d)) l for again ok = cc
    now_by (Err fault.Busy) l for again ok = cc
    now_by (Err fault.NoMemory) l for again ok = cc

    -- the cursor moves past the row
    pub blob_passed : (last : Option (Vec ℕ)) (bytes : Vec ℕ) → bytes.items ≡ name → w.cursor ≡ cursor.In c.key last
        → ((n : List ℕ) → is_upto last n ≡ false → is_name_from bytes.items n ≡ false → finite.get (part_at v c.key).blobs n ≡ None)
        → IsBegun (swept.news c.key) (held_of (logged s) c.key) → taken_by r ≡ Ok tt → IsStepped range s t u x spare (record w { cursor = cursor.In c.key (Some bytes) })
    blob_passed last bytes named at first begun ok =
        let now = now_by r h blob_for re ok in
        blob_stepped (record w { cursor = cursor.In c.key (Some bytes) })
        (past_blob w range t now.0 c.key last bytes at (subst (λ n. IsNewRow (now.0.news c.key) (held_of (logged t) c.key) n) (sym named) now.1.own)
        (λ n here beyond before. now.1.more n (none_new (swept.news c.key) (held_of (logged s) c.key) n begun
        (subst (λ (p : Part (List Piece)). finite.get p.blobs n ≡ None) (held_in_rows s range v e old c.key covered) (first n beyond before)))))

    -- the row is noted
    pub blob_row_noted : taken_by r ≡ Ok tt → IsStepped range s t u x spare (with_blob_row w c.key name)
    blob_row_noted ok =
        let now = now_by r h blob_for re ok in
        blob_stepped (with_blob_row w c.key name) (blob_noted w range t now.0 c.key now.1.begun name covered now.1.own)

-- ---- what a sweep knows of a container

is_le_of : (o : Ordering) → is_eq o ≡ true → is_le o ≡ true
is_le_of Less h = cc
is_le_of Equal h = refl
is_le_of Greater h = cc

-- a cursor in a container is past its own row
pub begun_inside : (w : Sweep) (range : KeyRange) (s : ThreeStreams) (swept : AreSwept w range s) (key : Key) (last : Option (Vec ℕ)) → covers range key ≡ true → w.cursor ≡ cursor.In key last
    → IsBegun (swept.news key) (held_of (logged s) key)
begun_inside w range s swept key last covered at =
    swept.known.rows key covered (ap (λ b. b || is_touched w.touched key)
    (subst (λ k. is_past k key ≡ true) (sym at) (is_le_of (key_cmp key key) ((eq_by_cmp_equiv keys_total).refl key))))

-- a container that the sweep knows, or that has seen no change, is ready
pub ready_known : (w : Sweep) (range : KeyRange) (s : ThreeStreams) (swept : AreSwept w range s) (key : Key) (p : Part (List Piece)) → covers range key ≡ true → p ≡ held_of (logged s) key
    → (knows_row w.cursor w.touched key || is_unseen p) ≡ true → IsReady (swept.news key) (held_of (logged s) key)
ready_known w range s swept key p covered held h = elim (either_true (knows_row w.cursor w.touched key) (is_unseen p) h) [
  | inl knows ↦ inl (swept.known.rows key covered knows)
  | inr unseen ↦ inr (subst (λ q. is_unseen q ≡ true) held unseen)
]

-- a container that has seen a change, or that exists, has seen a change
pub not_unseen : (s : ThreeStreams) (key : Key) (p : Part (List Piece)) (b : Bool) → AreKept s → p ≡ held_of (logged s) key → (b || is_unseen p) ≡ false → 1 ≤ p.count
not_unseen s key p true kept held h = cc
not_unseen s key p false kept held h = by p.count refl
  where
    none_standing : p.count ≡ 0 → p.standing ≡ None
    none_standing zero = subst (λ q. q.count ≡ 0 → q.standing ≡ None) (sym held) (held_of-writable s key kept).unseen zero

    by : (n : ℕ) → p.count ≡ n → 1 ≤ p.count
    by n is = seen (n == 0) refl
      where
        seen : (z : Bool) → (n == 0) ≡ z → 1 ≤ p.count
        seen true zero =
            let none : p.count ≡ 0 = is ∙ eqb-true n 0 zero in
            let standing : p.standing ≡ None = none_standing none in
            let unseen : is_unseen p ≡ true = (λ i. (none i == 0) && is_none (standing i)) in
            let wrong : true ≡ false = sym unseen ∙ h in absurd cc
        seen false other = let apart = eqb-false n 0 other in omega (arith, is, apart)

-- a value that is told of one key is told of an equal key
pub at_key : (a b : Key) (P : Key → Type 0) → a ≡ b → P a → P b
at_key a b P same holds = subst P same holds

-- what is so of the row of the blob that comes next in a container
pub record IsInside (s : ThreeStreams) (range : KeyRange) (v : World (List Piece)) (w : Sweep) (swept : AreSwept w range s) (key : Key) (name : Vec ℕ) (b : Blob (List Piece)) (last : Option (Vec ℕ)) (c : KeyedAct) : Type 0 where
  pub own : c.key ≡ key
  pub covered : covers range c.key ≡ true
  pub begun : IsBegun (swept.news c.key) (held_of (logged s) c.key)
  pub row : c.act ≡ blob_row_of (name.items, b)
  pub at : w.cursor ≡ cursor.In c.key last
  pub first : (n : List ℕ) → is_upto last n ≡ false → is_name_from name.items n ≡ false → finite.get (part_at v c.key).blobs n ≡ None

pub row_inside : (s : ThreeStreams) (range : KeyRange) (v : World (List Piece)) (e : Option KeyedAct) (old : AreLoaded s (Some v) e range) (w : Sweep) (swept : AreSwept w range s) (key : Key) (name : Vec ℕ)
    (c : KeyedAct) (next : IsNextBlob w.cursor v (key, (name, c))) → IsInside s range v w swept key name next.blob next.last c
row_inside s range v e old w swept key name c next =
    let own : c.key ≡ key = ap (λ (x : KeyedAct). x.key) next.row in
    let here : covers range key ≡ true = blob_covered s range v e old key name.items next.blob next.there in
    let covered : covers range c.key ≡ true = subst (λ k. covers range k ≡ true) (sym own) here in
    let at : w.cursor ≡ cursor.In c.key next.last = next.at ∙ ap (λ k. cursor.In k next.last) (sym own) in
    record {
      own = own;
      covered = covered;
      begun = begun_inside w range s swept c.key next.last covered at;
      row = ap (λ (x : KeyedAct). x.act) next.row;
      at = at;
      first = λ n beyond before. subst (λ k. finite.get (part_at v k).blobs n ≡ None) (sym own) (next.first n beyond before);
    }

-- ---- the row of a blob that is touched

left_of : (p : Part (List Piece)) (name : List ℕ) (known : Bool) → (known || not (is_left (blob_in p name))) ≡ false → is_left (blob_in p name) ≡ true
left_of p name true h = cc
left_of p name false h = by (is_left (blob_in p name)) refl h
  where
    by : (b : Bool) → is_left (blob_in p name) ≡ b → not b ≡ false → is_left (blob_in p name) ≡ true
    by true is h = is
    by false is h = cc

some_is : (o : Option (Blob (List Piece))) → IsSome o → o ≡ Some (unwrap_or o no_blob)
some_is None h = cc
some_is (Some b) h = refl

-- a blob that the sweep does not know is in memory
pub blob_there : (p : Part (List Piece)) (name : List ℕ) (known : Bool) → (known || not (is_left (blob_in p name))) ≡ false → finite.get p.blobs name ≡ Some (blob_in p name)
blob_there p name known h = some_is (finite.get p.blobs name) (left_is_there p name (left_of p name known h))

-- and can be written
pub blob_writable : (s : ThreeStreams) (range : KeyRange) (v : World (List Piece)) (e : Option KeyedAct) (old : AreLoaded s (Some v) e range) (key : Key) (name : List ℕ) → AreKept s
    → finite.get (part_at v key).blobs name ≡ Some (blob_in (part_at v key) name) → IsWritableBlob key name (blob_in (part_at v key) name)
blob_writable s range v e old key name kept there =
    subst (λ (o : Option (Blob (List Piece))). IfSome o (IsWritableBlob key name)) there ((rows_writable s kept range v old.rows key).blobs name)

-- what is so of the row of a blob that is touched
pub record IsTouchedRow (range : KeyRange) (s : ThreeStreams) (w : Sweep) (swept : AreSwept w range s) (key : Key) (name : List ℕ) (b : Blob (List Piece)) (c : KeyedAct) : Type 0 where
  pub own : c.key ≡ key
  pub covered : covers range c.key ≡ true
  pub ready : IsReady (swept.news c.key) (held_of (logged s) c.key)
  pub row : c.act ≡ blob_row_of (name, b)

pub row_touched : (s : ThreeStreams) (range : KeyRange) (v : World (List Piece)) (e : Option KeyedAct) (old : AreLoaded s (Some v) e range) (w : Sweep) (swept : AreSwept w range s) (key : Key) (name : List ℕ)
    (b : Blob (List Piece)) (c : KeyedAct) → covers range key ≡ true → (knows_row w.cursor w.touched key || is_unseen (part_at v key)) ≡ true
    → c ≡ record { key = key; act = blob_row_of (name, b) } → IsTouchedRow range s w swept key name b c
row_touched s range v e old w swept key name b c covered begun is =
    let own : c.key ≡ key = ap (λ (x : KeyedAct). x.key) is in
    let ready : IsReady (swept.news key) (held_of (logged s) key) = ready_known w range s swept key (part_at v key) covered (held_in_rows s range v e old key covered) begun in
    record {
      own = own;
      covered = subst (λ k. covers range k ≡ true) (sym own) covered;
      ready = subst (λ k. IsReady (swept.news k) (held_of (logged s) k)) (sym own) ready;
      row = ap (λ (x : KeyedAct). x.act) is;
    }

-- ---- stored rows after steps

-- a row of a sweep keeps the range
pub stepped_keeps : (range : KeyRange) (s t : ThreeStreams) (v : World (List Piece)) (e : Option KeyedAct) (spare : Option (Blob (List Piece))) (w : Sweep) (a b : Bool) → IsStepped range s t v e spare w
    → KeepsTheRange (record { streams = s; range = range; is_loaded = a }) (record { streams = t; range = range; is_loaded = b })
stepped_keeps range s t v e spare w a b is = record { bytes = λ key covered. is.means key; range = refl; limits = is.limits }

-- so does a call that changes nothing
pub keeps_itself : (s t : Stored) → t ≡ s → KeepsTheRange s t
keeps_itself s t same = subst (KeepsTheRange s) (sym same) (record { bytes = λ key covered. refl; range = refl; limits = record { log = refl; blobs = refl; rows = refl } })

-- and a call that changes no stream
pub same_keeps : (range : KeyRange) (s : ThreeStreams) (a b : Bool) → KeepsTheRange (record { streams = s; range = range; is_loaded = a }) (record { streams = s; range = range; is_loaded = b })
same_keeps range s a b = record { bytes = λ key covered. refl; range = refl; limits = record { log = refl; blobs = refl; rows = refl } }

pub range_twice : (s m t : Stored) → KeepsTheRange s m → KeepsTheRange m t → KeepsTheRange s t
range_twice s m t first then = record {
  bytes = λ key covered. then.bytes key (ap (λ r. covers r key) first.range ∙ covered) ∙ first.bytes key covered;
  range = then.range ∙ first.range;
  limits = record {
    log = then.limits.log ∙ first.limits.log;
    blobs = then.limits.blobs ∙ first.limits.blobs;
    rows = then.limits.rows ∙ first.limits.rows;
  };
}

-- streams as they were, with another cursor
pub only_cursor : (range : KeyRange) (s : ThreeStreams) (v : World (List Piece)) (e : Option KeyedAct) (spare : Option (Blob (List Piece))) (w : Sweep) → AreLoaded s (Some v) e range → AreSwept w range s
    → (logged s).doubt ≡ None → IsStepped range s s v e spare w
only_cursor range s v e spare w old swept none = record {
  loaded = old;
  swept = swept;
  means = λ key. refl;
  limits = record { log = refl; blobs = refl; rows = refl };
  again = no_row s spare none;
}

-- faults of a later row
pub step_later : {T : Type 0} (r : Result T TakeFault) (a b c : Calls) → Grows a b → FailsStep r b c → FailsStep r a c
step_later (Ok x) a b c grown h = grows_twice a b c grown h
step_later (Err take.Busy) a b c grown h = fails_later a b c grown h
step_later (Err take.Doubt) a b c grown h = fails_later a b c grown h
step_later (Err take.NoMemory) a b c grown h = grows_twice a b c grown h
