-- Rows that a sweep knows to be written since its mark.
use Rattle.std.proofs.Common.{◌≡◌, ◌∙◌, ◌⊎◌, inl, inr, ℕ, ◌+◌, ◌==◌, ◌&&◌, Bool, true, false, ◌||◌, cond, Option, Some, None, IsSome, List, ap, sym, refl, subst}
use Rattle.std.specs.Prelude.{IfSome, is_none, not, unwrap_or}
use Rattle.std.proofs.lemmas.Bool.{eqb-true}
use Rattle.std.specs.FinMap as finite
use Rattle.std.specs.Option.{option_map}
use Rattle.std.specs.Ordering.{eq_by_cmp}
use Rattle.stamp_values.specs.Order.{name_cmp, names_total}
use Rattle.stamp_values.specs.declared.key.Key.{Key}
use Rattle.stamp_types.specs.ActKinds.{is_row}
use Rattle.block_blobs.specs.StoredRows.{is_left}
use Rattle.stamp_types.specs.World.{Blob, Part, blob_in, blobs_after, changed, committed_with_metadata, no_blob, no_part, same_pieces, with_blob, with_committed}
use Rattle.stamp_types.specs.declared.act.Act.{Act}
use Rattle.stamp_types.specs.declared.act.Act.TheVariants as act
use Rattle.stamp_types.specs.declared.committed.Committed.{Committed}
use Rattle.stamp_types.specs.declared.piece.Piece.{Piece}
use Rattle.partition_stream.specs.Changes.{Recorded}
use Rattle.partition_stream.specs.Meanings.{IsOneMore, held_of, is_on}
use Rattle.partition_stream.specs.Streams.{ThreeStreams, logged}
use Rattle.partition_stream.proofs.MeaningLemmas.{held_of-other, held_of-own}
use Rattle.row_trees.specs.Halfway.{IsNew, IsTouched, News, news_after, no_news, with_new}
use Rattle.stored_rows.specs.Swept.{AllNews, IsBegun, IsKnown, IsNewRow, IsUnseen, MayLog, Names, is_unseen, knows_blob, knows_name, knows_read, knows_row, may_log, next_news, with_new_change}
use Rattle.stored_rows.specs.declared.cursor.Cursor.{Cursor}
use Rattle.stored_rows.proofs.FittingLemmas.{is_on-own, is_on-same}
use Rattle.stored_rows.proofs.LoadLemmas.{other_key}

-- ---- blobs that an act leaves

or_more : (a b : Bool) → b ≡ true → (a || b) ≡ true
or_more true b h = refl
or_more false b h = h

-- no value is some value
pub none_some : {X Y : Type 0} (o : Option X) → o ≡ None → IsSome o → Y
none_some None e h = absurd cc
none_some (Some x) e h = absurd cc

-- a blob that was put, or one that was there
put_got : (news : News) (p : Part (List Piece)) (name : List ℕ) (v : Blob (List Piece)) (other : List ℕ) → IsSome (finite.get (with_blob p name v) other)
    → (with_new news name other ≡ true) ⊎ IsSome (finite.get p.blobs other)
put_got news p name v other h = by (eq_by_cmp name_cmp other name) refl
  where
    by : (b : Bool) → eq_by_cmp name_cmp other name ≡ b → (with_new news name other ≡ true) ⊎ IsSome (finite.get p.blobs other)
    by true on = inl (ap (λ b. b || news other) on)
    by false off = inr (subst (λ o. IsSome o) (finite.get-insert names_total p.blobs name v other ∙ ap (λ b. cond b (Some v) (finite.get p.blobs other)) off) h)

-- the same of a blob with other metadata
meta_got : (news : News) (p : Part (List Piece)) (name : List ℕ) (c : Option (Committed (List Piece))) (other : List ℕ) → IsSome (finite.get (with_committed p name c) other)
    → (with_new news name other ≡ true) ⊎ IsSome (finite.get p.blobs other)
meta_got news p name None other h = inr h
meta_got news p name (Some c) other h = put_got news p name (record { committed = Some c; uncommitted = (blob_in p name).uncommitted }) other h

-- a blob that is left was there
left_got : (p : Part (List Piece)) (name other : List ℕ) → IsSome (finite.get (finite.remove p.blobs name) other) → IsSome (finite.get p.blobs other)
left_got p name other h = by (eq_by_cmp name_cmp other name) refl
  where
    by : (b : Bool) → eq_by_cmp name_cmp other name ≡ b → IsSome (finite.get p.blobs other)
    by true on = none_some (finite.get (finite.remove p.blobs name) other) (finite.get-remove names_total p.blobs name other ∙ ap (λ b. cond b None (finite.get p.blobs other)) on) h
    by false off = subst (λ o. IsSome o) (finite.get-remove names_total p.blobs name other ∙ ap (λ b. cond b None (finite.get p.blobs other)) off) h

-- a blob of a container after an act was written by the act, or was there before
got_after : (news : News) (n : ℕ) (a : Act) (p : Part (List Piece)) (name : List ℕ) → IsSome (finite.get (blobs_after same_pieces n a p) name)
    → (news_after news a name ≡ true) ⊎ IsSome (finite.get p.blobs name)
got_after news n (act.CreateContainer a) p name h = inr h
got_after news n (act.SetContainerMetadata a) p name h = inr h
got_after news n (act.SetAcl a) p name h = inr h
got_after news n act.DeleteContainer p name h = none_some (finite.get (blobs_after same_pieces n act.DeleteContainer p) name) (finite.get-empty name_cmp name) h
got_after news n (act.PutBlob a) p name h = put_got news p a.blob _ name h
got_after news n (act.SetMetadata a) p name h = meta_got news p a.blob (option_map (committed_with_metadata n a) (blob_in p a.blob).committed) name h
got_after news n (act.DeleteBlob a) p name h = inr (left_got p a.blob name h)
got_after news n (act.PutBlock a) p name h = put_got news p a.blob _ name h
got_after news n (act.PutBlockList a) p name h = put_got news p a.blob _ name h
got_after news n (act.ContainerRow a) p name h = inr h
got_after news n (act.StoredBlob a) p name h = put_got news p a.blob _ name h

-- no blob gets old by an act
news_more : (news : News) (a : Act) (name : List ℕ) → news name ≡ true → news_after news a name ≡ true
news_more news (act.CreateContainer a) name h = h
news_more news (act.SetContainerMetadata a) name h = h
news_more news (act.SetAcl a) name h = h
news_more news act.DeleteContainer name h = h
news_more news (act.PutBlob a) name h = or_more (eq_by_cmp name_cmp name a.blob) (news name) h
news_more news (act.SetMetadata a) name h = or_more (eq_by_cmp name_cmp name a.blob) (news name) h
news_more news (act.DeleteBlob a) name h = h
news_more news (act.PutBlock a) name h = or_more (eq_by_cmp name_cmp name a.blob) (news name) h
news_more news (act.PutBlockList a) name h = or_more (eq_by_cmp name_cmp name a.blob) (news name) h
news_more news (act.ContainerRow a) name h = h
news_more news (act.StoredBlob a) name h = or_more (eq_by_cmp name_cmp name a.blob) (news name) h

-- ---- what is known stays known

-- a container that never was has no blob
pub nothing_in : (p : Part (List Piece)) (name : List ℕ) → p ≡ no_part → finite.get p.blobs name ≡ None
nothing_in p name is = ap (λ (q : Part (List Piece)). finite.get q.blobs name) is ∙ finite.get-empty name_cmp name

-- a row that is new stays new
new_row_step : (o : Option News) (p : Part (List Piece)) (a : Act) (name : List ℕ) → IsNewRow o p name → IsNewRow (next_news o a) (changed same_pieces a p) name
new_row_step (Some news) p a name is = λ h. elim (got_after news (p.count + 1) a p name h) [
  | inl new ↦ new
  | inr old ↦ news_more news a name (is old)
]
new_row_step None p a name is = λ h. elim (got_after no_news (p.count + 1) a p name h) [
  | inl new ↦ new
  | inr old ↦ none_some (finite.get p.blobs name) (nothing_in p name is) old
]

-- after an act the row of the container is new
pub begun_next : (o : Option News) (a : Act) (p : Part (List Piece)) → IsBegun (next_news o a) p
begun_next (Some news) a p = tt
begun_next None a p = tt

module _ (c : Cursor) (names : Names) (news : AllNews) (inside : Key → Bool) (s t : ThreeStreams) (x : Recorded) (known : IsKnown c names news inside s)
    (more : IsOneMore (logged s) x (logged t)) where
  own_new : (name : List ℕ) → IsNewRow (news x.0.key) (held_of (logged s) x.0.key) name → IsNewRow (with_new_change news x x.0.key) (held_of (logged t) x.0.key) name
  own_new name is =
      subst (λ (b : Bool). IsNewRow (cond b (next_news (news x.0.key) x.0.act) (news x.0.key)) (held_of (logged t) x.0.key) name) (sym (is_on-own x))
      (subst (λ (p : Part (List Piece)). IsNewRow (next_news (news x.0.key) x.0.act) p name) (sym (held_of-own (logged s) (logged t) x more))
      (new_row_step (news x.0.key) (held_of (logged s) x.0.key) x.0.act name is))

  -- a row that is new stays new, whatever change comes
  pub new_more : (key : Key) (name : List ℕ) → IsNewRow (news key) (held_of (logged s) key) name → IsNewRow (with_new_change news x key) (held_of (logged t) key) name
  new_more key name is = by (is_on key x) refl
    where
      by : (b : Bool) → is_on key x ≡ b → IsNewRow (with_new_change news x key) (held_of (logged t) key) name
      by true on =
          subst (λ k. IsNewRow (with_new_change news x k) (held_of (logged t) k) name) (is_on-same key x on)
          (own_new name (subst (λ k. IsNewRow (news k) (held_of (logged s) k) name) (sym (is_on-same key x on)) is))
      by false off =
          subst (λ (b : Bool). IsNewRow (cond b (next_news (news key) x.0.act) (news key)) (held_of (logged t) key) name) (sym off)
          (subst (λ (p : Part (List Piece)). IsNewRow (news key) p name) (sym (held_of-other (logged s) (logged t) x key more (other_key key x off))) is)

  pub begun_more : (key : Key) → IsBegun (news key) (held_of (logged s) key) → IsBegun (with_new_change news x key) (held_of (logged t) key)
  begun_more key is = by (is_on key x) refl
    where
      by : (b : Bool) → is_on key x ≡ b → IsBegun (with_new_change news x key) (held_of (logged t) key)
      by true on =
          subst (λ (b : Bool). IsBegun (cond b (next_news (news key) x.0.act) (news key)) (held_of (logged t) key)) (sym on) (begun_next (news key) x.0.act (held_of (logged t) key))
      by false off =
          subst (λ (b : Bool). IsBegun (cond b (next_news (news key) x.0.act) (news key)) (held_of (logged t) key)) (sym off)
          (subst (λ (p : Part (List Piece)). IsBegun (news key) p) (sym (held_of-other (logged s) (logged t) x key more (other_key key x off))) is)

  -- All that is known stays true, whatever change comes
  pub known_more : IsKnown c names (with_new_change news x) inside t
  known_more = record {
    rows = λ key here knows. begun_more key (known.rows key here knows);
    blobs = λ key name here knows. new_more key name (known.blobs key name here knows);
  }

-- streams with the same changes
pub known_same : (c : Cursor) (names : Names) (news : AllNews) (inside half : Key → Bool) (s t : ThreeStreams) → ((key : Key) → held_of (logged t) key ≡ held_of (logged s) key)
    → ((key : Key) → half key ≡ true → inside key ≡ true) → IsKnown c names news inside s → IsKnown c names news half t
known_same c names news inside half s t held within known = record {
  rows = λ key here knows. subst (λ (p : Part (List Piece)). IsBegun (news key) p) (sym (held key)) (known.rows key (within key here) knows);
  blobs = λ key name here knows. subst (λ (p : Part (List Piece)). IsNewRow (news key) p name) (sym (held key)) (known.blobs key name (within key here) knows);
}

-- ---- a change that may be logged

pub none_of : {X : Type 0} (o : Option X) → is_none o ≡ true → o ≡ None
none_of None h = refl
none_of (Some x) h = cc

pub both_true : (a b : Bool) → (a && b) ≡ true → (a ≡ true) × (b ≡ true)
both_true true true h = (refl, refl)
both_true true false h = cc
both_true false b h = cc

pub either_true : (a b : Bool) → (a || b) ≡ true → (a ≡ true) ⊎ (b ≡ true)
either_true true b h = inl refl
either_true false b h = inr h

-- a blob of which nothing is left is not in a container whose blobs all are left
none_left_of : (o : Option (Blob (List Piece))) → IfSome o (λ b. is_left b ≡ true) → not (is_left (unwrap_or o no_blob)) ≡ true → o ≡ None
none_left_of None left h = refl
none_left_of (Some b) left h = let wrong : false ≡ true = sym (ap not left) ∙ h in absurd cc

new_or_none : {X : Type 0} (o : Option X) (b : Bool) → (IsSome o → b ≡ true) → (b ≡ true) ⊎ (o ≡ None)
new_or_none None b new = inr refl
new_or_none (Some x) b new = inl (new refl)

module _ (c : Cursor) (names : Names) (key : Key) (p : Part (List Piece)) (left : (name : List ℕ) → IfSome (finite.get p.blobs name) (λ b. is_left b ≡ true)) where
  name_new : (news : News) (name : List ℕ) → (knows_blob c names key name ≡ true → IsNewRow (Some news) p name) → knows_name c names key p name ≡ true → IsNew news p name
  name_new news name known h = elim (either_true (knows_blob c names key name) (not (is_left (blob_in p name))) h) [
    | inl knows ↦ new_or_none (finite.get p.blobs name) (news name) (known knows)
    | inr none ↦ inr (none_left_of (finite.get p.blobs name) (left name) none)
  ]

  name_unseen : (name : List ℕ) → (knows_blob c names key name ≡ true → IsNewRow None p name) → knows_name c names key p name ≡ true → IsNew no_news p name
  name_unseen name known h = elim (either_true (knows_blob c names key name) (not (is_left (blob_in p name))) h) [
    | inl knows ↦ inr (nothing_in p name (known knows))
    | inr none ↦ inr (none_left_of (finite.get p.blobs name) (left name) none)
  ]

  read_new : (news : News) (a : Act) → ((name : List ℕ) → knows_blob c names key name ≡ true → IsNewRow (Some news) p name) → knows_read c names key p a ≡ true → IsTouched news p a
  read_new news (act.SetMetadata a) known h = name_new news a.blob (known a.blob) h
  read_new news (act.PutBlock a) known h = name_new news a.blob (known a.blob) h
  read_new news (act.PutBlockList a) known h = name_new news a.blob (known a.blob) h
  read_new news (act.CreateContainer a) known h = tt
  read_new news (act.SetContainerMetadata a) known h = tt
  read_new news (act.SetAcl a) known h = tt
  read_new news act.DeleteContainer known h = tt
  read_new news (act.PutBlob a) known h = tt
  read_new news (act.DeleteBlob a) known h = tt
  read_new news (act.ContainerRow a) known h = tt
  read_new news (act.StoredBlob a) known h = tt

  read_unseen : (a : Act) → ((name : List ℕ) → knows_blob c names key name ≡ true → IsNewRow None p name) → knows_read c names key p a ≡ true → IsTouched no_news p a
  read_unseen (act.SetMetadata a) known h = name_unseen a.blob (known a.blob) h
  read_unseen (act.PutBlock a) known h = name_unseen a.blob (known a.blob) h
  read_unseen (act.PutBlockList a) known h = name_unseen a.blob (known a.blob) h
  read_unseen (act.CreateContainer a) known h = tt
  read_unseen (act.SetContainerMetadata a) known h = tt
  read_unseen (act.SetAcl a) known h = tt
  read_unseen act.DeleteContainer known h = tt
  read_unseen (act.PutBlob a) known h = tt
  read_unseen (act.DeleteBlob a) known h = tt
  read_unseen (act.ContainerRow a) known h = tt
  read_unseen (act.StoredBlob a) known h = tt

  -- a container of which nothing was written since the mark has seen no change
  none_seen : (knows_row c names key ≡ true → p ≡ no_part) → (knows_row c names key || is_unseen p) ≡ true → (p.count ≡ 0) × (p.standing ≡ None)
  none_seen begun h = elim (either_true (knows_row c names key) (is_unseen p) h) [
    | inl knows ↦ (ap (λ (q : Part (List Piece)). q.count) (begun knows), ap (λ (q : Part (List Piece)). q.standing) (begun knows))
    | inr unseen ↦ (eqb-true p.count 0 (both_true (p.count == 0) (is_none p.standing) unseen).0, none_of p.standing (both_true (p.count == 0) (is_none p.standing) unseen).1)
  ]

  unseen_may : (a : Act) → is_row a ≡ false → IsUnseen p a → MayLog None p a
  unseen_may (act.CreateContainer a) plain is = is
  unseen_may (act.SetContainerMetadata a) plain is = is
  unseen_may (act.SetAcl a) plain is = is
  unseen_may act.DeleteContainer plain is = is
  unseen_may (act.PutBlob a) plain is = is
  unseen_may (act.SetMetadata a) plain is = is
  unseen_may (act.DeleteBlob a) plain is = is
  unseen_may (act.PutBlock a) plain is = is
  unseen_may (act.PutBlockList a) plain is = is
  unseen_may (act.ContainerRow a) plain is = cc
  unseen_may (act.StoredBlob a) plain is = is

  may_by : (o : Option News) (a : Act) → is_row a ≡ false → (knows_row c names key ≡ true → IsBegun o p) → ((name : List ℕ) → knows_blob c names key name ≡ true → IsNewRow o p name)
      → may_log c names key p a ≡ true → MayLog o p a
  may_by (Some news) a plain begun known h = read_new news a known (both_true (knows_row c names key || is_unseen p) (knows_read c names key p a) h).1
  may_by None a plain begun known h =
      let both = both_true (knows_row c names key || is_unseen p) (knows_read c names key p a) h in
      let none = none_seen begun both.0 in
      unseen_may a plain (record { count = none.0; standing = none.1; touched = read_unseen a known both.1 })

-- A change of which the sweep knows that it may be logged may be logged
pub known_may : (c : Cursor) (names : Names) (news : AllNews) (inside : Key → Bool) (s : ThreeStreams) (key : Key) (a : Act) → IsKnown c names news inside s → inside key ≡ true
    → ((name : List ℕ) → IfSome (finite.get (held_of (logged s) key).blobs name) (λ b. is_left b ≡ true)) → is_row a ≡ false → may_log c names key (held_of (logged s) key) a ≡ true → MayLog (news key) (held_of (logged s) key) a
known_may c names news inside s key a known covered left plain h =
    may_by c names key (held_of (logged s) key) left (news key) a plain (known.rows key covered) (λ name. known.blobs key name covered) h
