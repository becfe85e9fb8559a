-- A cursor that moves past the row of a container, past the row of a blob, past a container of which no blob is left, and to the end.
use Rattle.std.proofs.Common.{◌≡◌, ◌∙◌, ◌⊎◌, inl, inr, ◌||◌, Bool, true, false, Option, Some, None, List, ℕ, ap, sym, refl, subst}
use Rattle.std.specs.FinMap as finite
use Rattle.std.specs.Global.{Vec}
use Rattle.std.specs.Ordering.{is_gt, is_le, ordering_reverse}
use Rattle.std.specs.Prelude.{unwrap_or}
use Rattle.std.specs.declared.cmp.Ordering.{Ordering}
use Rattle.std.specs.declared.cmp.Ordering.TheVariants.{Less, Equal, Greater}
use Rattle.stamp_values.specs.Order.{key_cmp, keys_exact, keys_total, name_cmp, names_exact, names_total}
use Rattle.stamp_values.specs.Trees.{is_below, is_from, is_name_from}
use Rattle.stamp_values.specs.declared.key.Key.{Key}
use Rattle.stamp_types.specs.World.{Part, World, no_part, part_at}
use Rattle.stamp_types.specs.declared.piece.Piece.{Piece}
use Rattle.partition_stream.specs.Meanings.{held_of}
use Rattle.partition_stream.specs.Positions.{all_changes}
use Rattle.partition_stream.specs.Streams.{ThreeStreams, logged}
use Rattle.stored_rows.specs.Loaded.{AreRowsOf}
use Rattle.stored_rows.specs.NextRows.{IsNextContainer, IsOutside}
use Rattle.stored_rows.specs.Ranges.{covers}
use Rattle.stored_rows.specs.Swept.{AreSwept, IsBegun, IsNewRow, is_past, is_past_blob, is_past_in, is_touched, is_upto}
use Rattle.stored_rows.specs.declared.cursor.Cursor.{Cursor}
use Rattle.stored_rows.specs.declared.cursor.Cursor.TheVariants as cursor
use Rattle.stored_rows.specs.declared.key_range.KeyRange.{KeyRange}
use Rattle.stored_rows.specs.declared.sweep.Sweep.{Sweep}
use Rattle.stored_rows.proofs.CursorLemmas.{known_past, none_begun, none_new, nothing_new}
use Rattle.stored_rows.proofs.LoadLemmas.{part_of-covered}

-- ---- the order of keys and names

-- a key that is not after another one is that one, or comes before it
key_upto : (k key : Key) → is_from k key ≡ true → (k ≡ key) ⊎ (is_below key k ≡ true)
key_upto k key h = by (key_cmp k key) refl h
  where
    by : (o : Ordering) → key_cmp k key ≡ o → is_le o ≡ true → (k ≡ key) ⊎ (is_below key k ≡ true)
    by Less is h = inr (ap is_gt (keys_total.antisymm key k ∙ ap ordering_reverse is))
    by Equal is h = inl (keys_exact k key is)
    by Greater is h = cc

-- the same of names
name_upto : (n name : List ℕ) → is_name_from n name ≡ true → (n ≡ name) ⊎ (is_name_from name n ≡ false)
name_upto n name h = by (name_cmp n name) refl h
  where
    by : (o : Ordering) → name_cmp n name ≡ o → is_le o ≡ true → (n ≡ name) ⊎ (is_name_from name n ≡ false)
    by Less is h = inr (ap is_le (names_total.antisymm name n ∙ ap ordering_reverse is))
    by Equal is h = inl (names_exact n name is)
    by Greater is h = cc

-- a cursor that is in no container is past the blobs of each container that it is past
outside_past : (c : Cursor) (k : Key) (n : List ℕ) → IsOutside c → is_past c k ≡ true → is_past_blob c k n ≡ true
outside_past cursor.Start k n out past = past
outside_past (cursor.After at) k n out past = past
outside_past cursor.End k n out past = past
outside_past (cursor.In at last) k n out past = absurd out

-- ---- cursors that move

module _ (w : Sweep) (range : KeyRange) (t : ThreeStreams) (swept : AreSwept w range t) where
  abbrev HasRow : Key → Type 0
  HasRow k = IsBegun (swept.news k) (held_of (logged t) k)

  abbrev HasBlobRow : Key → List ℕ → Type 0
  HasBlobRow k n = IsNewRow (swept.news k) (held_of (logged t) k) n

  moved_to : (d : Cursor) → ((k : Key) → covers range k ≡ true → is_past d k ≡ true → (is_past w.cursor k ≡ true) ⊎ HasRow k)
      → ((k : Key) (n : List ℕ) → covers range k ≡ true → is_past_blob d k n ≡ true → (is_past_blob w.cursor k n ≡ true) ⊎ HasBlobRow k n)
      → AreSwept (record w { cursor = d }) range t
  moved_to d rows blobs = record {
    log = swept.log;
    blobs = swept.blobs;
    room = swept.room;
    news = swept.news;
    swept = swept.swept;
    known = known_past w.cursor d w.touched swept.news (covers range) t swept.known rows blobs;
    doubt = swept.doubt;
  }

  -- past the row of the blob of this name, in the container where the cursor is
  pub past_blob : (key : Key) (last : Option (Vec ℕ)) (name : Vec ℕ) → w.cursor ≡ cursor.In key last → HasBlobRow key name.items
      → ((n : List ℕ) → covers range key ≡ true → is_upto last n ≡ false → is_name_from name.items n ≡ false → HasBlobRow key n)
      → AreSwept (record w { cursor = cursor.In key (Some name) }) range t
  past_blob key last name is own between = moved_to (cursor.In key (Some name)) rows blobs
    where
      rows : (k : Key) → covers range k ≡ true → is_past (cursor.In key (Some name)) k ≡ true → (is_past w.cursor k ≡ true) ⊎ HasRow k
      rows k here past = inl (subst (λ c. is_past c k ≡ true) (sym is) past)

      at : (k : Key) (n : List ℕ) → k ≡ key → covers range k ≡ true → (b : Bool) → is_upto last n ≡ b → is_name_from n name.items ≡ true
          → (is_upto last n ≡ true) ⊎ HasBlobRow k n
      at k n same here true upto h = inl upto
      at k n same here false beyond h = inr (subst (λ x. HasBlobRow x n) (sym same) (elim (name_upto n name.items h) [
        | inl equal ↦ subst (λ x. HasBlobRow key x) (sym equal) own
        | inr before ↦ between n (subst (λ x. covers range x ≡ true) same here) beyond before
      ]))

      by : (k : Key) (n : List ℕ) (o : Ordering) → key_cmp k key ≡ o → covers range k ≡ true → is_past_in o (Some name) n ≡ true
          → (is_past_in o last n ≡ true) ⊎ HasBlobRow k n
      by k n Less is here h = inl refl
      by k n Equal is here h = at k n (keys_exact k key is) here (is_upto last n) refl h
      by k n Greater is here h = cc

      blobs : (k : Key) (n : List ℕ) → covers range k ≡ true → is_past_blob (cursor.In key (Some name)) k n ≡ true → (is_past_blob w.cursor k n ≡ true) ⊎ HasBlobRow k n
      blobs k n here past = subst (λ c. (is_past_blob c k n ≡ true) ⊎ HasBlobRow k n) (sym is) (by k n (key_cmp k key) refl here past)

  -- in rows that say what the streams mean
  module _ (v : World (List Piece)) (own : AreRowsOf range t v) where
    pub held_here : (k : Key) → covers range k ≡ true → part_at v k ≡ held_of (logged t) k
    held_here k covered = own k ∙ part_of-covered range k (all_changes t) covered

    never : (k : Key) → covers range k ≡ true → finite.get v k ≡ None → held_of (logged t) k ≡ no_part
    never k covered none = sym (held_here k covered) ∙ ap (λ (o : Option (Part (List Piece))). unwrap_or o no_part) none

    -- past the row of a container
    pub past_container : (key : Key) → IsOutside w.cursor → IsNextContainer w.cursor v key → HasRow key → AreSwept (record w { cursor = cursor.In key None }) range t
    past_container key outside next begun = moved_to (cursor.In key None) rows blobs
      where
        before : (k : Key) → covers range k ≡ true → is_below key k ≡ true → (b : Bool) → is_past w.cursor k ≡ b → (is_past w.cursor k ≡ true) ⊎ (held_of (logged t) k ≡ no_part)
        before k here below true past = inl past
        before k here below false apart = inr (never k here (next.first k apart below))

        rows : (k : Key) → covers range k ≡ true → is_past (cursor.In key None) k ≡ true → (is_past w.cursor k ≡ true) ⊎ HasRow k
        rows k here past = elim (key_upto k key past) [
          | inl same ↦ inr (subst HasRow (sym same) begun)
          | inr below ↦ elim (before k here below (is_past w.cursor k) refl) [
            | inl old ↦ inl old
            | inr none ↦ inr (none_begun (swept.news k) (held_of (logged t) k) none)
          ]
        ]

        by : (k : Key) (n : List ℕ) (o : Ordering) → key_cmp k key ≡ o → covers range k ≡ true → is_past_in o None n ≡ true → (is_past_blob w.cursor k n ≡ true) ⊎ HasBlobRow k n
        by k n Less is here h = elim (before k here (ap is_gt (keys_total.antisymm key k ∙ ap ordering_reverse is)) (is_past w.cursor k) refl) [
          | inl old ↦ inl (outside_past w.cursor k n outside old)
          | inr none ↦ inr (nothing_new (swept.news k) (held_of (logged t) k) n none)
        ]
        by k n Equal is here h = cc
        by k n Greater is here h = cc

        blobs : (k : Key) (n : List ℕ) → covers range k ≡ true → is_past_blob (cursor.In key None) k n ≡ true → (is_past_blob w.cursor k n ≡ true) ⊎ HasBlobRow k n
        blobs k n here past = by k n (key_cmp k key) refl here past

    -- past a container of which no blob is left
    pub past_blobs : (key : Key) (last : Option (Vec ℕ)) → w.cursor ≡ cursor.In key last → ((n : List ℕ) → is_upto last n ≡ false → finite.get (part_at v key).blobs n ≡ None)
        → AreSwept (record w { cursor = cursor.After key }) range t
    past_blobs key last is none = moved_to (cursor.After key) rows blobs
      where
        rows : (k : Key) → covers range k ≡ true → is_past (cursor.After key) k ≡ true → (is_past w.cursor k ≡ true) ⊎ HasRow k
        rows k here past = inl (subst (λ c. is_past c k ≡ true) (sym is) past)

        begun : (k : Key) → covers range k ≡ true → is_from k key ≡ true → HasRow k
        begun k here past = swept.known.rows k here (ap (λ b. b || is_touched w.touched k) (subst (λ c. is_past c k ≡ true) (sym is) past))

        at : (k : Key) (n : List ℕ) → key_cmp k key ≡ Equal → covers range k ≡ true → (b : Bool) → is_upto last n ≡ b → (is_upto last n ≡ true) ⊎ HasBlobRow k n
        at k n equal here true upto = inl upto
        at k n equal here false beyond =
            inr (none_new (swept.news k) (held_of (logged t) k) n (begun k here (ap is_le equal))
            (subst (λ (p : Part (List Piece)). finite.get p.blobs n ≡ None) (held_here k here)
            (subst (λ x. finite.get (part_at v x).blobs n ≡ None) (sym (keys_exact k key equal)) (none n beyond))))

        by : (k : Key) (n : List ℕ) (o : Ordering) → key_cmp k key ≡ o → covers range k ≡ true → is_le o ≡ true → (is_past_in o last n ≡ true) ⊎ HasBlobRow k n
        by k n Less is here h = inl refl
        by k n Equal is here h = at k n is here (is_upto last n) refl
        by k n Greater is here h = cc

        blobs : (k : Key) (n : List ℕ) → covers range k ≡ true → is_past_blob (cursor.After key) k n ≡ true → (is_past_blob w.cursor k n ≡ true) ⊎ HasBlobRow k n
        blobs k n here past = subst (λ c. (is_past_blob c k n ≡ true) ⊎ HasBlobRow k n) (sym is) (by k n (key_cmp k key) refl here past)

    -- to the end
    pub past_all : IsOutside w.cursor → ((k : Key) → is_past w.cursor k ≡ false → finite.get v k ≡ None) → AreSwept (record w { cursor = cursor.End }) range t
    past_all outside none = moved_to cursor.End rows blobs
      where
        left : (k : Key) → covers range k ≡ true → (b : Bool) → is_past w.cursor k ≡ b → (is_past w.cursor k ≡ true) ⊎ (held_of (logged t) k ≡ no_part)
        left k here true past = inl past
        left k here false apart = inr (never k here (none k apart))

        rows : (k : Key) → covers range k ≡ true → is_past cursor.End k ≡ true → (is_past w.cursor k ≡ true) ⊎ HasRow k
        rows k here end = elim (left k here (is_past w.cursor k) refl) [
          | inl old ↦ inl old
          | inr gone ↦ inr (none_begun (swept.news k) (held_of (logged t) k) gone)
        ]

        blobs : (k : Key) (n : List ℕ) → covers range k ≡ true → is_past_blob cursor.End k n ≡ true → (is_past_blob w.cursor k n ≡ true) ⊎ HasBlobRow k n
        blobs k n here end = elim (left k here (is_past w.cursor k) refl) [
          | inl old ↦ inl (outside_past w.cursor k n outside old)
          | inr gone ↦ inr (nothing_new (swept.news k) (held_of (logged t) k) n gone)
        ]
