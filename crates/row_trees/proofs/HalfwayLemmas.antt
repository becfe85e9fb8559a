-- Lemmas of containers whose rows are written again one after the other.
use Rattle.std.proofs.Common.{◌≡◌, ◌∙◌, ◌⊎◌, inl, inr, ℕ, ◌+◌, Bool, true, false, ◌&&◌, ◌||◌, cond, List, [], ◌∷◌, Option, Some, None, IsSome, ap, sym, refl, unwrap_or, map, nat_lt}
use Rattle.std.specs.Prelude.{is_none, is_some}
use Rattle.std.specs.Option.{option_map}
use Rattle.std.specs.FinMap as finite
use Rattle.std.specs.Ordering.{eq_by_cmp}
use Rattle.std.proofs.lemmas.Map.Views.{tells_apart}
use Rattle.stamp_values.specs.Order.{name_cmp, names_exact, names_total}
use Rattle.stamp_values.specs.declared.key.Key.{Key}
use Rattle.stamp_types.specs.ActKinds.{is_row}
use Rattle.stamp_types.specs.World.{Blob, Part, World, blob_in, blob_value, blobs_after, changed, changed_in, committed_value, committed_with_metadata, count_after, no_blob, no_part, part_at, part_value, same_pieces, standing_after, taken_blocks, uncommitted_entry, whole_block, with_blob, with_committed}
use Rattle.stamp_types.specs.declared.act.Act.{Act}
use Rattle.stamp_types.specs.declared.act.Act.TheVariants as act
use Rattle.stamp_types.specs.declared.committed.Committed.{Committed}
use Rattle.stamp_types.specs.declared.piece.Piece.{Piece}
use Rattle.stamp_types.proofs.WorldLemmas.{blob_in-part_value}
use Rattle.block_blobs.specs.UncommittedBlocks.{block_fault}
use Rattle.row_trees.specs.Fits.{count_limit, creates, fits, fits_blob}
use Rattle.row_trees.specs.Halfway.{IsAllNew, IsHalfway, IsNew, IsSweptPart, IsTouched, News, news_after, no_news, with_new}
use Rattle.row_trees.specs.ListedBlocks.{entries_fault}
use Rattle.row_trees.specs.RowRecords.{container_row_of}
use Rattle.row_trees.proofs.Parts.{same_world}

module _ {C : Type 0} (f : List Piece → C) where
  -- the own row of a container makes the container without its blobs of a container that never was
  pub row_begins : (p : Part C) → IsHalfway no_news p (changed f (act.ContainerRow (container_row_of p)) no_part)
  row_begins p = record { count = refl; standing = refl; blobs = λ name. finite.get-empty name_cmp name }

  -- the own row of a container changes nothing in the container
  pub row_keeps : (p : Part C) → changed f (act.ContainerRow (container_row_of p)) p ≡ p
  row_keeps p = refl

  -- a container that never was needs no row
  pub unseen : (news : News) (p : Part C) → p ≡ no_part → IsHalfway news p no_part
  unseen news p is = record {
    count = ap (λ (x : Part C). x.count) (sym is);
    standing = ap (λ (x : Part C). x.standing) (sym is);
    blobs = λ name. rw is (finite.get-empty name_cmp name ∙ none_either (news name) _ (finite.get-empty name_cmp name));
  }
    where
      none_either : {X : Type 0} (b : Bool) (o : Option X) → o ≡ None → None ≡ cond b o None
      none_either true o e = sym e
      none_either false o e = refl

  -- both containers have the same under a name whose blob is new
  got : (news : News) (p q : Part C) (name : List ℕ) → IsHalfway news p q → IsNew news p name → finite.get q.blobs name ≡ finite.get p.blobs name
  got news p q name h (inl is) = h.blobs name ∙ ap (λ b. cond b (finite.get p.blobs name) None) is
  got news p q name h (inr none) = h.blobs name ∙ either (news name) (finite.get p.blobs name) none
    where
      either : (b : Bool) (o : Option (Blob C)) → o ≡ None → cond b o None ≡ o
      either true o e = refl
      either false o e = sym e

  pub blob_got : (news : News) (p q : Part C) (name : List ℕ) → IsHalfway news p q → IsNew news p name → blob_in q name ≡ blob_in p name
  blob_got news p q name h new = ap (λ (o : Option (Blob C)). unwrap_or o no_blob) (got news p q name h new)

  -- the same blob is put under the name
  chosen : (b n : Bool) (v : Blob C) (o k : Option (Blob C)) → o ≡ cond n k None → cond b (Some v) o ≡ cond (b || n) (cond b (Some v) k) None
  chosen true n v o k e = refl
  chosen false n v o k e = e

  put_both : (news : News) (p q : Part C) (name : List ℕ) (v w : Blob C) → w ≡ v → IsHalfway news p q
      → (other : List ℕ) → finite.get (with_blob q name w) other ≡ cond (with_new news name other) (finite.get (with_blob p name v) other) None
  put_both news p q name v w same h other =
      ap (λ b. finite.get (with_blob q name b) other) same
      ∙ finite.get-insert names_total q.blobs name v other
      ∙ chosen (eq_by_cmp name_cmp other name) (news other) v (finite.get q.blobs other) (finite.get p.blobs other) (h.blobs other)
      ∙ sym (ap (λ o. cond (with_new news name other) o None) (finite.get-insert names_total p.blobs name v other))

  -- a name whose blob is new is one of the new names already
  kept_both : (news : News) (p q : Part C) (name : List ℕ) → IsHalfway news p q → IsNew news p name
      → (other : List ℕ) → finite.get q.blobs other ≡ cond (with_new news name other) (finite.get p.blobs other) None
  kept_both news p q name h new other = by (eq_by_cmp name_cmp other name) refl
    where
      by : (b : Bool) → eq_by_cmp name_cmp other name ≡ b → finite.get q.blobs other ≡ cond (eq_by_cmp name_cmp other name || news other) (finite.get p.blobs other) None
      by true is =
          let same : other ≡ name = tells_apart names_exact other name is in
          ap (λ n. finite.get q.blobs n) same ∙ got news p q name h new ∙ sym (ap (λ n. finite.get p.blobs n) same)
          ∙ sym (ap (λ b. cond (b || news other) (finite.get p.blobs other) None) is)
      by false is = h.blobs other ∙ sym (ap (λ b. cond (b || news other) (finite.get p.blobs other) None) is)

  -- a container without blobs is halfway to itself, whichever blobs are new
  nothing : (b : Bool) (o q : Option (Blob C)) → o ≡ None → q ≡ None → q ≡ cond b o None
  nothing true o q e k = k ∙ sym e
  nothing false o q e k = k

  removed : (b n : Bool) (o k : Option (Blob C)) → o ≡ cond n k None → cond b None o ≡ cond n (cond b None k) None
  removed true true o k e = refl
  removed true false o k e = refl
  removed false n o k e = e

  -- other metadata of a blob, if it has a committed part
  meta : (news : News) (p q : Part C) (name : List ℕ) (c d : Option (Committed C)) → d ≡ c → IsHalfway news p q → IsNew news p name
      → (other : List ℕ) → finite.get (with_committed q name d) other ≡ cond (with_new news name other) (finite.get (with_committed p name c) other) None
  meta news p q name None d same h new other = ap (λ o. finite.get (with_committed q name o) other) same ∙ kept_both news p q name h new other
  meta news p q name (Some c) d same h new other =
      ap (λ o. finite.get (with_committed q name o) other) same
      ∙ put_both news p q name (record { committed = Some c; uncommitted = (blob_in p name).uncommitted }) (record { committed = Some c; uncommitted = (blob_in q name).uncommitted })
      (ap (λ (b : Blob C). record { committed = Some c; uncommitted = b.uncommitted }) (blob_got news p q name h new)) h other

  -- the blobs that a change leaves in both containers, if the blob that it reads is new
  blobs_step : (news : News) (n m : ℕ) (p q : Part C) (a : Act) → m ≡ n → IsHalfway news p q → IsTouched news p a
      → (other : List ℕ) → finite.get (blobs_after f m a q) other ≡ cond (news_after news a other) (finite.get (blobs_after f n a p) other) None
  blobs_step news n m p q (act.CreateContainer a) e h t other = h.blobs other
  blobs_step news n m p q (act.SetContainerMetadata a) e h t other = h.blobs other
  blobs_step news n m p q (act.SetAcl a) e h t other = h.blobs other
  blobs_step news n m p q act.DeleteContainer e h t other = nothing (news other) (finite.get finite.empty other) (finite.get finite.empty other) (finite.get-empty name_cmp other) (finite.get-empty name_cmp other)
  blobs_step news n m p q (act.PutBlob a) e h t other =
      put_both news p q a.blob
      (record { committed = Some (record { etag = n; made = a.moment; props = a.props; metadata = a.metadata; blocks = whole_block (f a.content) ∷ [] }); uncommitted = finite.empty })
      (record { committed = Some (record { etag = m; made = a.moment; props = a.props; metadata = a.metadata; blocks = whole_block (f a.content) ∷ [] }); uncommitted = finite.empty })
      (λ i. record { committed = Some (record { etag = e i; made = a.moment; props = a.props; metadata = a.metadata; blocks = whole_block (f a.content) ∷ [] }); uncommitted = finite.empty })
      h other
  blobs_step news n m p q (act.SetMetadata a) e h t other =
      meta news p q a.blob (option_map (committed_with_metadata n a) (blob_in p a.blob).committed) (option_map (committed_with_metadata m a) (blob_in q a.blob).committed)
      (λ i. option_map (committed_with_metadata (e i) a) (blob_got news p q a.blob h t i).committed) h t other
  blobs_step news n m p q (act.DeleteBlob a) e h t other =
      finite.get-remove names_total q.blobs a.blob other
      ∙ removed (eq_by_cmp name_cmp other a.blob) (news other) (finite.get q.blobs other) (finite.get p.blobs other) (h.blobs other)
      ∙ sym (ap (λ o. cond (news other) o None) (finite.get-remove names_total p.blobs a.blob other))
  blobs_step news n m p q (act.PutBlock a) e h t other =
      put_both news p q a.blob
      (record { committed = (blob_in p a.blob).committed; uncommitted = finite.insert (blob_in p a.blob).uncommitted a.id (f a.content) })
      (record { committed = (blob_in q a.blob).committed; uncommitted = finite.insert (blob_in q a.blob).uncommitted a.id (f a.content) })
      (ap (λ (b : Blob C). record { committed = b.committed; uncommitted = finite.insert b.uncommitted a.id (f a.content) }) (blob_got news p q a.blob h t)) h other
  blobs_step news n m p q (act.PutBlockList a) e h t other =
      put_both news p q a.blob
      (record { committed = Some (record { etag = n; made = a.moment; props = a.props; metadata = a.metadata; blocks = taken_blocks (blob_in p a.blob) a.entries }); uncommitted = finite.empty })
      (record { committed = Some (record { etag = m; made = a.moment; props = a.props; metadata = a.metadata; blocks = taken_blocks (blob_in q a.blob) a.entries }); uncommitted = finite.empty })
      (λ i. record { committed = Some (record { etag = e i; made = a.moment; props = a.props; metadata = a.metadata; blocks = taken_blocks (blob_got news p q a.blob h t i) a.entries }); uncommitted = finite.empty })
      h other
  blobs_step news n m p q (act.ContainerRow a) e h t other = h.blobs other
  blobs_step news n m p q (act.StoredBlob a) e h t other =
      put_both news p q a.blob
      (record { committed = option_map (committed_value f) a.committed; uncommitted = finite.from_entries (map (uncommitted_entry f) a.uncommitted) })
      (record { committed = option_map (committed_value f) a.committed; uncommitted = finite.from_entries (map (uncommitted_entry f) a.uncommitted) })
      refl h other

  -- a change of both containers keeps one of them halfway to the other, if the blob that it reads is new
  pub step : (news : News) (p q : Part C) (a : Act) → IsHalfway news p q → IsTouched news p a → IsHalfway (news_after news a) (changed f a p) (changed f a q)
  step news p q a h t = record {
    count = ap (count_after a) h.count;
    standing = λ i. standing_after (h.count i + 1) a (h.standing i);
    blobs = blobs_step news (p.count + 1) (q.count + 1) p q a (ap (λ n. n + 1) h.count) h t;
  }

  ended : (b : Bool) (o q : Option (Blob C)) → (IsSome o → b ≡ true) → q ≡ cond b o None → q ≡ o
  ended true o q new e = e
  ended false None q new e = e
  ended false (Some x) q new e = absurd (false_true (new cc))
    where
      false_true : false ≡ true → ⊥
      false_true w = cc

  -- once all blobs are new, the changes since the mark make the container
  pub all_new : (news : Option News) (p q : Part C) → IsSweptPart news p q → IsAllNew news p → q ≡ p
  all_new None p q is none = is ∙ sym none
  all_new (Some news) p q is each =
      let blobs : q.blobs ≡ p.blobs = finite.same_map names_total names_exact q.blobs p.blobs (λ name. ended (news name) (finite.get p.blobs name) (finite.get q.blobs name) (each name) (is.blobs name)) in
      λ i. record { count = is.count i; standing = is.standing i; blobs = blobs i }

-- ---- a change that fits one of both containers fits the other

module _ (f : List Piece → ℕ) (news : News) (p q : Part (List Piece)) (h : IsHalfway news p q) where
  same_blob : (name : List ℕ) → IsNew news p name → blob_in (part_value f q) name ≡ blob_in (part_value f p) name
  same_blob name new =
      blob_in-part_value f q name ∙ ap (blob_value f) (blob_got same_pieces news p q name h new) ∙ sym (blob_in-part_value f p name)

  fits_blob-same : (a : Act) → IsTouched news p a → fits_blob (part_value f q) a ≡ fits_blob (part_value f p) a
  fits_blob-same (act.PutBlock a) t = ap (λ (b : Blob ℕ). is_none (block_fault a.id b.uncommitted)) (same_blob a.blob t)
  fits_blob-same (act.PutBlockList a) t = ap (λ (b : Blob ℕ). is_none (entries_fault b a.entries)) (same_blob a.blob t)
  fits_blob-same (act.CreateContainer a) t = refl
  fits_blob-same (act.SetContainerMetadata a) t = refl
  fits_blob-same (act.SetAcl a) t = refl
  fits_blob-same act.DeleteContainer t = refl
  fits_blob-same (act.PutBlob a) t = refl
  fits_blob-same (act.SetMetadata a) t = refl
  fits_blob-same (act.DeleteBlob a) t = refl
  fits_blob-same (act.ContainerRow a) t = refl
  fits_blob-same (act.StoredBlob a) t = refl

  -- each change since the mark fits in turn
  pub fits_same : (a : Act) → IsTouched news p a → fits (part_value f q) a ≡ fits (part_value f p) a
  fits_same a t = λ i. is_row a || ((is_some (h.standing i) || creates a) && nat_lt (h.count i) count_limit && fits_blob-same a t i)

-- ---- the own row of a container, in memory

-- a world does not change if it takes the own row of a container that it has
pub own_row_keeps : (w : World (List Piece)) (key : Key) (p : Part (List Piece)) → finite.get w key ≡ Some p
    → changed_in same_pieces w (record { key = key; act = act.ContainerRow (container_row_of p) }) ≡ w
own_row_keeps w key p has =
    let own : part_at w key ≡ p = ap (λ (o : Option (Part (List Piece))). unwrap_or o no_part) has in
    ap (λ (q : Part (List Piece)). finite.insert w key (changed same_pieces (act.ContainerRow (container_row_of p)) q)) own ∙ same_world w key p has
