-- What changes leave, take away and give: look-ups in the blobs that a change leaves.
use Rattle.std.proofs.Common.{◌≡◌, ℕ, ◌+◌, ◌≤◌, arith, subst, Bool, true, false, cond, List, [], ◌∷◌, ◌++◌, All, Option, Some, None, IfSome, refl, sym, ap, ◌∙◌, map, unwrap_or}
use Rattle.std.specs.Prelude.{find, nat_eq}
use Rattle.std.specs.Cmp.{eq_by_cmp_equiv}
use Rattle.std.specs.Cmp.Lexicographic.{pointwise, texts_ties}
use Rattle.std.proofs.lemmas.Slice.Eq.{bytes_eq-Decides}
use Rattle.std.proofs.lemmas.List.Elements.{All-head, All-tail}
use Rattle.std.specs.Option.{option_map, option_and_then, option_to_list}
use Rattle.std.specs.FinMap as finite
use Rattle.std.specs.FinMap.{FinMap}
use Rattle.stamp_values.specs.Order.{name_cmp, names_total, names_exact}
use Rattle.stamp_types.specs.World.{Blob, Part, no_blob, blob_in, has_block_id, block_of, committed_content, content_from, taken_blocks, with_committed, committed_with_metadata, uncommitted_entry, changed}
use Rattle.stamp_types.specs.EffectKinds.{AreThere, EtagsAtMost, blob_dated, blob_named, blob_stamp, blocks_and_props, listed_content, stamp_if}
use Rattle.stamp_values.specs.declared.block.Taken.{Taken}
use Rattle.stamp_values.specs.declared.block.BlockSource.TheVariants as source
use Rattle.stamp_types.specs.declared.piece.Piece.{Piece}
use Rattle.stamp_types.specs.declared.committed.Block.{Block}
use Rattle.stamp_types.specs.declared.committed.Committed.{Committed}
use Rattle.stamp_types.specs.declared.committed.UncommittedBlock.{UncommittedBlock}
use Rattle.stamp_types.specs.declared.act.Act.{Act}
use Rattle.stamp_types.specs.declared.act.Act.TheVariants as act
use Rattle.stamp_types.specs.declared.act.PutBlob.{PutBlob}
use Rattle.stamp_types.specs.declared.act.PutBlockList.{PutBlockList}
use Rattle.stamp_types.specs.declared.act.SetMetadata.{SetMetadata}
use Rattle.stamp_types.specs.declared.standing.Standing.{Standing}
use Rattle.stamp_types.specs.ActKinds.{is_row}
use Rattle.stamp_types.specs.World.{standing_with_metadata, standing_with_acl}
use Rattle.stamp_types.proofs.WorldLemmas.{map-append, equal_if_is_eq}

-- ---- look-ups in a map by names

first_of : {X : Type 0} (b : Bool) (x y : Option X) → b ≡ true → cond b x y ≡ x
first_of true x y h = refl
first_of false x y h = cc

second_of : {X : Type 0} (b : Bool) (x y : Option X) → (b ≡ true → ⊥) → cond b x y ≡ y
second_of true x y h = absurd (h refl)
second_of false x y h = refl

module _ {X : Type 0} (m : FinMap name_cmp X) where
  pub get-insert_same : (k : List ℕ) (v : X) → finite.get (finite.insert m k v) k ≡ Some v
  get-insert_same k v = finite.get-insert names_total m k v k ∙ first_of _ _ _ ((eq_by_cmp_equiv names_total).refl k)

  pub get-insert_other : (k : List ℕ) (v : X) (q : List ℕ) → (q ≡ k → ⊥) → finite.get (finite.insert m k v) q ≡ finite.get m q
  get-insert_other k v q other = finite.get-insert names_total m k v q ∙ second_of _ _ _ (λ h. other (names_exact q k (equal_if_is_eq _ h)))

  pub get-remove_same : (k : List ℕ) → finite.get (finite.remove m k) k ≡ None
  get-remove_same k = finite.get-remove names_total m k k ∙ first_of _ _ _ ((eq_by_cmp_equiv names_total).refl k)

  pub get-remove_other : (k q : List ℕ) → (q ≡ k → ⊥) → finite.get (finite.remove m k) q ≡ finite.get m q
  get-remove_other k q other = finite.get-remove names_total m k q ∙ second_of _ _ _ (λ h. other (names_exact q k (equal_if_is_eq _ h)))

-- ---- the blob that a change is about

module _ {C : Type 0} (f : List Piece → C) (p : Part C) where
  same_container : (a : Act) (name : List ℕ) → blob_named a ≡ Some name → (changed f a p).standing ≡ p.standing
  same_container (act.CreateContainer a) name h = cc
  same_container (act.SetContainerMetadata a) name h = cc
  same_container (act.SetAcl a) name h = cc
  same_container act.DeleteContainer name h = cc
  same_container (act.ContainerRow a) name h = cc
  same_container other name h = refl

  metadata_of_others : (a : SetMetadata) (c : Option (Committed C)) (other : List ℕ) → (other ≡ a.blob → ⊥) → finite.get (with_committed p a.blob c) other ≡ finite.get p.blobs other
  metadata_of_others a None other apart = refl
  metadata_of_others a (Some c) other apart = get-insert_other p.blobs a.blob _ other apart

  -- a change of a blob leaves each blob of another name
  pub same_others : (a : Act) (name other : List ℕ) → blob_named a ≡ Some name → (other ≡ name → ⊥) → finite.get (changed f a p).blobs other ≡ finite.get p.blobs other
  same_others (act.CreateContainer a) name other h apart = cc
  same_others (act.SetContainerMetadata a) name other h apart = cc
  same_others (act.SetAcl a) name other h apart = cc
  same_others act.DeleteContainer name other h apart = cc
  same_others (act.PutBlob a) name other h apart = get-insert_other p.blobs a.blob _ other (λ e. apart cc)
  same_others (act.SetMetadata a) name other h apart = metadata_of_others a _ other (λ e. apart cc)
  same_others (act.DeleteBlob a) name other h apart = get-remove_other p.blobs a.blob other (λ e. apart cc)
  same_others (act.PutBlock a) name other h apart = get-insert_other p.blobs a.blob _ other (λ e. apart cc)
  same_others (act.PutBlockList a) name other h apart = get-insert_other p.blobs a.blob _ other (λ e. apart cc)
  same_others (act.ContainerRow a) name other h apart = cc
  same_others (act.StoredBlob a) name other h apart = get-insert_other p.blobs a.blob _ other (λ e. apart cc)

  -- the blob under the name of a blob that was put is the blob that was put
  pub blob_in-insert : (count : ℕ) (standing : Option Standing) (name : List ℕ) (b : Blob C) → blob_in (record { count = count; standing = standing; blobs = finite.insert p.blobs name b }) name ≡ b
  blob_in-insert count standing name b = ap (λ o. unwrap_or o no_blob) (get-insert_same p.blobs name b)

  -- ---- Set Blob Metadata

  with_metadata : (count : ℕ) (standing : Option Standing) (a : SetMetadata) (n : ℕ) (o : Option (Committed C)) → (blob_in p a.blob).committed ≡ o
      → blob_in (record { count = count; standing = standing; blobs = with_committed p a.blob (option_map (committed_with_metadata n a) o) }) a.blob
      ≡ record { committed = option_map (committed_with_metadata n a) o; uncommitted = (blob_in p a.blob).uncommitted }
  with_metadata count standing a n None h = λ i. record { committed = h i; uncommitted = (blob_in p a.blob).uncommitted }
  with_metadata count standing a n (Some c) h = blob_in-insert count standing a.blob _

  pub blob_in-set_metadata : (a : SetMetadata) → blob_in (changed f (act.SetMetadata a) p) a.blob
      ≡ record { committed = option_map (committed_with_metadata (p.count + 1) a) (blob_in p a.blob).committed; uncommitted = (blob_in p a.blob).uncommitted }
  blob_in-set_metadata a = with_metadata (p.count + 1) p.standing a (p.count + 1) (blob_in p a.blob).committed refl

  pub same_kept : (n : ℕ) (a : SetMetadata) (o : Option (Committed C)) → option_map blocks_and_props (option_map (committed_with_metadata n a) o) ≡ option_map blocks_and_props o
  same_kept n a None = refl
  same_kept n a (Some c) = refl

  pub new_metadata : (n : ℕ) (a : SetMetadata) (o : Option (Committed C)) → option_map (λ c. c.metadata) (option_map (committed_with_metadata n a) o) ≡ option_map (λ c. a.metadata) o
  new_metadata n a None = refl
  new_metadata n a (Some c) = refl

  -- ---- ETags

  pub put_dated : (a : PutBlob) → option_map blob_stamp (blob_in (changed f (act.PutBlob a) p) a.blob).committed ≡ stamp_if (p.count + 1) a.moment (blob_in (changed f (act.PutBlob a) p) a.blob).committed
  put_dated a =
      let put = blob_in-insert (p.count + 1) p.standing a.blob _ in
      ap (λ (b : Blob C). option_map blob_stamp b.committed) put ∙ sym (ap (λ (b : Blob C). stamp_if (p.count + 1) a.moment b.committed) put)

  pub commit_dated : (a : PutBlockList) → option_map blob_stamp (blob_in (changed f (act.PutBlockList a) p) a.blob).committed ≡ stamp_if (p.count + 1) a.moment (blob_in (changed f (act.PutBlockList a) p) a.blob).committed
  commit_dated a =
      let put = blob_in-insert (p.count + 1) p.standing a.blob _ in
      ap (λ (b : Blob C). option_map blob_stamp b.committed) put ∙ sym (ap (λ (b : Blob C). stamp_if (p.count + 1) a.moment b.committed) put)

  metadata_stamp : (n : ℕ) (a : SetMetadata) (o : Option (Committed C)) → option_map blob_stamp (option_map (committed_with_metadata n a) o) ≡ stamp_if n a.moment (option_map (committed_with_metadata n a) o)
  metadata_stamp n a None = refl
  metadata_stamp n a (Some c) = refl

  pub metadata_dated : (a : SetMetadata) → option_map blob_stamp (blob_in (changed f (act.SetMetadata a) p) a.blob).committed ≡ stamp_if (p.count + 1) a.moment (blob_in (changed f (act.SetMetadata a) p) a.blob).committed
  metadata_dated a =
      let set = blob_in-set_metadata a in
      ap (λ (b : Blob C). option_map blob_stamp b.committed) set
      ∙ metadata_stamp (p.count + 1) a (blob_in p a.blob).committed
      ∙ sym (ap (λ (b : Blob C). stamp_if (p.count + 1) a.moment b.committed) set)

  abbrev Dated : Act → List ℕ → ℕ → Type 0
  Dated a name t = option_map blob_stamp (blob_in (changed f a p) name).committed ≡ stamp_if (p.count + 1) t (blob_in (changed f a p) name).committed

  dated_by : (a : Act) (own name : List ℕ) (moment t : ℕ) → Dated a own moment → own ≡ name → moment ≡ t → Dated a name t
  dated_by a own name moment t d same_name same_moment = subst (λ n. Dated a n t) same_name (subst (λ m. Dated a own m) same_moment d)

  pub blob_is_dated : (a : Act) (name : List ℕ) (t : ℕ) → blob_named a ≡ Some name → blob_dated a ≡ Some t → Dated a name t
  blob_is_dated (act.PutBlob a) name t n d = let same : a.blob ≡ name = cc in let at : a.moment ≡ t = cc in dated_by (act.PutBlob a) a.blob name a.moment t (put_dated a) same at
  blob_is_dated (act.SetMetadata a) name t n d = let same : a.blob ≡ name = cc in let at : a.moment ≡ t = cc in dated_by (act.SetMetadata a) a.blob name a.moment t (metadata_dated a) same at
  blob_is_dated (act.PutBlockList a) name t n d = let same : a.blob ≡ name = cc in let at : a.moment ≡ t = cc in dated_by (act.PutBlockList a) a.blob name a.moment t (commit_dated a) same at
  blob_is_dated (act.CreateContainer a) name t n d = cc
  blob_is_dated (act.SetContainerMetadata a) name t n d = cc
  blob_is_dated (act.SetAcl a) name t n d = cc
  blob_is_dated act.DeleteContainer name t n d = cc
  blob_is_dated (act.DeleteBlob a) name t n d = cc
  blob_is_dated (act.PutBlock a) name t n d = cc
  blob_is_dated (act.ContainerRow a) name t n d = cc
  blob_is_dated (act.StoredBlob a) name t n d = cc

-- ---- no ETag is over the count

module _ {C : Type 0} where
  abbrev AtMost : ℕ → Option (Committed C) → Type 0
  AtMost n o = IfSome o (λ c. c.etag ≤ n)

  more : (n : ℕ) (o : Option (Committed C)) → AtMost n o → AtMost (n + 1) o
  more n None h = h
  more n (Some c) h = omega arith

  chosen : (n : ℕ) (b : Bool) (x : Blob C) (o : Option (Blob C)) → AtMost n x.committed → AtMost n (unwrap_or o no_blob).committed → AtMost n (unwrap_or (cond b (Some x) o) no_blob).committed
  chosen n true x o new old = new
  chosen n false x o new old = old

  removed : (n : ℕ) (b : Bool) (o : Option (Blob C)) → AtMost n (unwrap_or o no_blob).committed → AtMost n (unwrap_or (cond b None o) no_blob).committed
  removed n true o old = tt
  removed n false o old = old

  abbrev AllAtMost : ℕ → FinMap name_cmp (Blob C) → Type 0
  AllAtMost n m = (name : List ℕ) → AtMost n (unwrap_or (finite.get m name) no_blob).committed

  all_more : (n : ℕ) (m : FinMap name_cmp (Blob C)) → AllAtMost n m → AllAtMost (n + 1) m
  all_more n m h = λ name. more n _ (h name)

  all_inserted : (n : ℕ) (m : FinMap name_cmp (Blob C)) (k : List ℕ) (x : Blob C) → AtMost n x.committed → AllAtMost n m → AllAtMost n (finite.insert m k x)
  all_inserted n m k x new old = λ name.
      subst (λ (o : Option (Blob C)). AtMost n (unwrap_or o no_blob).committed) (sym (finite.get-insert names_total m k x name)) (chosen n _ x (finite.get m name) new (old name))

  all_removed : (n : ℕ) (m : FinMap name_cmp (Blob C)) (k : List ℕ) → AllAtMost n m → AllAtMost n (finite.remove m k)
  all_removed n m k old = λ name.
      subst (λ (o : Option (Blob C)). AtMost n (unwrap_or o no_blob).committed) (sym (finite.get-remove names_total m k name)) (removed n _ (finite.get m name) (old name))

  all_with_metadata : (n : ℕ) (p : Part C) (a : SetMetadata) (o : Option (Committed C)) → AllAtMost n p.blobs → AllAtMost n (with_committed p a.blob (option_map (committed_with_metadata n a) o))
  all_with_metadata n p a None old = old
  all_with_metadata n p a (Some c) old = all_inserted n p.blobs a.blob _ (omega arith) old

module _ {C : Type 0} (f : List Piece → C) (p : Part C) (h : EtagsAtMost p.count p) where
  old_blobs : AllAtMost (p.count + 1) p.blobs
  old_blobs = all_more p.count p.blobs h.blobs

  blobs_bounded : (a : Act) → is_row a ≡ false → AllAtMost (p.count + 1) (changed f a p).blobs
  blobs_bounded (act.CreateContainer a) r = old_blobs
  blobs_bounded (act.SetContainerMetadata a) r = old_blobs
  blobs_bounded (act.SetAcl a) r = old_blobs
  blobs_bounded act.DeleteContainer r = λ name. subst (λ (o : Option (Blob C)). AtMost (p.count + 1) (unwrap_or o no_blob).committed) (sym (finite.get-empty name_cmp name)) tt
  blobs_bounded (act.PutBlob a) r = all_inserted (p.count + 1) p.blobs a.blob _ (omega arith) old_blobs
  blobs_bounded (act.SetMetadata a) r = all_with_metadata (p.count + 1) p a _ old_blobs
  blobs_bounded (act.DeleteBlob a) r = all_removed (p.count + 1) p.blobs a.blob old_blobs
  blobs_bounded (act.PutBlock a) r = all_inserted (p.count + 1) p.blobs a.blob _ (old_blobs a.blob) old_blobs
  blobs_bounded (act.PutBlockList a) r = all_inserted (p.count + 1) p.blobs a.blob _ (omega arith) old_blobs
  blobs_bounded (act.ContainerRow a) r = cc
  blobs_bounded (act.StoredBlob a) r = cc

  abbrev StandingAtMost : ℕ → Option Standing → Type 0
  StandingAtMost n o = IfSome o (λ s. s.etag ≤ n)

  standing_more : (o : Option Standing) → StandingAtMost p.count o → StandingAtMost (p.count + 1) o
  standing_more None s = s
  standing_more (Some t) s = omega arith

  standing_with_metadata_bounded : (n : ℕ) (a : _) (o : Option Standing) → StandingAtMost n (option_map (standing_with_metadata n a) o)
  standing_with_metadata_bounded n a None = tt
  standing_with_metadata_bounded n a (Some s) = omega arith

  standing_with_acl_bounded : (n : ℕ) (a : _) (o : Option Standing) → StandingAtMost n (option_map (standing_with_acl n a) o)
  standing_with_acl_bounded n a None = tt
  standing_with_acl_bounded n a (Some s) = omega arith

  container_bounded : (a : Act) → is_row a ≡ false → StandingAtMost (p.count + 1) (changed f a p).standing
  container_bounded (act.CreateContainer a) r = omega arith
  container_bounded (act.SetContainerMetadata a) r = standing_with_metadata_bounded (p.count + 1) a p.standing
  container_bounded (act.SetAcl a) r = standing_with_acl_bounded (p.count + 1) a p.standing
  container_bounded act.DeleteContainer r = tt
  container_bounded (act.ContainerRow a) r = cc
  container_bounded other r = standing_more p.standing h.container

  pub etags_bounded : (a : Act) → is_row a ≡ false → EtagsAtMost (p.count + 1) (changed f a p)
  etags_bounded a r = record { container = container_bounded a r; blobs = blobs_bounded a r }

-- ---- Put Block List

is_false : (b : Bool) → (b ≡ true → ⊥) → b ≡ false
is_false true n = absurd (n refl)
is_false false n = refl

not_this : (id : List ℕ) (o : Option (List ℕ)) → (o ≡ Some id → ⊥) → unwrap_or (option_map (λ other. pointwise nat_eq id other) o) false ≡ false
not_this id None apart = refl
not_this id (Some other) apart = is_false (pointwise nat_eq id other) (λ t. apart (ap (λ x. Some x) (sym ((bytes_eq-Decides id other).0 t))))

this_one : (id : List ℕ) → pointwise nat_eq id id ≡ true
this_one id = (bytes_eq-Decides id id).1 refl

module _ {C : Type 0} where
  one_id : (id : List ℕ) (o : Option C) → (o ≡ None → ⊥) → map (λ (block : Block C). block.id) (option_to_list (option_map (block_of id) o)) ≡ Some id ∷ []
  one_id id None there = absurd (there refl)
  one_id id (Some c) there = refl

  one_content : (id : List ℕ) (o : Option C) → (o ≡ None → ⊥) → map (λ (block : Block C). Some block.content) (option_to_list (option_map (block_of id) o)) ≡ o ∷ []
  one_content id None there = absurd (there refl)
  one_content id (Some c) there = refl

  entry_there : (b : Blob C) (e : Taken) (es : List Taken) → AreThere b (e ∷ es) → content_from e.from e.id b ≡ None → ⊥
  entry_there b e es there = All-head (λ e. content_from e.from e.id b ≡ None → ⊥) e es there

  others_there : (b : Blob C) (e : Taken) (es : List Taken) → AreThere b (e ∷ es) → AreThere b es
  others_there b e es there = All-tail (λ e. content_from e.from e.id b ≡ None → ⊥) e es there

  pub taken_ids : (b : Blob C) (es : List Taken) → AreThere b es → map (λ block. block.id) (taken_blocks b es) ≡ map (λ e. Some e.id) es
  taken_ids b [] there = refl
  taken_ids b (e ∷ es) there =
      map-append (λ (block : Block C). block.id) (option_to_list (option_map (block_of e.id) (content_from e.from e.id b))) (taken_blocks b es)
      ∙ (λ i. one_id e.id (content_from e.from e.id b) (entry_there b e es there) i ++ taken_ids b es (others_there b e es there) i)

  pub taken_contents : (b : Blob C) (es : List Taken) → AreThere b es → map (λ block. Some block.content) (taken_blocks b es) ≡ map (λ e. content_from e.from e.id b) es
  taken_contents b [] there = refl
  taken_contents b (e ∷ es) there =
      map-append (λ (block : Block C). Some block.content) (option_to_list (option_map (block_of e.id) (content_from e.from e.id b))) (taken_blocks b es)
      ∙ (λ i. one_content e.id (content_from e.from e.id b) (entry_there b e es there) i ++ taken_contents b es (others_there b e es there) i)

  pub first_committed : (id : List ℕ) (before after : List (Block C)) (block : Block C) → block.id ≡ Some id → All (λ other. other.id ≡ Some id → ⊥) before → find (has_block_id id) (before ++ block ∷ after) ≡ Some block
  first_committed id [] after block own apart =
      ap (λ b. cond b (Some block) (find (has_block_id id) after)) (ap (λ o. unwrap_or (option_map (λ other. pointwise nat_eq id other) o) false) own ∙ this_one id)
  first_committed id (other ∷ before) after block own apart =
      ap (λ b. cond b (Some other) (find (has_block_id id) (before ++ block ∷ after))) (not_this id other.id (All-head (λ (one : Block C). one.id ≡ Some id → ⊥) other before apart))
      ∙ first_committed id before after block own (All-tail (λ (one : Block C). one.id ≡ Some id → ⊥) other before apart)

  pub committed_is_first : (b : Blob C) (c : Committed C) (before after : List (Block C)) (block : Block C) (id : List ℕ) → b.committed ≡ Some c → c.blocks ≡ before ++ block ∷ after → block.id ≡ Some id → All (λ other. other.id ≡ Some id → ⊥) before → content_from source.Committed id b ≡ Some block.content
  committed_is_first b c before after block id has blocks own apart =
      ap (λ o. option_and_then (committed_content id) o) has
      ∙ ap (λ bs. option_map (λ (one : Block C). one.content) (find (has_block_id id) bs)) blocks
      ∙ ap (λ o. option_map (λ (one : Block C). one.content) o) (first_committed id before after block own apart)

-- ---- the row of a stored blob

module _ {C : Type 0} (f : List Piece → C) where
  next : (u : UncommittedBlock) (us : List UncommittedBlock) (id : List ℕ) (b : Bool) → finite.find name_cmp id (map (uncommitted_entry f) us) ≡ listed_content f id us
      → cond b (Some (f u.content)) (finite.find name_cmp id (map (uncommitted_entry f) us)) ≡ option_map (λ (w : UncommittedBlock). f w.content) (cond b (Some u) (find (λ (w : UncommittedBlock). pointwise nat_eq id w.id) us))
  next u us id true h = refl
  next u us id false h = h

  pub listed : (id : List ℕ) (us : List UncommittedBlock) → finite.find name_cmp id (map (uncommitted_entry f) us) ≡ listed_content f id us
  listed id [] = refl
  listed id (u ∷ us) =
      ap (λ b. cond b (Some (f u.content)) (finite.find name_cmp id (map (uncommitted_entry f) us))) (sym (texts_ties id u.id))
      ∙ next u us id (pointwise nat_eq id u.id) (listed id us)
