-- What a request leaves of a blob, and what requests in turn leave of it.
use Rattle.std.proofs.Common.{◌≡◌, ℕ, ◌⊎◌, inl, inr, Bool, true, false, List, [], ◌∷◌, Option, Some, None, IfSome, refl, sym, ap, ◌∙◌, subst, unwrap_or}
use Rattle.std.specs.FinMap as finite
use Rattle.std.specs.Option.{option_map, option_and_then}
use Rattle.std.specs.Cmp.{eq_by_cmp_equiv}
use Rattle.std.specs.Ordering.{eq_by_cmp}
use Rattle.stamp_values.specs.Order.{key_cmp, keys_total, keys_exact, name_cmp, names_total, names_exact}
use Rattle.stamp_values.specs.declared.key.Key.{Key}
use Rattle.stamp_values.specs.declared.op.Op.{Op}
use Rattle.stamp_values.specs.declared.op.Op.TheVariants as op
use Rattle.stamp_types.specs.declared.act.Act.{Act}
use Rattle.stamp_types.specs.declared.act.Act.TheVariants as act
use Rattle.stamp_types.specs.declared.act.DeleteBlob.{DeleteBlob}
use Rattle.stamp_types.specs.declared.act.SetMetadata.{SetMetadata}
use Rattle.stamp_types.specs.EffectKinds.{blob_named, blocks_and_props}
use Rattle.stamp_types.specs.Pieces.{held}
use Rattle.stamp_types.specs.Requests.{Asked}
use Rattle.stamp_types.specs.World.{Blob, Part, World, no_blob, blob_in, part_at, changed}
use Rattle.stamp_types.proofs.EffectLemmas.{blob_in-set_metadata, get-remove_same, same_kept, same_others}
use Rattle.stamp_types.proofs.WorldLemmas.{equal_if_is_eq}
use Rattle.access_rules.specs.declared.keys.Keys.{Keys}
use Rattle.range_rows.specs.SentContent.{byte_count}
use Rattle.range_rows.specs.RequestChanges.{delete_blob, put_blob, put_block, put_block_list, set_metadata, act_by}
use Rattle.stamp_model.specs.Blocks.{takes_blocks}
use Rattle.stamp_model.specs.Effects.{effect}
use Rattle.stamp_model.specs.Histories.{makes_or_deletes}
use Rattle.stamp_model.specs.Kept.{GivesNoContent, HoldUnlessRefused, IsRefusedAt, LeavesBlob, LeavesContent, LeavesSeen, alters_blob, gives_content, writes_blob}
use Rattle.stamp_model.specs.Runs.{Timed, world_after_one, world_after_all}
use Rattle.stamp_model.proofs.EffectLemmas.{part_at-effect_others, related-after_act, related-effect, said_of_block, said_of_named}
use Rattle.stamp_model.proofs.ReplyLemmas.{effect-named, unmapped}
use Rattle.stamp_model.proofs.SeenLemmas.{block_unseen}

-- ---- two names are the same, or they are not; and so are two keys

decide_name : (m n : List ℕ) → (m ≡ n) ⊎ (m ≡ n → ⊥)
decide_name m n = by_order (eq_by_cmp name_cmp m n) refl
  where
    by_order : (b : Bool) → eq_by_cmp name_cmp m n ≡ b → (m ≡ n) ⊎ (m ≡ n → ⊥)
    by_order true e = inl (names_exact m n (equal_if_is_eq (name_cmp m n) e))
    by_order false e = inr (λ same. let tied : true ≡ false = sym ((eq_by_cmp_equiv names_total).refl n) ∙ ap (λ (x : List ℕ). eq_by_cmp name_cmp x n) (sym same) ∙ e in cc)

decide_key : (k j : Key) → (k ≡ j) ⊎ (k ≡ j → ⊥)
decide_key k j = by_order (eq_by_cmp key_cmp k j) refl
  where
    by_order : (b : Bool) → eq_by_cmp key_cmp k j ≡ b → (k ≡ j) ⊎ (k ≡ j → ⊥)
    by_order true e = inl (keys_exact k j (equal_if_is_eq (key_cmp k j) e))
    by_order false e = inr (λ same. let tied : true ≡ false = sym ((eq_by_cmp_equiv keys_total).refl j) ∙ ap (λ (x : Key). eq_by_cmp key_cmp x j) (sym same) ∙ e in cc)

-- ---- what an act leaves of a blob

module _ (p : Part (List ℕ)) (name : List ℕ) where
  abbrev SameBlob : Act → Type 0
  SameBlob a = blob_in (changed held a p) name ≡ blob_in p name

  abbrev SameSeen : Act → Type 0
  SameSeen a = (blob_in (changed held a p) name).committed ≡ (blob_in p name).committed

  abbrev SameContent : Act → Type 0
  SameContent a = option_map blocks_and_props (blob_in (changed held a p) name).committed ≡ option_map blocks_and_props (blob_in p name).committed

  abbrev StaysUnseen : Act → Type 0
  StaysUnseen a = (blob_in p name).committed ≡ None → (blob_in (changed held a p) name).committed ≡ None

  -- an act on a blob of another name
  other_blob : (a : Act) (other : List ℕ) → blob_named a ≡ Some other → (name ≡ other → ⊥) → SameBlob a
  other_blob a other named apart = ap (λ (o : Option (Blob (List ℕ))). unwrap_or o no_blob) (same_others held p a other name named apart)

  seen_if_same : (a : Act) → SameBlob a → SameSeen a
  seen_if_same a same = ap (λ (b : Blob (List ℕ)). b.committed) same

  content_if_seen : (a : Act) → SameSeen a → SameContent a
  content_if_seen a same = ap (option_map blocks_and_props) same

  unseen_if_content : (a : Act) → SameContent a → StaysUnseen a
  unseen_if_content a same none = unmapped blocks_and_props (blob_in (changed held a p) name).committed (same ∙ ap (option_map blocks_and_props) none)

  content_metadata : (a : SetMetadata) → SameContent (act.SetMetadata a)
  content_metadata a = by_name (decide_name name a.blob)
    where
      by_name : (name ≡ a.blob) ⊎ (name ≡ a.blob → ⊥) → SameContent (act.SetMetadata a)
      by_name (inl same) =
          subst (λ (n : List ℕ). option_map blocks_and_props (blob_in (changed held (act.SetMetadata a) p) n).committed ≡ option_map blocks_and_props (blob_in p n).committed) (sym same)
          (ap (λ (b : Blob (List ℕ)). option_map blocks_and_props b.committed) (blob_in-set_metadata held p a) ∙ same_kept held p _ a (blob_in p a.blob).committed)
      by_name (inr apart) =
          content_if_seen (act.SetMetadata a) (seen_if_same (act.SetMetadata a) (other_blob (act.SetMetadata a) a.blob refl apart))

  unseen_deleted : (a : DeleteBlob) → StaysUnseen (act.DeleteBlob a)
  unseen_deleted a none = by_name (decide_name name a.blob)
    where
      by_name : (name ≡ a.blob) ⊎ (name ≡ a.blob → ⊥) → (blob_in (changed held (act.DeleteBlob a) p) name).committed ≡ None
      by_name (inl same) =
          ap (λ (n : List ℕ). (blob_in (changed held (act.DeleteBlob a) p) n).committed) same
          ∙ ap (λ (o : Option (Blob (List ℕ))). (unwrap_or o no_blob).committed) (get-remove_same p.blobs a.blob)
      by_name (inr apart) = seen_if_same (act.DeleteBlob a) (other_blob (act.DeleteBlob a) a.blob refl apart) ∙ none

  module _ (z : Part ℕ) (q : Asked) (t : ℕ) where
    -- what is said of the act of the name and of the value that are given, if both are given
    of_both : {X : Type 0} (said : Act → Type 0) (make : List ℕ → X → Act) (blob : Option (List ℕ)) (given : Option X)
        → ((n : List ℕ) (x : X) → blob ≡ Some n → said (make n x)) → IfSome (option_and_then (λ n. option_map (λ x. make n x) given) blob) said
    of_both said make None given each = tt
    of_both said make (Some n) None each = tt
    of_both said make (Some n) (Some x) each = each n x refl

    of_name : (said : Act → Type 0) (make : List ℕ → Act) (blob : Option (List ℕ)) → ((n : List ℕ) → blob ≡ Some n → said (make n)) → IfSome (option_map make blob) said
    of_name said make None each = tt
    of_name said make (Some n) each = each n refl

    -- a request that may not be on this blob is on another blob
    apart_from : (n : List ℕ) → q.ask.blob ≡ Some n → (q.ask.blob ≡ Some name → true ≡ false) → name ≡ n → ⊥
    apart_from n named never same = let wrong : true ≡ false = never (named ∙ ap (λ (m : List ℕ). Some m) (sym same)) in cc

    module _ (said : Act → Type 0) (said_if_same : (a : Act) → SameBlob a → said a) (never : q.ask.blob ≡ Some name → true ≡ false) where
      other_act : (a : Act) (n : List ℕ) → blob_named a ≡ Some n → q.ask.blob ≡ Some n → said a
      other_act a n about named = said_if_same a (other_blob a n about (apart_from n named never))

      -- what is said of an act that leaves the blob is said of each act of a request on another blob
      other_put : IfSome (act_by op.PutBlob z q t) said
      other_put = of_both said (λ n kept. act.PutBlob (put_blob q t n kept)) q.ask.blob q.ask.args.kept (λ n kept named. other_act (act.PutBlob (put_blob q t n kept)) n refl named)

      other_metadata : IfSome (act_by op.SetMetadata z q t) said
      other_metadata = of_name said (λ n. act.SetMetadata (set_metadata q t n)) q.ask.blob (λ n named. other_act (act.SetMetadata (set_metadata q t n)) n refl named)

      other_deletion : IfSome (act_by op.DeleteBlob z q t) said
      other_deletion = of_name said (λ n. act.DeleteBlob (delete_blob n)) q.ask.blob (λ n named. other_act (act.DeleteBlob (delete_blob n)) n refl named)

      other_block : IfSome (act_by op.PutBlock z q t) said
      other_block = of_both said (λ n id. act.PutBlock (put_block q n id)) q.ask.blob q.ask.args.block (λ n id named. other_act (act.PutBlock (put_block q n id)) n refl named)

      other_list : IfSome (act_by op.PutBlockList z q t) said
      other_list =
          of_both said (λ n kept. act.PutBlockList (put_block_list (blob_in z n) q t n kept)) q.ask.blob q.ask.args.kept
          (λ n kept named. other_act (act.PutBlockList (put_block_list (blob_in z n) q t n kept)) n refl named)

    -- a request of this operation leaves the blob
    act-leaves : (o : Op) → makes_or_deletes o ≡ false → (q.ask.blob ≡ Some name → writes_blob o ≡ false) → IfSome (act_by o z q t) SameBlob
    act-leaves op.CreateContainer stands unwritten = cc
    act-leaves op.SetContainerMetadata stands unwritten = refl
    act-leaves op.SetAcl stands unwritten = refl
    act-leaves op.DeleteContainer stands unwritten = cc
    act-leaves op.PutBlob stands unwritten = other_put SameBlob (λ a same. same) unwritten
    act-leaves op.SetMetadata stands unwritten = other_metadata SameBlob (λ a same. same) unwritten
    act-leaves op.DeleteBlob stands unwritten = other_deletion SameBlob (λ a same. same) unwritten
    act-leaves op.PutBlock stands unwritten = other_block SameBlob (λ a same. same) unwritten
    act-leaves op.PutBlockList stands unwritten = other_list SameBlob (λ a same. same) unwritten
    act-leaves other stands unwritten = tt

    -- a request of this operation leaves what readers see of the blob
    act-leaves_seen : (o : Op) → makes_or_deletes o ≡ false → (q.ask.blob ≡ Some name → alters_blob o ≡ false) → IfSome (act_by o z q t) SameSeen
    act-leaves_seen op.CreateContainer stands unaltered = cc
    act-leaves_seen op.SetContainerMetadata stands unaltered = refl
    act-leaves_seen op.SetAcl stands unaltered = refl
    act-leaves_seen op.DeleteContainer stands unaltered = cc
    act-leaves_seen op.PutBlob stands unaltered = other_put SameSeen seen_if_same unaltered
    act-leaves_seen op.SetMetadata stands unaltered = other_metadata SameSeen seen_if_same unaltered
    act-leaves_seen op.DeleteBlob stands unaltered = other_deletion SameSeen seen_if_same unaltered
    act-leaves_seen op.PutBlock stands unaltered = said_of_block SameSeen (λ a. sym ((block_unseen p a).committed name)) q q.ask.blob q.ask.args.block
    act-leaves_seen op.PutBlockList stands unaltered = other_list SameSeen seen_if_same unaltered
    act-leaves_seen other stands unaltered = tt

    -- a request of this operation leaves the content of the blob
    act-leaves_content : (o : Op) → makes_or_deletes o ≡ false → (q.ask.blob ≡ Some name → takes_blocks o ≡ false) → IfSome (act_by o z q t) SameContent
    act-leaves_content op.CreateContainer stands untaken = cc
    act-leaves_content op.SetContainerMetadata stands untaken = refl
    act-leaves_content op.SetAcl stands untaken = refl
    act-leaves_content op.DeleteContainer stands untaken = cc
    act-leaves_content op.PutBlob stands untaken = other_put SameContent (λ a same. content_if_seen a (seen_if_same a same)) untaken
    act-leaves_content op.SetMetadata stands untaken = said_of_named SameContent (λ n. act.SetMetadata (set_metadata q t n)) (λ n. content_metadata (set_metadata q t n)) q.ask.blob
    act-leaves_content op.DeleteBlob stands untaken = other_deletion SameContent (λ a same. content_if_seen a (seen_if_same a same)) untaken
    act-leaves_content op.PutBlock stands untaken =
        said_of_block SameContent (λ a. content_if_seen (act.PutBlock a) (sym ((block_unseen p a).committed name))) q q.ask.blob q.ask.args.block
    act-leaves_content op.PutBlockList stands untaken = other_list SameContent (λ a same. content_if_seen a (seen_if_same a same)) untaken
    act-leaves_content other stands untaken = tt

    -- a request of this operation does not make readers see the blob
    act-shows_nothing : (o : Op) → (q.ask.blob ≡ Some name → gives_content o ≡ false) → IfSome (act_by o z q t) StaysUnseen
    act-shows_nothing op.CreateContainer gives = λ none. none
    act-shows_nothing op.SetContainerMetadata gives = λ none. none
    act-shows_nothing op.SetAcl gives = λ none. none
    act-shows_nothing op.DeleteContainer gives = λ none. ap (λ (o : Option (Blob (List ℕ))). (unwrap_or o no_blob).committed) (finite.get-empty name_cmp name)
    act-shows_nothing op.PutBlob gives = other_put StaysUnseen (λ a same none. seen_if_same a same ∙ none) gives
    act-shows_nothing op.SetMetadata gives =
        said_of_named StaysUnseen (λ n. act.SetMetadata (set_metadata q t n)) (λ n. unseen_if_content (act.SetMetadata (set_metadata q t n)) (content_metadata (set_metadata q t n))) q.ask.blob
    act-shows_nothing op.DeleteBlob gives = said_of_named StaysUnseen (λ n. act.DeleteBlob (delete_blob n)) (λ n. unseen_deleted (delete_blob n)) q.ask.blob
    act-shows_nothing op.PutBlock gives = said_of_block StaysUnseen (λ a none. sym ((block_unseen p a).committed name) ∙ none) q q.ask.blob q.ask.args.block
    act-shows_nothing op.PutBlockList gives = other_list StaysUnseen (λ a same none. seen_if_same a same ∙ none) gives
    act-shows_nothing other gives = tt

-- ---- what a request leaves of a blob

module _ (keys : Option Keys) (w : World (List ℕ)) (q : Asked) (t : ℕ) (k : Key) where
  -- a container is related to what it is after a request, if it is so related to what the request's act makes of it when the request is on it
  related-after : (related : Part (List ℕ) → Part (List ℕ) → Type 0) → ((p : Part (List ℕ)) → related p p)
      → (q.ask.key ≡ k → (z : Part ℕ) (p : Part (List ℕ)) → IfSome (act_by q.ask.op z q t) (λ a. related p (changed held a p))) → related (part_at w k) (part_at (effect keys w q t) k)
  related-after related stays own = by_key (decide_key k q.ask.key)
    where
      by_key : (k ≡ q.ask.key) ⊎ (k ≡ q.ask.key → ⊥) → related (part_at w k) (part_at (effect keys w q t) k)
      by_key (inl same) =
          related-effect held related stays byte_count keys w q t (λ z p. related-after_act held related stays q.ask.key p (act_by q.ask.op z q t) (own (sym same) z p)) k
      by_key (inr apart) = subst (λ (p : Part (List ℕ)). related (part_at w k) p) (sym (part_at-effect_others byte_count held keys w q t k apart)) (stays (part_at w k))

  module _ (name : List ℕ) where
    pub blob_in-left : LeavesBlob k name q → blob_in (part_at (effect keys w q t) k) name ≡ blob_in (part_at w k) name
    blob_in-left leaves =
        related-after (λ p r. blob_in r name ≡ blob_in p name) (λ p. refl) (λ same z p. act-leaves p name z q t q.ask.op (leaves same).0 (leaves same).1)

    pub committed-left : LeavesSeen k name q → (blob_in (part_at (effect keys w q t) k) name).committed ≡ (blob_in (part_at w k) name).committed
    committed-left leaves =
        related-after (λ p r. (blob_in r name).committed ≡ (blob_in p name).committed) (λ p. refl) (λ same z p. act-leaves_seen p name z q t q.ask.op (leaves same).0 (leaves same).1)

    pub content-left : LeavesContent k name q
        → option_map blocks_and_props (blob_in (part_at (effect keys w q t) k) name).committed ≡ option_map blocks_and_props (blob_in (part_at w k) name).committed
    content-left leaves =
        related-after (λ p r. option_map blocks_and_props (blob_in r name).committed ≡ option_map blocks_and_props (blob_in p name).committed) (λ p. refl)
        (λ same z p. act-leaves_content p name z q t q.ask.op (leaves same).0 (leaves same).1)

    pub unseen-left : GivesNoContent k name q → (blob_in (part_at w k) name).committed ≡ None → (blob_in (part_at (effect keys w q t) k) name).committed ≡ None
    unseen-left gives =
        related-after (λ p r. (blob_in p name).committed ≡ None → (blob_in r name).committed ≡ None) (λ p none. none) (λ same z p. act-shows_nothing p name z q t q.ask.op (gives same))

-- ---- what requests in turn leave of a blob

-- a request that is refused changes nothing
unmade : (w : World (List ℕ)) (r : Timed) → IsRefusedAt w r → world_after_one w r ≡ w
unmade w r refused = effect-named r.keys w r.request r.moment r.bound refused.0 refused.1

module _ (key : Key) (holds : Asked → Type 0) where
  -- what each request leaves is left by all of them, if each that does not leave it is refused
  pub left-in_turn : {X : Type 0} (said : Part (List ℕ) → X)
      → ((w : World (List ℕ)) (r : Timed) → holds r.request → said (part_at (world_after_one w r) key) ≡ said (part_at w key))
      → (w : World (List ℕ)) (rs : List Timed) → HoldUnlessRefused holds w rs → said (part_at (world_after_all w rs) key) ≡ said (part_at w key)
  left-in_turn said each w [] all = refl
  left-in_turn said each w (r ∷ rs) all =
      left-in_turn said each (world_after_one w r) rs all.1 ∙ elim all.0 [
        | inl does ↦ each w r does
        | inr refused ↦ ap (λ (v : World (List ℕ)). said (part_at v key)) (unmade w r refused)
      ]

  -- what is so after each request, if it was so before, is so after all of them, if each request for which that does not hold is refused
  pub so-in_turn : (said : Part (List ℕ) → Type 0)
      → ((w : World (List ℕ)) (r : Timed) → holds r.request → said (part_at w key) → said (part_at (world_after_one w r) key))
      → (w : World (List ℕ)) (rs : List Timed) → HoldUnlessRefused holds w rs → said (part_at w key) → said (part_at (world_after_all w rs) key)
  so-in_turn said each w [] all so = so
  so-in_turn said each w (r ∷ rs) all so =
      so-in_turn said each (world_after_one w r) rs all.1 (elim all.0 [
        | inl does ↦ each w r does so
        | inr refused ↦ subst (λ (v : World (List ℕ)). said (part_at v key)) (sym (unmade w r refused)) so
      ])
