-- Containers in which readers see the same, and what a Put Block leaves unseen.
use Rattle.std.proofs.Common.{◌≡◌, ℕ, Bool, true, false, cond, not, ◌&&◌, ◌||◌, List, [], ◌∷◌, Option, Some, None, All, IfSome, refl, sym, ap, ◌∙◌, subst, unwrap_or}
use Rattle.std.proofs.lemmas.List.Elements.{All-head, All-tail}
use Rattle.std.specs.Prelude.{find, is_none, is_some, nat_le, nat_lt}
use Rattle.std.specs.FinMap as finite
use Rattle.std.specs.Option.{option_map, option_map_or, option_and_then, option_or}
use Rattle.std.specs.Ordering.{eq_by_cmp}
use Rattle.stamp_values.specs.Limits.{blob_limit}
use Rattle.stamp_values.specs.Operations.{has_conditions, is_op, lists_names, names_container, writes}
use Rattle.stamp_values.specs.Order.{name_cmp, names_total, names_exact}
use Rattle.stamp_values.specs.declared.block.BlockKinds.{BlockKinds}
use Rattle.stamp_values.specs.declared.block.BlockKinds.TheVariants as kinds
use Rattle.stamp_values.specs.declared.block.Wanted.{Wanted}
use Rattle.stamp_values.specs.declared.key.Key.{Key}
use Rattle.stamp_values.specs.declared.op.Op.{Op}
use Rattle.stamp_values.specs.declared.op.Op.TheVariants as op
use Rattle.stamp_types.specs.declared.act.Act.{Act}
use Rattle.stamp_types.specs.declared.act.Act.TheVariants as act
use Rattle.stamp_types.specs.declared.act.PutBlock.{PutBlock}
use Rattle.stamp_types.specs.declared.ask.Ask.{Ask}
use Rattle.stamp_types.specs.declared.committed.Committed.{Committed}
use Rattle.stamp_types.specs.declared.refusal.Refusal.{Refusal}
use Rattle.stamp_types.specs.declared.reply.Reply.{Reply}
use Rattle.stamp_types.specs.declared.standing.Standing.{Standing}
use Rattle.stamp_types.specs.Pieces.{held}
use Rattle.stamp_types.specs.Requests.{Asked, IsAsk}
use Rattle.stamp_types.specs.World.{Blob, Part, World, no_blob, blob_in, part_at, committed_value, part_value, changed}
use Rattle.stamp_types.proofs.WorldLemmas.{blob_in-part_value, equal_if_is_eq}
use Rattle.access_rules.specs.declared.keys.Keys.{Keys}
use Rattle.access_rules.specs.Rules.{first_rule}
use Rattle.block_blobs.specs.BlockLists.{first_missing, found_entries}
use Rattle.block_blobs.specs.UncommittedBlocks.{has_other_length, is_one_too_many}
use Rattle.row_trees.specs.ListedBlocks.{listed_size}
use Rattle.range_rows.specs.NamedBlobs.{has_listed, target_blob}
use Rattle.range_rows.specs.Frames.{blob_read, empty_blob, empty_standing, frame_by, get_frame, list_frame, ranged_frame, standing_read}
use Rattle.range_rows.specs.SentContent.{blob_content, byte_count, bytes_by, ranged_bytes, sizes, with_content}
use Rattle.range_rows.specs.ShownBlocks.{shows_uncommitted}
use Rattle.row_trees.specs.Fits.{count_limit}
use Rattle.range_rows.specs.ObjectRules.{Cause, cause_holds, cause_refusal, causes, is_any, meets, misses, named_blob, needs_blob, needs_container, starts_past}
use Rattle.range_rows.specs.ObjectRules.Cause.{ContainerIsAbsent, ContainerExists, BlobIsAbsent, MatchFails, IsNotModified, BlobExists, NoneMatchFails, BodyIsDamaged, BodyIsMalformed, IdIsBad, BlockIsMissing, ListIsTooLong, IdHasOtherLength, BlocksAreFull, ListIsTooLarge, RangeIsPastTheEnd, CountIsFull}
use Rattle.range_rows.specs.Readings.{listed_in, reading_by, wanted_blocks}
use Rattle.range_rows.specs.RequestChanges.{act_by, change_of, part_after}
use Rattle.list_pages.specs.ListReplies.{blobs_told, page_asked}
use Rattle.list_pages.proofs.Shown.{page_by_committed}
use Rattle.stamp_model.specs.Blocks.{reads_committed}
use Rattle.stamp_model.specs.Effects.{effect}
use Rattle.stamp_model.specs.Refusals.{access_refusal, refusal}
use Rattle.stamp_model.specs.Responses.{answer_of, own_answer, own_answer_by, response, reply, rows_answer}
use Rattle.stamp_model.specs.Runs.{Timed, world_after_one, world_after_all, reply_to_one}
use Rattle.stamp_model.proofs.EffectLemmas.{related-after_act, related-effect, said_of_block}
use Rattle.stamp_model.proofs.ReadLemmas.{effect-read}
use Rattle.stamp_model.proofs.ReplyLemmas.{answer_of-own}
use Rattle.stamp_model.specs.Overrides.{overrides_of}

-- ---- containers in which readers see the same

-- readers see the same in both containers: what they have beside their blobs, and the committed part of each blob
pub record IsSeenAlike {C : Type 0} (p r : Part C) : Type 0 where
  pub standing : p.standing ≡ r.standing
  pub committed : (name : List ℕ) → (blob_in p name).committed ≡ (blob_in r name).committed

module _ (p : Part (List ℕ)) where
  chosen : (k name : List ℕ) (b : Bool) (x : Blob (List ℕ)) → eq_by_cmp name_cmp name k ≡ b → x.committed ≡ (blob_in p k).committed
      → (blob_in p name).committed ≡ (unwrap_or (cond b (Some x) (finite.get p.blobs name)) no_blob).committed
  chosen k name true x e same = ap (λ (n : List ℕ). (blob_in p n).committed) (names_exact name k (equal_if_is_eq (name_cmp name k) e)) ∙ sym same
  chosen k name false x e same = refl

  -- the blob after a Put Block
  abbrev pub with_block : PutBlock → Blob (List ℕ)
  with_block a = record { committed = (blob_in p a.blob).committed; uncommitted = finite.insert (blob_in p a.blob).uncommitted a.id (held a.content) }

  -- after a Put Block readers see what they saw before
  pub block_unseen : (a : PutBlock) → IsSeenAlike p (changed held (act.PutBlock a) p)
  block_unseen a = record {
    standing = refl;
    committed = λ name.
        chosen a.blob name (eq_by_cmp name_cmp name a.blob) (with_block a) refl refl
        ∙ sym (ap (λ (o : Option (Blob (List ℕ))). (unwrap_or o no_blob).committed) (finite.get-insert names_total p.blobs a.blob (with_block a) name));
  }

alike_same : (p : Part (List ℕ)) → IsSeenAlike p p
alike_same p = record { standing = refl; committed = λ name. refl }

alike_own : (q : Asked) (t : ℕ) → q.ask.op ≡ op.PutBlock → (z : Part ℕ) (p : Part (List ℕ)) → IsSeenAlike p (part_after held (change_of z q t) p)
alike_own q t puts z p =
    related-after_act held (λ p r. IsSeenAlike p r) alike_same q.ask.key p (act_by q.ask.op z q t)
    (subst (λ (a : Option Act). IfSome a (λ a. IsSeenAlike p (changed held a p))) (sym (ap (λ (o : Op). act_by o z q t) puts))
    (said_of_block (λ a. IsSeenAlike p (changed held a p)) (block_unseen p) q q.ask.blob q.ask.args.block))

-- after a request of Put Block readers see in each container what they saw before
pub alike-put_block : (keys : Option Keys) (w : World (List ℕ)) (q : Asked) (t : ℕ) → q.ask.op ≡ op.PutBlock → (k : Key) → IsSeenAlike (part_at w k) (part_at (effect keys w q t) k)
alike-put_block keys w q t puts k = related-effect held (λ p r. IsSeenAlike p r) alike_same byte_count keys w q t (alike_own q t puts) k

-- containers in which readers see the same are so, whether their content is read before or after
alike-read : {C D : Type 0} (f : C → D) (p r : Part C) → IsSeenAlike p r → IsSeenAlike (part_value f p) (part_value f r)
alike-read {D = D} f p r alike = record {
  standing = alike.standing;
  committed = λ name.
      ap (λ (b : Blob D). b.committed) (blob_in-part_value f p name) ∙ ap (option_map (committed_value f)) (alike.committed name)
      ∙ sym (ap (λ (b : Blob D). b.committed) (blob_in-part_value f r name));
}

module _ {C : Type 0} (p r : Part C) (alike : IsSeenAlike p r) where
  named_alike : (a : Ask) → named_blob p a ≡ named_blob r a
  named_alike a = λ i. option_and_then (λ name. alike.committed name i) a.blob

  target_by : (blob : Option (List ℕ)) → (unwrap_or (option_map (blob_in p) blob) no_blob).committed ≡ (unwrap_or (option_map (blob_in r) blob) no_blob).committed
  target_by None = refl
  target_by (Some name) = alike.committed name

  target_alike : (a : Ask) → (target_blob p a).committed ≡ (target_blob r a).committed
  target_alike a = target_by a.blob

-- ---- requests that read only what is committed

-- a request that reads only what is committed writes nothing
pub writes_nothing : (o : Op) (k : Option BlockKinds) → reads_committed o k ≡ true → writes o ≡ false
writes_nothing op.GetBlob k reads = refl
writes_nothing op.BlobProperties k reads = refl
writes_nothing op.GetMetadata k reads = refl
writes_nothing op.GetBlockList k reads = refl
writes_nothing other k reads = cc

-- a request that reads only what is committed lists no names
pub lists_nothing : (o : Op) (k : Option BlockKinds) → reads_committed o k ≡ true → lists_names o ≡ false
lists_nothing op.ListContainers k reads = cc
lists_nothing op.ListBlobs k reads = cc
lists_nothing other k reads = refl

-- a request that lists no names names a container
pub names_if_committed : (o : Op) (k : Option BlockKinds) → reads_committed o k ≡ true → names_container o ≡ true
names_if_committed op.ListContainers k reads = cc
names_if_committed other k reads = refl

-- the operation, with these kinds of blocks, writes nothing and lists no uncommitted blocks
abbrev pub reads_seen : Op → Option BlockKinds → Bool
reads_seen op.GetBlockList k = not (shows_uncommitted k)
reads_seen other k = not (writes other)

-- what is committed is seen by readers
seen_if_committed : (o : Op) (k : Option BlockKinds) → reads_committed o k ≡ true → reads_seen o k ≡ true
seen_if_committed op.GetBlob k reads = refl
seen_if_committed op.BlobProperties k reads = refl
seen_if_committed op.GetMetadata k reads = refl
seen_if_committed op.GetBlockList k reads = reads
seen_if_committed other k reads = cc

writes_unseen : (o : Op) (k : Option BlockKinds) → reads_seen o k ≡ true → writes o ≡ false
writes_unseen op.CreateContainer k reads = cc
writes_unseen op.SetContainerMetadata k reads = cc
writes_unseen op.SetAcl k reads = cc
writes_unseen op.DeleteContainer k reads = cc
writes_unseen op.PutBlob k reads = cc
writes_unseen op.SetMetadata k reads = cc
writes_unseen op.DeleteBlob k reads = cc
writes_unseen op.PutBlock k reads = cc
writes_unseen op.PutBlockList k reads = cc
writes_unseen other k reads = refl

pub wants_nothing : (o : Op) (k : Option BlockKinds) (body : List ℕ) → reads_seen o k ≡ true → listed_in (reading_by o body) ≡ []
unfolding reading_by
wants_nothing op.PutBlockList k body reads = cc
wants_nothing op.SetAcl k body reads = cc
wants_nothing other k body reads = refl

pub is_not_put_block : (o : Op) (k : Option BlockKinds) → reads_seen o k ≡ true → o ≡ op.PutBlock → ⊥
is_not_put_block o k reads is = let wrong : false ≡ true = sym (ap (λ (o : Op). reads_seen o k) is) ∙ reads in cc

pub none_unless : {X : Type 0} (o : Option X) → (is_some o ≡ true → ⊥) → o ≡ None
none_unless None h = refl
none_unless (Some x) h = absurd (h refl)

lists_alike : (o : Op) (k : Option BlockKinds) (b d : Blob ℕ) → reads_seen o k ≡ true → b.committed ≡ d.committed → (is_op op.GetBlockList o && not (has_listed k b)) ≡ (is_op op.GetBlockList o && not (has_listed k d))
lists_alike op.GetBlockList None b d reads same = ap (λ (c : Option (Committed ℕ)). not (is_some c)) same
lists_alike op.GetBlockList (Some kinds.Committed) b d reads same = ap (λ (c : Option (Committed ℕ)). not (is_some c)) same
lists_alike op.GetBlockList (Some kinds.Uncommitted) b d reads same = cc
lists_alike op.GetBlockList (Some kinds.All) b d reads same = cc
lists_alike other k b d reads same = refl

-- ---- rules of a request that reads only what readers see

module _ (p r : Part ℕ) (alike : IsSeenAlike p r) (q : Asked) (fits : IsAsk q.ask) (reads : reads_seen q.ask.op q.ask.args.kinds ≡ true) where
  abbrev named : named_blob p q.ask ≡ named_blob r q.ask
  named = named_alike p r alike q.ask

  nothing_wanted : wanted_blocks q ≡ []
  nothing_wanted = wants_nothing q.ask.op q.ask.args.kinds q.body reads

  no_block : q.ask.args.block ≡ None
  no_block = none_unless q.ask.args.block (λ there. is_not_put_block q.ask.op q.ask.args.kinds reads (fits.own.block.0 there))

  no_write : writes q.ask.op ≡ false
  no_write = writes_unseen q.ask.op q.ask.args.kinds reads

  alike_cause : (c : Cause) → cause_holds p q c ≡ cause_holds r q c
  alike_cause ContainerIsAbsent = ap (λ (s : Option Standing). needs_container q.ask.op && is_none s) alike.standing
  alike_cause ContainerExists = ap (λ (s : Option Standing). is_op op.CreateContainer q.ask.op && is_some s) alike.standing
  alike_cause BlobIsAbsent =
      let listed = lists_alike q.ask.op q.ask.args.kinds (target_blob p q.ask) (target_blob r q.ask) reads (target_alike p r alike q.ask) in
      λ i. (needs_blob q.ask.op && is_none (named i)) || listed i
  alike_cause MatchFails = ap (λ (c : Option (Committed ℕ)). has_conditions q.ask.op && misses c q.ask.args.if_match) named
  alike_cause IsNotModified = ap (λ (c : Option (Committed ℕ)). not (writes q.ask.op) && (has_conditions q.ask.op && meets c q.ask.args.if_none_match)) named
  alike_cause BlobExists = ap (λ (c : Option (Committed ℕ)). writes q.ask.op && (is_any q.ask.args.if_none_match && (has_conditions q.ask.op && meets c q.ask.args.if_none_match))) named
  alike_cause NoneMatchFails = ap (λ (c : Option (Committed ℕ)). writes q.ask.op && (not (is_any q.ask.args.if_none_match) && (has_conditions q.ask.op && meets c q.ask.args.if_none_match))) named
  alike_cause BodyIsDamaged = refl
  alike_cause BodyIsMalformed = refl
  alike_cause IdIsBad = refl
  alike_cause BlockIsMissing =
      ap (λ (ws : List Wanted). is_some (first_missing (target_blob p q.ask) ws)) nothing_wanted
      ∙ sym (ap (λ (ws : List Wanted). is_some (first_missing (target_blob r q.ask) ws)) nothing_wanted)
  alike_cause ListIsTooLong = refl
  alike_cause IdHasOtherLength =
      ap (λ (id : Option (List ℕ)). option_map_or (λ id. has_other_length id (target_blob p q.ask).uncommitted) id false) no_block
      ∙ sym (ap (λ (id : Option (List ℕ)). option_map_or (λ id. has_other_length id (target_blob r q.ask).uncommitted) id false) no_block)
  alike_cause BlocksAreFull =
      ap (λ (id : Option (List ℕ)). option_map_or (λ id. is_one_too_many id (target_blob p q.ask).uncommitted) id false) no_block
      ∙ sym (ap (λ (id : Option (List ℕ)). option_map_or (λ id. is_one_too_many id (target_blob r q.ask).uncommitted) id false) no_block)
  alike_cause ListIsTooLarge =
      ap (λ (ws : List Wanted). nat_lt blob_limit (listed_size (target_blob p q.ask) (found_entries (target_blob p q.ask) ws))) nothing_wanted
      ∙ sym (ap (λ (ws : List Wanted). nat_lt blob_limit (listed_size (target_blob r q.ask) (found_entries (target_blob r q.ask) ws))) nothing_wanted)
  alike_cause RangeIsPastTheEnd = ap (λ (c : Option (Committed ℕ)). is_op op.GetBlob q.ask.op && starts_past c q.ask.args.range) named
  alike_cause CountIsFull = ap (λ b. b && nat_le count_limit p.count) no_write ∙ sym (ap (λ b. b && nat_le count_limit r.count) no_write)

  refusal_alike : (keys : Option Keys) (t : ℕ) → refusal keys p q t ≡ refusal keys r q t
  refusal_alike keys t =
      λ i. option_or (option_map access_refusal (first_rule keys (option_map (λ s. s.acl) (alike.standing i)) q.ask t))
      (option_map cause_refusal (find (λ c. alike_cause c i) causes))

-- ---- the reply to a request that reads only what is committed

lists_frame : (k : Option BlockKinds) (b g : Blob ℕ) → not (shows_uncommitted k) ≡ true → b.committed ≡ g.committed → list_frame k b ≡ list_frame k g
lists_frame None b g reads same = λ i. list_frame None (record { committed = same i; uncommitted = b.uncommitted })
lists_frame (Some kinds.Committed) b g reads same = λ i. list_frame (Some kinds.Committed) (record { committed = same i; uncommitted = b.uncommitted })
lists_frame (Some kinds.Uncommitted) b g reads same = cc
lists_frame (Some kinds.All) b g reads same = cc

module _ (q : Asked) (s u : Standing) (c d : Committed ℕ) (b g : Blob ℕ) (e h : Committed (List ℕ)) (seen : c ≡ d) (listed : b.committed ≡ g.committed) (sent : e ≡ h) where
  pub answers_alike : (o : Op) → reads_committed o q.ask.args.kinds ≡ true → with_content (frame_by (overrides_of q.ask) o q s c b) (bytes_by o q.ask.args.range e) ≡ with_content (frame_by (overrides_of q.ask) o q u d g) (bytes_by o q.ask.args.range h)
  answers_alike op.GetBlob reads = λ i. with_content (ranged_frame (overrides_of q.ask) q.ask.args.range (seen i)) (ranged_bytes q.ask.args.range (blob_content (sent i)))
  answers_alike op.BlobProperties reads = λ i. with_content (get_frame (overrides_of q.ask) (seen i)) []
  answers_alike op.GetMetadata reads = λ i. with_content (frame_by (overrides_of q.ask) op.GetMetadata q s (seen i) b) []
  answers_alike op.GetBlockList reads = ap (λ (f : Reply). with_content f []) (lists_frame q.ask.args.kinds b g reads listed)
  answers_alike other reads = cc

  -- the same of a request that reads only what readers see, if the containers have the same beside their blobs
  answers_seen : s ≡ u → (o : Op) → reads_seen o q.ask.args.kinds ≡ true → with_content (frame_by (overrides_of q.ask) o q s c b) (bytes_by o q.ask.args.range e) ≡ with_content (frame_by (overrides_of q.ask) o q u d g) (bytes_by o q.ask.args.range h)
  answers_seen same op.CreateContainer reads = cc
  answers_seen same op.ContainerProperties reads = λ i. with_content (frame_by (overrides_of q.ask) op.ContainerProperties q (same i) c b) []
  answers_seen same op.SetContainerMetadata reads = cc
  answers_seen same op.GetAcl reads = λ i. with_content (frame_by (overrides_of q.ask) op.GetAcl q (same i) c b) []
  answers_seen same op.SetAcl reads = cc
  answers_seen same op.DeleteContainer reads = cc
  answers_seen same op.PutBlob reads = cc
  answers_seen same op.GetBlob reads = answers_alike op.GetBlob refl
  answers_seen same op.BlobProperties reads = answers_alike op.BlobProperties refl
  answers_seen same op.GetMetadata reads = answers_alike op.GetMetadata refl
  answers_seen same op.SetMetadata reads = cc
  answers_seen same op.DeleteBlob reads = cc
  answers_seen same op.PutBlock reads = cc
  answers_seen same op.PutBlockList reads = cc
  answers_seen same op.GetBlockList reads = answers_alike op.GetBlockList reads
  answers_seen same other reads = refl

module _ (p r : Part (List ℕ)) (alike : IsSeenAlike p r) (q : Asked) (reads : reads_seen q.ask.op q.ask.args.kinds ≡ true) where
  rows_alike : rows_answer p q ≡ rows_answer r q
  rows_alike =
      let by_size = alike-read byte_count p r alike in
      answers_seen q (standing_read (sizes p)) (standing_read (sizes r)) (blob_read (sizes p) q.ask) (blob_read (sizes r) q.ask)
      (target_blob (sizes p) q.ask) (target_blob (sizes r) q.ask) (blob_read p q.ask) (blob_read r q.ask)
      (ap (λ (c : Option (Committed ℕ)). unwrap_or c empty_blob) (named_alike (sizes p) (sizes r) by_size q.ask))
      (target_alike (sizes p) (sizes r) by_size q.ask)
      (ap (λ (c : Option (Committed (List ℕ))). unwrap_or c empty_blob) (named_alike p r alike q.ask))
      (ap (λ (s : Option Standing). unwrap_or s empty_standing) alike.standing)
      q.ask.op reads

  own_answer_by_alike : (o : Op) → own_answer_by o p q ≡ own_answer_by o r q
  own_answer_by_alike op.ListBlobs =
      ap (blobs_told (page_asked q)) (page_by_committed (page_asked q) (sizes p) (sizes r) (alike-read byte_count p r alike).committed)
  own_answer_by_alike other = rows_alike

  own_answer_alike : own_answer p q ≡ own_answer r q
  own_answer_alike = own_answer_by_alike q.ask.op

module _ (keys : Option Keys) (q : Asked) (t : ℕ) (bound : Option Key) (fits : IsAsk q.ask) (named_by : names_container q.ask.op ≡ true) (reads : reads_seen q.ask.op q.ask.args.kinds ≡ true) where
  -- a request that reads is answered from the container as it is
  from_unchanged : (w : World (List ℕ)) → reply keys w q t bound ≡ response (refusal keys (sizes (part_at w q.ask.key)) q t) (own_answer (part_at w q.ask.key) q)
  from_unchanged w =
      ap (λ (v : World (List ℕ)). response (refusal keys (sizes (part_at w q.ask.key)) q t) (answer_of v q bound))
      (effect-read keys w q t (writes_unseen q.ask.op q.ask.args.kinds reads))
      ∙ ap (response (refusal keys (sizes (part_at w q.ask.key)) q t)) (answer_of-own w q bound named_by)

  -- if readers see the same in the containers of two worlds, the reply to a request that reads only what readers see is the same in both
  pub reply_alike : (w v : World (List ℕ)) → IsSeenAlike (part_at w q.ask.key) (part_at v q.ask.key) → reply keys w q t bound ≡ reply keys v q t bound
  reply_alike w v alike =
      from_unchanged w
      ∙ ap (λ (o : Option Refusal). response o (own_answer (part_at w q.ask.key) q))
      (refusal_alike (sizes (part_at w q.ask.key)) (sizes (part_at v q.ask.key)) (alike-read byte_count (part_at w q.ask.key) (part_at v q.ask.key) alike) q fits reads keys t)
      ∙ ap (response (refusal keys (sizes (part_at v q.ask.key)) q t)) (own_answer_alike (part_at w q.ask.key) (part_at v q.ask.key) alike q reads)
      ∙ sym (from_unchanged v)

-- a request that reads only what is committed has the reply after a Put Block that it would have had before
pub reply-put_block : (w : World (List ℕ)) (put read : Timed) → put.request.ask.op ≡ op.PutBlock → IsAsk read.request.ask
    → reads_committed read.request.ask.op read.request.ask.args.kinds ≡ true → reply_to_one (world_after_one w put) read ≡ reply_to_one w read
reply-put_block w put read puts fits reads =
    sym (reply_alike read.keys read.request read.moment read.bound fits (names_if_committed read.request.ask.op read.request.ask.args.kinds reads) (seen_if_committed read.request.ask.op read.request.ask.args.kinds reads) w (world_after_one w put)
    (alike-put_block put.keys w put.request put.moment puts read.request.ask.key))

-- it has this reply after any number of Put Blocks
pub reply-put_blocks : (w : World (List ℕ)) (puts : List Timed) (read : Timed) → All (λ put. put.request.ask.op ≡ op.PutBlock) puts → IsAsk read.request.ask
    → reads_committed read.request.ask.op read.request.ask.args.kinds ≡ true → reply_to_one (world_after_all w puts) read ≡ reply_to_one w read
reply-put_blocks w [] read all fits reads = refl
reply-put_blocks w (put ∷ puts) read all fits reads =
    let IsPut : Timed → Type 0 = λ put. put.request.ask.op ≡ op.PutBlock in
    reply-put_blocks (world_after_one w put) puts read (All-tail IsPut put puts all) fits reads
    ∙ reply-put_block w put read (All-head IsPut put puts all) fits reads
