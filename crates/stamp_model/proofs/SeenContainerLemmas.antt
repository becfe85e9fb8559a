-- The reply to a request in two worlds that agree on the containers that the request sees.
use Rattle.std.proofs.Common.{◌≡◌, ℕ, arith, Bool, true, false, ◌&&◌, ◌||◌, ◌==◌, not, cond, List, [], ◌∷◌, length, Option, Some, None, refl, sym, ap, ◌∙◌}
use Rattle.std.proofs.lemmas.Bool.{and_parts}
use Rattle.std.proofs.lemmas.Bool.Decides.{nat_tests}
use Rattle.std.specs.Cmp.{eq_by_cmp_equiv}
use Rattle.std.specs.Cmp.Lexicographic.{bytes_decides, pointwise}
use Rattle.std.specs.FinMap.{get}
use Rattle.std.specs.Prelude.{IfSome, find, if◌then◌else◌, is_none, is_some, nat_eq, nat_le, nat_lt, unwrap_or}
use Rattle.std.specs.Option.{option_and_then, option_map, option_map_or, option_or}
use Rattle.std.specs.Ordering.{eq_by_cmp, is_gt, is_lt, ordering_reverse}
use Rattle.std.specs.declared.cmp.Ordering.{Ordering}
use Rattle.std.specs.declared.cmp.Ordering.TheVariants.{Equal, Greater, Less}
use Rattle.stamp_values.specs.Limits.{blob_limit}
use Rattle.stamp_values.specs.Operations.{has_conditions, is_op, names_container, writes}
use Rattle.stamp_values.specs.Order.{key_cmp, keys_total, name_cmp, names_total}
use Rattle.stamp_values.specs.Trees.{is_from}
use Rattle.stamp_values.specs.declared.block.Wanted.{Wanted}
use Rattle.stamp_values.specs.declared.key.Key.{Key}
use Rattle.stamp_values.specs.declared.op.Op.{Op}
use Rattle.stamp_values.specs.declared.op.Op.TheVariants as op
use Rattle.stamp_types.specs.declared.args.Page.{Page}
use Rattle.stamp_types.specs.Requests.{Asked, IsAsk}
use Rattle.stamp_types.specs.World.{Part, World, part_at}
use Rattle.access_rules.specs.declared.keys.Keys.{Keys}
use Rattle.access_rules.specs.Needs.{need_of}
use Rattle.access_rules.specs.Rules.{first_rule}
use Rattle.block_blobs.specs.BlockLists.{first_missing, found_entries}
use Rattle.block_blobs.specs.UncommittedBlocks.{has_other_length, is_one_too_many}
use Rattle.row_trees.specs.Access.{acl_of}
use Rattle.row_trees.specs.Fits.{count_limit}
use Rattle.row_trees.specs.ListedBlocks.{listed_size}
use Rattle.range_rows.specs.NamedBlobs.{has_listed, target_blob}
use Rattle.range_rows.specs.SentContent.{sizes}
use Rattle.range_rows.specs.ObjectRules.{Cause, cause_holds, cause_refusal, causes, is_any, meets, misses, named_blob, needs_blob, needs_container, starts_past}
use Rattle.range_rows.specs.ObjectRules.Cause.{ContainerIsAbsent, ContainerExists, BlobIsAbsent, MatchFails, IsNotModified, BlobExists, NoneMatchFails, BodyIsDamaged, BodyIsMalformed, IdIsBad, BlockIsMissing, ListIsTooLong, IdHasOtherLength, BlocksAreFull, ListIsTooLarge, RangeIsPastTheEnd, CountIsFull}
use Rattle.range_rows.specs.Readings.{wanted_blocks}
use Rattle.list_pages.specs.ListReplies.{container_list_reply, containers_told, first_page, page_asked}
use Rattle.list_pages.specs.Lists.{given, shown_container}
use Rattle.list_pages.specs.Ranges.{key_of}
use Rattle.list_pages.proofs.Depends.{is_before, page_of_account_shown, page_of_shown, within}
use Rattle.list_pages.proofs.Over.{is_less}
use Rattle.list_pages.proofs.Shown.{container_alike}
use Rattle.stamp_model.specs.Effects.{change, effect}
use Rattle.stamp_model.specs.Refusals.{access_refusal, refusal}
use Rattle.stamp_model.specs.Responses.{answer_by, answer_of, own_answer, reply, response}
use Rattle.stamp_model.specs.SeenContainers.{is_in_account, is_between, is_seen, is_under, routed}
use Rattle.stamp_model.specs.AcceptedRequests.{is_on}
use Rattle.stamp_model.proofs.CallerLemmas.{first_rule-unnamed}
use Rattle.stamp_model.proofs.ReadLemmas.{effect-read}
use Rattle.stamp_model.proofs.ReplyLemmas.{reply-own}
use Rattle.stamp_model.proofs.SeenLemmas.{is_not_put_block, none_unless, reads_seen, wants_nothing}

-- ---- a request that names a container

-- the own container decides the reply
pub reply-agrees : (keys : Option Keys) (w v : World (List ℕ)) (q : Asked) (t : ℕ) (bound : Option Key) → names_container q.ask.op ≡ true
    → part_at w q.ask.key ≡ part_at v q.ask.key → reply keys w q t bound ≡ reply keys v q t bound
reply-agrees keys w v q t bound named same =
    reply-own keys w q t bound named
    ∙ ap (λ (p : Part (List ℕ)). response (refusal keys (sizes p) q t) (own_answer (change keys p q t) q)) same
    ∙ sym (reply-own keys v q t bound named)

-- ---- List Containers

turned : (r : Ordering) → is_gt (ordering_reverse r) ≡ is_lt r
turned Less = refl
turned Equal = refl
turned Greater = refl

same_bound : (bound : Option Key) (key : Key) → is_before bound key ≡ is_under bound key
same_bound None key = refl
same_bound (Some end) key = sym (ap is_gt (keys_total.antisymm end key) ∙ turned (key_cmp key end))

-- a key under the bound comes before it
pub before_bound : (bound : Option Key) (key : Key) → is_under bound key ≡ true → IfSome bound (λ end. key_cmp key end ≡ Less)
before_bound None key is = tt
before_bound (Some end) key is = is_less (key_cmp key end) (same_bound (Some end) key ∙ is)

module _ (q : Asked) (fits : IsAsk q.ask) (lists : q.ask.op ≡ op.ListContainers) where
  reads : reads_seen q.ask.op q.ask.args.kinds ≡ true
  reads = ap (λ (o : Op). reads_seen o q.ask.args.kinds) lists

  unnamed : q.ask.key.container ≡ []
  unnamed = is_empty q.ask.key.container (fits.names.container ∙ ap names_container lists)
    where
      is_empty : (name : List ℕ) → not (length name == 0) ≡ false → name ≡ []
      is_empty [] h = refl
      is_empty (b ∷ bs) h = let never : not (length (b ∷ bs) == 0) ≡ true = grind (arith, nat_tests) in cc

  nothing_wanted : wanted_blocks q ≡ []
  nothing_wanted = wants_nothing q.ask.op q.ask.args.kinds q.body reads

  no_block : q.ask.args.block ≡ None
  no_block = none_unless q.ask.args.block (λ there. is_not_put_block q.ask.op q.ask.args.kinds reads (fits.own.block.0 there))

  module _ (p r : Part ℕ) where
    by_op : (test : Part ℕ → Op → Bool) → test p op.ListContainers ≡ test r op.ListContainers → test p q.ask.op ≡ test r q.ask.op
    by_op test same = ap (test p) lists ∙ same ∙ sym (ap (test r) lists)

    by_block : (test : Part ℕ → Option (List ℕ) → Bool) → test p None ≡ test r None → test p q.ask.args.block ≡ test r q.ask.args.block
    by_block test same = ap (test p) no_block ∙ same ∙ sym (ap (test r) no_block)

    by_wanted : (test : Part ℕ → List Wanted → Bool) → test p [] ≡ test r [] → test p (wanted_blocks q) ≡ test r (wanted_blocks q)
    by_wanted test same = ap (test p) nothing_wanted ∙ same ∙ sym (ap (test r) nothing_wanted)

    same_cause : (c : Cause) → cause_holds p q c ≡ cause_holds r q c
    same_cause ContainerIsAbsent = by_op (λ z o. needs_container o && is_none z.standing) refl
    same_cause ContainerExists = by_op (λ z o. is_op op.CreateContainer o && is_some z.standing) refl
    same_cause BlobIsAbsent = by_op (λ z o. (needs_blob o && is_none (named_blob z q.ask)) || (is_op op.GetBlockList o && not (has_listed q.ask.args.kinds (target_blob z q.ask)))) refl
    same_cause MatchFails = by_op (λ z o. has_conditions o && misses (named_blob z q.ask) q.ask.args.if_match) refl
    same_cause IsNotModified = by_op (λ z o. not (writes o) && (has_conditions o && meets (named_blob z q.ask) q.ask.args.if_none_match)) refl
    same_cause BlobExists = by_op (λ z o. writes o && (is_any q.ask.args.if_none_match && (has_conditions o && meets (named_blob z q.ask) q.ask.args.if_none_match))) refl
    same_cause NoneMatchFails = by_op (λ z o. writes o && (not (is_any q.ask.args.if_none_match) && (has_conditions o && meets (named_blob z q.ask) q.ask.args.if_none_match))) refl
    same_cause BodyIsDamaged = refl
    same_cause BodyIsMalformed = refl
    same_cause IdIsBad = refl
    same_cause BlockIsMissing = by_wanted (λ z ws. is_some (first_missing (target_blob z q.ask) ws)) refl
    same_cause ListIsTooLong = refl
    same_cause IdHasOtherLength = by_block (λ z block. option_map_or (λ id. has_other_length id (target_blob z q.ask).uncommitted) block false) refl
    same_cause BlocksAreFull = by_block (λ z block. option_map_or (λ id. is_one_too_many id (target_blob z q.ask).uncommitted) block false) refl
    same_cause ListIsTooLarge = by_wanted (λ z ws. nat_lt blob_limit (listed_size (target_blob z q.ask) (found_entries (target_blob z q.ask) ws))) refl
    same_cause RangeIsPastTheEnd = by_op (λ z o. is_op op.GetBlob o && starts_past (named_blob z q.ask) q.ask.args.range) refl
    same_cause CountIsFull = by_op (λ z o. writes o && nat_le count_limit z.count) refl

    -- whatever the container is, the refusal is the same
    refusal-listing : (keys : Option Keys) (t : ℕ) → refusal keys p q t ≡ refusal keys r q t
    refusal-listing keys t =
        let first : first_rule keys (acl_of p) q.ask t ≡ first_rule keys (acl_of r) q.ask t =
        first_rule-unnamed keys (acl_of p) (acl_of r) q.ask t unnamed (ap (λ (o : Op). (need_of o q.ask.args.kinds).level) lists) in
        λ i. option_or (option_map access_refusal (first i)) (option_map cause_refusal (find (λ c. same_cause c i) causes))

  -- the answer is from the containers as they are
  pub answer-listing : (keys : Option Keys) (w : World (List ℕ)) (t : ℕ) (bound : Option Key) → answer_of (effect keys w q t) q bound ≡ answer_by op.ListContainers w q bound
  answer-listing keys w t bound =
      ap (λ (v : World (List ℕ)). answer_of v q bound) (effect-read keys w q t (ap writes lists)) ∙ ap (λ (o : Op). answer_by o w q bound) lists

  -- if the answers are the same, the replies are
  reply-by_answer : (keys : Option Keys) (w v : World (List ℕ)) (t : ℕ) (bound : Option Key) → answer_by op.ListContainers w q bound ≡ answer_by op.ListContainers v q bound → reply keys w q t bound ≡ reply keys v q t bound
  reply-by_answer keys w v t bound same =
      ap (response (refusal keys (sizes (part_at w q.ask.key)) q t)) (answer-listing keys w t bound)
      ∙ (λ i. response (refusal-listing (sizes (part_at w q.ask.key)) (sizes (part_at v q.ask.key)) keys t i) (same i))
      ∙ sym (ap (response (refusal keys (sizes (part_at v q.ask.key)) q t)) (answer-listing keys v t bound))

  -- worlds that show the same of the account's containers give a List Containers one reply
  pub reply-of_account : (keys : Option Keys) (w v : World (List ℕ)) (t : ℕ) (bound : Option Key)
      → ((key : Key) → key.account ≡ q.ask.key.account → shown_container (part_at w key) ≡ shown_container (part_at v key)) → reply keys w q t bound ≡ reply keys v q t bound
  reply-of_account keys w v t bound same =
      reply-by_answer keys w v t bound (ap (containers_told (page_asked q)) (page_of_account_shown q.ask.key.account (page_asked q) bound w v same))

  module _ (w v : World (List ℕ)) (bound : Option Key) (under : is_under bound (routed q) ≡ true)
      (agree : (key : Key) → is_seen q bound key ≡ true → shown_container (part_at w key) ≡ shown_container (part_at v key)) where
    -- the page begins at the first key
    starts_at : key_of q.ask.key.account (given (page_asked q).marker) ≡ routed q
    starts_at = by_page q.ask.args.page ∙ sym (ap (λ (b : Bool). if b then q.ask.key else record { account = q.ask.key.account; container = unwrap_or (option_and_then (λ page. page.marker) q.ask.args.page) [] }) (ap names_container lists))
      where
        by_page : (page : Option Page) → key_of q.ask.key.account (given (unwrap_or page first_page).marker) ≡ record { account = q.ask.key.account; container = unwrap_or (option_and_then (λ page. page.marker) page) [] }
        by_page None = refl
        by_page (Some page) = refl

    past : IfSome bound (λ end. key_cmp (key_of q.ask.key.account (given (page_asked q).marker)) end ≡ Less)
    past = before_bound bound (key_of q.ask.key.account (given (page_asked q).marker)) (ap (is_under bound) starts_at ∙ under)

    in_account : (account : List ℕ) → pointwise nat_eq account q.ask.key.account ≡ true → eq_by_cmp name_cmp account q.ask.key.account ≡ true
    in_account account is = ap (λ name. eq_by_cmp name_cmp account name) (sym ((bytes_decides account q.ask.key.account).0 is)) ∙ (eq_by_cmp_equiv names_total).refl account

    seen_if_within : (key : Key) → within q.ask.key.account (page_asked q) bound past key ≡ true → is_seen q bound key ≡ true
    seen_if_within key is =
        let start = key_of q.ask.key.account (given (page_asked q).marker) in
        let both = and_parts (pointwise nat_eq key.account q.ask.key.account) (is_from start key && is_before bound key) is in
        let in_order : (is_from (routed q) key && is_under bound key) ≡ true = sym (λ i. is_from (starts_at i) key && same_bound bound key i) ∙ both.1 in
        ap (λ (b : Bool). cond b (is_on key q) (is_in_account key q && is_between (routed q) bound key)) (ap names_container lists)
        ∙ (λ i. in_account key.account both.0 i && in_order i)

    page-listing : container_list_reply w q bound ≡ container_list_reply v q bound
    page-listing =
        ap (containers_told (page_asked q))
        (page_of_shown q.ask.key.account (page_asked q) bound past w v
        (λ key is. sym (container_alike (get w key)) ∙ agree key (seen_if_within key is) ∙ container_alike (get v key)))

    -- worlds that show the same of the containers that a List Containers sees give it one reply
    pub reply-listing : (keys : Option Keys) (t : ℕ) → reply keys w q t bound ≡ reply keys v q t bound
    reply-listing keys t = reply-by_answer keys w v t bound page-listing

-- ---- all operations

pub lists_containers : (o : Op) → names_container o ≡ false → o ≡ op.ListContainers
lists_containers op.ListContainers h = refl
lists_containers other h = cc

-- worlds that agree on the containers that a request sees give the request one reply
pub reply-seen : (keys : Option Keys) (w v : World (List ℕ)) (q : Asked) (t : ℕ) (bound : Option Key) → IsAsk q.ask
    → (names_container q.ask.op ≡ false → is_under bound (routed q) ≡ true)
    → ((key : Key) → is_seen q bound key ≡ true → part_at w key ≡ part_at v key) → reply keys w q t bound ≡ reply keys v q t bound
reply-seen keys w v q t bound fits under agree = by_name (names_container q.ask.op) refl
  where
    by_name : (b : Bool) → names_container q.ask.op ≡ b → reply keys w q t bound ≡ reply keys v q t bound
    by_name true names =
        reply-agrees keys w v q t bound names
        (agree q.ask.key (ap (λ (b : Bool). cond b (is_on q.ask.key q) (is_in_account q.ask.key q && is_between (routed q) bound q.ask.key)) names ∙ (eq_by_cmp_equiv keys_total).refl q.ask.key))
    by_name false lists =
        reply-listing q fits (lists_containers q.ask.op lists) w v bound (under lists) (λ key is. ap shown_container (agree key is)) keys t
