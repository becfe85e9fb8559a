-- Who is given a list, and what refuses it.
use Rattle.std.proofs.Common.{◌≡◌, ◌≤◌, ℕ, arith, Bool, true, false, ◌&&◌, ◌||◌, List, Option, Some, None, refl, sym, ap, ◌∙◌, subst}
use Rattle.std.specs.Prelude.{IsSome, find, is_none, is_some}
use Rattle.std.specs.FinMap.{FinMap}
use Rattle.std.specs.Option.{option_map, option_map_or}
use Rattle.stamp_values.specs.Levels.{level_number}
use Rattle.stamp_values.specs.Order.{name_cmp}
use Rattle.stamp_values.specs.Operations.{checks_md5, is_op, lists_names, names_blob, names_container}
use Rattle.stamp_values.specs.declared.key.Key.{Key}
use Rattle.stamp_values.specs.declared.level.Level.{Level}
use Rattle.stamp_values.specs.declared.level.Level.TheVariants as level
use Rattle.stamp_values.specs.declared.op.Op.{Op}
use Rattle.stamp_values.specs.declared.op.Op.TheVariants as op
use Rattle.stamp_values.specs.declared.signing.Credential.{Credential}
use Rattle.stamp_values.specs.declared.signing.Credential.TheVariants.{Anonymous, Shared, Token}
use Rattle.stamp_types.specs.declared.ask.Ask.{Ask}
use Rattle.stamp_types.specs.declared.refusal.Refusal.{Refusal}
use Rattle.stamp_types.specs.declared.standing.Standing.{Standing}
use Rattle.stamp_types.specs.Requests.{Asked, IsAsk}
use Rattle.stamp_types.specs.World.{Part, World, part_at}
use Rattle.stamp_values.specs.Letters.{Permissions}
use Rattle.sas_token.specs.declared.token.Resource.{Resource}
use Rattle.sas_token.specs.declared.token.Resource.TheVariants as resource
use Rattle.access_rules.specs.declared.keys.Keys.{Keys}
use Rattle.access_rules.specs.declared.needs.Letter.{Letter}
use Rattle.access_rules.specs.declared.needs.Letter.TheVariants as letter
use Rattle.access_rules.specs.Needs.{need_of}
use Rattle.access_rules.specs.Routes.{Admits, ByKey, ByToken}
use Rattle.access_rules.specs.TokenParts.{allows}
use Rattle.row_trees.specs.Access.{acl_of}
use Rattle.range_rows.specs.SentContent.{sizes}
use Rattle.block_blobs.specs.UncommittedBlocks.{has_other_length, is_one_too_many}
use Rattle.range_rows.specs.NamedBlobs.{target_blob}
use Rattle.range_rows.specs.ObjectRules.{Cause, cause_holds, cause_refusal, causes, has_other_md5, is_damaged, kept_md5, object_refusal, of_its_block}
use Rattle.range_rows.specs.ObjectRules.Cause.{ContainerIsAbsent, BodyIsDamaged, IdHasOtherLength, BlocksAreFull}
use Rattle.range_rows.specs.Readings.{reading_by}
use Rattle.list_pages.specs.Lists.{shown_standing}
use Rattle.stamp_model.specs.Refusals.{refusal}
use Rattle.stamp_model.specs.Responses.{reply}
use Rattle.stamp_model.specs.Runs.{Timed, reply_to_one, world_after_one}
use Rattle.stamp_model.proofs.ReplyLemmas.{refusal-admitted, reply-admits, rule-reply}
use Rattle.stamp_model.proofs.PublicLemmas.{given-publicly}
use Rattle.stamp_model.proofs.SeenContainerLemmas.{lists_containers, reply-of_account}
use Rattle.stamp_model.proofs.SeenLemmas.{IsSeenAlike, alike-put_block, none_unless, reads_seen, reply_alike}

-- ---- who is given a list

of_highest : (l : Level) → level_number level.Container ≤ level_number l → l ≡ level.Container
of_highest level.Closed h = absurd (omega (arith, h))
of_highest level.Blob h = absurd (omega (arith, h))
of_highest level.Container h = refl

module _ (keys : Option Keys) (w : World (List ℕ)) (q : Asked) (t : ℕ) (bound : Option Key) where
  abbrev own : Part (List ℕ)
  own = part_at w q.ask.key

  -- a list of blobs is public at the level `container` alone
  pub level-listed : q.ask.op ≡ op.ListBlobs → q.ask.credential ≡ Anonymous → (reply keys w q t bound).rule ≡ None
      → (s : Standing) × (own.standing ≡ Some s) × (s.acl.level ≡ level.Container)
  level-listed lists anonymous none =
      let given = given-publicly keys w q t bound anonymous none in
      let need : Some level.Container ≡ Some given.0 = sym (ap (λ (o : Op). (need_of o q.ask.args.kinds).level) lists) ∙ given.2 in
      let same : level.Container ≡ given.0 = cc in
      (given.1, given.3, of_highest given.1.acl.level (subst (λ (l : Level). level_number l ≤ level_number given.1.acl.level) (sym same) given.4))

  with_list : (l : Letter) (p : Permissions) → Some letter.List ≡ Some l → allows l p ≡ true → p.list ≡ true
  with_list l p same allowed = let is : letter.List ≡ l = cc in ap (λ l. allows l p) is ∙ allowed

  for_container : (r : Resource) → (r ≡ resource.Blob → IsSome q.ask.blob) → is_some q.ask.blob ≡ false → r ≡ resource.Container
  for_container resource.Container named none = refl
  for_container resource.Blob named none = let never : false ≡ true = sym none ∙ named refl in absurd (cc)

  -- a token lists blobs with l, and if it is for the container
  pub token-listed : IsAsk q.ask → q.ask.op ≡ op.ListBlobs → q.ask.credential ≡ Token → (reply keys w q t bound).rule ≡ None
      → (by : ByToken keys (acl_of own) q.ask t) × (by.token.resource ≡ resource.Container) × (by.fields.letters.list ≡ true)
  token-listed fits lists asks none =
      let by : ByToken keys (acl_of own) q.ask t = subst (λ (c : Credential). Admits keys (acl_of own) c q.ask t) asks (reply-admits keys w q t bound none) in
      let needs : Some letter.List ≡ Some by.letter = sym (ap (λ (o : Op). (need_of o q.ask.args.kinds).letter) lists) ∙ by.needed in
      (by, for_container by.token.resource by.blob (fits.names.blob ∙ ap names_blob lists), with_list by.letter by.fields.letters needs by.allowed)

  by_credential : (c : Credential) → q.ask.op ≡ op.ListContainers → Admits keys (acl_of own) c q.ask t → ByKey keys q.ask t
  by_credential (Shared values) lists by = by
  by_credential Token lists by = let never : None ≡ Some by.letter = sym (ap (λ (o : Op). (need_of o q.ask.args.kinds).letter) lists) ∙ by.needed in absurd (cc)
  by_credential Anonymous lists by = let never : None ≡ Some by.need = sym (ap (λ (o : Op). (need_of o q.ask.args.kinds).level) lists) ∙ by.needed in absurd (cc)

  -- a list of containers is given by a key alone
  pub containers-by_key : q.ask.op ≡ op.ListContainers → (reply keys w q t bound).rule ≡ None → ByKey keys q.ask t
  containers-by_key lists none = by_credential q.ask.credential lists (reply-admits keys w q t bound none)

-- ---- what refuses a list

-- the same request of this operation
abbrev asked_as : Asked → Op → Asked
asked_as q o = record q { ask = record q.ask { op = o } }

abbrev is_absence : Cause → Bool
is_absence ContainerIsAbsent = true
is_absence other = false

module _ (p : Part ℕ) (q : Asked) (no_sum : q.ask.args.content_md5 ≡ None) (no_block : q.ask.args.block ≡ None) where
  undamaged : (o : Op) → is_op op.PutBlob o ≡ false → is_damaged (asked_as q o) ≡ false
  undamaged o other =
      (λ i. has_other_md5 q.body (no_sum i) || (other i && has_other_md5 q.body (kept_md5 q.ask)))

  of_no_block : (test : List ℕ → FinMap name_cmp ℕ → Bool) (a : Ask) → a.args.block ≡ None → of_its_block test p a ≡ false
  of_no_block test a none = ap (λ (block : Option (List ℕ)). option_map_or (λ id. test id (target_blob p a).uncommitted) block false) none

  -- the only cause to refuse a List Blobs is that its container does not exist
  blobs_cause : (c : Cause) → cause_holds p (asked_as q op.ListBlobs) c ≡ (is_absence c && is_none p.standing)
  unfolding reading_by
  blobs_cause BodyIsDamaged = undamaged op.ListBlobs refl
  blobs_cause IdHasOtherLength = of_no_block has_other_length (asked_as q op.ListBlobs).ask no_block
  blobs_cause BlocksAreFull = of_no_block is_one_too_many (asked_as q op.ListBlobs).ask no_block
  blobs_cause other = refl

  -- no cause refuses a List Containers
  containers_cause : (c : Cause) → cause_holds p (asked_as q op.ListContainers) c ≡ false
  unfolding reading_by
  containers_cause BodyIsDamaged = undamaged op.ListContainers refl
  containers_cause IdHasOtherLength = of_no_block has_other_length (asked_as q op.ListContainers).ask no_block
  containers_cause BlocksAreFull = of_no_block is_one_too_many (asked_as q op.ListContainers).ask no_block
  containers_cause other = refl

  free-containers : q.ask.op ≡ op.ListContainers → object_refusal p q ≡ None
  free-containers is = ap (λ (o : Op). object_refusal p (asked_as q o)) is ∙ (λ i. option_map cause_refusal (find (λ c. containers_cause c i) causes))

  free-blobs : q.ask.op ≡ op.ListBlobs → IsSome p.standing → object_refusal p q ≡ None
  free-blobs is exists =
      ap (λ (o : Op). object_refusal p (asked_as q o)) is
      ∙ (λ i. option_map cause_refusal (find (λ c. blobs_cause c i) causes))
      ∙ ap (λ (b : Bool). option_map cause_refusal (find (λ c. is_absence c && b) causes)) (none_if_some p.standing exists)
    where
      none_if_some : (o : Option Standing) → IsSome o → is_none o ≡ false
      none_if_some None h = cc
      none_if_some (Some s) h = refl

is_nothing : {X : Type 0} (o : Option X) (b : Bool) → (IsSome o → b ≡ true) → b ≡ false → o ≡ None
is_nothing None b some is = refl
is_nothing (Some x) b some is = let never : true ≡ false = sym (some refl) ∙ is in absurd (cc)

module _ (q : Asked) (fits : IsAsk q.ask) where
  no_sum_of : checks_md5 q.ask.op ≡ false → q.ask.args.content_md5 ≡ None
  no_sum_of other = is_nothing q.ask.args.content_md5 (checks_md5 q.ask.op) (λ there. fits.no_more.content_md5 there) other

  no_block_of : (q.ask.op ≡ op.PutBlock → ⊥) → q.ask.args.block ≡ None
  no_block_of other = none_unless q.ask.args.block (λ there. other (fits.own.block.0 there))

module _ (keys : Option Keys) (w : World (List ℕ)) (q : Asked) (t : ℕ) (bound : Option Key) (fits : IsAsk q.ask) where
  unnamed : refusal keys (sizes (part_at w q.ask.key)) q t ≡ None → (reply keys w q t bound).rule ≡ None
  unnamed free = rule-reply keys w q t bound ∙ ap (option_map (λ (r : Refusal). r.rule)) free

  -- a list of blobs that its own route admits, in a container that exists, is refused by no rule
  pub rule-blobs : q.ask.op ≡ op.ListBlobs → Admits keys (acl_of (part_at w q.ask.key)) q.ask.credential q.ask t → IsSome (part_at w q.ask.key).standing → (reply keys w q t bound).rule ≡ None
  rule-blobs is admits exists =
      unnamed
      (refusal-admitted keys w q t bound admits
      (free-blobs (sizes (part_at w q.ask.key)) q (no_sum_of q fits (ap checks_md5 is)) (no_block_of q fits (λ puts. let same : op.ListBlobs ≡ op.PutBlock = sym is ∙ puts in cc)) is exists))

  -- a list of containers that its own route admits is refused by no rule
  pub rule-containers : q.ask.op ≡ op.ListContainers → Admits keys (acl_of (part_at w q.ask.key)) q.ask.credential q.ask t → (reply keys w q t bound).rule ≡ None
  rule-containers is admits =
      unnamed
      (refusal-admitted keys w q t bound admits
      (free-containers (sizes (part_at w q.ask.key)) q (no_sum_of q fits (ap checks_md5 is)) (no_block_of q fits (λ puts. let same : op.ListContainers ≡ op.PutBlock = sym is ∙ puts in cc)) is))

-- ---- what a Put Block leaves

lists_blobs : (o : Op) → lists_names o ≡ true → names_container o ≡ true → o ≡ op.ListBlobs
lists_blobs op.ListContainers lists named = cc
lists_blobs op.ListBlobs lists named = refl
lists_blobs other lists named = cc

-- a list has the reply after a Put Block that it would have had before
pub list-put_block : (w : World (List ℕ)) (put list : Timed) → put.request.ask.op ≡ op.PutBlock → IsAsk list.request.ask → lists_names list.request.ask.op ≡ true
    → reply_to_one (world_after_one w put) list ≡ reply_to_one w list
list-put_block w put list puts fits lists = by_name (names_container list.request.ask.op) refl
  where
    alike : (k : Key) → IsSeenAlike (part_at w k) (part_at (world_after_one w put) k)
    alike = alike-put_block put.keys w put.request put.moment puts

    by_name : (b : Bool) → names_container list.request.ask.op ≡ b → reply_to_one (world_after_one w put) list ≡ reply_to_one w list
    by_name true named =
        sym (reply_alike list.keys list.request list.moment list.bound fits named
        (ap (λ (o : Op). reads_seen o list.request.ask.args.kinds) (lists_blobs list.request.ask.op lists named)) w (world_after_one w put) (alike list.request.ask.key))
    by_name false other =
        sym (reply-of_account list.request fits (lists_containers list.request.ask.op other) list.keys w (world_after_one w put) list.moment list.bound
        (λ key own. ap (option_map shown_standing) (alike key).standing))
