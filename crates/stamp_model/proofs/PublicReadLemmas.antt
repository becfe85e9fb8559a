-- What a caller without a credential is answered after a Put Block.
use Rattle.std.proofs.Common.{◌≡◌, ℕ, true, List, Option, Some, None, refl, sym, ap, ◌∙◌, is_none, cond}
use Rattle.stamp_values.specs.Operations.{names_container}
use Rattle.stamp_values.specs.declared.block.BlockKinds.{BlockKinds}
use Rattle.stamp_values.specs.declared.block.BlockKinds.TheVariants as kinds
use Rattle.stamp_values.specs.declared.level.Level.{Level}
use Rattle.stamp_values.specs.declared.op.Op.{Op}
use Rattle.stamp_values.specs.declared.op.Op.TheVariants as op
use Rattle.stamp_values.specs.declared.signing.Credential.TheVariants.{Anonymous}
use Rattle.stamp_types.specs.declared.rule.Rule.TheVariants.{P1, P2}
use Rattle.stamp_types.specs.Requests.{Asked, IsAsk}
use Rattle.stamp_types.specs.World.{World, part_at}
use Rattle.access_rules.specs.Needs.{need_of}
use Rattle.access_rules.specs.Rules.{allows_less, first_rule, some_passes}
use Rattle.row_trees.specs.Access.{acl_of}
use Rattle.stamp_model.specs.Runs.{Timed, world_after_one, reply_to_one}
use Rattle.stamp_model.proofs.CallerLemmas.{reply-denied}
use Rattle.stamp_model.proofs.PublicLemmas.{first_public}
use Rattle.stamp_model.proofs.SeenLemmas.{alike-put_block, reads_seen, reply_alike}

-- an operation that a level of public access allows reads only what readers see
seen_by_level : (o : Op) (k : Option BlockKinds) (need : Level) → (need_of o k).level ≡ Some need → reads_seen o k ≡ true
seen_by_level op.ListContainers k need h = cc
seen_by_level op.CreateContainer k need h = cc
seen_by_level op.SetContainerMetadata k need h = cc
seen_by_level op.GetAcl k need h = cc
seen_by_level op.SetAcl k need h = cc
seen_by_level op.DeleteContainer k need h = cc
seen_by_level op.PutBlob k need h = cc
seen_by_level op.SetMetadata k need h = cc
seen_by_level op.DeleteBlob k need h = cc
seen_by_level op.PutBlock k need h = cc
seen_by_level op.PutBlockList k need h = cc
seen_by_level op.GetBlockList None need h = refl
seen_by_level op.GetBlockList (Some kinds.Committed) need h = refl
seen_by_level op.GetBlockList (Some kinds.Uncommitted) need h = cc
seen_by_level op.GetBlockList (Some kinds.All) need h = cc
seen_by_level other k need h = refl

-- an operation that a level of public access allows names a container
names_by_level : (o : Op) (k : Option BlockKinds) (need : Level) → (need_of o k).level ≡ Some need → names_container o ≡ true
names_by_level op.ListContainers k need h = cc
names_by_level other k need h = refl

module _ (w : World (List ℕ)) (put read : Timed) (puts : put.request.ask.op ≡ op.PutBlock) (fits : IsAsk read.request.ask)
    (anonymous : read.request.ask.credential ≡ Anonymous) where
  abbrev q : Asked
  q = read.request

  abbrev after : World (List ℕ)
  after = world_after_one w put

  -- no level allows the operation, so P1 refuses the request
  never_public : (v : World (List ℕ)) → (need_of q.ask.op q.ask.args.kinds).level ≡ None → first_rule read.keys (acl_of (part_at v q.ask.key)) q.ask read.moment ≡ Some P1
  never_public v none =
      first_public read.keys (acl_of (part_at v q.ask.key)) q.ask read.moment q.ask.credential anonymous
      ∙ ap (λ (need : Option Level). cond (is_none need) (Some P1) (cond (some_passes (allows_less (acl_of (part_at v q.ask.key))) need) (Some P2) None)) none

  by_need : (need : Option Level) → (need_of q.ask.op q.ask.args.kinds).level ≡ need → reply_to_one after read ≡ reply_to_one w read
  by_need None is = reply-denied read.keys after q read.moment read.bound P1 (never_public after is) ∙ sym (reply-denied read.keys w q read.moment read.bound P1 (never_public w is))
  by_need (Some need) is =
      sym (reply_alike read.keys q read.moment read.bound fits (names_by_level q.ask.op q.ask.args.kinds need is) (seen_by_level q.ask.op q.ask.args.kinds need is) w after (alike-put_block put.keys w put.request put.moment puts q.ask.key))

  -- a request without a credential has the reply after a Put Block that it would have had before
  pub reply-public_put_block : reply_to_one after read ≡ reply_to_one w read
  reply-public_put_block = by_need (need_of q.ask.op q.ask.args.kinds).level refl
