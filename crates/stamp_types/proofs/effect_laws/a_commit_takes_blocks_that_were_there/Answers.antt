use Rattle.std.proofs.Common.{◌+◌, Some, ap, ◌∙◌, map}
use Rattle.std.specs.Option.{option_map}
use Rattle.stamp_types.specs.World.{Blob, blob_in}
use Rattle.stamp_types.specs.declared.committed.Block.{Block}
use Rattle.stamp_types.specs.EffectKinds.{props_and_metadata}
use Rattle.stamp_types.proofs.EffectLemmas.{blob_in-insert, taken_ids, taken_contents, committed_is_first}
use Rattle.stamp_types.proofs.effect_laws.a_commit_takes_blocks_that_were_there.Goals as goal

pub returns-clause-ids : goal.returns-clause-ids
returns-clause-ids g c = λ f a p there. ap (λ (b : Blob _). option_map (λ d. map (λ (block : Block _). block.id) d.blocks) b.committed) (blob_in-insert f p (p.count + 1) p.standing a.blob _) ∙ ap (λ x. Some x) (taken_ids (blob_in p a.blob) a.entries there)

pub returns-clause-contents : goal.returns-clause-contents
returns-clause-contents g c = λ f a p there. ap (λ (b : Blob _). option_map (λ d. map (λ (block : Block _). Some block.content) d.blocks) b.committed) (blob_in-insert f p (p.count + 1) p.standing a.blob _) ∙ ap (λ x. Some x) (taken_contents (blob_in p a.blob) a.entries there)

pub returns-clause-committed : goal.returns-clause-committed
returns-clause-committed g c = λ b d before after block id has blocks own apart. committed_is_first b d before after block id has blocks own apart

pub returns-clause-old : goal.returns-clause-old
returns-clause-old g c = λ f a p. ap (λ (b : Blob _). option_map props_and_metadata b.committed) (blob_in-insert f p (p.count + 1) p.standing a.blob _)

pub returns-clause-left : goal.returns-clause-left
returns-clause-left g c = λ f a p. ap (λ (b : Blob _). b.uncommitted) (blob_in-insert f p (p.count + 1) p.standing a.blob _)
