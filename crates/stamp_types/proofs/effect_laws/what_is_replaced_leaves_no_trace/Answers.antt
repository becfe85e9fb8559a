use Rattle.std.proofs.Common.{◌+◌, [], ◌∷◌, Some, sym, ap, ◌∙◌, map}
use Rattle.std.specs.Option.{option_map}
use Rattle.std.specs.FinMap as finite
use Rattle.stamp_types.specs.World.{Blob}
use Rattle.stamp_types.specs.World.{whole_block}
use Rattle.stamp_types.specs.declared.committed.Block.{Block}
use Rattle.stamp_types.proofs.EffectLemmas.{blob_in-insert}
use Rattle.stamp_types.proofs.effect_laws.what_is_replaced_leaves_no_trace.Goals as goal

pub returns-clause-blob : goal.returns-clause-blob
returns-clause-blob g c = λ f a p q same. blob_in-insert f p (p.count + 1) p.standing a.blob _ ∙ ap (λ n. record { committed = Some (record { etag = n + 1; made = a.moment; props = a.props; metadata = a.metadata; blocks = whole_block (f a.content) ∷ [] }); uncommitted = finite.empty }) same ∙ sym (blob_in-insert f q (q.count + 1) q.standing a.blob _)

pub returns-clause-content : goal.returns-clause-content
returns-clause-content g c = λ f a p. ap (λ (b : Blob _). option_map (λ d. map (λ (block : Block _). block.id) d.blocks) b.committed) (blob_in-insert f p (p.count + 1) p.standing a.blob _)

pub returns-clause-bytes : goal.returns-clause-bytes
returns-clause-bytes g c = λ f a p. ap (λ (b : Blob _). option_map (λ d. map (λ (block : Block _). block.content) d.blocks) b.committed) (blob_in-insert f p (p.count + 1) p.standing a.blob _)

pub returns-clause-uncommitted : goal.returns-clause-uncommitted
returns-clause-uncommitted g c = λ f a p. ap (λ (b : Blob _). b.uncommitted) (blob_in-insert f p (p.count + 1) p.standing a.blob _)
