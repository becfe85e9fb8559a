use Rattle.std.proofs.Common.{◌+◌, ap, ◌∙◌}
use Rattle.std.specs.FinMap as finite
use Rattle.stamp_types.specs.World.{Blob, blob_in}
use Rattle.stamp_types.proofs.EffectLemmas.{blob_in-insert, get-insert_same, get-insert_other}
use Rattle.stamp_types.proofs.effect_laws.an_uncommitted_block_is_not_seen.Goals as goal

pub returns-clause-seen : goal.returns-clause-seen
returns-clause-seen g c = λ f a p. ap (λ (b : Blob _). b.committed) (blob_in-insert f p (p.count + 1) p.standing a.blob _)

pub returns-clause-new : goal.returns-clause-new
returns-clause-new g c = λ f a p. ap (λ (b : Blob _). finite.get b.uncommitted a.id) (blob_in-insert f p (p.count + 1) p.standing a.blob _) ∙ get-insert_same (blob_in p a.blob).uncommitted a.id (f a.content)

pub returns-clause-others : goal.returns-clause-others
returns-clause-others g c = λ f a p id apart. ap (λ (b : Blob _). finite.get b.uncommitted id) (blob_in-insert f p (p.count + 1) p.standing a.blob _) ∙ get-insert_other (blob_in p a.blob).uncommitted a.id (f a.content) id apart
