use Rattle.std.proofs.Common.{◌+◌, ap, ◌∙◌}
use Rattle.std.specs.Option.{option_map}
use Rattle.stamp_types.specs.World.{Blob, blob_in}
use Rattle.stamp_types.specs.EffectKinds.{blocks_and_props}
use Rattle.stamp_types.proofs.EffectLemmas.{blob_in-set_metadata, same_kept, new_metadata}
use Rattle.stamp_types.proofs.effect_laws.set_metadata_changes_metadata_alone.Goals as goal

pub returns-clause-stays : goal.returns-clause-stays
returns-clause-stays g c = λ f a p. ap (λ (b : Blob _). option_map blocks_and_props b.committed) (blob_in-set_metadata f p a) ∙ same_kept f p (p.count + 1) a (blob_in p a.blob).committed

pub returns-clause-new : goal.returns-clause-new
returns-clause-new g c = λ f a p. ap (λ (b : Blob _). option_map (λ d. d.metadata) b.committed) (blob_in-set_metadata f p a) ∙ new_metadata f p (p.count + 1) a (blob_in p a.blob).committed

pub returns-clause-uncommitted : goal.returns-clause-uncommitted
returns-clause-uncommitted g c = λ f a p. ap (λ (b : Blob _). b.uncommitted) (blob_in-set_metadata f p a)
