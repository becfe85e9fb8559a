use Rattle.std.specs.FinMap as finite
use Rattle.stamp_values.specs.Order.{name_cmp}
use Rattle.stamp_types.proofs.EffectLemmas.{get-remove_same}
use Rattle.stamp_types.proofs.effect_laws.a_deleted_blob_is_as_one_that_never_was.Goals as goal

pub returns-clause-blob : goal.returns-clause-blob
returns-clause-blob g c = λ f a p. get-remove_same p.blobs a.blob

pub returns-clause-container : goal.returns-clause-container
returns-clause-container g c = λ f p name. finite.get-empty name_cmp name
