use Rattle.std.proofs.Common.{ap, ◌∙◌, map}
use Rattle.std.specs.FinMap as finite
use Rattle.stamp_types.specs.World.{Blob}
use Rattle.stamp_values.specs.Order.{names_total}
use Rattle.stamp_types.specs.World.{uncommitted_entry}
use Rattle.stamp_types.proofs.EffectLemmas.{blob_in-insert, listed}
use Rattle.stamp_types.proofs.effect_laws.a_stored_blob_is_what_its_row_says.Goals as goal

pub returns-clause-committed : goal.returns-clause-committed
returns-clause-committed g c = λ f a p. ap (λ (b : Blob _). b.committed) (blob_in-insert f p p.count p.standing a.blob _)

pub returns-clause-uncommitted : goal.returns-clause-uncommitted
returns-clause-uncommitted g c = λ f a p id. ap (λ (b : Blob _). finite.get b.uncommitted id) (blob_in-insert f p p.count p.standing a.blob _) ∙ finite.get-from_entries names_total (map (uncommitted_entry f) a.uncommitted) id ∙ listed f id a.uncommitted
