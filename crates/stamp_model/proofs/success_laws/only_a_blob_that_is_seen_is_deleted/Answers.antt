use Rattle.std.proofs.Common.{List, ℕ, Option, refl, ap}
use Rattle.std.specs.Prelude.{is_some}
use Rattle.stamp_values.specs.declared.op.Op.TheVariants as op
use Rattle.stamp_types.specs.declared.committed.Committed.{Committed}
use Rattle.stamp_model.proofs.SuccessLemmas.{seen-before}
use Rattle.stamp_model.proofs.success_laws.only_a_blob_that_is_seen_is_deleted.Goals as goal

pub returns : goal.returns
returns c = λ w key name delete deletes none. ap (λ (o : Option (Committed (List ℕ))). is_some o) (seen-before w key name op.DeleteBlob delete refl deletes none).1
