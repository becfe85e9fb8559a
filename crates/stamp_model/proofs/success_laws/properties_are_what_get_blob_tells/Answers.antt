use Rattle.stamp_model.proofs.SuccessLemmas.{reply-properties}
use Rattle.stamp_model.proofs.success_laws.properties_are_what_get_blob_tells.Goals as goal

pub returns : goal.returns
returns c = λ w key name properties get asks gets whole alike free none. reply-properties w key name properties get asks gets whole alike free none
