use Rattle.stamp_model.proofs.SuccessLemmas.{md5-get}
use Rattle.stamp_model.proofs.success_laws.a_blob_is_read_with_the_md5_of_its_bytes.Goals as goal

pub returns : goal.returns
returns c = λ w key name put get fits puts gets whole none free. md5-get w key name put fits puts none get gets whole free
