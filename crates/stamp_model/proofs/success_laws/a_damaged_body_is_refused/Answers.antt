use Rattle.stamp_model.proofs.SuccessLemmas.{md5-content, md5-kept, reply-damaged}
use Rattle.stamp_model.proofs.success_laws.a_damaged_body_is_refused.Goals as goal

pub returns-clause-content_md5 : goal.returns-clause-content_md5
returns-clause-content_md5 c = λ keys w q t bound sum none given. md5-content keys w q t bound none sum given

pub returns-clause-blob_md5 : goal.returns-clause-blob_md5
returns-clause-blob_md5 c = λ keys w q t bound kept sum none puts keeps given. md5-kept keys w q t bound none kept sum puts keeps given

pub returns-clause-told : goal.returns-clause-told
returns-clause-told c = λ keys w q t bound sum none given apart. reply-damaged keys w q t bound sum none given apart
