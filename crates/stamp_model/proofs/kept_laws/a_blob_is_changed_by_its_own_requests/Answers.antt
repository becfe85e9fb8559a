use Rattle.stamp_model.proofs.KeptLemmas.{blob_in-left, committed-left, content-left}
use Rattle.stamp_model.proofs.kept_laws.a_blob_is_changed_by_its_own_requests.Goals as goal

pub returns-clause-blob : goal.returns-clause-blob
returns-clause-blob c = λ keys w q t key name leaves. blob_in-left keys w q t key name leaves

pub returns-clause-seen : goal.returns-clause-seen
returns-clause-seen c = λ keys w q t key name leaves. committed-left keys w q t key name leaves

pub returns-clause-content : goal.returns-clause-content
returns-clause-content c = λ keys w q t key name leaves. content-left keys w q t key name leaves
