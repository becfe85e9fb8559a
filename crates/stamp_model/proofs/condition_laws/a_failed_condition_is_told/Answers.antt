use Rattle.std.proofs.Common.{ap}
use Rattle.stamp_types.specs.declared.reply.Reply.{Reply}
use Rattle.stamp_model.proofs.FailedConditionLemmas.{reply-blob_exists, reply-match_fails, reply-none_match_fails, reply-not_modified}
use Rattle.stamp_model.proofs.condition_laws.a_failed_condition_is_told.Goals as goal

pub returns-clause-match_fails : goal.returns-clause-match_fails
returns-clause-match_fails c = λ keys w q t bound judged fails. reply-match_fails keys w q t bound judged fails

pub returns-clause-not_modified : goal.returns-clause-not_modified
returns-clause-not_modified c = λ keys w q t bound judged met fails reads. reply-not_modified keys w q t bound judged met fails reads

pub returns-clause-status : goal.returns-clause-status
returns-clause-status c = λ keys w q t bound judged met fails reads. ap (λ (r : Reply). r.status) (reply-not_modified keys w q t bound judged met fails reads)

pub returns-clause-blob_exists : goal.returns-clause-blob_exists
returns-clause-blob_exists c = λ keys w q t bound judged met fails written any. reply-blob_exists keys w q t bound judged met fails written any

pub returns-clause-none_match_fails : goal.returns-clause-none_match_fails
returns-clause-none_match_fails c = λ keys w q t bound etag judged met fails written has. reply-none_match_fails keys w q t bound judged met fails written etag has
