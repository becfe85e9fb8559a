use Rattle.stream_manager.proofs.RunLemmas.{sealed_from}
use Rattle.stream_manager.proofs.laws.a_commit_length_never_changes.Goals as goal

pub returns : goal.returns
returns c = λ s ts from e run l there. sealed_from from e s ts l there run
