use Rattle.std.proofs.Common.{◌∙◌}
use Rattle.partition_stream.proofs.SweepingLemmas.{held_given, means_given}
use Rattle.partition_stream.proofs.sweep_laws.what_is_given_up_means_the_same.Goals as goal

pub returns-clause-pieces : goal.returns-clause-pieces
returns-clause-pieces c = λ m s t key given whole. held_given m s t given key ∙ whole

pub returns-clause-bytes : goal.returns-clause-bytes
returns-clause-bytes c = λ m s t key from given whole. means_given m s t given key from whole
