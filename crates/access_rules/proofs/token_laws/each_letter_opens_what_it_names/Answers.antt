use Rattle.access_rules.proofs.LetterLemmas.{letter_allowed}
use Rattle.access_rules.proofs.TokenLaws.{operation_named}
use Rattle.access_rules.proofs.token_laws.each_letter_opens_what_it_names.Goals as goal

pub returns-clause-no_more : goal.returns-clause-no_more
returns-clause-no_more c = λ keys acl q t fits by. operation_named keys acl q t fits by

pub returns-clause-no_less : goal.returns-clause-no_less
returns-clause-no_less c = λ p r o k named. letter_allowed p r o k named
