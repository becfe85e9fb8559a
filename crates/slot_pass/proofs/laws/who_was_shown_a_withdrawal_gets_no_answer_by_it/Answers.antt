use Rattle.slot_pass.proofs.LawLemmas.{admitted, denied_shown}
use Rattle.slot_pass.proofs.laws.who_was_shown_a_withdrawal_gets_no_answer_by_it.Goals as goal

pub returns-clause-policy : goal.returns-clause-policy
returns-clause-policy c = λ p after s next q t old new a front rest later e id token answers shown had withdraws has none names asks reads named some.
    denied_shown p after s next q t old new a answers names front rest later e id shown had withdraws has none token asks reads named some

pub returns-clause-key : goal.returns-clause-key
returns-clause-key c = λ p after s next q t old new a answers names. admitted p after s next q t old new a answers names
