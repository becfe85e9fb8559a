use Rattle.slot_pass.specs.Calls.{AdmitsBy, IsTokenDenied}
use Rattle.stamp_locks.specs.Shown.{AdmitsKnown}
use Rattle.stamp_locks.proofs.LawLemmas.{admits_known, of_handled}
use Rattle.stamp_locks.proofs.laws.who_was_shown_a_withdrawal_gets_no_answer_by_it.Goals as goal

pub returns-clause-policy : goal.returns-clause-policy
returns-clause-policy g c = λ p after q t a front rest later e id token handled shown had withdraws has none names asks reads named some.
    of_handled g.W.Wire.faults p after q t a (IsTokenDenied a)
    (λ s next old new answers. c.who_was_shown_a_withdrawal_gets_no_answer_by_it.ensures.policy p after s next q t old new a front rest later e id token answers shown had withdraws has none names asks reads named some) handled

pub returns-clause-key : goal.returns-clause-key
returns-clause-key g c = λ p after q t a handled names.
    of_handled g.W.Wire.faults p after q t a (AdmitsBy after q t a) (λ s next old new answers. c.who_was_shown_a_withdrawal_gets_no_answer_by_it.ensures.key p after s next q t old new a answers names) handled

pub returns-clause-known : goal.returns-clause-known
returns-clause-known g c = λ p after q t a handled names.
    of_handled g.W.Wire.faults p after q t a (AdmitsKnown p after q t a)
    (λ s next old new answers.
    admits_known p after q t a (c.changes_of_two_passes_are_in_one_list.ensures.grown p after s next q t old new a answers).1
    (c.who_was_shown_a_withdrawal_gets_no_answer_by_it.ensures.key p after s next q t old new a answers names)) handled
