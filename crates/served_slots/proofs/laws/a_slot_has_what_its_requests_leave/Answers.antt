use Rattle.served_slots.proofs.ServeLemmas.{left_after, may_enter, slot_serves}
use Rattle.served_slots.proofs.laws.a_slot_has_what_its_requests_leave.Goals as goal

pub returns-clause-own : goal.returns-clause-own
returns-clause-own c = λ front to s q t left covered. may_enter front to s left q t covered

pub returns-clause-served : goal.returns-clause-served
returns-clause-served c = λ front to s after q t r known known' left covered fits is entered. slot_serves front to s left q t covered r after is known known' entered fits

pub returns-clause-left : goal.returns-clause-left
returns-clause-left c = λ front to s after q t r known known' left covered is entered. left_after front to s left q t covered r after is known known' entered
