use Rattle.std.proofs.Common.{◌≡◌, map, filter}
use Rattle.std.specs.Prelude.{not}
use Rattle.request_form.specs.Targets.{parameter_of, is_nothing}
use Rattle.request_form.proofs.rules.f1_target.read_parameters.Given as goal

-- the list has the parameters of the pieces so far
abbrev pub invariant-loop-piece : goal.invariant-loop-piece
invariant-loop-piece l = l.parameters ≡ map parameter_of (filter (λ piece. not (is_nothing piece)) (map (λ y. y.now) l.yielded))
