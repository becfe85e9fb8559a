use Rattle.std.proofs.Common.{◌≡◌, ◌++◌, None, drop}
use Rattle.std.specs.Option.{option_map}
use Rattle.shared_key.specs.Parameters.{pairs_of, pairs_text}
use Rattle.shared_key.proofs.query.write_arranged.Given as goal

-- what is written, and after it the text of the parameters that are left, are the whole text
abbrev pub invariant-loop-parameter : goal.invariant-loop-parameter
invariant-loop-parameter l =
    l.out.items ++ pairs_text (option_map (λ b. b.now) l.before) (pairs_of (drop l.parameter-index l.parameters))
    ≡ l.initial.out.items ++ pairs_text None (pairs_of l.parameters)
