use Rattle.std.proofs.Common.{◌≡◌, ◌++◌, map, take}
use Rattle.shared_key.specs.Strings.{standard_lines}
use Rattle.shared_key.proofs.headers.write_lines.Given as goal

-- the lines so far were put at the end
abbrev pub invariant-loop-name : goal.invariant-loop-name
invariant-loop-name l =
    l.out.items ≡ l.initial.out.items ++ standard_lines l.headers (map (λ name. name.now) (take l.name-index l.names))
