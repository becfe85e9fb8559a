use Rattle.std.proofs.Common.{◌≡◌, ◌++◌, map}
use Rattle.std.specs.List.{flat_map}
use Rattle.shared_key.specs.Strings.{header_line}
use Rattle.std.specs.Map.Iter.{deref_pair}
use Rattle.shared_key.proofs.headers.write_named.Given as goal

-- the lines so far, and after them the lines of the headers that are left, are all lines
abbrev pub invariant-loop-name : goal.invariant-loop-name
invariant-loop-name l = l.out.items ++ flat_map header_line (map deref_pair l.name-iterator) ≡ l.initial.out.items ++ flat_map header_line (map deref_pair l.named.entries)
