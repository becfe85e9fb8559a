use Rattle.std.proofs.Common.{◌≡◌, ◌++◌, map}
use Rattle.shared_key.specs.Parameters.{pairs_of}
use Rattle.shared_key.specs.Strings.{field_pair}
use Rattle.shared_key.proofs.query.read_parameters.Given as goal

-- the parameters so far, and after them the fields that are left, are all parameters
abbrev pub invariant-loop-field : goal.invariant-loop-field
invariant-loop-field l = pairs_of l.parameters.items ++ map field_pair l.field-iterator ≡ map field_pair l.query
