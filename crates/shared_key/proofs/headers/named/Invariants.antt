use Rattle.std.proofs.Common.{◌≡◌, map, filter, length, []}
use Rattle.std.specs.Map.Iter.{deref_pair}
use Rattle.shared_key.specs.Strings.{field_pair, is_ms}
use Rattle.shared_key.proofs.Named.{put_all}
use Rattle.shared_key.proofs.headers.named.Given as goal

-- the headers that are left, put over the entries so far, give the answer
abbrev pub invariant-loop-header : goal.invariant-loop-header
invariant-loop-header l = put_all (map field_pair (filter is_ms l.left)) (map deref_pair l.named.entries) ≡ put_all (map field_pair (filter is_ms l.headers)) []

abbrev pub decreases-loop-header : goal.decreases-loop-header
decreases-loop-header l = length l.left
