use Rattle.std.proofs.Common.{◌≡◌, ◌+◌, drop}
use Rattle.std.specs.Prelude.{◌==◌}
use Rattle.std.specs.List.{position_or_len}
use Rattle.shared_key.proofs.authorization.position.Given as goal

-- the position in all bytes is the position in the bytes that are left, counted from the index so far
abbrev pub invariant-loop-i : goal.invariant-loop-i
invariant-loop-i l = position_or_len (λ b. b == l.wanted) l.bytes ≡ l.i + position_or_len (λ b. b == l.wanted) (drop l.i l.bytes)
