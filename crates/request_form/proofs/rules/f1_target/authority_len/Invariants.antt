use Rattle.std.proofs.Common.{◌≡◌, ◌+◌, drop}
use Rattle.std.specs.List.{prefix_len}
use Rattle.request_form.specs.Targets.{is_in_authority}
use Rattle.request_form.proofs.rules.f1_target.authority_len.Given as goal

-- what is left gives the answer
abbrev pub invariant-loop-i : goal.invariant-loop-i
invariant-loop-i l = prefix_len is_in_authority l.bytes ≡ l.i + prefix_len is_in_authority (drop l.i l.bytes)
