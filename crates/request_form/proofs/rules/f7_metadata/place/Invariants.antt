use Rattle.std.proofs.Common.{◌≡◌, ◌+◌, drop}
use Rattle.std.specs.List.{position_or_len}
use Rattle.request_form.specs.HeadMetadata.{is_before}
use Rattle.request_form.proofs.rules.f7_metadata.place.Given as goal

-- what is left gives the answer
abbrev pub invariant-loop-i : goal.invariant-loop-i
invariant-loop-i l = position_or_len (is_before l.name) l.fields ≡ l.i + position_or_len (is_before l.name) (drop l.i l.fields)
