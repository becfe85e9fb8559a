use Rattle.std.proofs.Common.{◌≡◌, take}
use Rattle.request_form.specs.HeadRanges.{number_within}
use Rattle.request_form.proofs.parse.range_field.number_within.Given as goal

-- the number is that of the digits so far
abbrev pub invariant-loop-digit : goal.invariant-loop-digit
invariant-loop-digit l = l.number ≡ number_within (take l.digit-index l.digits)
