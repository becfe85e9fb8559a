use Rattle.std.proofs.Common.{◌≡◌, ◌-◌, length, take}
use Rattle.std.specs.Ordering.{nat_cmp}
use Rattle.std.specs.Str.Parse.{digits_value}
use Rattle.request_form.proofs.parse.range_field.compare.Given as goal

-- the order is that of the digits to the left of the place
abbrev pub invariant-loop-place : goal.invariant-loop-place
invariant-loop-place l =
    l.order ≡ nat_cmp (digits_value 10 (take (length l.first - l.place) l.first)) (digits_value 10 (take (length l.last - l.place) l.last))
