use Rattle.std.proofs.Common.{◌≡◌, map, drop}
use Rattle.std.specs.List.{list_any}
use Rattle.stamp_values.specs.Fields.{is_sent_twice}
use Rattle.request_form.proofs.rules.f7_values.is_any_twice.Given as goal

-- what is left gives the answer
abbrev pub invariant-loop-name : goal.invariant-loop-name
invariant-loop-name l =
    list_any (is_sent_twice l.fields) (map (λ name. name.now) (drop l.name-index l.names)) ≡ list_any (is_sent_twice l.fields) (map (λ name. name.now) l.names)
