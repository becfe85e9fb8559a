use Rattle.std.proofs.Common.{◌+◌, ◌-◌, length, drop, ap, ◌∙◌, arith}
use Rattle.std.specs.List.{prefix_len}
use Rattle.std.proofs.lemmas.Bool.{cases_lt}
use Rattle.std.proofs.lemmas.List.{take_all, length-drop}
use Rattle.request_form.specs.Targets.{is_in_authority}
use Rattle.request_form.proofs.TargetLemmas.{text_after}
use Rattle.request_form.proofs.rules.f1_target.origin.Goals as goal

pub returns-clause-utf8 : goal.returns-clause-utf8
returns-clause-utf8 c =
    let target = c.args.target.now in
    let len = c.authority_len-len.result in
    let rest = take_all (length target - 7) (drop 7 target) (omega (arith, length-drop 7 target)) in
    let same = c.authority_len-len.ensures.value ∙ ap (prefix_len is_in_authority) rest in
    λ utf8. rw (take_all (length target - (7 + len)) (drop (7 + len) target) (omega (arith, length-drop (7 + len) target)))
    (text_after target len utf8 same (cases_lt (7 + len) (length target)))
