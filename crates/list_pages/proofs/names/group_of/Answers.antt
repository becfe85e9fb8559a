use Rattle.std.proofs.Common.{◌≡◌, ◌≢◌, ◌+◌, ◌≤◌, length, drop, Some, sym, ap, ◌∙◌, arith}
use Rattle.std.proofs.lemmas.List.{length-take-le}
use Rattle.list_pages.specs.Seeks.{cut_from}
use Rattle.list_pages.proofs.Cuts.{group_at, no_group, within_name, from_place}
use Rattle.list_pages.proofs.names.group_of.Goals as goal

ended : (c : goal.In-Some) → cut_from 0 c.args.delimiter.now (drop (length c.args.prefix.now) c.args.name.now) ≡ Some c.in-Some.end
ended c = ap (cut_from 0 c.args.delimiter.now) (sym (from_place (length c.args.prefix.now) c.args.name.now)) ∙ sym c.cut_end.ensures ∙ c.in-Some.is

within : (c : goal.In-Some) → length c.args.prefix.now + c.in-Some.end ≤ length c.args.name.now
within c =
    let some : length c.args.delimiter.now ≢ 0 = omega arith in
    within_name c.args.prefix.now c.args.delimiter.now c.args.name.now c.in-Some.end c.requires some (ended c)

pub overflow_add-result : goal.overflow_add-result
overflow_add-result c = omega (arith, within c)

pub slice_bounds-result-end : goal.slice_bounds-result-end
slice_bounds-result-end c = sym (length-take-le (length c.args.prefix.now + c.in-Some.end) c.args.name.now (within c))

pub returns-in-Some : goal.returns-in-Some
returns-in-Some c =
    let some : length c.args.delimiter.now ≢ 0 = omega arith in
    sym (group_at c.args.prefix.now c.args.delimiter.now c.args.name.now c.in-Some.end c.requires some (ended c))

pub returns-in-None : goal.returns-in-None
returns-in-None c =
    let some : length c.args.delimiter.now ≢ 0 = omega arith in
    sym (no_group c.args.prefix.now c.args.delimiter.now c.args.name.now some (ap (cut_from 0 c.args.delimiter.now) (sym (from_place (length c.args.prefix.now) c.args.name.now)) ∙ sym c.cut_end.ensures ∙ c.in-None.is))
