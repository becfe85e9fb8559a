use Rattle.std.proofs.Common.{◌≡◌, ◌++◌, ◌∷◌, [], arith}
use Rattle.std.proofs.lemmas.Grind.{common_steps}
use Rattle.std.proofs.lemmas.List.{drop_all}
use Rattle.body_forms.proofs.IdTurns.{next_id, missing_id, all_ids}
use Rattle.body_forms.proofs.ids.read_ids.Goals as goal

pub returns-in-None-clause-value : goal.returns-in-None-clause-value
returns-in-None-clause-value c =
    let none = rw c.in-None.is at c.in_ok-block.ensures.value in
    missing_id c.args.elements.now c.loop-element.element-index _ c.loop-element.blocks.items c.loop-element-test.true c.loop-element.invariant none

pub loop-element-preserved : goal.loop-element-preserved
loop-element-preserved c =
    let value = rw c.in-Some.is at c.in_ok-block.ensures.value in
    let read = rw c.in-Some.is at c.in_ok-block.ensures.read in
    let next = next_id c.args.elements.now c.loop-element.element-index _ c.loop-element.blocks.items _ c.loop-element-test.true c.loop-element.invariant value read in
    let pushed : c.push.new.self.items ≡ c.loop-element.blocks.items ++ c.in-Some.block ∷ [] = grind (arith, common_steps) in
    rw pushed next

pub returns : goal.returns
returns c =
    let (value, read) = all_ids c.args.elements.now _ c.loop-element.blocks.items (drop_all c.loop-element.element-index c.args.elements.now c.loop-element-test.false) c.loop-element.invariant in
    record { value = value; read = read }
