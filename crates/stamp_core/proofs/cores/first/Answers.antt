use Rattle.std.proofs.Common.{rules, ◌≡◌, ◌∷◌, []}
use Rattle.std.specs.Arc.{arc_value}
use Rattle.slot_state.specs.Slots.{empty_slot}
use Rattle.stamp_core.proofs.RangeLemmas.{first_spans}
use Rattle.stamp_core.proofs.cores.first.Goals as goal

pub invariant_of-result : goal.invariant_of-result
invariant_of-result g c =
    let one : c.push.new.self.items ≡ empty_slot (arc_value c.args.pairs) ∷ [] = search rules in
    first_spans (arc_value c.args.pairs) c.push.new.self.items c.new.result one c.new.ensures
