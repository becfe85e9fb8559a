use Rattle.std.proofs.Common.{arith, subst, IfErr, IfOk}
use Rattle.std.specs.Arc.{arc_value}
use Rattle.slot_state.specs.NextPairs.{HasNextPair}
use Rattle.slot_state.specs.Pairs.{Pairs}
use Rattle.stamp_core.specs.Rotations.{TellsNoNextPair}
use Rattle.stamp_core.proofs.RotateLemmas.{first_are, some_slot}
use Rattle.stamp_core.proofs.rotating.longer_pairs.Goals as goal

pub index-requires : goal.index-requires
index-requires g c = omega (arith, some_slot c.args.slots.now.items c.args.spans.now c.requires)

pub returns-clause-made : goal.returns-clause-made
returns-clause-made g c =
    subst (λ (ps : Pairs). IfOk c.next_pairs.result (λ longer. HasNextPair ps c.args.account.now c.args.which c.args.key.now longer.epoch (arc_value longer.pairs)))
    (first_are c.args.slots.now.items c.args.spans.now c.requires c.deref.result.now (arc_value c.account_pairs.result.now) c.index.result.now _ c.index.ensures c.account_pairs.ensures c.deref.ensures) c.next_pairs.ensures.made

pub returns-clause-refused : goal.returns-clause-refused
returns-clause-refused g c =
    subst (λ (ps : Pairs). IfErr c.next_pairs.result (λ fault. TellsNoNextPair ps c.args.account.now fault))
    (first_are c.args.slots.now.items c.args.spans.now c.requires c.deref.result.now (arc_value c.account_pairs.result.now) c.index.result.now _ c.index.ensures c.account_pairs.ensures c.deref.ensures) c.next_pairs.ensures.refused
