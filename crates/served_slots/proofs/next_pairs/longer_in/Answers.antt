use Rattle.std.proofs.Common.{◌∙◌, IfErr, IfOk, subst}
use Rattle.std.specs.Arc.{arc_value}
use Rattle.slot_state.specs.NextPairs.{HasNextPair, HasNoNextPair}
use Rattle.slot_state.specs.Pairs.{Pairs}
use Rattle.served_slots.proofs.next_pairs.longer_in.Goals as goal

pub returns-clause-made : goal.returns-clause-made
returns-clause-made c =
    subst (λ (ps : Pairs). IfOk c.rotated.result (λ longer. HasNextPair ps c.args.change.now.account.now c.args.change.now.which c.args.change.now.key.now longer.epoch (arc_value longer.pairs)))
    (c.deref.ensures ∙ c.account_pairs.ensures) c.rotated.ensures.made

pub returns-clause-refused : goal.returns-clause-refused
returns-clause-refused c =
    subst (λ (ps : Pairs). IfErr c.rotated.result (λ fault. HasNoNextPair ps c.args.change.now.account.now fault)) (c.deref.ensures ∙ c.account_pairs.ensures) c.rotated.ensures.refused
