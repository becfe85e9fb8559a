use Rattle.std.proofs.Common.{◌≡◌, ◌∙◌, List, arith, subst, sym}
use Rattle.std.proofs.lemmas.Bool.Decides.{nat_tests}
use mathlib.Core.List.{IsPrefix}
use Rattle.served_history.specs.declared.entry.Entry.{Entry}
use Rattle.served_history.specs.declared.entry.Entry.TheVariants.{Split}
use Rattle.served_history.specs.Growth.{SlotFront}
use Rattle.served_history.specs.Histories.{GoesOnWithout, IsOwn}
use Rattle.served_history.proofs.SlotLemmas.{made_it, may_split, one_more, prefix_same, upper_goes}
use Rattle.served_history.proofs.slot_history.SlotHistory.split.Goals as goal

pub add_split-requires-clause-own : goal.add_split-requires-clause-own
add_split-requires-clause-own g c =
    let s = c.self.inside in
    may_split s.word.number s.count s.front c.self.invariant c.again-lower.ensures.history c.again-lower.result c.args.middle.now c.args.spare.number (prefix_same s.front c.again-lower.result c.again-lower.ensures.same)
    (subst (λ (v : SlotFront). IsOwn v.log (Split v.slot c.args.middle.now c.args.spare.number)) (sym c.self.view_is) c.requires.own)

pub invariant_of-self : goal.invariant_of-self
invariant_of-self g c =
    let s = c.self.inside in
    let begins = prefix_same s.front c.again-lower.result c.again-lower.ensures.same in
    sym (one_more s.word.number s.count s.front c.self.invariant c.again-lower.ensures.history s.front c.again-lower.result c.add_split.new.self (Split s.word.number c.args.middle.now c.args.spare.number) begins begins c.if-not-add_split.ensures (made_it s.word.number))

pub invariant_of-self-2 : goal.invariant_of-self-2
invariant_of-self-2 g c =
    let s = c.self.inside in
    let begins = prefix_same s.front c.again-lower.result c.again-lower.ensures.same in
    sym (one_more s.word.number s.count s.front c.self.invariant c.again-lower.ensures.history s.front c.again-lower.result c.add_split.new.self (Split s.word.number c.args.middle.now c.args.spare.number) begins begins c.if-not-add_split.ensures (made_it s.word.number))

pub returns-clause-upper : goal.returns-clause-upper
returns-clause-upper g c =
    let goes : IsPrefix c.add_split.new.self c.look-found.new.self = subst (λ (l : List Entry). IsPrefix l c.look-found.new.self) c.again-front.ensures.same c.look-found.ensures.begins in
    let zero : c.look-found.result ≡ 0 = grind (arith, nat_tests) in
    subst (GoesOnWithout c.args.spare.number c.add_split.new.self) (sym c.new.ensures.log)
    (upper_goes c.args.spare.number c.add_split.new.self c.look-found.new.self goes c.again-front.ensures.history c.look-found.ensures.history (c.look-found.ensures.counted ∙ zero))
