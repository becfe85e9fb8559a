use Rattle.std.proofs.Common.{◌≡◌, ℕ, ◌+◌, ◌∙◌, List, ap, subst, sym}
use mathlib.Core.List.{IsPrefix}
use Rattle.served_history.specs.declared.entry.Entry.{Entry}
use Rattle.served_history.specs.declared.entry.Entry.TheVariants.{Served}
use Rattle.served_history.specs.Growth.{SlotFront}
use Rattle.served_history.specs.Histories.{count_of, IsOwn}
use Rattle.served_history.proofs.SlotLemmas.{made_it, may_serve, one_more}
use Rattle.served_history.proofs.slot_history.SlotHistory.enter.Goals as goal

pub add_served-requires-clause-own : goal.add_served-requires-clause-own
add_served-requires-clause-own g c =
    let s = c.self.inside in
    let begins : IsPrefix s.front c.learn.new.self = subst (λ (l : List Entry). IsPrefix l c.learn.new.self) c.again-next.ensures.same c.learn.ensures.this in
    may_serve s.word.number s.count s.front c.self.invariant c.again-next.ensures.history c.learn.new.self c.args.call.now begins
    (subst (λ (v : SlotFront). IsOwn v.log (Served v.slot c.args.call.now)) (sym c.self.view_is) c.requires.own)

pub invariant_of-self : goal.invariant_of-self
invariant_of-self g c =
    let s = c.self.inside in
    let begins : IsPrefix s.front c.learn.new.self = subst (λ (l : List Entry). IsPrefix l c.learn.new.self) c.again-next.ensures.same c.learn.ensures.this in
    sym (one_more s.word.number s.count s.front c.self.invariant c.again-next.ensures.history c.args.known.now c.learn.new.self c.add_served.new.self (Served s.word.number c.args.call.now) begins c.learn.ensures.that c.if-not-add_served.ensures (made_it s.word.number))

pub returns-clause-made : goal.returns-clause-made
returns-clause-made g c =
    let s = c.self.inside in
    let begins : IsPrefix s.front c.learn.new.self = subst (λ (l : List Entry). IsPrefix l c.learn.new.self) c.again-next.ensures.same c.learn.ensures.this in
    let more = one_more s.word.number s.count s.front c.self.invariant c.again-next.ensures.history c.args.known.now c.learn.new.self c.add_served.new.self (Served s.word.number c.args.call.now) begins c.learn.ensures.that c.if-not-add_served.ensures (made_it s.word.number) in
    subst (λ (v : SlotFront). count_of v.slot c.add_served.new.self ≡ count_of v.slot v.log + 1) c.self.view_is (more ∙ ap (λ (n : ℕ). n + 1) c.self.invariant)
