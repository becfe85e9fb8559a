use Rattle.std.proofs.Common.{◌≡◌, ◌≤◌, ◌-◌, ◌++◌, ◌∙◌, [], ap, append-nil, arith, drop, length, length-drop, rules, subst, sym, take}
use Rattle.std.specs.Vec.{vec_len}
use Rattle.stream_manager.specs.GivenUp.{with_blocks}
use Rattle.stream_manager.specs.SealedExtents.{SealedList, numbered}
use Rattle.stream_manager.proofs.GivenUpLemmas.{filled_front_given, numbered_length}
use Rattle.stream_manager.proofs.sealed_extents.SealedExtents.give_up_front.Goals as goal

pub returns-then-count-self-clause-given : goal.returns-then-count-self-clause-given
returns-then-count-self-clause-given c =
    let none = filled_front_given c.self.inside.first c.self.inside.handles.items c.args.count (omega arith) in
    let there : with_blocks (take c.args.count c.args.self.now.extents) ≡ [] = subst (λ (s : SealedList). with_blocks (take c.args.count s.extents) ≡ []) c.self.view_is none in
    sym (ap (λ l. c.args.room.now.extents ++ l) there ∙ append-nil c.args.room.now.extents)

pub invariant_of-self : goal.invariant_of-self
invariant_of-self c =
    let first = c.self.inside.first in
    let items = c.self.inside.handles.items in
    let within : c.args.count ≤ length (numbered first items) = subst (λ (s : SealedList). c.args.count ≤ length s.extents) (sym c.self.view_is) c.requires.there in
    let count = numbered_length first items in
    let was : vec_len c.self.inside.handles ≡ length items = search rules in
    let is : vec_len c.take_front.new.handles ≡ length c.take_front.new.handles.items = search rules in
    let cut : length c.take_front.new.handles.items ≡ length items - (c.args.count - first) = ap length c.take_front.ensures.left ∙ length-drop (c.args.count - first) items in
    (c.self.invariant.0, omega (arith, c.self.invariant.1, within, count, was, is, cut))
