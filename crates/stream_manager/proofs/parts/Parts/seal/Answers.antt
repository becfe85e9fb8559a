use Rattle.std.proofs.Common.{List, length, subst}
use Rattle.extent_node.specs.Copies.{Block}
use Rattle.extent_seal.proofs.HeardLemmas.{heard_none}
use Rattle.stream_manager.specs.Parts.{extents_of}
use Rattle.stream_manager.specs.Places.{Follows}
use Rattle.stream_manager.proofs.PlaceLemmas.{held_here, last_number, sealed_still}
use Rattle.stream_manager.proofs.parts.Parts.seal.Goals as goal

pub returns-then-len-eq0-clause-heard : goal.returns-then-len-eq0-clause-heard
returns-then-len-eq0-clause-heard g c = λ _. heard_none (g.W.Wire.calls c.args.wire.now) (g.W.Wire.faults c.args.wire.now)

pub returns-in_err-reserve-clause-heard : goal.returns-in_err-reserve-clause-heard
returns-in_err-reserve-clause-heard g c = λ _. heard_none (g.W.Wire.calls c.args.wire.now) (g.W.Wire.faults c.args.wire.now)

pub returns-in-Ok-clause-sealed : goal.returns-in-Ok-clause-sealed
returns-in-Ok-clause-sealed g c =
    let old = extents_of c.args.self.now in
    let new = extents_of c.close_last.new.self in
    let follows = rw c.reserve.ensures.same at c.in-Ok.ensures.ended.follows in
    let decided = rw c.reserve.ensures.same at c.in-Ok.ensures.ended.decided in
    let held = held_here c.in-Ok._kept (length c.args.self.now.sealed.extents) c.args.self.now.last.extent old new new
    (last_number c.args.self.now.sealed.extents c.args.self.now.last.extent) decided (sealed_still new) in
    (subst (λ (bs : List Block). Follows old bs new) held follows, c.in-Ok.ensures.sealed.blocks, c.in-Ok.ensures.sealed.tried)
