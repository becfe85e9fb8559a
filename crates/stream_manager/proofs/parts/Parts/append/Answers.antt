use Rattle.std.proofs.Common.{rules, ◌≡◌, length, subst}
use Rattle.extent_seal.proofs.HeardLemmas.{heard_then}
use Rattle.stream_manager.specs.Extents.{extents}
use Rattle.stream_manager.specs.Outcomes.{IsPut}
use Rattle.stream_manager.proofs.AppendLemmas.{calls_after, fails_after, put_after}
use Rattle.stream_manager.proofs.parts.Parts.append.Goals as goal

pub returns-in-Ok-clause-appended : goal.returns-in-Ok-clause-appended
returns-in-Ok-clause-appended g c =
    let same : c.in_ok-first.first ≡ c.args.block.now = search rules in
    put_after c.put.result c.args.self.now.sealed.extents
    (extents c.make_ready.new.self.sealed.extents c.make_ready.new.self.last.extent)
    (extents c.put.new.self.sealed.extents c.put.new.self.last.extent)
    c.args.self.now.last.extent c.put.new.self.last.extent c.in-Ok.field-0 c.args.block.now
    (rw (← c.make_room.ensures.same.unsealed.same_sealed) (rw (← c.make_room.ensures.same.unsealed.same_last) c.in-Ok.ensures.ended.follows))
    (rw (← c.make_room.ensures.same.unsealed.same_sealed) (rw (← c.make_room.ensures.same.unsealed.same_last) c.in-Ok.ensures.ended.decided))
    (subst (λ b. IsPut c.put.result (extents c.make_ready.new.self.sealed.extents c.make_ready.new.self.last.extent) b
    (extents c.put.new.self.sealed.extents c.put.new.self.last.extent) c.put.new.self.last.extent) same c.put.ensures.put)

pub returns-in-Ok-clause-called : goal.returns-in-Ok-clause-called
returns-in-Ok-clause-called g c =
    calls_after c.put.result (extents c.make_ready.new.self.sealed.extents c.make_ready.new.self.last.extent)
    (extents c.put.new.self.sealed.extents c.put.new.self.last.extent) c.put.new.self.last.extent c.in_ok-first.first
    (length c.args.self.now.sealed.extents) (length c.make_ready.new.self.sealed.extents) (length c.put.new.self.sealed.extents)
    (g.W.Wire.calls c.args.wire.now) (g.W.Wire.calls c.make_ready.new.wire) (g.W.Wire.calls c.put.new.wire)
    (search rules) c.put.ensures.twice c.in-Ok.ensures.unput (search rules) c.put.ensures.put c.put.ensures.called

pub returns-in-Ok-clause-counted : goal.returns-in-Ok-clause-counted
returns-in-Ok-clause-counted g c =
    fails_after c.put.result (extents c.make_ready.new.self.sealed.extents c.make_ready.new.self.last.extent)
    (extents c.put.new.self.sealed.extents c.put.new.self.last.extent) c.put.new.self.last.extent c.in_ok-first.first
    (length c.args.self.now.sealed.extents) (length c.make_ready.new.self.sealed.extents) (length c.put.new.self.sealed.extents)
    (g.W.Wire.faults c.args.wire.now) (g.W.Wire.faults c.make_ready.new.wire) (g.W.Wire.faults c.put.new.wire)
    (search rules) c.put.ensures.twice c.in-Ok.ensures.counted c.put.ensures.put c.put.ensures.counted

pub returns-in-Ok-clause-heard : goal.returns-in-Ok-clause-heard
returns-in-Ok-clause-heard g c = λ sure _.
    heard_then (g.W.Wire.calls c.args.wire.now) (g.W.Wire.calls c.make_ready.new.wire) (g.W.Wire.calls c.put.new.wire)
    (g.W.Wire.faults c.args.wire.now) (g.W.Wire.faults c.make_ready.new.wire) (g.W.Wire.faults c.put.new.wire)
    c.in-Ok.ensures.heard (c.put.ensures.heard sure)
