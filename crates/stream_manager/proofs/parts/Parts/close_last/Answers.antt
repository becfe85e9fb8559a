use Rattle.std.proofs.Common.{map}
use Rattle.stream_manager.specs.Extents.{closed_blocks}
use Rattle.stream_manager.proofs.PartLemmas.{close_ends, close_whole, last_blocks}
use Rattle.stream_manager.proofs.PlaceLemmas.{close_at}
use Rattle.stream_manager.proofs.parts.Parts.close_last.Goals as goal

pub returns-clause-ended : goal.returns-clause-ended
returns-clause-ended g c =
    close_ends c.close.result c.args.self.now c.close.new.self c.close.ensures.moved
    (last_blocks c.close.result c.args.self.now c.close.new.self (g.W.Wire.faults c.args.wire.now) (g.W.Wire.faults c.close.new.wire) c.close.ensures.sealed)

pub returns-clause-at : goal.returns-clause-at
returns-clause-at g c =
    close_at c.close.result c.args.self.now.sealed.extents (map closed_blocks c.close.new.self.sealed.extents)
    c.args.self.now.last.extent c.close.new.self.last.extent c.close.ensures.moved
    (last_blocks c.close.result c.args.self.now c.close.new.self (g.W.Wire.faults c.args.wire.now) (g.W.Wire.faults c.close.new.wire) c.close.ensures.sealed)

pub returns-clause-whole : goal.returns-clause-whole
returns-clause-whole g c =
    close_whole c.close.result c.args.self.now c.close.new.self (g.W.Wire.faults c.args.wire.now) (g.W.Wire.faults c.close.new.wire)
    c.close.ensures.moved c.close.ensures.sealed c.close.ensures.same c.close.ensures.bytes c.close.ensures.same_bytes c.close.ensures.limit c.requires.whole
