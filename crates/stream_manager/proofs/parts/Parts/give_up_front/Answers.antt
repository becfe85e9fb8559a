use Rattle.std.proofs.Common.{refl}
use Rattle.stream_manager.proofs.SizeLemmas.{front_sized}
use Rattle.stream_manager.proofs.parts.Parts.give_up_front.Goals as goal

pub returns-clause-whole : goal.returns-clause-whole
returns-clause-whole c = record {
  whole = record {
    sized = front_sized c.args.self.now.limit c.args.self.now.sealed.extents c.give_up_front.new.self.extents c.args.count c.args.self.now.last.extent c.give_up_front.ensures.left c.requires.whole.sized;
    counted = c.requires.whole.counted;
  };
  limit = refl;
}
