use Rattle.std.proofs.Common.{refl}
use Rattle.stream_manager.proofs.SizeLemmas.{given_up_sized}
use Rattle.stream_manager.proofs.parts.Parts.give_up.Goals as goal

pub returns-clause-whole : goal.returns-clause-whole
returns-clause-whole c = record {
  whole = record {
    sized = given_up_sized c.args.self.now.limit c.args.self.now.sealed.extents c.give_up.new.self.extents c.args.extent c.args.self.now.last.extent c.give_up.ensures.left c.requires.whole.sized;
    counted = c.requires.whole.counted;
  };
  limit = refl;
}
