use Rattle.std.proofs.Common.{◌≡◌, ◌-◌, length, arith, rules}
use Rattle.stream_manager.proofs.GivenUpLemmas.{front_cut}
use Rattle.stream_manager.proofs.sealed_extents.take_front.Goals as goal

pub returns-clause-left : goal.returns-clause-left
returns-clause-left c =
    let len : c.len.result ≡ length c.args.handles.now.items = search rules in
    front_cut c.args.count (c.len.result - c.args.count) c.args.handles.now.items c.empty_front.new.handles.items c.rotate_left.new.self.items c.truncate.new.self.items
    c.empty_front.ensures.left c.rotate_left.ensures.items c.truncate.ensures.items (omega (arith, len))
