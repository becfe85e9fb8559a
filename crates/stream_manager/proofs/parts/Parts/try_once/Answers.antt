use Rattle.std.proofs.Common.{rules, map, length, ◌≡◌}
use Rattle.stream_manager.proofs.AppendLemmas.{short_kept}
use Rattle.stream_manager.specs.Extents.{closed_blocks, extents}
use Rattle.stream_manager.proofs.PlaceLemmas.{grown_follows, append_at}
use Rattle.stream_manager.proofs.parts.Parts.try_once.Goals as goal

pub returns-in-All-clause-tried : goal.returns-in-All-clause-tried
returns-in-All-clause-tried g c =
    let a = rw c.in-All.is at c.append_reserved.ensures.appended in
    let e : c.len.result ≡ length c.args.self.now.sealed.extents = search rules in (
      grown_follows (map closed_blocks c.args.self.now.sealed.extents) c.args.self.now.last.extent.blocks c.append_reserved.new.self.extent.blocks c.args.block a.0,
      append_at c.args.self.now.sealed.extents c.args.self.now.last.extent c.append_reserved.new.self.extent c.args.block (record { extent = c.len.result; index = c.len-2.result }) a.0 e c.len-2.ensures,
      a.1,
    )

pub returns-in-Ok-true-clause-tried : goal.returns-in-Ok-true-clause-tried
returns-in-Ok-true-clause-tried g c =
    let a = rw c.in-Short.is at c.append_reserved.ensures.appended in
    let e : c.len.result ≡ length c.args.self.now.sealed.extents = search rules in
    let k = short_kept c.args.self.now.sealed.extents c.args.self.now.last.extent c.append_reserved.new.self.extent
    (extents c.close_last.new.self.sealed.extents c.close_last.new.self.last.extent) c.args.block
    (record { extent = c.len.result; index = c.len-2.result }) c.in-Ok-true.field-0
    a.0 a.1 (search rules) c.in-Ok-true.ensures.ended.follows c.in-Ok-true.ensures.at e c.len-2.ensures in
    (k.0, k.1, c.in-Ok-true.ensures.sealed.tried)
