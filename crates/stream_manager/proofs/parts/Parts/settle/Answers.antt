use Rattle.std.proofs.Common.{rules, ◌≡◌, true, length}
use Rattle.std.specs.Option.{is_some}
use Rattle.stream_manager.specs.Extents.{extents}
use Rattle.stream_manager.proofs.AppendLemmas.{settle_kept}
use Rattle.stream_manager.proofs.parts.Parts.settle.Goals as goal

pub returns-in-Ok-true-clause-settled : goal.returns-in-Ok-true-clause-settled
returns-in-Ok-true-clause-settled g c =
    let there : is_some c.args.self.now.last.extent.tried ≡ true = search rules in
    let e : c.len.result ≡ length c.args.self.now.sealed.extents = search rules in
    let f = rw c.reserve.ensures.same at c.in-Ok-true.ensures.ended.follows in
    let a = rw c.reserve.ensures.same at c.in-Ok-true.ensures.at in (
      settle_kept (extents c.args.self.now.sealed.extents c.args.self.now.last.extent) (extents c.close_last.new.self.sealed.extents c.close_last.new.self.last.extent)
          c.args.self.now.last.extent.tried (record { extent = c.len.result; index = c.len-2.result })
          (length c.args.self.now.sealed.extents) (length c.args.self.now.last.extent.blocks) c.in-Ok-true.field-0 (search rules) there
          f a e c.len-2.ensures,
      c.in-Ok-true.ensures.sealed.tried,
    )
