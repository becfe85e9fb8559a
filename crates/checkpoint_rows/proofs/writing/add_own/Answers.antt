use Rattle.std.proofs.Common.{◌∙◌}
use Rattle.checkpoint_rows.proofs.WriteLemmas.{only_row}
use Rattle.checkpoint_rows.proofs.writing.add_own.Goals as goal

pub returns-clause-written : goal.returns-clause-written
returns-clause-written g c =
    only_row c.args.new.now c.add_container_row.new.new c.args.key.now c.args.found.now (λ zero. c.if-count-eq0.false (c.count.ensures ∙ zero))
    c.in_ok-add_container_row.ensures.written
