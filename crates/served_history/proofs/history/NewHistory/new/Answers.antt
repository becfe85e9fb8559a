use Rattle.std.proofs.Common.{arith, subst, sym}
use Rattle.served_history.specs.Histories.{IsHistory}
use Rattle.served_history.proofs.RowLemmas.{history-opened, opened}
use Rattle.served_history.proofs.history.NewHistory.new.Goals as goal

pub open_row-seen-requires : goal.open_row-seen-requires
open_row-seen-requires c = (opened c.args.pairs.now, (λ names. tt), c.alone.ensures.1)

pub invariant_of-result : goal.invariant_of-result
invariant_of-result c =
    let row = c.open_row-seen.ensures in
    (row.2, omega (arith, row.3, row.4), subst IsHistory (sym row.1) (history-opened c.args.pairs.now))
