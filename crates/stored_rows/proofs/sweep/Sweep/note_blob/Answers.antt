use Rattle.std.proofs.Common.{◌≡◌, Some, rules}
use Rattle.std.specs.FinMap as finite
use Rattle.stored_rows.proofs.TouchLemmas.{noted_same}
use Rattle.stored_rows.proofs.sweep.Sweep.note_blob.Goals as goal

pub returns-in_err-insert-in-Some-clause-refused : goal.returns-in_err-insert-in-Some-clause-refused
returns-in_err-insert-in-Some-clause-refused c =
    let there : finite.get c.args.self.now.touched c.args.key.now ≡ Some c.insert.new.self = search rules in
    noted_same c.from_residual-in_err-insert-in-Some.result c.args.self.now c.args.key.now c.insert.new.self there
