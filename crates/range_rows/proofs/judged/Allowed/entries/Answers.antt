use Rattle.std.proofs.Common.{◌≡◌, rules, ap}
use Rattle.std.specs.Prelude.{IfOk}
use Rattle.block_blobs.specs.BlockLists as lists
use Rattle.block_blobs.specs.declared.resolved.Resolved.{Resolved}
use Rattle.range_rows.specs.Readings.{wanted_blocks}
use Rattle.range_rows.proofs.TargetEntries.{made_entries, made_few}
use Rattle.range_rows.proofs.judged.Allowed.entries.Goals as goal

pub returns : goal.returns
returns c =
    let p = c.args.self.now.target.container in
    let q = c.args.request.now in
    let sources = c.args.self.now.found.sources in
    let from : IfOk c.entries_from.result (λ entries. entries ≡ lists.entries_from (wanted_blocks q) sources) = search rules in
    let made = made_entries p q c.requires.allowed.1 sources c.entries_from.result (ap (λ (r : Resolved). r.sources) c.requires.allowed.2) from in
    record {
      value = made;
      few = made_few p q c.requires.allowed.1 c.entries_from.result made;
    }
