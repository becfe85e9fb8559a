use Rattle.std.proofs.Common.{◌∙◌}
use Rattle.std.specs.FinMap.{entries}
use Rattle.checkpoint_rows.proofs.WalkLemmas.{all_keys}
use Rattle.checkpoint_rows.proofs.checkpoint.all_containers.Goals as goal

pub returns : goal.returns
returns c =
    c.containers_from.ensures ∙ all_keys (record { account = c.empty.result; container = c.empty-2.result }) (entries c.args.rows.now) c.empty.ensures c.empty-2.ensures
