use Rattle.std.proofs.Common.{◌∙◌}
use Rattle.std.specs.FinMap.{entries}
use Rattle.checkpoint_rows.proofs.WalkLemmas.{all_names}
use Rattle.checkpoint_rows.proofs.writing.all_blobs.Goals as goal

pub returns : goal.returns
returns c = c.blobs_from.ensures ∙ all_names c.new.result.items (entries c.args.found.now.blobs) c.new.ensures.items
