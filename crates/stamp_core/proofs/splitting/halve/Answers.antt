use Rattle.std.proofs.Common.{◌∙◌}
use Rattle.stream_manager.specs.declared.faults.StoredFault.TheVariants as stored
use Rattle.stamp_core.proofs.SplitLemmas.{not_halved}
use Rattle.stamp_core.proofs.splitting.halve.Goals as goal

pub returns-in-Err-clause-halved : goal.returns-in-Err-clause-halved
returns-in-Err-clause-halved g c =
    let same = not_halved c.args.slots.now.items c.args.at c.args.middle.now stored.NoMemory in
    (same.0, (same.1.0, c.in-Err.ensures.items ∙ same.1.1))
