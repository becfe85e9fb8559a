use Rattle.std.proofs.Common.{◌≤◌, subst}
use Rattle.checkpoint_rows.proofs.WritableLemmas.{held_of-writable}
use Rattle.stored_rows.proofs.rewriting.write_container.Goals as goal

pub container_row-requires-clause-named : goal.container_row-requires-clause-named
container_row-requires-clause-named g c =
    (held_of-writable c.args.streams.now c.args.key.now c.kept.ensures).named (subst (λ p. 1 ≤ p.count) c.requires.own c.requires.seen)
