use Rattle.std.proofs.Common.{ap, subst}
use Rattle.std.specs.Option.{is_some}
use Rattle.partition_stream.specs.Meanings.{held_of}
use Rattle.stored_rows.specs.States.{MeansTheSame, Stored}
use Rattle.stored_rows.proofs.LimitLemmas.{limit_kept}
use Rattle.stored_rows.proofs.RepairLemmas.{repaired_loaded, repaired_means}
use Rattle.stored_rows.proofs.SweepCallLemmas.{repaired_swept}
use Rattle.stored_rows.proofs.RowDoubtLemmas.{row_same}
use Rattle.stored_rows.proofs.stored_rows.StoredRows.copy_extent.Goals as goal

pub invariant_of-self : goal.invariant_of-self
invariant_of-self g c = record {
  loaded = repaired_loaded c.self.inside.streams c.repair.new.self c.repair.ensures.logged c.self.inside.rows c.self.inside.doubt c.self.inside.range c.self.invariant.loaded;
  limits = limit_kept c.self.inside.extent_bytes c.self.inside.streams c.repair.new.self c.self.invariant.limits c.repair.ensures.limits;
  swept = repaired_swept c.self.inside.streams c.repair.new.self c.self.inside.range c.self.inside.sweep c.self.invariant.swept c.repair.ensures.blocks c.repair.ensures.logged;
  again = row_same c.self.inside.streams c.repair.new.self c.self.inside.spare c.repair.ensures.blocks.blobs (λ key. ap (λ l. held_of l key) c.repair.ensures.logged) (ap (λ l. l.doubt) c.repair.ensures.logged)
      c.self.invariant.again;
}

pub returns-clause-same : goal.returns-clause-same
returns-clause-same g c =
    subst (λ (v : Stored). MeansTheSame v (record { streams = c.repair.new.self; range = c.self.inside.range; is_loaded = is_some c.self.inside.rows })) c.self.view_is
    (repaired_means c.self.inside.streams c.repair.new.self c.repair.ensures.logged c.self.inside.range (is_some c.self.inside.rows))
