use Rattle.stamp_core.proofs.RotateLemmas.{rotate_at_core}
use Rattle.stamp_core.proofs.cores.Core.rotate.Goals as goal

pub returns : goal.returns
returns g c = record {
  taken = rotate_at_core (record { slots = c.self.inside.slots.items; points = c.self.inside.spans; tickets = c.self.inside.tickets }) c.args.self.now c.self.view_is c.self.invariant
      c.args.account.now c.args.which c.args.key c.rotate.result c.rotate.new.slots.items c.rotate.ensures.rotated;
}
