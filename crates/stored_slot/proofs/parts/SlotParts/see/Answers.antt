use Rattle.std.specs.Arc.{arc_value}
use Rattle.stored_slot.proofs.AuditLemmas.{own_seen, seen_known}
use Rattle.stored_slot.proofs.parts.SlotParts.see.Goals as goal

pub seen_loaded-requires-clause-covered : goal.seen_loaded-requires-clause-covered
seen_loaded-requires-clause-covered g c = own_seen c.args.self.now.stored c.args.request.now c.requires.covered (cc)

pub returns-clause-value : goal.returns-clause-value
returns-clause-value g c =
    let p = c.args.self.now in
    seen_known _ (arc_value p.pairs) (g.H.Histories.held p.histories) p.stored c.args.request.now c.seen_loaded.result c.deref.ensures c.requires.before.replays (own_seen p.stored c.args.request.now c.requires.covered (cc)) c.seen_loaded.ensures
