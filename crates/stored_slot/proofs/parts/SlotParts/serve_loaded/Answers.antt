use Rattle.std.proofs.Common.{refl}
use Rattle.stored_slot.proofs.ServeLemmas.{kept_parts}
use Rattle.stored_slot.proofs.parts.SlotParts.serve_loaded.Goals as goal

pub returns-in-Err-clause-after : goal.returns-in-Err-clause-after
returns-in-Err-clause-after g c = kept_parts g.H.Histories.held c.args.self.now c.requires.before

pub returns-in-Err-clause-served : goal.returns-in-Err-clause-served
returns-in-Err-clause-served g c = (refl, tt)
