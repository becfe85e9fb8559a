use Rattle.std.proofs.Common.{refl, subst, sym}
use Rattle.stamp_types.specs.declared.reply.Reply.{Reply}
use Rattle.stored_slot.specs.Parts.{IsReplyOf}
use Rattle.stored_slot.proofs.ServeLemmas.{kept_parts}
use Rattle.stored_slot.proofs.parts.SlotParts.serve_written.Goals as goal

pub serve_change-requires-clause-reply : goal.serve_change-requires-clause-reply
serve_change-requires-clause-reply g c =
    subst (λ (r : Reply). IsReplyOf g.H.Histories.held c.args.self.now c.args.request.now c.args.moment r) (sym c.in-Ok.ensures) c.requires.reply

pub returns-in-Err-clause-after : goal.returns-in-Err-clause-after
returns-in-Err-clause-after g c = kept_parts g.H.Histories.held c.args.self.now c.requires.before

pub returns-in-Err-clause-served : goal.returns-in-Err-clause-served
returns-in-Err-clause-served g c = (refl, tt)
