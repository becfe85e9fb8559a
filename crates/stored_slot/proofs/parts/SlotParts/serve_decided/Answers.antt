use Rattle.std.proofs.Common.{◌∙◌, Some, None, ap, refl, subst}
use Rattle.std.specs.Arc.{arc_value}
use Rattle.stream_manager.specs.Streams.{laid}
use Rattle.partition_stream.specs.Contents.{bytes_at}
use Rattle.range_partition.specs.Decisions.{reply_read}
use Rattle.range_partition.specs.declared.framed.FramedDecision.{FramedDecision}
use Rattle.range_partition.specs.declared.framed.FramedDecision.TheVariants as framed
use Rattle.stored_rows.specs.States.{Stored}
use Rattle.stored_slot.specs.Meanings.{slot_with}
use Rattle.stored_slot.specs.Parts.{DecidesOn, slot_of}
use Rattle.stored_slot.proofs.ServeLemmas.{answers_free, denial_refuses, denial_told, kept_parts, none_same, read_told}
use Rattle.stored_slot.proofs.parts.SlotParts.serve_decided.Goals as goal

pub returns-in-Refused-clause-after : goal.returns-in-Refused-clause-after
returns-in-Refused-clause-after g c = kept_parts g.H.Histories.held c.args.self.now c.requires.before

pub returns-in-Refused-clause-served : goal.returns-in-Refused-clause-served
returns-in-Refused-clause-served g c =
    let held = g.H.Histories.held in
    let p = c.args.self.now in
    let a = subst (λ (d : FramedDecision). DecidesOn held p c.args.request.now c.args.moment d) c.in-Refused.is c.requires.decided in (
      denial_told (slot_of held p) c.args.request.now c.args.moment _ c.denial.result c.in-Refused.refusal _ c.denial.ensures a.0 a.1 refl,
      denial_refuses (slot_of held p) c.args.request.now c.args.moment c.denial.result c.in-Refused.refusal c.denial.ensures,
    )

pub reading-requires-clause-stored : goal.reading-requires-clause-stored
reading-requires-clause-stored g c =
    let is = c.in-Allowed.is ∙ ap (λ o. framed.Allowed c.in-Allowed.answer o c.in-Allowed.blocks) c.in-None.is in
    (subst (λ (d : FramedDecision). DecidesOn g.H.Histories.held c.args.self.now c.args.request.now c.args.moment d) is c.requires.decided).stored

pub reading-requires-clause-sent : goal.reading-requires-clause-sent
reading-requires-clause-sent g c =
    let is = c.in-Allowed.is ∙ ap (λ o. framed.Allowed c.in-Allowed.answer o c.in-Allowed.blocks) c.in-None.is in
    (subst (λ (d : FramedDecision). DecidesOn g.H.Histories.held c.args.self.now c.args.request.now c.args.moment d) is c.requires.decided).sent

pub returns-in-None-clause-after : goal.returns-in-None-clause-after
returns-in-None-clause-after g c =
    let p = c.args.self.now in
    none_same (arc_value p.pairs) (g.H.Histories.held p.histories) p.stored c.reading.new.stored p.doubt c.reading.ensures.same c.requires.before.replays c.requires.before.sure c.requires.before.none

pub returns-in-None-clause-served : goal.returns-in-None-clause-served
returns-in-None-clause-served g c =
    let held = g.H.Histories.held in
    let p = c.args.self.now in
    let is = c.in-Allowed.is ∙ ap (λ o. framed.Allowed c.in-Allowed.answer o c.in-Allowed.blocks) c.in-None.is in
    let a = subst (λ (d : FramedDecision). DecidesOn held p c.args.request.now c.args.moment d) is c.requires.decided in (
      read_told (slot_of held p) c.args.request.now c.args.moment _ c.reading.result (reply_read (bytes_at (laid p.stored.streams.blobs)) c.in-Allowed.answer) _ c.reading.ensures.read a.reply a.unchanged
          (ap (λ (s : Stored). slot_with (arc_value p.pairs) (held p.histories) s p.doubt) c.reading.ensures.same),
      answers_free (slot_of held p) c.args.request.now c.args.moment a.free c.reading.result,
    )

pub serve_written-requires-clause-makes : goal.serve_written-requires-clause-makes
serve_written-requires-clause-makes g c =
    let is = c.in-Allowed.is ∙ ap (λ o. framed.Allowed c.in-Allowed.answer o c.in-Allowed.blocks) c.in-Some.is in
    (subst (λ (d : FramedDecision). DecidesOn g.H.Histories.held c.args.self.now c.args.request.now c.args.moment d) is c.requires.decided).1.0

pub serve_written-requires-clause-found : goal.serve_written-requires-clause-found
serve_written-requires-clause-found g c =
    let is = c.in-Allowed.is ∙ ap (λ o. framed.Allowed c.in-Allowed.answer o c.in-Allowed.blocks) c.in-Some.is in
    (subst (λ (d : FramedDecision). DecidesOn g.H.Histories.held c.args.self.now c.args.request.now c.args.moment d) is c.requires.decided).1.1

pub serve_written-requires-clause-reply : goal.serve_written-requires-clause-reply
serve_written-requires-clause-reply g c =
    let is = c.in-Allowed.is ∙ ap (λ o. framed.Allowed c.in-Allowed.answer o c.in-Allowed.blocks) c.in-Some.is in
    (subst (λ (d : FramedDecision). DecidesOn g.H.Histories.held c.args.self.now c.args.request.now c.args.moment d) is c.requires.decided).0
