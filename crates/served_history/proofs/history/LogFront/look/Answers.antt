use Rattle.std.proofs.Common.{sym, ◌∙◌, ap}
use Rattle.served_history.specs.declared.entry.Entry.TheVariants.{Split}
use Rattle.served_history.proofs.Adding.{looks_moves}
use Rattle.served_history.proofs.history.LogFront.look.Goals as goal

pub load-requires : goal.load-requires
load-requires g c =
    let h = c.args.word.now.word_is in
    let offer = c.plain-offer.ensures in (
      ap (λ w. w.tracked) h,
      c.self.invariant.0 ∙ sym (ap (λ w. w.book) h),
      offer.0,
      rw (ap (λ w. w.key) h, offer.3) (looks_moves c.args.word.now.number c.self.inside.seen.log (Split c.args.word.now.number c.args.middle.now c.args.word.now.number) c.args.word.now.slot_is),
    )
