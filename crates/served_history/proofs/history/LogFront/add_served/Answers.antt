use Rattle.std.proofs.Common.{sym, ◌∙◌, ◌==◌, ap, refl}
use Rattle.served_history.specs.declared.entry.Entry.TheVariants.{Served}
use Rattle.served_history.proofs.Adding.{adds_moves, history_then}
use Rattle.served_history.proofs.history.LogFront.add_served.Goals as goal

pub compare_exchange-found-requires : goal.compare_exchange-found-requires
compare_exchange-found-requires g c =
    let h = c.args.word.now.word_is in
    let offer = c.plain-offer.ensures in
    let pen = c.no_pen-pen.ensures in (
      ap (λ w. w.tracked) h,
      c.self.invariant.0 ∙ sym (ap (λ w. w.book) h),
      pen.0 ∙ (c.self.invariant.0 ∙ sym (ap (λ w. w.book) h)),
      offer.0,
      rw (ap (λ w. w.key) h, pen.1, offer.1, offer.3)
          (adds_moves c.args.word.now.number c.args.count c.self.inside.seen.log (Served c.args.word.now.number c.args.call.now) c.args.word.now.slot_is (λ j. refl) (rw c.self.view_is c.requires.own)),
    )

pub invariant_of-self : goal.invariant_of-self
invariant_of-self g c =
    let step = c.compare_exchange-found.ensures in (
      step.0 ∙ c.self.invariant.0,
      history_then (c.compare_exchange-found.result == c.args.count) c.args.word.now.word.key c.args.count c.self.inside.seen.log c.plain-offer.result.ask c.compare_exchange-found.new.seen.log step.7,
    )
