use Rattle.std.proofs.Common.{◌≡◌, ℕ, ◌∷◌, [], ◌∙◌, None, subst, sym}
use Rattle.served_history.specs.declared.entry.Entry.TheVariants.{Opened, Served}
use Rattle.served_history.specs.Histories.{IsOwn}
use Rattle.served_history.proofs.FirstLemmas.{first_serve}
use Rattle.served_history.proofs.history_tests.enter_first.Goals as goal

pub serve-requires-clause-own : goal.serve-requires-clause-own
serve-requires-clause-own g c =
    let log : c.new-slot.result.log ≡ Opened [] ∷ [] = c.new-slot.ensures.log ∙ c.again.ensures.same ∙ c.front-known.ensures ∙ c.requires.log in
    let slot : c.new-slot.result.slot ≡ 0 = c.new-slot.ensures.slot ∙ c.word.ensures.word in
    subst (λ (n : ℕ). IsOwn c.new-slot.result.log (Served n (record { request = c.args.request.now; moment = c.args.moment; keys = None; bound = None }))) (sym slot)
    (first_serve c.new-slot.result.log c.args.request.now c.args.moment log)
