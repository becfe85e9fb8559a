-- What a caller knows of the answers of a stamp after what the caller was shown.
use Rattle.std.proofs.Common.{◌≡◌, inl, inr, ℕ, List, [], ◌∷◌, sym, ◌∙◌, subst}
use Rattle.std.proofs.lemmas.List.{append-nil}
use mathlib.Core.List.{IsPrefix}
use Rattle.extent_node.specs.Faults.{Calls}
use Rattle.stamp_types.specs.Requests.{Asked}
use Rattle.tickets.specs.declared.answer.Answer.{Answer}
use Rattle.tickets.specs.declared.answer.Answer.TheVariants as answer
use Rattle.access_rules.specs.declared.keys.Keys.{Keys}
use Rattle.access_rules.specs.Routes.{Admits}
use Rattle.slot_state.specs.Pairs.{in_force}
use Rattle.slot_state.specs.Slots.{SlotState}
use Rattle.slot_pass.specs.Calls.{AdmitsBy, AnswersAfter}
use Rattle.slot_pass.specs.Passes.{PassState}
use Rattle.stamp_locks.specs.Shown.{AdmitsKnown, IsHandledAfter}

-- if it holds of what a slot answers after a pass, it holds of what a stamp answers
pub of_handled : {W : Type 0} (faults : W → Calls) (p after : PassState) (q : Asked) (t : ℕ) (a : Answer) (holds : Type 0)
    → ((s next : SlotState) (old new : Calls) → AnswersAfter p s q t old new a after next → holds) → IsHandledAfter faults p q t a after → holds
of_handled faults p after q t a holds by_slot (entry, (pairs, m)) = by_slot m.slot m.next (faults m.old) (faults m.new) m.answers

-- a pass with the same pairs admits the same
admits_same : (p after : PassState) (q : Asked) (t : ℕ) (a : Answer) → after.pairs ≡ p.pairs → AdmitsBy after q t a → AdmitsBy p q t a
admits_same p after q t (answer.Done r) same admits = λ none. let admitted = admits none in (admitted.0, subst (λ (ks : List Keys). Admits (in_force ks) admitted.0 q.ask.credential q.ask t) same admitted.1)
admits_same p after q t (answer.Later r) same admits = λ none. let admitted = admits none in (admitted.0, subst (λ (ks : List Keys). Admits (in_force ks) admitted.0 q.ask.credential q.ask t) same admitted.1)
admits_same p after q t answer.NoMemory same admits = tt

-- the pairs of the pass are the same, or pairs come after them
pub admits_known : (p after : PassState) (q : Asked) (t : ℕ) (a : Answer) → IsPrefix p.pairs after.pairs → AdmitsBy after q t a → AdmitsKnown p after q t a
admits_known p after q t a ([], is) admits = inl (admits_same p after q t a (sym is ∙ append-nil p.pairs) admits)
admits_known p after q t a (pair ∷ more, is) admits = inr (pair, (more, (sym is, admits)))
