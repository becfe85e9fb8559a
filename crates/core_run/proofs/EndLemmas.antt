-- When a doubt ends.
use Rattle.std.proofs.Common.{◌≡◌, ◌⊎◌, inl, inr, ℕ, Bool, true, false, None, refl, ap, ◌∙◌, subst, Err}
use Rattle.stamp_types.specs.Requests.{Asked}
use Rattle.core_run.specs.declared.step.Step.TheVariants as step
use Rattle.core_run.specs.declared.step.StepFault.TheVariants as fault
use Rattle.core_run.specs.Machine.{Answer, Leaves, MadeOrFails, OnSlotIf, Serves, SettledFirst, Takes}
use Rattle.core_run.specs.States.{State, has_slot, slot_doubt, slot_for}
use Rattle.core_run.proofs.StepLemmas.{gone}
use Rattle.core_run.proofs.Values.{false_true}

-- a slot without a doubt has none after it served without a fault, unless memory ran out
by_serve : (s m s' : State) (q : Asked) (t : ℕ) (r : Answer) → slot_doubt m (slot_for s q) ≡ None → MadeOrFails (step.Serve q t) m false r s' (Serves m q t false r s') → (slot_doubt s' (slot_for s q) ≡ None) ⊎ (r ≡ Err fault.NoMemory)
by_serve s m s' q t r none (inl (inl made)) = inl (ap (λ (x : State). slot_doubt x (slot_for s q)) made.1 ∙ none)
by_serve s m s' q t r none (inl (inr (inl made))) = inl (ap (λ (x : State). slot_doubt x (slot_for s q)) made.1 ∙ none)
by_serve s m s' q t r none (inl (inr (inr made))) = absurd (false_true made.0)
by_serve s m s' q t r none (inr failed) = elim failed.0 [ inl e ↦ absurd (false_true e.0) | inr e ↦ inr e ]

pub serve_ends : (s s' : State) (q : Asked) (t : ℕ) (r : Answer) → Takes s (step.Serve q t) false r s' → (slot_doubt s' (slot_for s q) ≡ None) ⊎ (r ≡ Err fault.NoMemory)
serve_ends s s' q t r (inl p) = by_serve s p.0 s' q t r (gone (slot_doubt s (slot_for s q)) s p.0 (slot_for s q) refl p.1.0) p.1.1
serve_ends s s' q t r (inr p) = elim p.1.0 [ inl e ↦ absurd (false_true e.0) | inr e ↦ inr e ]

by_settle : (s s' : State) (i : ℕ) (r : Answer) → SettledFirst (step.Settle i) s i false r s' (λ m. Leaves m r s') → (slot_doubt s' i ≡ None) ⊎ (r ≡ Err fault.NoMemory)
by_settle s s' i r (inl p) = inl (ap (λ (x : State). slot_doubt x i) p.1.1.1 ∙ gone (slot_doubt s i) s p.0 i refl p.1.0)
by_settle s s' i r (inr p) = elim p.1.0 [ inl e ↦ absurd (false_true e.0) | inr e ↦ inr e ]

pub settle_ends : (s s' : State) (i : ℕ) (r : Answer) → has_slot s i ≡ true → Takes s (step.Settle i) false r s' → (slot_doubt s' i ≡ None) ⊎ (r ≡ Err fault.NoMemory)
settle_ends s s' i r there takes = by_settle s s' i r (subst (λ (b : Bool). OnSlotIf b s r s' (SettledFirst (step.Settle i) s i false r s' (λ m. Leaves m r s'))) there takes)
