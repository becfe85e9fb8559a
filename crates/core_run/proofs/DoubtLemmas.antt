-- How doubts end.
use Rattle.std.proofs.Common.{◌≡◌, ◌⊎◌, inl, inr, ℕ, Bool, Option, Some, None, ap, ◌∙◌}
use Rattle.stamp_types.specs.declared.past.Past.{Past}
use Rattle.stamp_types.specs.Requests.{Asked}
use Rattle.stamp_model.specs.Runs.{world_after_one}
use Rattle.core_run.specs.declared.step.Step.TheVariants as step
use Rattle.core_run.specs.Machine.{Answer, Fails, SettlesDoubt, SettlesDoubtBy, Serves, Takes}
use Rattle.core_run.specs.States.{State, doubted, slot_for}
use Rattle.core_run.proofs.Values.{none_some, some_is}

-- a doubt is kept whole, or dropped whole
pub whole : (o : Option Past) (s m : State) (i : ℕ) (e : Past) → o ≡ Some e → SettlesDoubtBy o s i m → (m.world ≡ world_after_one s.world (doubted s e)) ⊎ (m.world ≡ s.world)
whole None s m i e is settled = absurd (none_some e is)
whole (Some d) s m i e is (inl settled) = inl (ap (λ (x : State). x.world) settled ∙ ap (λ (x : Past). world_after_one s.world (doubted s x)) (some_is d e is))
whole (Some d) s m i e is (inr settled) = inr (ap (λ (x : State). x.world) settled)

-- a request that does not fail is served after a settle
pub served_first : (s s' : State) (q : Asked) (t : ℕ) (f : Bool) (r : Answer) → Takes s (step.Serve q t) f r s' → Fails (step.Serve q t) f r ⊎ ((m : State) × (SettlesDoubt s (slot_for s q) m × Serves m q t f r s'))
served_first s s' q t f r (inl p) = elim p.1.1 [ inl made ↦ inr (p.0, (p.1.0, made)) | inr failed ↦ inl failed.0 ]
served_first s s' q t f r (inr p) = inl p.1.0
