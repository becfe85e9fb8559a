-- A step on a slot is a settle, and then the step.
use Rattle.std.proofs.Common.{◌≡◌, ◌⊎◌, inl, inr, ℕ, Bool, true, false, not, nat_lt, List, length, Option, Some, None, refl, sym, ap, ◌∙◌, subst, Ok}
use Rattle.std.specs.Prelude.{IfSome}
use Rattle.stamp_values.specs.declared.key.Key.{Key}
use Rattle.stamp_types.specs.declared.past.Past.{Past}
use Rattle.stamp_types.specs.Requests.{Asked}
use Rattle.partition_map.specs.declared.fault.MapFault.{MapFault}
use Rattle.partition_map.specs.Spans.{slot_of, split_refusal}
use Rattle.stamp_model.specs.SeenContainers.{routed}
use Rattle.core_run.specs.declared.step.Step.{Step}
use Rattle.core_run.specs.declared.step.Step.TheVariants as step
use Rattle.core_run.specs.declared.step.Outcome.TheVariants.{Made}
use Rattle.core_run.specs.Machine.{Answer, SettlesDoubt, SettlesDoubtBy, Leaves, MadeOrFails, OnSettled, OnSlot, OnSlotIf, Repairs, Serves, SettledFirst, SplitsBy, Takes}
use Rattle.core_run.specs.Places.{works_on}
use Rattle.core_run.specs.States.{State, slot_doubt, has_slot, slot_for, split}
use Rattle.core_run.proofs.StepLemmas.{gone, settled_points}

abbrev Then : State → ℕ → (State → Type 0) → State → Type 0
Then s i made s' = (s' ≡ s) ⊎ ((m : State) × (SettlesDoubt s i m × made m))

-- a slot without a doubt is settled
settled_calm : (m : State) (i : ℕ) → slot_doubt m i ≡ None → SettlesDoubt m i m
settled_calm m i calm = subst (λ (o : Option Past). SettlesDoubtBy o m i m) (sym calm) refl

first_then : (y : Step) (s s' : State) (i : ℕ) (f : Bool) (r : Answer) (made : State → Type 0) → SettledFirst y s i f r s' made → Then s i (λ m. SettledFirst y m i f r s' made) s'
first_then y s s' i f r made (inl p) = inr (p.0, (p.1.0, inl (p.0, (settled_calm p.0 i (gone (slot_doubt s i) s p.0 i refl p.1.0), p.1.1))))
first_then y s s' i f r made (inr p) = inl p.1.1

-- the same, of what a slot that exists does
on_slot_then : (b : Bool) (s s' : State) (i : ℕ) (r : Answer) (made : State → Type 0) → has_slot s i ≡ b → (made s → Then s i made s') → OnSlotIf b s r s' (made s) → Then s i (λ m. OnSlot m i r s' (made m)) s'
on_slot_then true s s' i r made there so p = elim (so p) [
  | inl same ↦ inl same
  | inr then ↦ inr (
    then.0,
    (
      then.1.0,
      subst (λ (b : Bool). OnSlotIf b then.0 r s' (made then.0)) (sym (ap (λ (points : List Key). not (nat_lt (length points) i)) (settled_points (slot_doubt s i) s then.0 i then.1.0) ∙ there)) then.1.1,
    ),
  )
]
on_slot_then false s s' i r made there so p = inl p.1

split_then : (o : Option MapFault) (s s' : State) (i : ℕ) (middle : Key) (f : Bool) (r : Answer) → split_refusal s.points i middle ≡ o → SplitsBy o s i middle f r s' → Then s i (λ m. SplitsBy (split_refusal m.points i middle) m i middle f r s') s'
split_then (Some cause) s s' i middle f r is p = inl p.1
split_then None s s' i middle f r is (inl p) = elim (first_then (step.Split i middle) s s' i f r (λ n. MadeOrFails (step.Split i middle) n f r s' ((r ≡ Ok Made) × (s' ≡ split n i middle))) p) [
  | inl same ↦ inl same
  | inr then ↦ inr (
    then.0,
    (
      then.1.0,
      subst (λ (o : Option MapFault). SplitsBy o then.0 i middle f r s') (sym (ap (λ (points : List Key). split_refusal points i middle) (settled_points (slot_doubt s i) s then.0 i then.1.0) ∙ is)) (inl then.1.1),
    ),
  )
]
split_then None s s' i middle f r is (inr p) = inl p.1

serve_then : (s s' : State) (q : Asked) (t : ℕ) (f : Bool) (r : Answer) → Takes s (step.Serve q t) f r s' → Then s (slot_for s q) (λ m. Takes m (step.Serve q t) f r s') s'
serve_then s s' q t f r p = elim (first_then (step.Serve q t) s s' (slot_for s q) f r (λ n. MadeOrFails (step.Serve q t) n f r s' (Serves n q t f r s')) p) [
  | inl same ↦ inl same
  | inr then ↦ inr (
    then.0,
    (
      then.1.0,
      subst (λ (i : ℕ). OnSettled (step.Serve q t) then.0 i f r s' (λ m. Serves m q t f r s')) (sym (ap (λ (points : List Key). slot_of points (routed q)) (settled_points (slot_doubt s (slot_for s q)) s then.0 (slot_for s q) then.1.0))) then.1.1,
    ),
  )
]

-- a step on a slot is a settle and then this step, or nothing changes
pub settles_then : (x : Step) (s s' : State) (f : Bool) (r : Answer) → Takes s x f r s' → IfSome (works_on s x) (λ i. (s' ≡ s) ⊎ ((m : State) × (SettlesDoubt s i m × Takes m x f r s')))
settles_then (step.Serve q t) s s' f r p = serve_then s s' q t f r p
settles_then (step.Fetch n) s s' f r p = tt
settles_then (step.Split i middle) s s' f r p = split_then (split_refusal s.points i middle) s s' i middle f r refl p
settles_then (step.Settle i) s s' f r p = on_slot_then (has_slot s i) s s' i r (λ m. SettledFirst (step.Settle i) m i f r s' (λ n. Leaves n r s')) refl (first_then (step.Settle i) s s' i f r (λ n. Leaves n r s')) p
settles_then (step.Seal i) s s' f r p = on_slot_then (has_slot s i) s s' i r (λ m. OnSettled (step.Seal i) m i f r s' (λ n. Leaves n r s')) refl (first_then (step.Seal i) s s' i f r (λ n. MadeOrFails (step.Seal i) n f r s' (Leaves n r s'))) p
settles_then (step.Load i) s s' f r p = on_slot_then (has_slot s i) s s' i r (λ m. OnSettled (step.Load i) m i f r s' (λ n. Leaves n r s')) refl (first_then (step.Load i) s s' i f r (λ n. MadeOrFails (step.Load i) n f r s' (Leaves n r s'))) p
settles_then (step.Checkpoint i) s s' f r p = on_slot_then (has_slot s i) s s' i r (λ m. OnSettled (step.Checkpoint i) m i f r s' (λ n. Leaves n r s')) refl (first_then (step.Checkpoint i) s s' i f r (λ n. MadeOrFails (step.Checkpoint i) n f r s' (Leaves n r s'))) p
settles_then (step.Compact i) s s' f r p = on_slot_then (has_slot s i) s s' i r (λ m. OnSettled (step.Compact i) m i f r s' (λ n. Leaves n r s')) refl (first_then (step.Compact i) s s' i f r (λ n. MadeOrFails (step.Compact i) n f r s' (Leaves n r s'))) p
settles_then (step.Repair i stream extent node) s s' f r p = on_slot_then (has_slot s i) s s' i r (λ m. OnSettled (step.Repair i stream extent node) m i f r s' (λ n. Repairs n r s')) refl (first_then (step.Repair i stream extent node) s s' i f r (λ n. MadeOrFails (step.Repair i stream extent node) n f r s' (Repairs n r s'))) p
settles_then (step.Move i server) s s' f r p = tt
settles_then (step.Unload i) s s' f r p = tt
settles_then (step.Rotate account which key) s s' f r p = tt
