-- Answers that tell of faults, and steps that fail.
use Rattle.std.proofs.Common.{◌≡◌, ◌⊎◌, ◌↔◌, inl, inr, ℕ, Bool, true, false, cond, List, [], ◌∷◌, Option, Some, None, find, refl, sym, ap, ◌∙◌, subst, Ok, Err}
use Rattle.stamp_types.specs.declared.reply.Reply as replies
use Rattle.stamp_types.specs.declared.rule.Rule.{Rule}
use Rattle.stamp_types.specs.declared.rule.Rule.TheVariants as rule
use Rattle.stamp_types.specs.Requests.{Asked}
use Rattle.stamp_types.specs.World.{World, part_at}
use Rattle.access_rules.specs.declared.keys.Keys.{Keys}
use Rattle.access_rules.specs.declared.rotation.Which.{Which}
use Rattle.partition_map.specs.declared.fault.MapFault.{MapFault}
use Rattle.partition_map.specs.Spans.{split_refusal}
use Rattle.range_rows.specs.SentContent.{sizes}
use Rattle.stamp_model.specs.Refusals.{refuses, rules_in_order}
use Rattle.stamp_model.specs.Runs.{Timed, reply_to_one}
use Rattle.stamp_model.proofs.ReplyLemmas.{rule-reply}
use Rattle.stamp_model.proofs.RuleLemmas.{refusing_rule-first}
use Rattle.slot_state.specs.Pairs.{current_at}
use Rattle.stamp_values.specs.declared.key.Key.{Key}
use Rattle.core_run.specs.declared.step.Step.{Step}
use Rattle.core_run.specs.declared.step.Step.TheVariants as step
use Rattle.core_run.specs.declared.step.Outcome.{Outcome}
use Rattle.core_run.specs.declared.step.Outcome.TheVariants.{Reply, Made}
use Rattle.core_run.specs.declared.step.StepFault.{StepFault}
use Rattle.core_run.specs.declared.step.StepFault.TheVariants as fault
use Rattle.core_run.specs.Machine.{Answer, Fails, FetchesBy, SettlesDoubt, MadeOrFails, OnSettled, OnSlotIf, RotatesBy, Serves, SettledFirst, SplitsBy, Takes}
use Rattle.core_run.specs.Places.{is_fault_rule, tells_fault}
use Rattle.core_run.specs.States.{State, has_slot, held_by, reply_in, slot_for, timed_in}
use Rattle.core_run.proofs.StepLemmas.{by_changes}

-- ---- the words

-- the rule is N1 or N2
pub fault_rule_if : (r : Option Rule) → (is_fault_rule r ≡ true) ↔ ((r ≡ Some rule.N1) ⊎ (r ≡ Some rule.N2))
fault_rule_if (Some rule.N1) = (λ h. inl refl, λ h. refl)
fault_rule_if (Some rule.N2) = (λ h. inr refl, λ h. refl)
fault_rule_if other = (λ h. cc, λ h. elim h [ inl e ↦ cc | inr e ↦ cc ])

-- the answer is one of these two replies, or Busy, or Unreachable
abbrev TellsIt : Answer → Type 0
TellsIt a = ((o : replies.Reply) × ((a ≡ Ok (Reply o)) × (is_fault_rule o.rule ≡ true))) ⊎ ((a ≡ Err fault.Busy) ⊎ (a ≡ Err fault.Unreachable))

tells_then : (a : Answer) → tells_fault a ≡ true → TellsIt a
tells_then (Ok (Reply o)) h = inl (o, (refl, h))
tells_then (Err fault.Busy) h = inr (inl refl)
tells_then (Err fault.Unreachable) h = inr (inr refl)
tells_then other h = cc

pub tells_if : (a : Answer) → (tells_fault a ≡ true) ↔ (((o : replies.Reply) × ((a ≡ Ok (Reply o)) × (is_fault_rule o.rule ≡ true))) ⊎ ((a ≡ Err fault.Busy) ⊎ (a ≡ Err fault.Unreachable)))
tells_if a = (
  tells_then a,
  λ h. elim h [
    | inl p ↦ ap tells_fault p.1.0 ∙ p.1.1
    | inr p ↦ elim p [ inl e ↦ ap tells_fault e | inr e ↦ ap tells_fault e ]
  ],
)

-- ---- the model's replies tell of no fault

abbrev calm_rules : List Rule → Bool
calm_rules [] = true
calm_rules (r ∷ rs) = cond (is_fault_rule (Some r)) false (calm_rules rs)

first_calm : (b rest : Bool) → cond b false rest ≡ true → (b ≡ false) × (rest ≡ true)
first_calm true rest e = cc
first_calm false rest e = (refl, e)

picked : (b : Bool) (r : Rule) (rest : Option Rule) → is_fault_rule (Some r) ≡ false → is_fault_rule rest ≡ false → is_fault_rule (cond b (Some r) rest) ≡ false
picked true r rest here later = here
picked false r rest here later = later

found_calm : (p : Rule → Bool) (rs : List Rule) → calm_rules rs ≡ true → is_fault_rule (find p rs) ≡ false
found_calm p [] calm = refl
found_calm p (r ∷ rs) calm =
    let parts = first_calm (is_fault_rule (Some r)) (calm_rules rs) calm in
    picked (p r) r (find p rs) parts.0 (found_calm p rs parts.1)

-- the rule that a reply names, and the first rule that refuses
pub first_named : (w : World (List ℕ)) (now : Timed) → (reply_to_one w now).rule ≡ find (refuses now.keys (sizes (part_at w now.request.ask.key)) now.request now.moment) rules_in_order
first_named w now =
    rule-reply now.keys w now.request now.moment now.bound
    ∙ refusing_rule-first now.keys (sizes (part_at w now.request.ask.key)) now.request now.moment

pub calm_reply : (w : World (List ℕ)) (now : Timed) → is_fault_rule (reply_to_one w now).rule ≡ false
calm_reply w now =
    ap is_fault_rule (first_named w now)
    ∙ found_calm (refuses now.keys (sizes (part_at w now.request.ask.key)) now.request now.moment) rules_in_order refl

-- ---- a step that answers a fault

abbrev Unchanged : State → State → Type 0
Unchanged s s' = (s' ≡ s) ⊎ ((i : ℕ) × SettlesDoubt s i s')

not_made : (e : StepFault) (o : Outcome) → Err e ≡ Ok o → ⊥
not_made e o is = cc

pub fails : (x : Step) (s s' : State) (f : Bool) (e : StepFault) → Takes s x f (Err e) s' → Unchanged s s'
fails x s s' f e takes =
    by_changes x (Err e) (λ s s'. s' ≡ s) Unchanged (λ s. refl) (λ s s' is. inl is) (λ s m s' i on is same. inr (i, subst (SettlesDoubt s i) (sym same) is))
    (λ s q t is calm r. absurd (not_made e _ r)) (λ s q t is calm r. absurd (not_made e _ r)) (λ s q t is calm some o r. absurd (not_made e _ r))
    (λ s n o is there r. absurd (not_made e _ r)) (λ s i middle calm allowed r. absurd (not_made e _ r)) (λ s account which key old is there r. absurd (not_made e _ r)) s s' f takes

-- ---- a step during which no call failed

by_answer : (c r : Answer) → tells_fault c ≡ false → r ≡ c → tells_fault r ≡ false
by_answer c r calm is = ap tells_fault is ∙ calm

unfaulted : (x : Step) (r : Answer) → Fails x false r → tells_fault r ≡ false
unfaulted x r (inl p) = absurd (never p.0)
  where
    never : false ≡ true → ⊥
    never e = cc
unfaulted x r (inr is) = by_answer (Err fault.NoMemory) r refl is

-- an answer of a step whose ticket, if it fetches one, does not hold a reply that tells of a fault
module _ (r : Answer) (s' : State) where
  made_or : (x : Step) (s : State) (made : Type 0) → (made → tells_fault r ≡ false) → MadeOrFails x s false r s' made → tells_fault r ≡ false
  made_or x s made so (inl p) = so p
  made_or x s made so (inr p) = unfaulted x r p.0

  first : (x : Step) (s : State) (i : ℕ) (made : State → Type 0) → ((m : State) → made m → tells_fault r ≡ false) → SettledFirst x s i false r s' made → tells_fault r ≡ false
  first x s i made so (inl p) = so p.0 p.1.1
  first x s i made so (inr p) = unfaulted x r p.1.0

  settled : (x : Step) (s : State) (i : ℕ) (made : State → Type 0) → ((m : State) → made m → tells_fault r ≡ false) → OnSettled x s i false r s' made → tells_fault r ≡ false
  settled x s i made so p = first x s i (λ m. MadeOrFails x m false r s' (made m)) (λ m. made_or x m (made m) (so m)) p

  on_slot : (b : Bool) (s : State) (made : Type 0) → (made → tells_fault r ≡ false) → OnSlotIf b s r s' made → tells_fault r ≡ false
  on_slot true s made so p = so p
  on_slot false s made so p = by_answer (Err fault.NoSuchSlot) r refl p.0

  serving : (s : State) (q : Asked) (t : ℕ) → Serves s q t false r s' → tells_fault r ≡ false
  serving s q t (inl p) = by_answer (Ok (Reply (reply_in s q t))) r (calm_reply s.world (timed_in s q t)) p.0
  serving s q t (inr (inl p)) = by_answer _ r refl p.0
  serving s q t (inr (inr p)) = absurd (never p.0)
    where
      never : false ≡ true → ⊥
      never e = cc

  fetching : (o : Option replies.Reply) (s : State) (n : ℕ) → ((h : replies.Reply) → o ≡ Some h → is_fault_rule h.rule ≡ false) → FetchesBy o s n false r s' → tells_fault r ≡ false
  fetching None s n calm p = by_answer (Err fault.NoSuchTicket) r refl p.0
  fetching (Some o) s n calm (inl p) = by_answer (Ok (Reply o)) r (calm o refl) p.0
  fetching (Some o) s n calm (inr p) = unfaulted (step.Fetch n) r p.0

  splitting : (o : Option MapFault) (s : State) (i : ℕ) (middle : Key) → SplitsBy o s i middle false r s' → tells_fault r ≡ false
  splitting (Some cause) s i middle p = by_answer _ r refl p.0
  splitting None s i middle (inl p) = settled (step.Split i middle) s i _ (λ m made. by_answer _ r refl made.0) p
  splitting None s i middle (inr p) = by_answer _ r refl p.0

  rotating : (o : Option Keys) (s : State) (account : List ℕ) (which : Which) (key : List ℕ) → RotatesBy o s account which key r s' → tells_fault r ≡ false
  rotating None s account which key p = by_answer (Err fault.NoAccount) r refl p.0
  rotating (Some old) s account which key (inl p) = by_answer _ r refl p.0
  rotating (Some old) s account which key (inr (inl p)) = by_answer (Err fault.Last) r refl p.1.0
  rotating (Some old) s account which key (inr (inr p)) = by_answer (Err fault.NoMemory) r refl p.0

  repairing : (s : State) → ((r ≡ Ok Made) ⊎ (r ≡ Err fault.NoSuchExtent)) × (s' ≡ s) → tells_fault r ≡ false
  repairing s p = elim p.0 [ inl is ↦ by_answer _ r refl is | inr is ↦ by_answer (Err fault.NoSuchExtent) r refl is ]

  pub faultless : (x : Step) (s : State) → ((n : ℕ) (o : replies.Reply) → held_by s n ≡ Some o → is_fault_rule o.rule ≡ false) → Takes s x false r s' → tells_fault r ≡ false
  faultless (step.Serve q t) s calm p = settled (step.Serve q t) s (slot_for s q) _ (λ m made. serving m q t made) p
  faultless (step.Fetch n) s calm p = fetching (held_by s n) s n (calm n) p
  faultless (step.Split i middle) s calm p = splitting (split_refusal s.points i middle) s i middle p
  faultless (step.Settle i) s calm p = on_slot (has_slot s i) s _ (first (step.Settle i) s i _ (λ m made. by_answer _ r refl made.0)) p
  faultless (step.Seal i) s calm p = on_slot (has_slot s i) s _ (settled (step.Seal i) s i _ (λ m made. by_answer _ r refl made.0)) p
  faultless (step.Load i) s calm p = on_slot (has_slot s i) s _ (settled (step.Load i) s i _ (λ m made. by_answer _ r refl made.0)) p
  faultless (step.Checkpoint i) s calm p = on_slot (has_slot s i) s _ (settled (step.Checkpoint i) s i _ (λ m made. by_answer _ r refl made.0)) p
  faultless (step.Compact i) s calm p = on_slot (has_slot s i) s _ (settled (step.Compact i) s i _ (λ m made. by_answer _ r refl made.0)) p
  faultless (step.Repair i stream extent node) s calm p = on_slot (has_slot s i) s _ (settled (step.Repair i stream extent node) s i _ (λ m made. repairing m made)) p
  faultless (step.Move i server) s calm p = on_slot (has_slot s i) s _ (λ made. by_answer _ r refl made.0) p
  faultless (step.Unload i) s calm p = on_slot (has_slot s i) s _ (λ made. by_answer _ r refl made.0) p
  faultless (step.Rotate account which key) s calm p = rotating (current_at s.pairs account) s account which key p
