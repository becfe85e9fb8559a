-- What each step adds to the history.
use Rattle.std.proofs.Common.{◌≡◌, ◌<◌, ◌⊎◌, inl, inr, ℕ, zero, suc, Bool, true, false, List, [], ◌∷◌, length, Option, Some, None, refl, sym, ap, ◌∙◌, subst, arith, Ok}
use Rattle.std.specs.Prelude.{IsSome, slice_get, slice_set}
use Rattle.std.specs.Option.{option_and_then}
use Rattle.stamp_types.specs.declared.past.Past.{Past}
use Rattle.stamp_types.specs.declared.reply.Reply as replies
use Rattle.stamp_types.specs.declared.rule.Rule.{Rule}
use Rattle.stamp_types.specs.declared.rule.Rule.TheVariants as rule
use Rattle.stamp_types.specs.Requests.{Asked}
use Rattle.partition_map.specs.declared.fault.MapFault.{MapFault}
use Rattle.partition_map.specs.Spans.{split_refusal}
use Rattle.stamp_values.specs.declared.key.Key.{Key}
use Rattle.stamp_model.specs.SeenContainers.{routed}
use Rattle.slot_state.specs.Slots.{entry_of}
use Rattle.stored_slot.specs.Served.{busy}
use Rattle.core_run.specs.declared.step.Outcome.TheVariants.{Reply, Made}
use Rattle.core_run.specs.declared.step.Step.{Step}
use Rattle.core_run.specs.declared.step.Step.TheVariants as step
use Rattle.core_run.specs.declared.step.StepFault.TheVariants as fault
use Rattle.core_run.specs.Machine.{Answer, Fails, SettlesDoubt, SplitsBy, Takes}
use Rattle.core_run.specs.Places.{AddsOwnTurn, IsSound, SettlesOneAtMost, doubt_at, is_fault_rule}
use Rattle.core_run.specs.States.{State, change_in, reply_in, slot_doubt, slot_for, split, timed_in, with_doubt}
use Rattle.core_run.proofs.DoubtLemmas.{served_first}
use Rattle.core_run.proofs.FaultLemmas.{calm_reply}
use Rattle.core_run.proofs.SoundLemmas.{settled_sound, slot_of-within}
use Rattle.core_run.proofs.StepLemmas.{by_changes}
use Rattle.core_run.proofs.TicketLemmas.{later_reply, reply_fault, reply_is}
use Rattle.core_run.proofs.Values.{true_false}

-- ---- each step

abbrev Adds : Step → Answer → State → State → Type 0
Adds x r s s' = (m : State) × (SettlesOneAtMost s m × AddsOwnTurn x r m s')

-- a step settles one doubt at most, and adds its own turn or none
pub adds_own : (x : Step) (s s' : State) (f : Bool) (r : Answer) → Takes s x f r s' → (m : State) × (SettlesOneAtMost s m × AddsOwnTurn x r m s')
adds_own x s s' f r takes =
    by_changes x r (AddsOwnTurn x r) (Adds x r) (λ s. inr (refl, refl)) (λ s s' adds. (s, (inl refl, adds))) (λ s m s' i on is adds. (m, (inr (i, is), adds)))
    (λ s q t is calm a. inl (q, (t, (is, (inl a, refl))))) (λ s q t is calm a. inl (q, (t, (is, (inr a, refl))))) (λ s q t is calm some o a. inr (refl, refl))
    (λ s n o is there a. inr (refl, refl)) (λ s i middle calm allowed a. inr (refl, refl)) (λ s account which key old is there a. inr (refl, refl)) s s' f takes

-- ---- a Serve that tells of a fault

-- the answer of a Serve at once
abbrev given : replies.Reply → Answer
given o = Ok (Reply o)

-- the model's reply names neither of the two rules that tell of a fault
not_model : (m : State) (q : Asked) (t : ℕ) (o : replies.Reply) (named : Rule) → is_fault_rule (Some named) ≡ true → o.rule ≡ Some named → given o ≡ given (reply_in m q t) → ⊥
not_model m q t o named tells is answers =
    true_false (sym (ap is_fault_rule is ∙ tells) ∙ ap (λ (r : replies.Reply). is_fault_rule r.rule) (reply_is (given o) o (reply_in m q t) refl answers) ∙ calm_reply m.world (timed_in m q t))

n1_n2 : (o : replies.Reply) → o.rule ≡ Some rule.N1 → o.rule ≡ Some rule.N2 → ⊥
n1_n2 o one other = cc

-- after N1 there is nothing but a settle
pub after_busy : (s s' : State) (q : Asked) (t : ℕ) (f : Bool) (o : replies.Reply) → Takes s (step.Serve q t) f (Ok (Reply o)) s' → o.rule ≡ Some rule.N1
    → (s' ≡ s) ⊎ SettlesDoubt s (slot_for s q) s'
after_busy s s' q t f o (inr failed) n1 = inl failed.1.1
after_busy s s' q t f o (inl p) n1 = elim p.1.1 [
  | inr failed ↦ inr (subst (SettlesDoubt s (slot_for s q)) (sym failed.1) p.1.0)
  | inl served ↦ absurd (elim served [
    | inl made ↦ not_model p.0 q t o rule.N1 refl n1 made.0
    | inr rest ↦ elim rest [
      | inl made ↦ later_reply (given o) (length p.0.tickets) o made.0 refl
      | inr made ↦ n1_n2 o n1 (ap (λ (r : replies.Reply). r.rule) (reply_is (given o) o _ refl made.1.1.0))
    ]
  ])
]

set_there : (doubts : List (Option Past)) (i : ℕ) (e : Past) → i < length doubts → option_and_then (λ o. o) (slice_get (slice_set doubts i (Some e)) i) ≡ Some e
set_there [] i e low = absurd (omega (arith, low))
set_there (o ∷ doubts) zero e low = refl
set_there (o ∷ doubts) (suc i) e low = set_there doubts i e (omega (arith, low))

-- after N2 the change is in doubt, after a settle, and nothing else
pub record IsInDoubt (s s' : State) (q : Asked) (t : ℕ) (m : State) : Type 0 where
  pub settled : SettlesDoubt s (slot_for s q) m
  pub changes : IsSome (change_in m q t)
  pub left : s' ≡ with_doubt m (slot_for m q) (entry_of m.pairs q t)

pub in_doubt : (s s' : State) (q : Asked) (t : ℕ) (f : Bool) (o : replies.Reply) → Takes s (step.Serve q t) f (Ok (Reply o)) s' → o.rule ≡ Some rule.N2 → (m : State) × IsInDoubt s s' q t m
in_doubt s s' q t f o takes n2 = elim (served_first s s' q t f (given o) takes) [
  | inl failed ↦ absurd (elim failed [
    | inl p ↦ n1_n2 o (ap (λ (r : replies.Reply). r.rule) (reply_is (given o) o busy refl p.1)) n2
    | inr p ↦ reply_fault (given o) o fault.NoMemory refl p
  ])
  | inr p ↦ elim p.1.1 [
    | inl made ↦ absurd (not_model p.0 q t o rule.N2 refl n2 made.0)
    | inr rest ↦ elim rest [
      | inl made ↦ absurd (later_reply (given o) (length p.0.tickets) o made.0 refl)
      | inr made ↦ (p.0, record { settled = p.1.0; changes = made.1.0; left = made.1.1.1 })
    ]
  ]
]

pub after_unknown : (s s' : State) (q : Asked) (t : ℕ) (f : Bool) (o : replies.Reply) → IsSound s → Takes s (step.Serve q t) f (Ok (Reply o)) s' → o.rule ≡ Some rule.N2
    → (m : State) × (SettlesDoubt s (slot_for s q) m × ((s'.world ≡ m.world) × ((s'.history ≡ m.history) × (doubt_at s' (routed q) ≡ Some (entry_of m.pairs q t)))))
after_unknown s s' q t f o sound takes n2 =
    let is = in_doubt s s' q t f o takes n2 in
    let m : State = is.0 in
    let within : slot_for m q < length m.doubts = omega (arith, slot_of-within m.points (routed q), (settled_sound (slot_doubt s (slot_for s q)) s m (slot_for s q) is.1.settled sound).counted) in (
      m,
      (
        is.1.settled,
        (
          ap (λ (x : State). x.world) is.1.left,
          (
            ap (λ (x : State). x.history) is.1.left,
            ap (λ (x : State). doubt_at x (routed q)) is.1.left ∙ set_there m.doubts (slot_for m q) (entry_of m.pairs q t) within,
          ),
        ),
      ),
    )

-- ---- a Split

abbrev is_made : Answer → Bool
is_made (Ok Made) = true
is_made other = false

made_not : (a : Answer) → Ok Made ≡ a → is_made a ≡ false → ⊥
made_not a is none = true_false (ap is_made is ∙ none)

-- a Split that says Made is one
pub split_by : (o : Option MapFault) (s s' : State) (i : ℕ) (middle : Key) (f : Bool) → split_refusal s.points i middle ≡ o → SplitsBy o s i middle f (Ok Made) s'
    → (split_refusal s.points i middle ≡ None) × ((m : State) × (SettlesDoubt s i m × (s' ≡ split m i middle)))
split_by (Some cause) s s' i middle f is p = absurd (made_not _ p.0 refl)
split_by None s s' i middle f is (inr p) = absurd (made_not _ p.0 refl)
split_by None s s' i middle f is (inl (inr p)) = absurd (unmade p.1.0)
  where
    unmade : Fails (step.Split i middle) f (Ok Made) → ⊥
    unmade (inl p) = made_not _ p.1 refl
    unmade (inr p) = made_not _ p refl
split_by None s s' i middle f is (inl (inl p)) = elim p.1.1 [
  | inl made ↦ (is, (p.0, (p.1.0, made.1)))
  | inr failed ↦ absurd (elim failed.0 [ inl e ↦ made_not _ e.1 refl | inr e ↦ made_not _ e refl ])
]
