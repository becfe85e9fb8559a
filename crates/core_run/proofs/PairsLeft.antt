-- Steps and runs that leave key pairs.
use Rattle.std.proofs.Common.{◌≡◌, ◌≢◌, ◌↔◌, inl, inr, ℕ, Bool, true, false, cond, nat_lt, All, List, [], ◌∷◌, ◌++◌, Option, Some, None, refl, sym, ap, ◌∙◌, Ok}
use Rattle.std.specs.Ordering.{eq_by_cmp}
use Rattle.std.proofs.lemmas.List.Elements.{All-head, All-tail}
use Rattle.stamp_values.specs.Order.{name_cmp, names_exact}
use Rattle.stamp_types.proofs.WorldLemmas.{equal_if_is_eq}
use Rattle.access_rules.specs.declared.keys.Keys.{Keys}
use Rattle.access_rules.specs.declared.rotation.Which.{Which}
use Rattle.access_rules.specs.Rotation.{epoch_after, rotated}
use Rattle.slot_state.specs.Pairs.{pairs_at}
use Rattle.core_run.specs.declared.step.Step.{Step}
use Rattle.core_run.specs.declared.step.Step.TheVariants as step
use Rattle.core_run.specs.declared.step.Outcome.TheVariants.{Epoch}
use Rattle.core_run.specs.Machine.{Answer, IsRun, RotatesBy, Takes}
use Rattle.core_run.specs.Places.{is_rotate}
use Rattle.core_run.specs.States.{State, slot_doubt}
use Rattle.core_run.proofs.SoundLemmas.{pairs_at-insert}
use Rattle.core_run.proofs.StepLemmas.{by_changes, settled_pairs}
use Rattle.core_run.proofs.Values.{true_false}

rotate_then : (x : Step) → is_rotate x ≡ true → (account : List ℕ) × ((which : Which) × ((key : List ℕ) × (x ≡ step.Rotate account which key)))
rotate_then (step.Rotate account which key) h = (account, (which, (key, refl)))
rotate_then other h = cc

-- the step is a Rotate
pub rotate_if : (x : Step) → (is_rotate x ≡ true) ↔ ((account : List ℕ) × ((which : Which) × ((key : List ℕ) × (x ≡ step.Rotate account which key))))
rotate_if x = (rotate_then x, λ p. ap is_rotate p.1.1.1)

-- a step that answers no epoch leaves the pairs
pub no_epoch : (x : Step) (s s' : State) (f : Bool) (r : Answer) → Takes s x f r s' → ((n : ℕ) → r ≢ Ok (Epoch n)) → s'.pairs ≡ s.pairs
no_epoch x s s' f r takes =
    by_changes x r (λ s s'. ((n : ℕ) → r ≢ Ok (Epoch n)) → s'.pairs ≡ s.pairs) (λ s s'. ((n : ℕ) → r ≢ Ok (Epoch n)) → s'.pairs ≡ s.pairs)
    (λ s none. refl) (λ s s' stays. stays) (λ s m s' i on is stays none. stays none ∙ settled_pairs (slot_doubt s i) s m i is)
    (λ s q t is calm a none. refl) (λ s q t is calm a none. refl) (λ s q t is calm some o a none. refl) (λ s n o is there a none. refl)
    (λ s i middle calm allowed a none. refl) (λ s account which key old is there a none. absurd (none (epoch_after old.epoch) a)) s s' f takes

-- a step that is no Rotate leaves the pairs
pub no_rotate : (x : Step) (s s' : State) (f : Bool) (r : Answer) → Takes s x f r s' → is_rotate x ≡ false → s'.pairs ≡ s.pairs
no_rotate x s s' f r takes =
    by_changes x r (λ s s'. is_rotate x ≡ false → s'.pairs ≡ s.pairs) (λ s s'. is_rotate x ≡ false → s'.pairs ≡ s.pairs)
    (λ s none. refl) (λ s s' stays. stays) (λ s m s' i on is stays none. stays none ∙ settled_pairs (slot_doubt s i) s m i is)
    (λ s q t is calm a none. refl) (λ s q t is calm a none. refl) (λ s q t is calm some o a none. refl) (λ s n o is there a none. refl)
    (λ s i middle calm allowed a none. refl) (λ s account which key old is there a none. absurd (true_false (sym (ap is_rotate is) ∙ none))) s s' f takes

-- a run without a Rotate leaves the pairs
pub pairs_left : (steps : List Step) (answers : List Answer) (s s' : State) (before after : ℕ) → IsRun s before steps answers s' after → All (λ x. is_rotate x ≡ false) steps → s'.pairs ≡ s.pairs
pairs_left [] [] s s' before after run none = ap (λ (x : State). x.pairs) run.0
pairs_left [] (r ∷ rs) s s' before after run none = absurd run
pairs_left (x ∷ xs) [] s s' before after run none = absurd run
pairs_left (x ∷ xs) (r ∷ rs) s s' before after run none =
    pairs_left xs rs run.0 s' run.1.0 after run.1.1.1.1 (All-tail (λ (x : Step). is_rotate x ≡ false) x xs none)
    ∙ no_rotate x s run.0 (nat_lt before run.1.0) r run.1.1.1.0 (All-head (λ (x : Step). is_rotate x ≡ false) x xs none)

-- a Rotate leaves the pairs of other accounts
module _ (s s' : State) (account : List ℕ) (which : Which) (key other : List ℕ) (apart : other ≢ account) where
  unlike : (b : Bool) → eq_by_cmp name_cmp other account ≡ b → b ≡ false
  unlike true same = absurd (apart (names_exact other account (equal_if_is_eq (name_cmp other account) same)))
  unlike false same = refl

  pub others_left : (o : Option Keys) (r : Answer) → RotatesBy o s account which key r s' → pairs_at s'.pairs other ≡ pairs_at s.pairs other
  others_left None r p = ap (λ (x : State). pairs_at x.pairs other) p.1
  others_left (Some old) r (inl p) =
      let next : List Keys = pairs_at s.pairs account ++ rotated old which key (epoch_after old.epoch) ∷ [] in
      ap (λ (x : State). pairs_at x.pairs other) p.1 ∙ pairs_at-insert s.pairs account next other
      ∙ ap (λ (b : Bool). cond b next (pairs_at s.pairs other)) (unlike (eq_by_cmp name_cmp other account) refl)
  others_left (Some old) r (inr (inl p)) = ap (λ (x : State). pairs_at x.pairs other) p.1.1
  others_left (Some old) r (inr (inr p)) = ap (λ (x : State). pairs_at x.pairs other) p.1
