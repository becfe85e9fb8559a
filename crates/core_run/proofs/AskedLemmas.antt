-- The requests of a history are those that steps ask, and those that were in doubt at first.
use Rattle.std.proofs.Common.{◌≡◌, inl, inr, ℕ, Bool, true, nat_lt, All, List, [], ◌∷◌, ◌++◌, Option, Some, None, refl, sym, ap, ◌∙◌, subst}
use Rattle.std.proofs.lemmas.List.{append_assoc, append_cancel_left}
use Rattle.std.proofs.lemmas.List.Elements.{All-append, All-cons, All-head, All-nil, All-tail}
use Rattle.stamp_values.specs.declared.key.Key.{Key}
use Rattle.stamp_types.specs.declared.past.Past.{Past}
use Rattle.stamp_types.specs.Requests.{Asked}
use Rattle.access_rules.specs.Rotation.{epoch_after, rotated}
use Rattle.partition_map.specs.Spans.{split_refusal}
use Rattle.slot_state.specs.Slots.{entry_of}
use Rattle.core_run.specs.declared.step.Step.{Step}
use Rattle.core_run.specs.Machine.{Answer, IsRun, SettlesDoubtBy, Takes}
use Rattle.core_run.specs.Places.{DoubtsPass, IsSound, PassesStep}
use Rattle.core_run.specs.States.{State, Turn, slot_doubt, doubted, reply_in, served, slot_for, split, timed_in, with_doubt, with_pair, with_ticket, without_ticket}
use Rattle.core_run.proofs.HistoryLemmas.{leads_same}
use Rattle.core_run.proofs.SoundLemmas.{set_read, settled_sound, step_sound, two_read, within}
use Rattle.core_run.proofs.StepLemmas.{by_changes}
use Rattle.core_run.proofs.Values.{none_some, some_is}

module _ (test : Asked → ℕ → Bool) where
  abbrev Passes : Turn → Type 0
  Passes u = test u.served.request u.served.moment ≡ true

  abbrev Adds : State → State → Type 0
  Adds s s' = (us : List Turn) × ((s'.history ≡ s.history ++ us) × All (λ u. test u.served.request u.served.moment ≡ true) us)

  -- what passes at first passes on
  abbrev Goes : State → State → Type 0
  Goes s s' = IsSound s → DoubtsPass test s → Adds s s' × DoubtsPass test s'

  nothing : (s s' : State) → s'.history ≡ s.history → Adds s s'
  nothing s s' is = ([], (is ∙ (leads_same s).history, All-nil Passes))

  one : (s s' : State) (u : Turn) → s'.history ≡ s.history ++ u ∷ [] → Passes u → Adds s s'
  one s s' u is passes = (u ∷ [], (is, All-cons Passes u [] passes (All-nil Passes)))

  on : (s m s' : State) → Adds s m → Adds m s' → Adds s s'
  on s m s' a b = (a.0 ++ b.0, (b.1.0 ∙ ap (λ (h : List Turn). h ++ b.0) a.1.0 ∙ append_assoc s.history a.0 b.0, All-append Passes a.0 b.0 a.1.1 b.1.1))

  by_settle : (o : Option Past) (s m : State) (i : ℕ) → slot_doubt s i ≡ o → SettlesDoubtBy o s i m → DoubtsPass test s → Adds s m × DoubtsPass test m
  by_settle None s m i there is pass = (nothing s m (λ j. (is j).history), subst (DoubtsPass test) (sym is) pass)
  by_settle (Some e) s m i there (inl is) pass = (
    one s m (record { served = doubted s e; reply = None }) (λ j. (is j).history) (pass i e there),
    subst (DoubtsPass test) (sym is) (λ j d at. elim (set_read s.doubts i None j d at) [ inl p ↦ absurd (none_some d p.1) | inr p ↦ pass j d p ]),
  )
  by_settle (Some e) s m i there (inr is) pass = (
    nothing s m (λ j. (is j).history),
    subst (DoubtsPass test) (sym is) (λ j d at. elim (set_read s.doubts i None j d at) [ inl p ↦ absurd (none_some d p.1) | inr p ↦ pass j d p ]),
  )

  by_doubt : (s : State) (q : Asked) (t : ℕ) → test q t ≡ true → DoubtsPass test s → DoubtsPass test (with_doubt s (slot_for s q) (entry_of s.pairs q t))
  by_doubt s q t asks pass j d at = elim (set_read s.doubts (slot_for s q) (Some (entry_of s.pairs q t)) j d at) [
    | inl p ↦ ap (λ (e : Past). test e.request e.moment) (sym (some_is (entry_of s.pairs q t) d p.1)) ∙ asks
    | inr p ↦ pass j d p
  ]

  by_split : (s : State) (i : ℕ) (middle : Key) → split_refusal s.points i middle ≡ None → IsSound s → DoubtsPass test s → DoubtsPass test (split s i middle)
  by_split s i middle allowed sound pass j d at = elim (two_read s.doubts i j d (within s i middle allowed sound) at) [
    | inl p ↦ pass j d p.1
    | inr p ↦ pass p.0 d p.1.1.1
  ]

  step_asked : (x : Step) (s s' : State) (f : Bool) (r : Answer) → PassesStep test x → Takes s x f r s' → Goes s s'
  step_asked x s s' f r asks takes =
      by_changes x r Goes Goes (λ s sound pass. (nothing s s refl, pass)) (λ s s' goes. goes)
      (λ s m s' i at is goes sound pass.
      let first = by_settle (slot_doubt s i) s m i refl is pass in
      let then = goes (settled_sound (slot_doubt s i) s m i is sound) first.1 in
      (on s m s' first.0 then.0, then.1))
      (λ s q t is calm r sound pass. (one s (served s q t) (record { served = timed_in s q t; reply = Some (reply_in s q t) }) refl (subst (PassesStep test) is asks), pass))
      (λ s q t is calm r sound pass. (one s (with_ticket (served s q t) (reply_in s q t)) (record { served = timed_in s q t; reply = Some (reply_in s q t) }) refl (subst (PassesStep test) is asks), pass))
      (λ s q t is calm some o r sound pass. (nothing s (with_doubt s (slot_for s q) (entry_of s.pairs q t)) refl, by_doubt s q t (subst (PassesStep test) is asks) pass))
      (λ s n o is held r sound pass. (nothing s (without_ticket s n) refl, pass))
      (λ s i middle calm allowed r sound pass. (nothing s (split s i middle) refl, by_split s i middle allowed sound pass))
      (λ s account which key old is current r sound pass. (nothing s (with_pair s account (rotated old which key (epoch_after old.epoch))) refl, pass)) s s' f takes

  pub run_asked : (steps : List Step) (answers : List Answer) (s s' : State) (before after : ℕ) → IsRun s before steps answers s' after → All (λ x. PassesStep test x) steps → Goes s s'
  run_asked [] [] s s' before after run asks sound pass = (nothing s s' (λ j. (run.0 j).history), subst (DoubtsPass test) (sym run.0) pass)
  run_asked [] (r ∷ rs) s s' before after run asks sound pass = absurd run
  run_asked (x ∷ xs) [] s s' before after run asks sound pass = absurd run
  run_asked (x ∷ xs) (r ∷ rs) s s' before after run asks sound pass =
      let first = step_asked x s run.0 (nat_lt before run.1.0) r (All-head (λ (x : Step). PassesStep test x) x xs asks) run.1.1.1.0 sound pass in
      let rest = run_asked xs rs run.0 s' run.1.0 after run.1.1.1.1 (All-tail (λ (x : Step). PassesStep test x) x xs asks) (step_sound x s run.0 (nat_lt before run.1.0) r run.1.1.1.0 sound) first.1 in
      (on s run.0 s' first.0 rest.0, rest.1)

  -- the turns of a run pass
  pub asked_so : (steps : List Step) (answers : List Answer) (s s' : State) (before after : ℕ) (us : List Turn) → IsRun s before steps answers s' after → All (λ x. PassesStep test x) steps → IsSound s → DoubtsPass test s
      → s'.history ≡ s.history ++ us → All (λ u. test u.served.request u.served.moment ≡ true) us
  asked_so steps answers s s' before after us run asks sound pass is =
      let adds = (run_asked steps answers s s' before after run asks sound pass).0 in
      subst (λ (vs : List Turn). All (λ (u : Turn). test u.served.request u.served.moment ≡ true) vs) (append_cancel_left s.history adds.0 us (sym adds.1.0 ∙ is)) adds.1.1
