-- The model accepts each change in doubt, until it is settled.
use Rattle.std.proofs.Common.{◌≡◌, ◌≢◌, ◌≤◌, ◌+◌, inl, inr, ℕ, Bool, true, false, cond, nat_lt, List, [], ◌∷◌, ◌++◌, Option, Some, None, refl, sym, ap, ◌∙◌, subst, arith, zero, suc}
use Rattle.std.specs.Prelude.{IsSome}
use Rattle.std.specs.Ordering.{eq_by_cmp}
use Rattle.stamp_values.specs.Order.{name_cmp, names_exact}
use Rattle.stamp_values.specs.declared.key.Key.{Key}
use Rattle.stamp_types.specs.declared.past.Past.{Past}
use Rattle.stamp_types.specs.Requests.{Asked}
use Rattle.stamp_types.specs.World.{Part, part_at}
use Rattle.stamp_types.proofs.WorldLemmas.{equal_if_is_eq}
use Rattle.access_rules.specs.declared.keys.Keys.{Keys}
use Rattle.access_rules.specs.declared.rotation.Which.{Which}
use Rattle.access_rules.specs.Rotation.{are_numbered, epoch_after, rotated}
use Rattle.access_rules.proofs.RotationLemmas.{epoch-rotated}
use Rattle.range_rows.specs.SentContent.{sizes}
use Rattle.partition_map.specs.Spans.{slot_of, split_refusal}
use Rattle.stamp_model.specs.Effects.{accepted}
use Rattle.stamp_model.specs.Histories.{pair_of}
use Rattle.stamp_model.proofs.KeyPairLemmas.{IsSome-pair_of, pair_of-more}
use Rattle.slot_state.specs.Pairs.{Pairs, current_at, epoch_of, in_force, pairs_at}
use Rattle.slot_state.specs.Slots.{entry_of}
use Rattle.core_run.specs.declared.step.Step.{Step}
use Rattle.core_run.specs.Machine.{Answer, IsRun, SettlesDoubtBy, Takes}
use Rattle.core_run.specs.Places.{DoubtsAreAcceptable, IsAcceptable, IsSound}
use Rattle.core_run.specs.States.{State, change_in, doubted, opening, served, slot_doubt, slot_for, split, with_doubt, with_pair, with_ticket, without_ticket}
use Rattle.core_run.proofs.KeyLemmas.{last_is}
use Rattle.core_run.proofs.PairLemmas.{current_is}
use Rattle.core_run.proofs.SoundLemmas.{last_of, pairs_at-insert, set_read, settled_sound, step_sound, two_read, within}
use Rattle.core_run.proofs.StepLemmas.{by_changes, gone, others, settled_pairs}
use Rattle.core_run.proofs.Values.{none_some, some_is}
use Rattle.core_run.proofs.WaitLemmas.{settled_apart, unserved}

-- a change goes on to be accepted if its key pair and its container stay, and the epoch in force does not fall
goes_on : (s s' : State) (e : Past) → (doubted s' e).keys ≡ (doubted s e).keys
    → epoch_of (current_at s.pairs e.request.ask.key.account) ≤ epoch_of (current_at s'.pairs e.request.ask.key.account)
    → part_at s'.world e.request.ask.key ≡ part_at s.world e.request.ask.key → IsAcceptable s e → IsAcceptable s' e
goes_on s s' e keys later part before = record {
  epoch = omega (arith, before.epoch, later);
  changes = subst (λ (p : Part (List ℕ)). IsSome (accepted (doubted s' e).keys (sizes p) e.request e.moment)) (sym part)
      (subst (λ (k : Option Keys). IsSome (accepted k (sizes (part_at s.world e.request.ask.key)) e.request e.moment)) (sym keys) before.changes);
}

-- the same if all key pairs stay
stays : (s s' : State) (e : Past) → s'.pairs ≡ s.pairs → part_at s'.world e.request.ask.key ≡ part_at s.world e.request.ask.key → IsAcceptable s e → IsAcceptable s' e
stays s s' e pairs part before =
    let account : List ℕ = e.request.ask.key.account in
    let epochs : epoch_of (current_at s'.pairs account) ≡ epoch_of (current_at s.pairs account) = ap (λ (ps : Pairs). epoch_of (current_at ps account)) pairs in
    goes_on s s' e (ap (λ (ps : Pairs). pair_of (pairs_at ps account) e.epoch) pairs) (omega (arith, epochs)) part before

abbrev Goes : State → State → Type 0
Goes s s' = IsSound s → DoubtsAreAcceptable s → DoubtsAreAcceptable s'

by_settle : (o : Option Past) (s m : State) (i : ℕ) → slot_doubt s i ≡ o → SettlesDoubtBy o s i m → Goes s m
by_settle None s m i there is sound all = subst DoubtsAreAcceptable (sym is) all
by_settle (Some d) s m i there is sound all = λ j e at.
    let apart : j ≢ i = λ same. none_some e (sym (gone (Some d) s m i there is) ∙ ap (slot_doubt m) (sym same) ∙ at) in
    let before : slot_doubt s j ≡ Some e = sym (others (Some d) s m i j apart is) ∙ at in
    let home : slot_of s.points e.request.ask.key ≡ j = sound.placed j e before in
    stays s m e (settled_pairs (Some d) s m i is)
    (settled_apart e.request.ask.key (Some d) s m i there (λ here. apart (sym home ∙ here)) is sound e (ap (slot_doubt s) home ∙ before)).1 (all j e before)

-- the container of a change in doubt stays while another slot serves
by_serve : (s : State) (q : Asked) (t : ℕ) → slot_doubt s (slot_for s q) ≡ None → IsSound s → (j : ℕ) (e : Past) → slot_doubt s j ≡ Some e
    → part_at (served s q t).world e.request.ask.key ≡ part_at s.world e.request.ask.key
by_serve s q t calm sound j e at = unserved e.request.ask.key s q t e calm (ap (slot_doubt s) (sound.placed j e at) ∙ at)

-- a change comes in doubt that the model accepts
by_doubt : (s : State) (q : Asked) (t : ℕ) → IsSome (change_in s q t) → Goes s (with_doubt s (slot_for s q) (entry_of s.pairs q t))
by_doubt s q t some sound all = λ j e at. elim (set_read s.doubts (slot_for s q) (Some (entry_of s.pairs q t)) j e at) [
  | inl p ↦ subst (λ (x : Past). IsAcceptable (with_doubt s (slot_for s q) (entry_of s.pairs q t)) x) (some_is (entry_of s.pairs q t) e p.1) fresh
  | inr p ↦ stays s (with_doubt s (slot_for s q) (entry_of s.pairs q t)) e refl refl (all j e p)
]
  where
    fresh : IsAcceptable (with_doubt s (slot_for s q) (entry_of s.pairs q t)) (entry_of s.pairs q t)
    fresh = record {
      epoch = omega arith;
      changes = subst (λ (k : Option Keys). IsSome (accepted k (sizes (part_at s.world q.ask.key)) q t)) (sym (current_is s q.ask.key.account sound)) some;
    }

by_split : (s : State) (i : ℕ) (middle : Key) → split_refusal s.points i middle ≡ None → Goes s (split s i middle)
by_split s i middle allowed sound all = λ j e at. elim (two_read s.doubts i j e (within s i middle allowed sound) at) [
  | inl p ↦ stays s (split s i middle) e refl refl (all j e p.1)
  | inr p ↦ stays s (split s i middle) e refl refl (all p.0 e p.1.1.1)
]

-- a Rotate leaves the pair of each epoch that the account has, and the epoch in force does not fall
module _ (s : State) (account : List ℕ) (which : Which) (key : List ℕ) (old : Keys) (there : current_at s.pairs account ≡ Some old) (sound : IsSound s) where
  abbrev next : Keys
  next = rotated old which key (epoch_after old.epoch)

  has : (epoch : ℕ) → epoch ≤ old.epoch → IsSome (pair_of (pairs_at s.pairs account) epoch)
  has epoch low =
      let ends = last_of (pairs_at s.pairs account) old there in
      subst (λ (ks : List Keys). IsSome (pair_of ks epoch)) (sym ends.1)
      (IsSome-pair_of ends.0 old (subst (λ (ks : List Keys). are_numbered ks ≡ true) ends.1 (sound.numbered account)) epoch low)

  same_pair : (b : Bool) (a : List ℕ) (epoch : ℕ) → eq_by_cmp name_cmp a account ≡ b → epoch ≤ epoch_of (current_at s.pairs a)
      → pair_of (cond b (pairs_at s.pairs account ++ next ∷ []) (pairs_at s.pairs a)) epoch ≡ pair_of (pairs_at s.pairs a) epoch
  same_pair false a epoch apart low = refl
  same_pair true a epoch tie low =
      let same : a ≡ account = names_exact a account (equal_if_is_eq (name_cmp a account) tie) in
      let force : epoch_of (current_at s.pairs a) ≡ old.epoch = ap (λ (x : List ℕ). epoch_of (current_at s.pairs x)) same ∙ ap epoch_of there in
      pair_of-more (pairs_at s.pairs account) (next ∷ []) epoch (has epoch (omega (arith, low, force)))
      ∙ ap (λ (x : List ℕ). pair_of (pairs_at s.pairs x) epoch) (sym same)

  rises : (b : Bool) (a : List ℕ) → eq_by_cmp name_cmp a account ≡ b
      → epoch_of (current_at s.pairs a) ≤ epoch_of (in_force (cond b (pairs_at s.pairs account ++ next ∷ []) (pairs_at s.pairs a)))
  rises false a apart = omega arith
  rises true a tie =
      let same : a ≡ account = names_exact a account (equal_if_is_eq (name_cmp a account) tie) in
      let force : epoch_of (current_at s.pairs a) ≡ old.epoch = ap (λ (x : List ℕ). epoch_of (current_at s.pairs x)) same ∙ ap epoch_of there in
      let now : epoch_of (in_force (pairs_at s.pairs account ++ next ∷ [])) ≡ next.epoch = ap epoch_of (last_is (pairs_at s.pairs account) next) in
      let more : next.epoch ≡ old.epoch + 1 = epoch-rotated old which key (epoch_after old.epoch) in
      omega (arith, force, now, more)

  by_rotate : DoubtsAreAcceptable s → DoubtsAreAcceptable (with_pair s account next)
  by_rotate all = λ j e at.
      let a : List ℕ = e.request.ask.key.account in
      let pairs = pairs_at-insert s.pairs account (pairs_at s.pairs account ++ next ∷ []) a in
      let force : epoch_of (current_at (with_pair s account next).pairs a) ≡ epoch_of (in_force (cond (eq_by_cmp name_cmp a account) (pairs_at s.pairs account ++ next ∷ []) (pairs_at s.pairs a))) =
      ap (λ (ks : List Keys). epoch_of (in_force ks)) pairs in
      goes_on s (with_pair s account next) e
      (ap (λ (ks : List Keys). pair_of ks e.epoch) pairs ∙ same_pair (eq_by_cmp name_cmp a account) a e.epoch refl (all j e at).epoch)
      (omega (arith, force, rises (eq_by_cmp name_cmp a account) a refl)) refl (all j e at)

step_goes : (x : Step) (s s' : State) (f : Bool) (r : Answer) → Takes s x f r s' → Goes s s'
step_goes x s s' f r takes =
    by_changes x r Goes Goes (λ s sound all. all) (λ s s' goes. goes)
    (λ s m s' i on is goes sound all. goes (settled_sound (slot_doubt s i) s m i is sound) (by_settle (slot_doubt s i) s m i refl is sound all))
    (λ s q t is calm a sound all j e at. stays s (served s q t) e refl (by_serve s q t calm sound j e at) (all j e at))
    (λ s q t is calm a sound all j e at. stays s (with_ticket (served s q t) _) e refl (by_serve s q t calm sound j e at) (all j e at))
    (λ s q t is calm some o a. by_doubt s q t some)
    (λ s n o is there a sound all j e at. stays s (without_ticket s n) e refl refl (all j e at))
    (λ s i middle calm allowed a. by_split s i middle allowed)
    (λ s account which key old is there a sound all. by_rotate s account which key old there sound all) s s' f takes

-- in a run the model goes on to accept each change in doubt
pub run_goes : (steps : List Step) (answers : List Answer) (s s' : State) (before after : ℕ) → IsRun s before steps answers s' after → IsSound s → DoubtsAreAcceptable s → DoubtsAreAcceptable s'
run_goes [] [] s s' before after run sound all = subst DoubtsAreAcceptable (sym run.0) all
run_goes [] (r ∷ rs) s s' before after run sound all = absurd run
run_goes (x ∷ xs) [] s s' before after run sound all = absurd run
run_goes (x ∷ xs) (r ∷ rs) s s' before after run sound all =
    run_goes xs rs run.0 s' run.1.0 after run.1.1.1.1 (step_sound x s run.0 (nat_lt before run.1.0) r run.1.1.1.0 sound)
    (step_goes x s run.0 (nat_lt before run.1.0) r run.1.1.1.0 sound all)

-- in the first state nothing is in doubt
pub opening_acceptable : (pairs : Pairs) → DoubtsAreAcceptable (opening pairs)
opening_acceptable pairs zero e at = absurd (none_some e at)
opening_acceptable pairs (suc i) e at = absurd (none_some e at)
