-- The key pairs by which requests are judged, in every later state.
use Rattle.std.proofs.Common.{◌≡◌, ℕ, suc, ◌-◌, Bool, true, false, cond, List, [], ◌∷◌, ◌++◌, length, Option, Some, None, refl, sym, ap, ◌∙◌, subst, arith}
use Rattle.std.specs.Prelude.{IsSome, slice_get}
use Rattle.std.specs.Ordering.{eq_by_cmp}
use Rattle.stamp_values.specs.Order.{name_cmp, names_exact}
use Rattle.stamp_types.specs.declared.past.Past.{Past}
use Rattle.stamp_types.specs.Requests.{Asked}
use Rattle.stamp_types.proofs.WorldLemmas.{equal_if_is_eq}
use Rattle.access_rules.specs.declared.keys.Keys.{Keys}
use Rattle.access_rules.specs.Rotation.{are_numbered, epoch_after, rotated}
use Rattle.stamp_model.specs.Histories.{pair_of}
use Rattle.stamp_model.proofs.KeyPairLemmas.{pair_of-last, pair_of-more}
use Rattle.slot_state.specs.Slots.{entry_of}
use Rattle.slot_state.specs.Pairs.{Pairs, current_at, epoch_of, in_force, pairs_at}
use Rattle.core_run.specs.declared.step.Step.{Step}
use Rattle.core_run.specs.Machine.{Answer, Takes}
use Rattle.core_run.specs.Places.{IsSound}
use Rattle.core_run.specs.States.{State, slot_doubt, doubted, timed_in}
use Rattle.core_run.proofs.SoundLemmas.{last_of, pairs_at-insert}
use Rattle.core_run.proofs.StepLemmas.{by_changes, settled_pairs}

-- the pair in force is the pair of its epoch
in_force_is : (ks : List Keys) (o : Option Keys) → in_force ks ≡ o → are_numbered ks ≡ true → pair_of ks (epoch_of o) ≡ o
in_force_is [] None is numbered = refl
in_force_is (k ∷ ks) None is numbered = absurd (some_last k ks is)
  where
    some_last : (k : Keys) (ks : List Keys) → slice_get (k ∷ ks) (length (k ∷ ks) - 1) ≡ None → ⊥
    some_last k [] is = cc
    some_last k (l ∷ ks) is = some_last l ks (sym (ap (slice_get (k ∷ l ∷ ks)) at) ∙ is)
      where
        at : suc (suc (length ks)) - 1 ≡ suc (suc (length ks) - 1)
        at = omega arith
in_force_is ks (Some last) is numbered =
    let ends = last_of ks last is in
    ap (λ (xs : List Keys). pair_of xs last.epoch) ends.1
    ∙ pair_of-last ends.0 last (subst (λ (xs : List Keys). are_numbered xs ≡ true) ends.1 numbered)

pub current_is : (s : State) (account : List ℕ) → IsSound s → pair_of (pairs_at s.pairs account) (epoch_of (current_at s.pairs account)) ≡ current_at s.pairs account
current_is s account sound = in_force_is (pairs_at s.pairs account) (current_at s.pairs account) refl (sound.numbered account)

module _ (account : List ℕ) (epoch : ℕ) where
  -- the pair of the epoch stays
  abbrev Stays : Pairs → Pairs → Type 0
  Stays ps qs = IsSome (pair_of (pairs_at ps account) epoch) → pair_of (pairs_at qs account) epoch ≡ pair_of (pairs_at ps account) epoch

  by_name : (b : Bool) (ps : Pairs) (name : List ℕ) (next : Keys) → eq_by_cmp name_cmp account name ≡ b → IsSome (pair_of (pairs_at ps account) epoch)
      → pair_of (cond b (pairs_at ps name ++ next ∷ []) (pairs_at ps account)) epoch ≡ pair_of (pairs_at ps account) epoch
  by_name true ps name next tie some =
      let same : account ≡ name = names_exact account name (equal_if_is_eq (name_cmp account name) tie) in
      ap (λ (a : List ℕ). pair_of (pairs_at ps a ++ next ∷ []) epoch) (sym same) ∙ pair_of-more (pairs_at ps account) (next ∷ []) epoch some
  by_name false ps name next apart some = refl

  pub pair_stays : (x : Step) (s s' : State) (f : Bool) (r : Answer) → Takes s x f r s' → IsSome (pair_of (pairs_at s.pairs account) epoch)
      → pair_of (pairs_at s'.pairs account) epoch ≡ pair_of (pairs_at s.pairs account) epoch
  pair_stays x s s' f r takes =
      by_changes x r (λ s s'. Stays s.pairs s'.pairs) (λ s s'. Stays s.pairs s'.pairs) (λ s some. refl) (λ s s' stays. stays)
      (λ s m s' i on is stays some.
      let same = settled_pairs (slot_doubt s i) s m i is in
      subst (λ (ps : Pairs). Stays ps s'.pairs) same stays some)
      (λ s q t is calm r some. refl) (λ s q t is calm r some. refl) (λ s q t is calm change o r some. refl) (λ s n o is held r some. refl) (λ s i middle calm allowed r some. refl)
      (λ s name which key old is current r some.
      ap (λ (ks : List Keys). pair_of ks epoch) (pairs_at-insert s.pairs name (pairs_at s.pairs name ++ rotated old which key (epoch_after old.epoch) ∷ []) account)
      ∙ by_name (eq_by_cmp name_cmp account name) s.pairs name (rotated old which key (epoch_after old.epoch)) refl some) s s' f takes

-- a change in doubt is judged as at its Serve, and by the same pair after each step
pub doubted_entry : (s : State) (q : Asked) (t : ℕ) → IsSound s → doubted s (entry_of s.pairs q t) ≡ record (timed_in s q t) { bound = None }
doubted_entry s q t sound = λ i. record { request = q; moment = t; keys = current_is s q.ask.key.account sound i; bound = None }

pub doubted_stays : (x : Step) (s s' : State) (f : Bool) (r : Answer) (e : Past) → Takes s x f r s' → IsSome (doubted s e).keys → doubted s' e ≡ doubted s e
doubted_stays x s s' f r e takes some =
    λ i. record { request = e.request; moment = e.moment; keys = pair_stays e.request.ask.key.account e.epoch x s s' f r takes some i; bound = None }
