-- What is so until a doubt ends.
use Rattle.std.proofs.Common.{◌≡◌, ◌≢◌, inl, inr, ℕ, zero, suc, Bool, true, false, List, [], ◌∷◌, Option, Some, None, refl, sym, ap, ◌∙◌}
use Rattle.std.specs.Prelude.{slice_get, slice_index_or}
use Rattle.std.specs.Option.{option_and_then}
use Rattle.stamp_values.specs.Operations.{names_container}
use Rattle.stamp_values.specs.declared.key.Key.{Key}
use Rattle.stamp_types.specs.declared.past.Past.{Past}
use Rattle.stamp_types.specs.Pieces.{held}
use Rattle.stamp_types.specs.Requests.{Asked}
use Rattle.stamp_types.specs.World.{World, part_at}
use Rattle.range_rows.specs.SentContent.{byte_count}
use Rattle.partition_map.specs.Spans.{slot_of, split_refusal, with_point}
use Rattle.partition_map.proofs.RefusalLemmas.{allowed_is}
use Rattle.partition_map.proofs.SplitLemmas.{split_at}
use Rattle.stamp_model.proofs.EffectLemmas.{part_at-effect_others}
use Rattle.core_run.specs.declared.step.Step.{Step}
use Rattle.core_run.specs.Machine.{Answer, SettlesDoubtBy, Takes}
use Rattle.core_run.specs.Places.{IsSound, doubt_at, works_on}
use Rattle.core_run.specs.States.{State, slot_doubt, doubted, served, slot_for, split, timed_in}
use Rattle.core_run.proofs.SoundLemmas.{effect-listing, inside_before, routed_own, settled_sound}
use Rattle.core_run.proofs.Values.{some_none}
use Rattle.core_run.proofs.StepLemmas.{apart_set, by_changes}

joined_is : (doubts : List (Option Past)) (n : ℕ) → option_and_then (λ o. o) (slice_get doubts n) ≡ slice_index_or doubts n None
joined_is [] n = refl
joined_is (o ∷ doubts) zero = refl
joined_is (o ∷ doubts) (suc n) = joined_is doubts n

module _ (key : Key) where
  -- the doubt of the slot that has the key waits, and the container of the key stays as it is
  abbrev Waits : State → State → Type 0
  Waits s s' = IsSound s → (e : Past) → doubt_at s key ≡ Some e → (doubt_at s' key ≡ Some e) × (part_at s'.world key ≡ part_at s.world key)

  pub settled_apart : (o : Option Past) (s m : State) (i : ℕ) → slot_doubt s i ≡ o → slot_of s.points key ≢ i → SettlesDoubtBy o s i m → Waits s m
  settled_apart None s m i there apart is sound e waits = (ap (λ (x : State). doubt_at x key) is ∙ waits, ap (λ (x : State). part_at x.world key) is)
  settled_apart (Some d) s m i there apart (inl is) sound e waits = (
    ap (λ (x : State). doubt_at x key) is ∙ apart_set s.doubts None i (slot_of s.points key) apart ∙ waits,
    ap (λ (x : State). part_at x.world key) is
        ∙ part_at-effect_others byte_count held (doubted s d).keys s.world d.request d.moment key (λ same. apart (ap (slot_of s.points) same ∙ sound.placed i d there)),
  )
  settled_apart (Some d) s m i there apart (inr is) sound e waits =
      (ap (λ (x : State). doubt_at x key) is ∙ apart_set s.doubts None i (slot_of s.points key) apart ∙ waits, ap (λ (x : State). part_at x.world key) is)

  -- another slot serves a request
  pub unserved : (s : State) (q : Asked) (t : ℕ) (e : Past) → slot_doubt s (slot_for s q) ≡ None → doubt_at s key ≡ Some e → part_at (served s q t).world key ≡ part_at s.world key
  unserved s q t e calm waits = by (names_container q.ask.op) refl
    where
      by : (b : Bool) → names_container q.ask.op ≡ b → part_at (served s q t).world key ≡ part_at s.world key
      by true names = part_at-effect_others byte_count held (timed_in s q t).keys s.world q t key
          (λ same. some_none (doubt_at s key) e waits (ap (λ (k : Key). doubt_at s k) (same ∙ sym (routed_own q names)) ∙ calm))
      by false lists = ap (λ (w : World (List ℕ)). part_at w key) (effect-listing (timed_in s q t).keys s.world q t lists)

  by_split : (s : State) (i : ℕ) (middle : Key) → slot_doubt s i ≡ None → split_refusal s.points i middle ≡ None → Waits s (split s i middle)
  by_split s i middle calm allowed sound e waits =
      let can = (allowed_is s.points i middle).0 allowed in
      let never : slot_of s.points key ≡ i → None ≡ Some e = λ here. absurd (some_none (doubt_at s key) e waits (ap (slot_doubt s) here ∙ calm)) in (
        joined_is (split s i middle).doubts (slot_of (with_point s.points i middle) key)
            ∙ split_at None key middle None None (λ o. o ≡ Some e) s.points s.doubts i can.0 (inside_before s.points i middle can.1) sound.counted
            (sym (joined_is s.doubts (slot_of s.points key)) ∙ waits) (λ here low. never here) (λ here high. never here),
        refl,
      )

  pub waits_on : (x : Step) (s s' : State) (f : Bool) (r : Answer) → Takes s x f r s' → works_on s x ≢ Some (slot_of s.points key) → Waits s s'
  waits_on x s s' f r takes =
      by_changes x r Waits (λ s s'. works_on s x ≢ Some (slot_of s.points key) → Waits s s') (λ s sound e waits. (waits, refl)) (λ s s' waits apart. waits)
      (λ s m s' i on is waits apart sound e there.
      let first = settled_apart (slot_doubt s i) s m i refl (λ here. apart (on ∙ ap Some (sym here))) is sound e there in
      let then = waits (settled_sound (slot_doubt s i) s m i is sound) e first.0 in
      (then.0, then.1 ∙ first.1))
      (λ s q t is calm r sound e there. (there, unserved s q t e calm there)) (λ s q t is calm r sound e there. (there, unserved s q t e calm there))
      (λ s q t is calm some o r sound e there. (apart_set s.doubts _ (slot_for s q) (slot_of s.points key) (λ here. some_none (doubt_at s key) e there (ap (slot_doubt s) here ∙ calm)) ∙ there, refl))
      (λ s n o is held r sound e there. (there, refl)) (λ s i middle calm allowed r. by_split s i middle calm allowed) (λ s account which key old is current r sound e there. (there, refl)) s s' f takes
