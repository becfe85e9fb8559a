-- What is so of the state in every run.
use Rattle.std.proofs.Common.{◌≡◌, ◌<◌, ◌≤◌, ◌+◌, ◌-◌, ◌⊎◌, inl, inr, ℕ, zero, suc, Bool, true, false, cond, nat_lt, ◌&&◌, List, [], ◌∷◌, ◌++◌, length, Option, Some, None, is_some, unwrap_or, refl, sym, ap, ◌∙◌, subst, arith}
use Rattle.std.specs.Prelude.{IfSome, IsSome, slice_get, slice_set}
use Rattle.std.specs.FinMap.{get, insert, get-empty, get-insert}
use Rattle.std.specs.Ordering.{eq_by_cmp}
use Rattle.std.proofs.lemmas.List.{append_assoc}
use Rattle.std.proofs.lemmas.List.Edits.{length-insert}
use Rattle.std.specs.Option.{option_and_then, option_map}
use Rattle.stamp_values.specs.Operations.{names_container}
use Rattle.stamp_values.specs.Order.{key_cmp, name_cmp, names_total}
use Rattle.stamp_values.specs.Trees.{is_below}
use Rattle.stamp_values.specs.declared.key.Key.{Key}
use Rattle.stamp_values.specs.declared.op.Op.{Op}
use Rattle.stamp_values.specs.declared.op.Op.TheVariants as op
use Rattle.stamp_types.specs.declared.past.Past.{Past}
use Rattle.stamp_types.specs.declared.refusal.Refusal.{Refusal}
use Rattle.stamp_types.specs.Changes.{KeyedAct}
use Rattle.stamp_types.specs.Pieces.{held}
use Rattle.stamp_types.specs.EffectKinds.{EtagsAtMost}
use Rattle.stamp_types.specs.Requests.{Asked}
use Rattle.stamp_types.specs.World.{Blob, Part, World, no_blob, no_part, part_at}
use Rattle.access_rules.specs.declared.keys.Keys.{Keys}
use Rattle.access_rules.specs.declared.rotation.Which.{Which}
use Rattle.access_rules.specs.Rotation.{are_numbered, epoch_after, rotated}
use Rattle.access_rules.proofs.RotationLemmas.{epoch-rotated, numbered_more}
use Rattle.range_rows.specs.SentContent.{sizes}
use Rattle.range_rows.specs.RequestChanges.{act_by}
use Rattle.partition_map.specs.Spans.{AreSpans, bound_of, first_key, is_before, is_inside, points_limit, slot_of, split_refusal, with_point, with_two}
use Rattle.partition_map.proofs.RefusalLemmas.{allowed_is}
use Rattle.partition_map.proofs.RiseLemmas.{no_points, one_more}
use Rattle.partition_map.proofs.SplitLemmas.{slot_of_earlier, slot_of_later}
use Rattle.stamp_model.specs.Effects.{accepted, effect, unless_refused, world_after}
use Rattle.stamp_model.specs.Refusals.{refusal}
use Rattle.stamp_model.specs.SeenContainers.{routed}
use Rattle.slot_state.specs.Pairs.{AreNumbered, Pairs, current_at, in_force, pairs_at}
use Rattle.slot_state.specs.Slots.{entry_of}
use Rattle.core_run.specs.declared.step.Step.{Step}
use Rattle.core_run.specs.Machine.{Answer, IsRun, SettlesDoubtBy, Takes}
use Rattle.core_run.specs.Places.{IsSound}
use Rattle.core_run.specs.States.{State, change_in, slot_doubt, opening, slot_for, split, with_doubt, with_pair}
use Rattle.core_run.proofs.StepLemmas.{by_changes}
use Rattle.core_run.proofs.Values.{none_some, some_is}

-- ---- requests that name no container

reads : (o : Op) (p : Part ℕ) (q : Asked) (t : ℕ) → names_container o ≡ false → act_by o p q t ≡ None
reads op.ListContainers p q t e = refl
reads other p q t e = cc

unrefused : (r : Option Refusal) → unless_refused r None ≡ None
unrefused None = refl
unrefused (Some r) = refl

pub lists_nothing : (keys : Option Keys) (p : Part ℕ) (q : Asked) (t : ℕ) → names_container q.ask.op ≡ false → accepted keys p q t ≡ None
lists_nothing keys p q t e =
    ap (λ a. unless_refused (refusal keys p q t) (option_map (λ a. record { key = q.ask.key; act = a }) a)) (reads q.ask.op p q t e)
    ∙ unrefused (refusal keys p q t)

pub effect-listing : (keys : Option Keys) (w : World (List ℕ)) (q : Asked) (t : ℕ) → names_container q.ask.op ≡ false → effect keys w q t ≡ w
effect-listing keys w q t e = ap (λ (c : Option KeyedAct). world_after held c w) (lists_nothing keys (sizes (part_at w q.ask.key)) q t e)

-- a request that names a container goes to the slot of its key
pub routed_own : (q : Asked) → names_container q.ask.op ≡ true → routed q ≡ q.ask.key
routed_own q e = chosen (names_container q.ask.op) q.ask.key _ e
  where
    chosen : (b : Bool) (x y : Key) → b ≡ true → cond b x y ≡ x
    chosen true x y is = refl
    chosen false x y is = cc

-- a request that makes a change names its container
pub changes_own : (s : State) (q : Asked) (t : ℕ) → IsSome (change_in s q t) → slot_for s q ≡ slot_of s.points q.ask.key
changes_own s q t some = by (names_container q.ask.op) refl
  where
    by : (b : Bool) → names_container q.ask.op ≡ b → slot_for s q ≡ slot_of s.points q.ask.key
    by true e = ap (slot_of s.points) (routed_own q e)
    by false e = let none : is_some (change_in s q t) ≡ false = ap is_some (lists_nothing _ (sizes (part_at s.world q.ask.key)) q t e) in let is : is_some (change_in s q t) ≡ true = some in cc

-- ---- doubts by their slots

-- no slot has a number over that of the last span
pub slot_of-within : (points : List Key) (key : Key) → slot_of points key ≤ length points
slot_of-within [] key = omega arith
slot_of-within (p ∷ points) key = within_by _ (slot_of points key) (length points) (slot_of-within points key)
  where
    within_by : (b : Bool) (n m : ℕ) → n ≤ m → cond b 0 (1 + n) ≤ suc m
    within_by true n m low = omega (arith, low)
    within_by false n m low = omega (arith, low)

pub length_set : (doubts : List (Option Past)) (i : ℕ) (v : Option Past) → length (slice_set doubts i v) ≡ length doubts
length_set [] i v = refl
length_set (o ∷ doubts) zero v = refl
length_set (o ∷ doubts) (suc i) v = ap suc (length_set doubts i v)

-- a doubt in a list in which one place was set
pub set_read : (doubts : List (Option Past)) (k : ℕ) (v : Option Past) (i : ℕ) (e : Past)
    → option_and_then (λ o. o) (slice_get (slice_set doubts k v) i) ≡ Some e → ((i ≡ k) × (v ≡ Some e)) ⊎ (option_and_then (λ o. o) (slice_get doubts i) ≡ Some e)
set_read [] k v i e is = inr is
set_read (o ∷ doubts) zero v zero e is = inl (refl, is)
set_read (o ∷ doubts) zero v (suc i) e is = inr is
set_read (o ∷ doubts) (suc k) v zero e is = inr is
set_read (o ∷ doubts) (suc k) v (suc i) e is = elim (set_read doubts k v i e is) [ inl p ↦ inl (ap suc p.0, p.1) | inr p ↦ inr p ]

-- a doubt in a list in which one place became two without a doubt
pub two_read : (doubts : List (Option Past)) (i j : ℕ) (e : Past) → i < length doubts → option_and_then (λ o. o) (slice_get (with_two doubts i None None) j) ≡ Some e
    → ((j < i) × (option_and_then (λ o. o) (slice_get doubts j) ≡ Some e)) ⊎ ((k : ℕ) × ((j ≡ suc k) × ((i < k) × (option_and_then (λ o. o) (slice_get doubts k) ≡ Some e))))
two_read [] i j e within is = absurd (omega (arith, within))
two_read (o ∷ doubts) zero zero e within is = absurd (none_some e is)
two_read (o ∷ doubts) zero (suc zero) e within is = absurd (none_some e is)
two_read (o ∷ doubts) zero (suc (suc j)) e within is = inr (suc j, (refl, (omega arith, is)))
two_read (o ∷ doubts) (suc i) zero e within is = inl (omega arith, is)
two_read (o ∷ doubts) (suc i) (suc j) e within is =
    elim (two_read doubts i j e (omega (arith, within)) is) [
      | inl p ↦ inl (omega (arith, p.0), p.1)
      | inr p ↦ inr (suc p.0, (ap suc p.1.0, (omega (arith, p.1.1.0), p.1.1.1)))
    ]

length_two : {X : Type 0} (xs : List X) (i : ℕ) (x y : X) → i < length xs → length (with_two xs i x y) ≡ suc (length xs)
length_two [] i x y within = absurd (omega (arith, within))
length_two (z ∷ xs) zero x y within = refl
length_two (z ∷ xs) (suc i) x y within = ap suc (length_two xs i x y (omega (arith, within)))

-- ---- each change

pub settled_sound : (o : Option Past) (s m : State) (i : ℕ) → SettlesDoubtBy o s i m → IsSound s → IsSound m
settled_sound None s m i is sound = subst IsSound (sym is) sound
settled_sound (Some e) s m i (inl is) sound = subst IsSound (sym is) (record { spans = sound.spans; counted = length_set s.doubts i None ∙ sound.counted; placed = λ j d there. elim (set_read s.doubts i None j d there) [ inl p ↦ absurd (none_some d p.1) | inr p ↦ sound.placed j d p ]; numbered = sound.numbered })
settled_sound (Some e) s m i (inr is) sound = subst IsSound (sym is) (record { spans = sound.spans; counted = length_set s.doubts i None ∙ sound.counted; placed = λ j d there. elim (set_read s.doubts i None j d there) [ inl p ↦ absurd (none_some d p.1) | inr p ↦ sound.placed j d p ]; numbered = sound.numbered })

-- a change that the request makes comes in doubt
pub doubted_sound : (s : State) (q : Asked) (t : ℕ) → IsSome (change_in s q t) → IsSound s → IsSound (with_doubt s (slot_for s q) (entry_of s.pairs q t))
doubted_sound s q t some sound = record {
  spans = sound.spans;
  counted = length_set s.doubts (slot_for s q) (Some (entry_of s.pairs q t)) ∙ sound.counted;
  placed = λ j d there. elim (set_read s.doubts (slot_for s q) (Some (entry_of s.pairs q t)) j d there) [
    | inl p ↦ ap (λ (e : Past). slot_of s.points e.request.ask.key) (sym (some_is (entry_of s.pairs q t) d p.1)) ∙ sym (changes_own s q t some) ∙ sym p.0
    | inr p ↦ sound.placed j d p
  ];
  numbered = sound.numbered;
}

pub inside_before : (points : List Key) (i : ℕ) (middle : Key) → is_inside points i middle ≡ true → is_before (bound_of points i) middle ≡ true
inside_before points i middle inside = second (is_below middle (first_key points i)) (is_before (bound_of points i) middle) inside
  where
    second : (a b : Bool) → (a && b) ≡ true → b ≡ true
    second true b h = h
    second false b h = cc

module _ (s : State) (i : ℕ) (middle : Key) (allowed : split_refusal s.points i middle ≡ None) (sound : IsSound s) where
  can : (i ≤ length s.points) × (is_inside s.points i middle ≡ true) × (length s.points < points_limit)
  can = (allowed_is s.points i middle).0 allowed

  pub within : i < length s.doubts
  within = omega (arith, can.0, sound.counted)

  place : (j : ℕ) (e : Past) → slot_doubt (split s i middle) j ≡ Some e → slot_of (with_point s.points i middle) e.request.ask.key ≡ j
  place j e there = elim (two_read s.doubts i j e within there) [
    | inl p ↦ let at = sound.placed j e p.1 in slot_of_earlier s.points i middle e.request.ask.key can.0 (omega (arith, at, p.0)) ∙ at
    | inr p ↦ let at = sound.placed p.0 e p.1.1.1 in
        slot_of_later s.points i middle e.request.ask.key (inside_before s.points i middle can.1) (omega (arith, at, p.1.1.0)) ∙ ap (λ (n : ℕ). n + 1) at ∙ omega (arith, p.1.0)
  ]

  pub split_sound : IsSound (split s i middle)
  split_sound = record {
    spans = one_more s.points (with_point s.points i middle) i middle sound.spans can.0 can.1 can.2 refl;
    counted = omega (arith, length_two s.doubts i None None within, length-insert s.points i middle can.0, sound.counted);
    placed = place;
    numbered = sound.numbered;
  }

-- ---- key pairs

pub last_of : (ks : List Keys) (l : Keys) → slice_get ks (length ks - 1) ≡ Some l → (front : List Keys) × (ks ≡ front ++ l ∷ [])
last_of [] l is = absurd (none_some l is)
last_of (k ∷ []) l is = ([], ap (λ (x : Keys). x ∷ []) (some_is k l is))
last_of (k ∷ m ∷ ks) l is =
    let at : suc (suc (length ks)) - 1 ≡ suc (suc (length ks) - 1) = omega arith in
    let rest = last_of (m ∷ ks) l (sym (ap (slice_get (k ∷ m ∷ ks)) at) ∙ is) in
    (k ∷ rest.0, ap (λ (xs : List Keys). k ∷ xs) rest.1)

pub pairs_at-insert : (pairs : Pairs) (account : List ℕ) (v : List Keys) (a : List ℕ) → pairs_at (insert pairs account v) a ≡ cond (eq_by_cmp name_cmp a account) v (pairs_at pairs a)
pairs_at-insert pairs account v a = ap (λ (o : Option (List Keys)). unwrap_or o []) (get-insert names_total pairs account v a) ∙ by (eq_by_cmp name_cmp a account)
  where
    by : (b : Bool) → unwrap_or (cond b (Some v) (get pairs a)) [] ≡ cond b v (unwrap_or (get pairs a) [])
    by true = refl
    by false = refl

next_numbered : (ks : List Keys) (old next : Keys) → in_force ks ≡ Some old → next.epoch ≡ old.epoch + 1 → are_numbered ks ≡ true → are_numbered (ks ++ next ∷ []) ≡ true
next_numbered ks old next is epoch numbered =
    let ends = last_of ks old is in
    subst (λ (xs : List Keys). are_numbered (xs ++ next ∷ []) ≡ true) (sym ends.1)
    (subst (λ (xs : List Keys). are_numbered xs ≡ true) (sym (append_assoc ends.0 (old ∷ []) (next ∷ [])))
    (numbered_more 0 ends.0 old next (subst (λ (xs : List Keys). are_numbered xs ≡ true) ends.1 numbered) epoch))

rotated_numbered : (s : State) (account : List ℕ) (old next : Keys) → current_at s.pairs account ≡ Some old → next.epoch ≡ old.epoch + 1 → AreNumbered s.pairs
    → (a : List ℕ) (b : Bool) → eq_by_cmp name_cmp a account ≡ b → are_numbered (cond b (pairs_at s.pairs account ++ next ∷ []) (pairs_at s.pairs a)) ≡ true
rotated_numbered s account old next is epoch numbered a true same = next_numbered (pairs_at s.pairs account) old next is epoch (numbered account)
rotated_numbered s account old next is epoch numbered a false apart = numbered a

pub rotated_sound : (s : State) (account : List ℕ) (which : Which) (key : List ℕ) (old : Keys) → current_at s.pairs account ≡ Some old → IsSound s
    → IsSound (with_pair s account (rotated old which key (epoch_after old.epoch)))
rotated_sound s account which key old is sound = record {
  spans = sound.spans;
  counted = sound.counted;
  placed = sound.placed;
  numbered = λ a.
      ap are_numbered (pairs_at-insert s.pairs account (pairs_at s.pairs account ++ rotated old which key (epoch_after old.epoch) ∷ []) a)
      ∙ rotated_numbered s account old (rotated old which key (epoch_after old.epoch)) is (epoch-rotated old which key (epoch_after old.epoch)) sound.numbered a (eq_by_cmp name_cmp a account) refl;
}

-- ---- steps and runs

abbrev Stays : State → State → Type 0
Stays s s' = IsSound s → IsSound s'

pub same_but : (s s' : State) → s'.points ≡ s.points → s'.doubts ≡ s.doubts → s'.pairs ≡ s.pairs → Stays s s'
same_but s s' points doubts pairs sound = record {
  spans = subst AreSpans (sym points) sound.spans;
  counted = count;
  placed = λ j e there. ap (λ (p : List Key). slot_of p e.request.ask.key) points ∙ sound.placed j e (ap (λ (ds : List (Option Past)). option_and_then (λ o. o) (slice_get ds j)) (sym doubts) ∙ there);
  numbered = subst AreNumbered (sym pairs) sound.numbered;
}
  where
    count : length s'.doubts ≡ length s'.points + 1
    count = ap length doubts ∙ sound.counted ∙ ap (λ (p : List Key). length p + 1) (sym points)

pub step_sound : (x : Step) (s s' : State) (f : Bool) (r : Answer) → Takes s x f r s' → IsSound s → IsSound s'
step_sound x s s' f r takes =
    by_changes x r Stays Stays (λ s sound. sound) (λ s s' stays. stays) (λ s m s' i on is stays sound. stays (settled_sound (slot_doubt s i) s m i is sound))
    (λ s q t is calm r. same_but s _ refl refl refl) (λ s q t is calm r. same_but s _ refl refl refl) (λ s q t is calm some o r. doubted_sound s q t some)
    (λ s n o is there r. same_but s _ refl refl refl) (λ s i middle calm allowed r. split_sound s i middle allowed) (λ s account which key old is there r. rotated_sound s account which key old there) s s' f takes

pub run_sound : (steps : List Step) (answers : List Answer) (s s' : State) (before after : ℕ) → IsRun s before steps answers s' after → IsSound s → IsSound s'
run_sound [] [] s s' before after run sound = subst IsSound (sym run.0) sound
run_sound [] (r ∷ rs) s s' before after run sound = absurd run
run_sound (x ∷ xs) [] s s' before after run sound = absurd run
run_sound (x ∷ xs) (r ∷ rs) s s' before after run sound =
    run_sound xs rs run.0 s' run.1.0 after run.1.1.1.1 (step_sound x s run.0 (nat_lt before run.1.0) r run.1.1.1.0 sound)

pub opening_sound : (pairs : Pairs) → AreNumbered pairs → IsSound (opening pairs)
opening_sound pairs numbered = record { spans = no_points [] refl; counted = refl; placed = placed; numbered = numbered }
  where
    placed : (i : ℕ) (e : Past) → slot_doubt (opening pairs) i ≡ Some e → slot_of [] e.request.ask.key ≡ i
    placed zero e there = absurd (none_some e there)
    placed (suc i) e there = absurd (none_some e there)

-- in an empty world no ETag is over its count
none_over : EtagsAtMost {C = List ℕ} 0 no_part
none_over = record {
  container = tt;
  blobs = λ name. subst (λ (o : Option (Blob (List ℕ))). IfSome (unwrap_or o no_blob).committed (λ c. c.etag ≤ 0)) (sym (get-empty name_cmp name)) tt;
}

pub opening_etags : (pairs : Pairs) (key : Key) → EtagsAtMost (part_at (opening pairs).world key).count (part_at (opening pairs).world key)
opening_etags pairs key = subst (λ (p : Part (List ℕ)). EtagsAtMost p.count p) (sym (ap (λ (o : Option (Part (List ℕ))). unwrap_or o no_part) (get-empty key_cmp key))) none_over
