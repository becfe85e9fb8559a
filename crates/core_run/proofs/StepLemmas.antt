-- What a step makes of a state: it settles the doubt of its slot, or does not, and then makes one change, or none. A law of all steps is
-- shown for each of these changes.
use Rattle.std.proofs.Common.{◌≡◌, ◌≢◌, inl, inr, ℕ, zero, suc, Bool, true, false, List, [], ◌∷◌, length, Option, Some, None, refl, sym, ap, ◌∙◌, subst, Ok}
use Rattle.std.specs.Prelude.{IsSome, slice_get, slice_set}
use Rattle.std.specs.Option.{option_and_then}
use Rattle.stamp_values.specs.declared.key.Key.{Key}
use Rattle.stamp_types.specs.declared.past.Past.{Past}
use Rattle.stamp_types.specs.declared.reply.Reply as replies
use Rattle.stamp_types.specs.Requests.{Asked}
use Rattle.access_rules.specs.declared.keys.Keys.{Keys}
use Rattle.access_rules.specs.declared.rotation.Which.{Which}
use Rattle.access_rules.specs.Rotation.{epoch_after, rotated}
use Rattle.partition_map.specs.declared.fault.MapFault.{MapFault}
use Rattle.partition_map.specs.Spans.{slot_of, split_refusal}
use Rattle.stamp_model.specs.SeenContainers.{routed}
use Rattle.slot_state.specs.Pairs.{current_at}
use Rattle.slot_state.specs.Slots.{entry_of}
use Rattle.core_run.specs.declared.step.Step.{Step}
use Rattle.core_run.specs.declared.step.Step.TheVariants as step
use Rattle.core_run.specs.declared.step.Outcome.TheVariants.{Reply, Later, Made, Epoch}
use Rattle.core_run.specs.Machine.{Answer, FetchesBy, SettlesDoubt, SettlesDoubtBy, Leaves, MadeOrFails, OnSettled, OnSlotIf, RotatesBy, Serves, SettledFirst, SplitsBy, Takes}
use Rattle.core_run.specs.Places.{works_on}
use Rattle.core_run.specs.States.{State, change_in, slot_doubt, has_slot, held_by, reply_in, served, slot_for, split, with_doubt, with_pair, with_ticket, without_ticket}

-- ---- a settle

-- a settle leaves the split points
pub settled_points : (o : Option Past) (s m : State) (i : ℕ) → SettlesDoubtBy o s i m → m.points ≡ s.points
settled_points None s m i is = λ j. (is j).points
settled_points (Some e) s m i (inl is) = λ j. (is j).points
settled_points (Some e) s m i (inr is) = λ j. (is j).points

-- a settle leaves the key pairs
pub settled_pairs : (o : Option Past) (s m : State) (i : ℕ) → SettlesDoubtBy o s i m → m.pairs ≡ s.pairs
settled_pairs None s m i is = λ j. (is j).pairs
settled_pairs (Some e) s m i (inl is) = λ j. (is j).pairs
settled_pairs (Some e) s m i (inr is) = λ j. (is j).pairs

-- a settle leaves the tickets
pub settled_tickets : (o : Option Past) (s m : State) (i : ℕ) → SettlesDoubtBy o s i m → m.tickets ≡ s.tickets
settled_tickets None s m i is = λ j. (is j).tickets
settled_tickets (Some e) s m i (inl is) = λ j. (is j).tickets
settled_tickets (Some e) s m i (inr is) = λ j. (is j).tickets

ended : (doubts : List (Option Past)) (i : ℕ) → option_and_then (λ o. o) (slice_get (slice_set doubts i None) i) ≡ None
ended [] i = refl
ended (o ∷ doubts) zero = refl
ended (o ∷ doubts) (suc i) = ended doubts i

pub apart_set : (doubts : List (Option Past)) (v : Option Past) (i j : ℕ) → j ≢ i → option_and_then (λ o. o) (slice_get (slice_set doubts i v) j) ≡ option_and_then (λ o. o) (slice_get doubts j)
apart_set [] v i j apart = refl
apart_set (o ∷ doubts) v zero zero apart = absurd (apart refl)
apart_set (o ∷ doubts) v zero (suc j) apart = refl
apart_set (o ∷ doubts) v (suc i) zero apart = refl
apart_set (o ∷ doubts) v (suc i) (suc j) apart = apart_set doubts v i j (λ same. apart (ap suc same))

-- after a settle the slot has no doubt
pub gone : (o : Option Past) (s m : State) (i : ℕ) → slot_doubt s i ≡ o → SettlesDoubtBy o s i m → slot_doubt m i ≡ None
gone None s m i there is = ap (λ (x : State). slot_doubt x i) is ∙ there
gone (Some e) s m i there (inl is) = ap (λ (x : State). slot_doubt x i) is ∙ ended s.doubts i
gone (Some e) s m i there (inr is) = ap (λ (x : State). slot_doubt x i) is ∙ ended s.doubts i

-- each other slot has the doubt that it had
pub others : (o : Option Past) (s m : State) (i j : ℕ) → j ≢ i → SettlesDoubtBy o s i m → slot_doubt m j ≡ slot_doubt s j
others None s m i j apart is = ap (λ (x : State). slot_doubt x j) is
others (Some e) s m i j apart (inl is) = ap (λ (x : State). slot_doubt x j) is ∙ apart_set s.doubts None i j apart
others (Some e) s m i j apart (inr is) = ap (λ (x : State). slot_doubt x j) is ∙ apart_set s.doubts None i j apart

-- ---- a step

-- Q is what each change has, and no change too. P is what a change has by itself, and a settle with a change after it
module _ (x : Step) (r : Answer) (Q P : State → State → Type 0)
    (same : (s : State) → Q s s)
    (alone : (s s' : State) → Q s s' → P s s')
    (joined : (s m s' : State) (i : ℕ) → works_on s x ≡ Some i → SettlesDoubt s i m → Q m s' → P s s')
    (serves : (s : State) (q : Asked) (t : ℕ) → x ≡ step.Serve q t → slot_doubt s (slot_for s q) ≡ None → r ≡ Ok (Reply (reply_in s q t)) → Q s (served s q t))
    (promises : (s : State) (q : Asked) (t : ℕ) → x ≡ step.Serve q t → slot_doubt s (slot_for s q) ≡ None → r ≡ Ok (Later (length s.tickets)) → Q s (with_ticket (served s q t) (reply_in s q t)))
    (doubts : (s : State) (q : Asked) (t : ℕ) → x ≡ step.Serve q t → slot_doubt s (slot_for s q) ≡ None → IsSome (change_in s q t) → (o : replies.Reply) → r ≡ Ok (Reply o) → Q s (with_doubt s (slot_for s q) (entry_of s.pairs q t)))
    (fetches : (s : State) (n : ℕ) (o : replies.Reply) → x ≡ step.Fetch n → held_by s n ≡ Some o → r ≡ Ok (Reply o) → Q s (without_ticket s n))
    (splits : (s : State) (i : ℕ) (middle : Key) → slot_doubt s i ≡ None → split_refusal s.points i middle ≡ None → r ≡ Ok Made → Q s (split s i middle))
    (rotates : (s : State) (account : List ℕ) (which : Which) (key : List ℕ) (old : Keys) → x ≡ step.Rotate account which key → current_at s.pairs account ≡ Some old → r ≡ Ok (Epoch (epoch_after old.epoch)) → Q s (with_pair s account (rotated old which key (epoch_after old.epoch)))) where
  unchanged : (s s' : State) → s' ≡ s → Q s s'
  unchanged s s' is = subst (Q s) (sym is) (same s)

  stays : (s s' : State) → s' ≡ s → P s s'
  stays s s' is = alone s s' (unchanged s s' is)

  first : (y : Step) (s s' : State) (i : ℕ) (f : Bool) (made : State → Type 0) → works_on s x ≡ Some i → ((m : State) → SettlesDoubt s i m → made m → Q m s') → SettledFirst y s i f r s' made → P s s'
  first y s s' i f made on so (inl p) = joined s p.0 s' i on p.1.0 (so p.0 p.1.0 p.1.1)
  first y s s' i f made on so (inr p) = stays s s' p.1.1

  made_or : (y : Step) (s s' : State) (f : Bool) (made : Type 0) → (made → Q s s') → MadeOrFails y s f r s' made → Q s s'
  made_or y s s' f made so (inl p) = so p
  made_or y s s' f made so (inr p) = unchanged s s' p.1

  settled : (y : Step) (s s' : State) (i : ℕ) (f : Bool) (made : State → Type 0) → works_on s x ≡ Some i → ((m : State) → SettlesDoubt s i m → made m → Q m s') → OnSettled y s i f r s' made → P s s'
  settled y s s' i f made on so p = first y s s' i f (λ m. MadeOrFails y m f r s' (made m)) on (λ m is. made_or y m s' f (made m) (so m is)) p

  on_slot : (b : Bool) (s s' : State) (made : Type 0) → (made → P s s') → OnSlotIf b s r s' made → P s s'
  on_slot true s s' made so p = so p
  on_slot false s s' made so p = stays s s' p.1

  serving : (s s' : State) (q : Asked) (t : ℕ) (f : Bool) → x ≡ step.Serve q t → slot_doubt s (slot_for s q) ≡ None → Serves s q t f r s' → Q s s'
  serving s s' q t f is calm (inl p) = subst (Q s) (sym p.1) (serves s q t is calm p.0)
  serving s s' q t f is calm (inr (inl p)) = subst (Q s) (sym p.1) (promises s q t is calm p.0)
  serving s s' q t f is calm (inr (inr p)) = subst (Q s) (sym p.1.1.1) (doubts s q t is calm p.1.0 _ p.1.1.0)

  fetching : (o : Option replies.Reply) (s s' : State) (n : ℕ) (f : Bool) → x ≡ step.Fetch n → held_by s n ≡ o → FetchesBy o s n f r s' → Q s s'
  fetching None s s' n f is there p = unchanged s s' p.1
  fetching (Some o) s s' n f is there (inl p) = subst (Q s) (sym p.1) (fetches s n o is there p.0)
  fetching (Some o) s s' n f is there (inr p) = unchanged s s' p.1

  splitting : (o : Option MapFault) (s s' : State) (i : ℕ) (middle : Key) (f : Bool) → works_on s x ≡ Some i → split_refusal s.points i middle ≡ o → SplitsBy o s i middle f r s' → P s s'
  splitting (Some cause) s s' i middle f on allowed p = stays s s' p.1
  splitting None s s' i middle f on allowed (inl p) =
      settled (step.Split i middle) s s' i f _ on
      (λ m is made. subst (Q m) (sym made.1)
      (splits m i middle (gone (slot_doubt s i) s m i refl is) (subst (λ (points : List Key). split_refusal points i middle ≡ None) (sym (settled_points (slot_doubt s i) s m i is)) allowed) made.0)) p
  splitting None s s' i middle f on allowed (inr p) = stays s s' p.1

  rotating : (o : Option Keys) (s s' : State) (account : List ℕ) (which : Which) (key : List ℕ) → x ≡ step.Rotate account which key → current_at s.pairs account ≡ o → RotatesBy o s account which key r s' → Q s s'
  rotating None s s' account which key is there p = unchanged s s' p.1
  rotating (Some old) s s' account which key is there (inl p) = subst (Q s) (sym p.1) (rotates s account which key old is there p.0)
  rotating (Some old) s s' account which key is there (inr (inl p)) = unchanged s s' p.1.1
  rotating (Some old) s s' account which key is there (inr (inr p)) = unchanged s s' p.1

  leaving : (y : Step) (s s' : State) (i : ℕ) (f : Bool) → works_on s x ≡ Some i → OnSettled y s i f r s' (λ m. Leaves m r s') → P s s'
  leaving y s s' i f on p = settled y s s' i f (λ m. Leaves m r s') on (λ m is made. unchanged m s' made.1) p

  -- the slot of a request after a settle has no doubt
  calm : (s m : State) (q : Asked) → SettlesDoubt s (slot_for s q) m → slot_doubt m (slot_for m q) ≡ None
  calm s m q is =
      ap (λ (points : List Key). slot_doubt m (slot_of points (routed q))) (settled_points (slot_doubt s (slot_for s q)) s m (slot_for s q) is)
      ∙ gone (slot_doubt s (slot_for s q)) s m (slot_for s q) refl is

  taking : (y : Step) (s s' : State) (f : Bool) → x ≡ y → Takes s y f r s' → P s s'
  taking (step.Serve q t) s s' f is p = settled (step.Serve q t) s s' (slot_for s q) f _ (ap (works_on s) is) (λ m settled made. serving m s' q t f is (calm s m q settled) made) p
  taking (step.Fetch n) s s' f is p = alone s s' (fetching (held_by s n) s s' n f is refl p)
  taking (step.Split i middle) s s' f is p = splitting (split_refusal s.points i middle) s s' i middle f (ap (works_on s) is) refl p
  taking (step.Settle i) s s' f is p = on_slot (has_slot s i) s s' _ (first (step.Settle i) s s' i f _ (ap (works_on s) is) (λ m settled made. unchanged m s' made.1)) p
  taking (step.Seal i) s s' f is p = on_slot (has_slot s i) s s' _ (leaving (step.Seal i) s s' i f (ap (works_on s) is)) p
  taking (step.Load i) s s' f is p = on_slot (has_slot s i) s s' _ (leaving (step.Load i) s s' i f (ap (works_on s) is)) p
  taking (step.Checkpoint i) s s' f is p = on_slot (has_slot s i) s s' _ (leaving (step.Checkpoint i) s s' i f (ap (works_on s) is)) p
  taking (step.Compact i) s s' f is p = on_slot (has_slot s i) s s' _ (leaving (step.Compact i) s s' i f (ap (works_on s) is)) p
  taking (step.Repair i stream extent node) s s' f is p = on_slot (has_slot s i) s s' _ (settled (step.Repair i stream extent node) s s' i f _ (ap (works_on s) is) (λ m settled made. unchanged m s' made.1)) p
  taking (step.Move i server) s s' f is p = on_slot (has_slot s i) s s' _ (λ made. stays s s' made.1) p
  taking (step.Unload i) s s' f is p = on_slot (has_slot s i) s s' _ (λ made. stays s s' made.1) p
  taking (step.Rotate account which key) s s' f is p = alone s s' (rotating (current_at s.pairs account) s s' account which key is refl p)

  pub by_changes : (s s' : State) (f : Bool) → Takes s x f r s' → P s s'
  by_changes s s' f p = taking x s s' f refl p
