-- A slot whose containers are those that its history leaves, and that replaces a key.
use Rattle.std.proofs.Common.{◌≡◌, ◌-◌, ℕ, true, List, [], ◌∷◌, ◌++◌, map, Option, Some, None, refl, sym, ap, ◌∙◌, subst}
use Rattle.std.specs.Cmp.{eq_by_cmp_equiv}
use Rattle.std.specs.Ordering.{eq_by_cmp}
use Rattle.std.specs.Prelude.{is_some}
use Rattle.std.proofs.lemmas.List.{append_assoc, map-append}
use mathlib.Core.List.{IsPrefix}
use Rattle.stamp_values.specs.Order.{name_cmp, names_total}
use Rattle.stamp_values.specs.declared.key.Key.{Key}
use Rattle.stamp_types.specs.World.{World, part_at}
use Rattle.access_rules.specs.declared.keys.Keys.{Keys}
use Rattle.access_rules.specs.declared.rotation.Which.{Which}
use Rattle.access_rules.specs.Rotation.{epoch_after, rotated}
use Rattle.access_rules.proofs.RotationLemmas.{epoch-rotated}
use Rattle.slot_state.specs.NextPairs.{AreFront, HasNextPair, HasNoNextPair, ReplaysBy, with_next, with_pairs}
use Rattle.slot_state.specs.Pairs.{AreNumbered, Pairs, current_at}
use Rattle.slot_state.specs.Slots.{SlotState, covers}
use Rattle.slot_state.specs.declared.rotate_fault.RotateFault.{RotateFault}
use Rattle.slot_state.specs.declared.rotate_fault.RotateFault.TheVariants as fault
use Rattle.slot_state.proofs.NextLemmas.{next_are_longer, next_are_numbered}
use Rattle.slot_state.proofs.RotationLemmas.{next_is}
use Rattle.served_history.specs.declared.entry.Entry.{Entry}
use Rattle.served_history.specs.declared.entry.Entry.TheVariants.{Rotated}
use Rattle.served_history.specs.Connections.{IsAmong}
use Rattle.served_history.specs.Growth.{IsEntered, SlotFront}
use Rattle.served_history.specs.Histories.{next_from, next_pairs, owner, pair_for, pairs_for, world_left, HasStayed, IsOwn}
use Rattle.served_history.proofs.AfterLemmas.{entry_follows}
use Rattle.served_history.proofs.KeyLemmas.{bound-one, by_true, owner-one}
use Rattle.served_history.proofs.PairLemmas.{current_next, pair_next}
use Rattle.served_history.proofs.RotationLemmas.{pairs_rotated}
use Rattle.served_history.proofs.StayLemmas.{world_left-append}
use Rattle.served_slots.specs.Rotations.{HasLastEpoch, HasRotated, IsToldBy, RotatesSlots, rotations_of}
use Rattle.served_slots.specs.Slots.{IsLeftBy, past_of}
use Rattle.served_slots.proofs.KeptLemmas.{front_unserved}

-- ---- key pairs

module _ (pairs : Pairs) (account : List ℕ) (which : Which) (key : List ℕ) (n : ℕ) (longer : Pairs) (next : HasNextPair pairs account which key n longer) where
  abbrev old : Keys
  old = next.0

  abbrev pair : Keys
  pair = rotated old which key (epoch_after old.epoch)

  longer_is : longer ≡ with_next pairs account pair
  longer_is = next.1.1.1

  -- the pairs are those that a history has after the rotation
  as_entered : longer ≡ next_pairs pairs account which key
  as_entered = longer_is ∙ sym (ap (next_from pairs account which key) next.1.0)

  -- the slot may take the longer pairs
  pub may_take : AreFront pairs longer
  may_take = subst (AreFront pairs) (sym longer_is) (next_are_longer pairs account pair (next_is pairs account which key old next.1.0))

  still_numbered : AreNumbered pairs → AreNumbered longer
  still_numbered numbered = subst AreNumbered (sym longer_is) (next_are_numbered pairs account pair (next_is pairs account which key old next.1.0) numbered)

  -- by the longer pairs the pair with this epoch is in force
  now_in_force : current_at longer account ≡ Some pair
  now_in_force =
      ap (λ (p : Pairs). current_at p account) as_entered
      ∙ current_next pairs account which key account
      ∙ by_true (eq_by_cmp name_cmp account account) (pair_next (current_at pairs account) which key) (current_at pairs account) ((eq_by_cmp_equiv names_total).refl account)
      ∙ ap (λ (o : Option Keys). pair_next o which key) next.1.0

  epoch_told : n ≡ pair.epoch
  epoch_told = next.1.1.0 ∙ sym (epoch-rotated old which key (epoch_after old.epoch))

-- ---- one slot

module _ (front : SlotFront) (to : Option Key) (s : SlotState) (left : IsLeftBy front to s) (account : List ℕ) where
  -- the pair in force of the slot is that by which the history judges on its first key
  pub first_pair : pair_for front.log s.from account ≡ current_at s.pairs account
  first_pair = ap (λ (p : Pairs). current_at p account) (left.pairs s.from left.first)

  -- a pair with the last epoch
  pub has_last : (known history : List Entry) → IsPrefix known history → IsPrefix front.log history → (f : RotateFault) → f ≡ fault.Last → HasNoNextPair s.pairs account f → HasLastEpoch known account
  has_last known history knew begins f is none =
      let last = subst (HasNoNextPair s.pairs account) is none in record {
        history = history;
        log = front.log;
        knew = knew;
        begins = begins;
        key = s.from;
        pair = last.0;
        judges = first_pair ∙ last.1.0;
        last = last.1.1;
      }

  module _ (which : Which) (key : List ℕ) (n : ℕ) (longer : Pairs) (next : HasNextPair s.pairs account which key n longer) where
    -- the slot may enter the rotation
    pub may_rotate : IsOwn front.log (Rotated front.slot account which key)
    may_rotate = (s.from, (left.has s.from left.first, ap (λ (o : Option Keys). is_some o) (first_pair ∙ next.1.0)))

    module _ (known known' : List Entry) (entered : IsEntered front.slot front.log known (Rotated front.slot account which key) known') where
      abbrev e : Entry
      e = Rotated front.slot account which key

      stayed : (k : Key) → covers s k ≡ true → HasStayed k (front.log ++ e ∷ []) known'
      stayed k inside = entry_follows front.slot front.log known e known' k entered (left.has k inside)

      has_then : (k : Key) → covers s k ≡ true → owner known' k ≡ front.slot
      has_then k inside = (stayed k inside).slot ∙ owner-one front.log e k ∙ left.has k inside

      pairs_then : (k : Key) → covers s k ≡ true → pairs_for known' k ≡ longer
      pairs_then k inside =
          pairs_rotated front.slot front.log known account which key known' k entered (left.has k inside)
          ∙ ap (λ (p : Pairs). next_pairs p account which key) (left.pairs k inside)
          ∙ sym (as_entered s.pairs account which key n longer next)

      -- the epoch is that of the pair by which the slot judges from then on
      pub told_then : IsToldBy front.slot account n known'
      told_then = record {
        key = s.from;
        pair = pair s.pairs account which key n longer next;
        has = has_then s.from left.first;
        judges = ap (λ (p : Pairs). current_at p account) (pairs_then s.from left.first) ∙ now_in_force s.pairs account which key n longer next;
        told = epoch_told s.pairs account which key n longer next;
      }

      left_longer : ReplaysBy longer s → IsLeftBy (record { slot = front.slot; log = known' }) to (with_pairs longer s)
      left_longer replays = record {
        first = left.first;
        has = has_then;
        ends = left.ends;
        bound = λ k inside. (stayed k inside).bound ∙ bound-one front.log e k ∙ left.bound k inside;
        pairs = pairs_then;
        numbered = still_numbered s.pairs account which key n longer next left.numbered;
        calm = left.calm;
        histories = λ k inside. ap (map past_of) (front_unserved front.slot front.log known e known' k refl entered (left.has k inside)) ∙ left.histories k inside;
        containers = λ k inside.
            (stayed k inside).container
            ∙ ap (λ (w : World (List ℕ)). part_at w k) (world_left-append front.log (e ∷ []))
            ∙ left.containers k inside
            ∙ sym (replays k);
      }

      -- a slot that took the longer pairs and entered the rotation has what its history leaves
      pub left_rotated : (s' : SlotState) (own : SlotFront) → s' ≡ with_pairs longer s → ReplaysBy longer s → own ≡ record front { log = known' } → IsLeftBy own to s'
      left_rotated s' own took replays is =
          subst (λ (x : SlotFront). IsLeftBy x to s') (sym is)
          (subst (IsLeftBy (record { slot = front.slot; log = known' }) to) (sym took) (left_longer replays))

-- ---- all slots

among_more : {X : Type 0} (xs ys : List X) (x : X) (more : List X) → IsAmong xs ys → IsAmong (xs ++ x ∷ []) (ys ++ x ∷ more)
among_more [] ys x more own = (ys, more, refl, tt)
among_more {X} (z ∷ xs) ys x more own =
    (own.0, own.1 ++ x ∷ more, ap (λ (l : List X). l ++ x ∷ more) own.2 ∙ append_assoc own.0 (z ∷ own.1) (x ∷ more), among_more xs own.1 x more own.3)

-- one slot more replaced the key, after what some slots made known
module _ (start mid known' : List Entry) (account : List ℕ) (which : Which) (key : List ℕ) (slot : ℕ) (front : List Entry) (entered : IsEntered slot front mid (Rotated slot account which key) known')
    (epoch : ℕ) (told : IsToldBy slot account epoch known') where
  abbrev last : Entry
  last = Rotated slot account which key

  abbrev more : List Entry
  more = entered.others_knew.0

  comes : known' ≡ (mid ++ more) ++ last ∷ []
  comes = entered.enters ∙ ap (λ (l : List Entry). l ++ last ∷ []) (sym entered.others_knew.1)

  pub rotates_one_more : (before : Option ℕ) → RotatesSlots start account which key before mid → HasRotated start account which key epoch known'
  rotates_one_more None same = record {
    slots = [];
    slot = slot;
    others = more;
    enters = comes ∙ ap (λ (l : List Entry). (l ++ more) ++ last ∷ []) same;
    own = tt;
    told = told;
  }
  rotates_one_more (Some n) before =
      let one = Rotated before.slot account which key in record {
        slots = before.slots ++ before.slot ∷ [];
        slot = slot;
        others = before.others ++ one ∷ more;
        enters =
            comes
            ∙ ap (λ (l : List Entry). (l ++ more) ++ last ∷ []) before.enters
            ∙ ap (λ (l : List Entry). l ++ last ∷ []) (append_assoc (start ++ before.others) (one ∷ []) more ∙ append_assoc start before.others (one ∷ more));
        own =
            subst (λ (l : List Entry). IsAmong l (before.others ++ one ∷ more)) (sym (map-append (λ (i : ℕ). Rotated i account which key) before.slots (before.slot ∷ [])))
            (among_more (rotations_of before.slots account which key) before.others one more before.own);
        told = told;
      }
