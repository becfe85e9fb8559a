-- The halves of a slot that is cut.
use Rattle.std.proofs.Common.{◌≡◌, ◌∙◌, ◌&&◌, inl, Bool, true, false, cond, List, [], Option, Some, None, Result, Ok, Err, refl, sym, ap, subst}
use Rattle.std.specs.FinMap.{retain_keys}
use Rattle.std.specs.Ordering.{is_gt, is_le, ordering_reverse}
use Rattle.std.specs.declared.cmp.Ordering.{Ordering}
use Rattle.std.specs.declared.cmp.Ordering.TheVariants.{Less, Equal, Greater}
use Rattle.stamp_values.specs.Order.{key_cmp, keys_total}
use Rattle.stamp_values.specs.Trees.{is_below, is_from}
use Rattle.stamp_values.specs.declared.key.Key.{Key}
use Rattle.stamp_types.specs.declared.past.Past.{Past}
use Rattle.stamp_types.specs.World.{no_part}
use Rattle.stream_manager.specs.declared.faults.StoredFault.{StoredFault}
use Rattle.stamp_model.specs.Histories.{IsLegal, NoneIsLater, replay}
use Rattle.stamp_model.specs.SeenContainers.{is_under}
use Rattle.stamp_model.proofs.HistoryLemmas.{IsLegalFrom-nil}
use Rattle.stored_rows.specs.Ranges.{covers, is_before_end}
use Rattle.stored_rows.specs.States.{IsHalf, Stored, bytes_of}
use Rattle.stored_rows.specs.declared.key_range.KeyRange.{KeyRange}
use Rattle.slot_state.specs.HistoryMaps.{Histories, history_at}
use Rattle.slot_state.specs.Pairs.{Pairs, current_at, epoch_of, pairs_at}
use Rattle.slot_state.specs.Slots.{SlotState, lower_half, replayed_at, upper_half}
use Rattle.slot_state.proofs.SplitLemmas.{read_retained}
use Rattle.stored_slot.specs.Meanings.{AreOfStreams, AreReplays, slot_with}
use Rattle.stored_slot.specs.Settled.{Cuts, CutsSettled, SettlesSlot}
use Rattle.stored_slot.proofs.DecisionLemmas.{and_parts, from_from, same_end}
use Rattle.stored_slot.proofs.MeaningLemmas.{none_later, sure_own}

-- ---- keys of the halves

turned : (r : Ordering) → is_gt r ≡ true → ordering_reverse r ≡ Less
turned Less e = cc
turned Equal e = cc
turned Greater e = refl

turned_back : (r : Ordering) → r ≡ Less → is_gt (ordering_reverse r) ≡ true
turned_back Less e = refl
turned_back Equal e = cc
turned_back Greater e = cc

less_of_below : (a b : Key) → is_below b a ≡ true → key_cmp a b ≡ Less
less_of_below a b e = keys_total.antisymm a b ∙ turned (key_cmp b a) e

-- a < b and b < c give a < c
below_below : (a b c : Key) → is_below b a ≡ true → is_below c b ≡ true → is_below c a ≡ true
below_below a b c e f = ap is_gt (keys_total.antisymm c a) ∙ turned_back (key_cmp a c) (keys_total.trans a b c (less_of_below a b e) (less_of_below b c f))

-- what comes before a key that comes before the end comes before the end
below_end : (o : Option Key) (middle key : Key) → is_before_end o middle ≡ true → is_below middle key ≡ true → is_before_end o key ≡ true
below_end None middle key end below = refl
below_end (Some to) middle key end below = below_below key middle to below end

at_most : (r : Ordering) → r ≡ Less → is_le r ≡ true
at_most Less e = refl
at_most Equal e = cc
at_most Greater e = cc

from_below : (a b : Key) → is_below b a ≡ true → is_from a b ≡ true
from_below a b e = at_most (key_cmp a b) (less_of_below a b e)

module _ (range : KeyRange) (middle : Key) (inside : is_from range.from middle ≡ true) (ends : is_before_end range.to middle ≡ true) where
  pub lower_keys : (key : Key) → covers (record range { to = Some middle }) key ≡ true → (is_below middle key ≡ true) × (covers range key ≡ true)
  lower_keys key covered =
      let parts = and_parts (is_from range.from key) (is_below middle key) covered in
      (parts.1, (λ i. parts.0 i && is_before_end range.to key) ∙ below_end range.to middle key ends parts.1)

  pub upper_keys : (key : Key) → covers (record { from = middle; to = range.to }) key ≡ true → (is_from middle key ≡ true) × (covers range key ≡ true)
  upper_keys key covered =
      let parts = and_parts (is_from middle key) (is_before_end range.to key) covered in
      (parts.0, (λ i. from_from range.from middle key inside parts.0 i && is_before_end range.to key) ∙ parts.1)

-- ---- what a half keeps

module _ (pairs : Pairs) (h : Histories) (s t : Stored) (own : KeyRange) (p : Key → Bool) (are : AreReplays pairs h s) (half : IsHalf own s t)
    (keys : (key : Key) → covers own key ≡ true → (p key ≡ true) × (covers s.range key ≡ true)) where
  abbrev IsPast : Key → List Past → Type 0
  IsPast k es = IsLegal (pairs_at pairs k.account) k es × NoneIsLater (epoch_of (current_at pairs k.account)) es

  past_by : (k : Key) (b : Bool) → IsPast k (cond b (history_at h k) [])
  past_by k true = (are.legal k, are.latest k)
  past_by k false = (IsLegalFrom-nil (pairs_at pairs k.account) k no_part, none_later (epoch_of (current_at pairs k.account)))

  past : (k : Key) → IsPast k (history_at (retain_keys h p) k)
  past k = subst (λ (es : List Past). IsPast k es) (sym (read_retained [] h p k)) (past_by k (p k))

  same_history : (k : Key) → p k ≡ true → history_at (retain_keys h p) k ≡ history_at h k
  same_history k passes = read_retained [] h p k ∙ ap (λ (b : Bool). cond b (history_at h k) []) passes

  half_bytes : (k : Key) → covers t.range k ≡ true → bytes_of t k ≡ replayed_at pairs (retain_keys h p) k
  half_bytes k covered =
      let here = keys k (sym (ap (λ r. covers r k) half.range) ∙ covered) in
      half.bytes k ∙ are.bytes k here.1 ∙ sym (ap (λ (es : List Past). replay (pairs_at pairs k.account) es) (same_history k here.0))

  half_replays : AreReplays pairs (retain_keys h p) t
  half_replays = record {
    numbered = are.numbered;
    bytes = half_bytes;
    legal = λ k. (past k).0;
    latest = λ k. (past k).1;
  }

-- the histories with the keys of a half
pub half_kept : (pairs : Pairs) (h g : Histories) (s t : Stored) (own : KeyRange) (p : Key → Bool) → AreReplays pairs h s → IsHalf own s t
    → ((key : Key) → covers own key ≡ true → (p key ≡ true) × (covers s.range key ≡ true)) → g ≡ retain_keys h p → AreReplays pairs g t
half_kept pairs h g s t own p are half keys is = subst (λ (x : Histories). AreReplays pairs x t) (sym is) (half_replays pairs h s t own p are half keys)

-- ---- the slots of the halves

module _ (pairs : Pairs) (h g : Histories) (s t : Stored) (middle : Key) (covered : covers s.range middle ≡ true) (are : AreReplays pairs h s) where
  abbrev inside : (is_from s.range.from middle ≡ true) × (is_before_end s.range.to middle ≡ true)
  inside = and_parts (is_from s.range.from middle) (is_before_end s.range.to middle) covered

  pub lower_kept : IsHalf (record s.range { to = Some middle }) s t → g ≡ retain_keys h (is_below middle) → AreOfStreams pairs g t None
  lower_kept half is = record {
    replays = half_kept pairs h g s t (record s.range { to = Some middle }) (is_below middle) are half (lower_keys s.range middle inside.0 inside.1) is;
    doubted = sure_own t half.sure;
  }

  pub upper_kept : IsHalf (record { from = middle; to = s.range.to }) s t → g ≡ retain_keys h (is_from middle) → AreOfStreams pairs g t None
  upper_kept half is = record {
    replays = half_kept pairs h g s t (record { from = middle; to = s.range.to }) (is_from middle) are half (upper_keys s.range middle inside.0 inside.1) is;
    doubted = sure_own t half.sure;
  }

pub lower_slot : (pairs : Pairs) (h g : Histories) (s t : Stored) (middle : Key) → IsHalf (record s.range { to = Some middle }) s t → g ≡ retain_keys h (is_below middle)
    → slot_with pairs g t None ≡ lower_half (slot_with pairs h s None) middle
lower_slot pairs h g s t middle half is = λ i. record { histories = is i; pairs = pairs; from = (half.range i).from; to = (half.range i).to; doubt = None }

pub upper_slot : (pairs : Pairs) (h g : Histories) (s t : Stored) (middle : Key) → IsHalf (record { from = middle; to = s.range.to }) s t → g ≡ retain_keys h (is_from middle)
    → slot_with pairs g t None ≡ upper_half (slot_with pairs h s None) middle
upper_slot pairs h g s t middle half is = λ i. record { histories = is i; pairs = pairs; from = (half.range i).from; to = (half.range i).to; doubt = None }

-- ---- a cut after a settle

pub cuts_settled : (r : Result SlotState StoredFault) (s m t : SlotState) (middle : Key) → SettlesSlot s m → Cuts r m middle t → CutsSettled r s middle t
cuts_settled (Ok upper) s m t middle settled cut = (m, (settled, cut))
cuts_settled (Err e) s m t middle settled same = inl (subst (λ (x : SlotState). SettlesSlot s x) (sym same) settled)

-- ---- a cut of the parts of a slot without a doubt

module _ (p p' : Pairs) (d : Option Past) (same : p ≡ p') (none : d ≡ None) where
  pub cut_kept : (h : Histories) (s : Stored) → AreOfStreams p h s None → AreOfStreams p' h s d
  cut_kept h s are = subst (λ (x : Option Past). AreOfStreams p' h s x) (sym none) (subst (λ (x : Pairs). AreOfStreams x h s None) same are)

  pub cut_seen : (r : Result SlotState StoredFault) (h g : Histories) (s t : Stored) (middle : Key) → Cuts r (slot_with p h s None) middle (slot_with p g t None)
      → Cuts r (slot_with p' h s d) middle (slot_with p' g t d)
  cut_seen r h g s t middle cut =
      subst (λ (x : Option Past). Cuts r (slot_with p' h s x) middle (slot_with p' g t x)) (sym none)
      (subst (λ (x : Pairs). Cuts r (slot_with x h s None) middle (slot_with x g t None)) same cut)

-- a key that is inside of a slot is in the range of its rows
pub inside_covered : (range : KeyRange) (key : Key) → (is_below key range.from && is_under range.to key) ≡ true → covers range key ≡ true
inside_covered range key inside =
    let parts = and_parts (is_below key range.from) (is_under range.to key) inside in
    (λ i. from_below range.from key parts.0 i && is_before_end range.to key) ∙ sym (same_end range.to key) ∙ parts.1

-- a key of the range that comes after the first key is inside of the slot
inside_by : (range : KeyRange) (key : Key) (b : Bool) → is_below key range.from ≡ b → (b && covers range key) ≡ (b && is_under range.to key)
inside_by range key true below = (λ i. from_below range.from key below i && is_before_end range.to key) ∙ sym (same_end range.to key)
inside_by range key false below = refl

pub inside_same : (range : KeyRange) (key : Key) → (is_below key range.from && covers range key) ≡ (is_below key range.from && is_under range.to key)
inside_same range key = inside_by range key (is_below key range.from) refl
