-- Which slot a lock lends.
use Rattle.std.proofs.Common.{◌≡◌, ◌≢◌, ℕ, suc, zero, ◌-◌, ◌≤◌, length, Bool, true, false, not, List, [], Some, None, refl, sym, ap, ◌∙◌, arith}
use Rattle.std.proofs.lemmas.Bool.{and_parts}
use Rattle.std.proofs.lemmas.List.Edits.{length-insert}
use Rattle.std.proofs.lemmas.Option.{get_or_from_slice_get}
use Rattle.std.specs.Cmp.Derive.{both_true}
use Rattle.std.specs.Ordering.{is_le}
use Rattle.std.specs.declared.cmp.Ordering.{Ordering}
use Rattle.std.specs.declared.cmp.Ordering.TheVariants.{Less, Equal, Greater}
use Rattle.stamp_values.specs.Order.{key_cmp, keys_exact}
use Rattle.stamp_values.specs.Trees.{is_from}
use Rattle.stamp_values.specs.declared.key.Key.{Key}
use Rattle.stamp_model.specs.SeenContainers.{is_under}
use Rattle.std.specs.List.{remove}
use Rattle.partition_map.specs.Spans.{AreSpans, bound_of, first_key, least_key, split_refusal, with_point}
use Rattle.partition_map.proofs.KeyOrder.{below_of_less}
use Rattle.partition_map.proofs.RefusalLemmas.{allowed_is}
use Rattle.partition_map.proofs.RiseLemmas.{no_points, one_less, one_more}
use Rattle.slot_state.specs.Slots.{SlotState, covers, is_inside}
use Rattle.stamp_locks.specs.Lent.{is_first_key}

-- ---- spans

pub spans_none : (points : List Key) → points ≡ [] → AreSpans points
spans_none points none = no_points points none

pub spans_more : (old new : List Key) (i : ℕ) (middle : Key) → AreSpans old → split_refusal old i middle ≡ None → new ≡ with_point old i middle → AreSpans new
spans_more old new i middle rise allowed is =
    let may = (allowed_is old i middle).0 allowed in
    one_more old new i middle rise may.0 may.1 may.2 is

pub number_more : (old new : List Key) (i : ℕ) (middle : Key) → split_refusal old i middle ≡ None → new ≡ with_point old i middle → i ≤ length new
number_more old new i middle allowed is =
    let may = (allowed_is old i middle).0 allowed in
    omega (arith, may.0, ap length is, length-insert old i middle may.0)

pub spans_back : (old new : List Key) (i : ℕ) → AreSpans old → new ≡ remove old i → AreSpans new
spans_back old new i rise is = one_less old new i rise is

-- ---- the first key of a slot

-- a test and its contrary do not both hold
not_both : (b : Bool) → b ≡ true → not b ≡ true → ⊥
not_both true is e = cc
not_both false is e = cc

by_order : (s : SlotState) (key : Key) (r : Ordering) → key_cmp s.from key ≡ r → is_le r ≡ true → is_under s.to key ≡ true → not (is_inside s key) ≡ true → s.from ≡ key
by_order s key Less is le under outside = absurd (not_both (is_inside s key) (both_true (below_of_less s.from key is) under) outside)
by_order s key Equal is le under outside = keys_exact s.from key is
by_order s key Greater is le under outside = cc

-- a key of the slot before which the slot has no key is its first key
pub first_of : (s : SlotState) (key : Key) → is_first_key s key ≡ true → s.from ≡ key
first_of s key begins =
    let parts = and_parts (covers s key) (not (is_inside s key)) begins in
    let has = and_parts (is_from s.from key) (is_under s.to key) parts.0 in
    by_order s key (key_cmp s.from key) refl has.0 has.1 parts.1

-- the first key of a span but the first
first_later : (points : List Key) (i : ℕ) (key : Key) → i ≢ 0 → Some key ≡ bound_of points (i - 1) → first_key points i ≡ key
first_later points zero key some is = absurd (some refl)
first_later points (suc n) key some is = get_or_from_slice_get points n key least_key (sym (is ∙ ap (bound_of points) (back n)))
  where
    back : (n : ℕ) → suc n - 1 ≡ n
    back n = omega arith

pub begins_first : (s : SlotState) (points : List Key) (i : ℕ) (key : Key) → i ≡ 0 → key ≡ least_key → is_first_key s key ≡ true → s.from ≡ first_key points i
begins_first s points i key none is begins = first_of s key begins ∙ (is ∙ ap (first_key points) (sym none))

pub begins_later : (s : SlotState) (points : List Key) (i : ℕ) (key : Key) → i ≢ 0 → Some key ≡ bound_of points (i - 1) → is_first_key s key ≡ true → s.from ≡ first_key points i
begins_later s points i key some is begins = first_of s key begins ∙ sym (first_later points i key some is)
