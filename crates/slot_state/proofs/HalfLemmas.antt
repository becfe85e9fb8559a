-- What the halves of a slot have of a container.
use Rattle.std.proofs.Common.{◌≡◌, Bool, true, false, cond, List, [], ap, ◌∙◌, refl}
use Rattle.std.specs.FinMap.{retain_keys}
use Rattle.std.specs.Ordering.{is_gt, is_le}
use Rattle.std.specs.declared.cmp.Ordering.{Ordering}
use Rattle.std.specs.declared.cmp.Ordering.TheVariants.{Less, Equal, Greater}
use Rattle.stamp_values.specs.Order.{key_cmp}
use Rattle.stamp_values.specs.Trees.{is_below, is_from}
use Rattle.stamp_values.specs.declared.key.Key.{Key}
use Rattle.stamp_types.specs.declared.past.Past.{Past}
use Rattle.stamp_types.specs.World.{no_part}
use Rattle.stamp_model.specs.Histories.{replay}
use Rattle.slot_state.specs.HistoryMaps.{Histories, history_at}
use Rattle.slot_state.specs.Pairs.{Pairs, pairs_at}
use Rattle.slot_state.specs.Slots.{replayed_at}
use Rattle.slot_state.proofs.SplitLemmas.{read_retained}

after_is_not_before : (o : Ordering) → is_gt o ≡ true → is_le o ≡ false
after_is_not_before Less h = cc
after_is_not_before Equal h = cc
after_is_not_before Greater h = refl

before_is_not_after : (o : Ordering) → is_le o ≡ true → is_gt o ≡ false
before_is_not_after Less h = refl
before_is_not_after Equal h = refl
before_is_not_after Greater h = cc

-- a key before another key does not come after it, and is not the other key
pub below_excludes : (middle key : Key) → is_below middle key ≡ true → is_from middle key ≡ false
below_excludes middle key h = after_is_not_before (key_cmp middle key) h

pub from_excludes : (middle key : Key) → is_from middle key ≡ true → is_below middle key ≡ false
from_excludes middle key h = before_is_not_after (key_cmp middle key) h

module _ (pairs : Pairs) (h : Histories) (p : Key → Bool) (key : Key) where
  -- a key that passes the test keeps its history
  pub is_there : p key ≡ true → (history_at (retain_keys h p) key ≡ history_at h key) × (replayed_at pairs (retain_keys h p) key ≡ replayed_at pairs h key)
  is_there passes =
      let same : history_at (retain_keys h p) key ≡ history_at h key = read_retained [] h p key ∙ ap (λ (b : Bool). cond b (history_at h key) []) passes in
      (same, ap (λ (es : List Past). replay (pairs_at pairs key.account) es) same)

  -- a key that does not pass the test has no history
  pub is_left : p key ≡ false → (history_at (retain_keys h p) key ≡ []) × (replayed_at pairs (retain_keys h p) key ≡ no_part)
  is_left fails =
      let none : history_at (retain_keys h p) key ≡ [] = read_retained [] h p key ∙ ap (λ (b : Bool). cond b (history_at h key) []) fails in
      (none, ap (λ (es : List Past). replay (pairs_at pairs key.account) es) none)
