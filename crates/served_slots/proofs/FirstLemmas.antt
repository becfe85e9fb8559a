-- The first slot.
use Rattle.std.proofs.Common.{◌≡◌, ℕ, List, [], ◌∷◌, map, Option, None, refl, sym, ap, ◌∙◌}
use Rattle.std.specs.Prelude.{unwrap_or}
use Rattle.std.specs.FinMap.{empty, get-empty}
use Rattle.stamp_values.specs.Order.{key_cmp}
use Rattle.stamp_values.specs.declared.key.Key.{Key}
use Rattle.stamp_types.specs.declared.past.Past.{Past}
use Rattle.stamp_types.specs.World.{Part, no_part, part_at}
use Rattle.access_rules.specs.declared.keys.Keys.{Keys}
use Rattle.stamp_model.specs.Histories.{replay}
use Rattle.stored_rows.specs.Ranges.{all_keys}
use Rattle.stored_rows.specs.States.{Stored}
use Rattle.stored_rows.specs.declared.key_range.KeyRange.{KeyRange}
use Rattle.slot_state.specs.HistoryMaps.{history_at}
use Rattle.slot_state.specs.Pairs.{AreNumbered, Pairs, first_pairs, pairs_at}
use Rattle.slot_state.specs.Slots.{SlotState, empty_slot, replayed_at}
use Rattle.stored_slot.specs.Meanings.{slot_with}
use Rattle.served_history.specs.declared.entry.Entry.{Entry}
use Rattle.served_history.specs.declared.entry.Entry.TheVariants.{Opened}
use Rattle.served_history.specs.Fronts.{front_at}
use Rattle.served_history.specs.Growth.{SlotFront}
use Rattle.served_history.specs.Histories.{bound_at, count_of, owner, pairs_for, world_left}
use Rattle.served_slots.specs.Slots.{IsLeftBy, past_of}

nothing_at : (pairs : Pairs) (k : Key) → part_at empty k ≡ replayed_at pairs empty k
nothing_at pairs k =
    ap (λ (o : Option (Part (List ℕ))). unwrap_or o no_part) (get-empty key_cmp k)
    ∙ ap (λ (o : Option (List Past)). replay (pairs_at pairs k.account) (unwrap_or o [])) (sym (get-empty key_cmp k))

none_kept : (k : Key) → [] ≡ history_at empty k
none_kept k = ap (λ (o : Option (List Past)). unwrap_or o []) (sym (get-empty key_cmp k))

-- ---- the slot of all keys

abbrev slot_of_range : Pairs → KeyRange → SlotState
slot_of_range pairs r = record { histories = empty; pairs = pairs; from = r.from; to = r.to; doubt = None }

pub slot_of_all : (pairs : Pairs) (rows : Stored) → rows.range ≡ all_keys → slot_with pairs empty rows None ≡ empty_slot pairs
slot_of_all pairs rows whole = ap (λ (r : KeyRange). slot_of_range pairs r) whole

-- the slot 0 has all keys at first, and no container is there
pub first_left : (own : SlotFront) (ks : List Keys) (pairs : Pairs) → own.slot ≡ 0 → own.log ≡ Opened ks ∷ [] → pairs ≡ first_pairs ks → AreNumbered pairs → IsLeftBy own None (empty_slot pairs)
first_left own ks pairs slot log are numbered = record {
  first = refl;
  has = λ key inside. ap (λ (l : List Entry). owner l key) log ∙ sym slot;
  ends = refl;
  bound = λ key inside. ap (λ (l : List Entry). bound_at l key) log;
  pairs = λ key inside. ap (λ (l : List Entry). pairs_for l key) log ∙ sym are;
  numbered = numbered;
  calm = refl;
  histories = λ key inside. ap (λ (l : List Entry). map past_of (front_at l key)) log ∙ none_kept key;
  containers = λ key inside. ap (λ (l : List Entry). part_at (world_left l) key) log ∙ nothing_at pairs key;
}

-- no slot has made an entry then
pub none_made : (slot : ℕ) (log : List Entry) (ks : List Keys) → log ≡ Opened ks ∷ [] → count_of slot log ≡ 0
none_made slot log ks is = ap (count_of slot) is
