-- Both halves of a slot whose containers are those that its history leaves.
use Rattle.std.proofs.Common.{◌≡◌, ℕ, ◌&&◌, nat_eq, Bool, true, false, List, [], ◌∷◌, ◌++◌, map, Option, Some, refl, sym, ap, ◌∙◌}
use Rattle.std.specs.Cmp.{Equal-is, eq_by_cmp_equiv}
use Rattle.std.specs.Ordering.{is_le}
use Rattle.std.proofs.lemmas.Bool.{and_parts}
use Rattle.stamp_values.specs.Order.{key_cmp, keys_total}
use Rattle.stamp_values.specs.Trees.{is_below, is_from}
use Rattle.stamp_values.specs.declared.key.Key.{Key}
use Rattle.stamp_types.specs.World.{World, part_at}
use Rattle.stamp_model.specs.SeenContainers.{is_under}
use Rattle.slot_state.specs.HistoryMaps.{history_at}
use Rattle.slot_state.specs.Slots.{SlotState, covers, is_inside, lower_half, upper_half, replayed_at}
use Rattle.slot_state.proofs.HalfLemmas.{below_excludes, from_excludes, is_there}
use Rattle.served_history.specs.declared.entry.Entry.{Entry}
use Rattle.served_history.specs.declared.entry.Entry.TheVariants.{Split}
use Rattle.served_history.specs.Fronts.{front_at}
use Rattle.served_history.specs.Growth.{SlotFront}
use Rattle.served_history.specs.Histories.{bound_at, owner, pairs_for, world_left, HasStayed}
use Rattle.served_history.proofs.AfterLemmas.{entry_follows}
use Rattle.served_history.proofs.FrontLemmas.{front_stays}
use Rattle.served_history.proofs.KeyLemmas.{bound-one, by_false, by_true, from_of_below, owner-one, under_before}
use Rattle.served_history.proofs.PairLemmas.{pairs-one}
use Rattle.served_history.proofs.SlotLemmas.{made_it}
use Rattle.served_history.proofs.StayLemmas.{stays, world_left-append}
use Rattle.served_slots.specs.Slots.{IsLeftBy, IsParted, past_of}
use Rattle.served_slots.proofs.KeptLemmas.{front_unserved}
use Rattle.served_slots.proofs.ServeLemmas.{from_from}

-- a key is from itself on
from_itself : (key : Key) → is_from key key ≡ true
from_itself key = ap is_le ((Equal-is (key_cmp key key)).0 ((eq_by_cmp_equiv keys_total).refl key))

both : (a b : Bool) → a ≡ true → b ≡ true → (a && b) ≡ true
both true b p q = q
both false b p q = cc

module _ (front : SlotFront) (to : Option Key) (s : SlotState) (left : IsLeftBy front to s) (middle : Key) (inside : is_inside s middle ≡ true) where
  after_first : is_from s.from middle ≡ true
  after_first = from_of_below s.from middle (and_parts (is_below middle s.from) (is_under s.to middle) inside).0

  before_end : is_under s.to middle ≡ true
  before_end = (and_parts (is_below middle s.from) (is_under s.to middle) inside).1

  -- the slot has the middle
  pub has_middle : owner front.log middle ≡ front.slot
  has_middle = left.has middle (both (is_from s.from middle) (is_under s.to middle) after_first before_end)

  module _ (lower upper : SlotFront) (parted : IsParted front middle lower upper) where
    abbrev e : Entry
    e = Split front.slot middle upper.slot

    stayed : (key : Key) → covers s key ≡ true → HasStayed key (front.log ++ e ∷ []) lower.log
    stayed key there = entry_follows front.slot front.log front.log e lower.log key parted.entered (left.has key there)

    pairs_lower : (key : Key) → covers s key ≡ true → pairs_for lower.log key ≡ s.pairs
    pairs_lower key there = (stayed key there).pairs ∙ pairs-one front.log e key ∙ left.pairs key there

    front_lower : (key : Key) → covers s key ≡ true → front_at lower.log key ≡ front_at front.log key
    front_lower key there = front_unserved front.slot front.log front.log e lower.log key refl parted.entered (left.has key there)

    container_lower : (key : Key) → covers s key ≡ true → part_at (world_left lower.log) key ≡ replayed_at s.pairs s.histories key
    container_lower key there =
        (stayed key there).container
        ∙ ap (λ (w : World (List ℕ)). part_at w key) (world_left-append front.log (e ∷ []))
        ∙ left.containers key there

    -- ---- the lower half

    module _ (key : Key) (there : covers (lower_half s middle) key ≡ true) where
      abbrev parts : (is_from s.from key ≡ true) × (is_below middle key ≡ true)
      parts = and_parts (is_from s.from key) (is_below middle key) there

      lower_there : covers s key ≡ true
      lower_there = both (is_from s.from key) (is_under s.to key) parts.0 (under_before s.to key middle parts.1 before_end)

      lower_has : owner lower.log key ≡ lower.slot
      lower_has =
          (stayed key lower_there).slot
          ∙ owner-one front.log e key
          ∙ by_false (nat_eq front.slot (owner front.log key) && is_from middle key) upper.slot (owner front.log key)
          (ap (λ (b : Bool). nat_eq front.slot (owner front.log key) && b) (below_excludes middle key parts.1) ∙ never (nat_eq front.slot (owner front.log key)))
          ∙ left.has key lower_there
          ∙ sym parted.same
        where
          never : (b : Bool) → (b && false) ≡ false
          never true = refl
          never false = refl

      lower_bound : bound_at lower.log key ≡ Some middle
      lower_bound =
          (stayed key lower_there).bound
          ∙ bound-one front.log e key
          ∙ by_true (is_below middle key && is_under (bound_at front.log key) middle) (Some middle) (bound_at front.log key)
          (both (is_below middle key) (is_under (bound_at front.log key) middle) parts.1 (ap (λ (o : Option Key). is_under o middle) (left.bound key lower_there) ∙ before_end))

      lower_kept : map past_of (front_at lower.log key) ≡ history_at (lower_half s middle).histories key
      lower_kept = ap (map past_of) (front_lower key lower_there) ∙ left.histories key lower_there ∙ sym (is_there s.pairs s.histories (is_below middle) key parts.1).0

      lower_container : part_at (world_left lower.log) key ≡ replayed_at s.pairs (lower_half s middle).histories key
      lower_container = container_lower key lower_there ∙ sym (is_there s.pairs s.histories (is_below middle) key parts.1).1

    pub lower_left : IsLeftBy lower (Some middle) (lower_half s middle)
    lower_left = record {
      first = both (is_from s.from s.from) (is_below middle s.from) (and_parts (is_from s.from s.from) (is_under s.to s.from) left.first).0 (and_parts (is_below middle s.from) (is_under s.to middle) inside).0;
      has = lower_has;
      ends = refl;
      bound = lower_bound;
      pairs = λ key there. pairs_lower key (lower_there key there);
      numbered = left.numbered;
      calm = left.calm;
      histories = lower_kept;
      containers = lower_container;
    }

    -- ---- the upper half

    module _ (key : Key) (there : covers (upper_half s middle) key ≡ true) where
      abbrev parts_above : (is_from middle key ≡ true) × (is_under s.to key ≡ true)
      parts_above = and_parts (is_from middle key) (is_under s.to key) there

      upper_there : covers s key ≡ true
      upper_there = both (is_from s.from key) (is_under s.to key) (from_from s.from middle key after_first parts_above.0) parts_above.1

      given : owner lower.log key ≡ upper.slot
      given =
          (stayed key upper_there).slot
          ∙ owner-one front.log e key
          ∙ by_true (nat_eq front.slot (owner front.log key) && is_from middle key) upper.slot (owner front.log key)
          (both (nat_eq front.slot (owner front.log key)) (is_from middle key) (ap (nat_eq front.slot) (left.has key upper_there) ∙ made_it front.slot) parts_above.0)

      kept : HasStayed key lower.log upper.log
      kept = stays upper.slot key lower.log upper.log parted.fresh given

      upper_has : owner upper.log key ≡ upper.slot
      upper_has = kept.slot ∙ given

      upper_bound : bound_at upper.log key ≡ s.to
      upper_bound =
          kept.bound
          ∙ (stayed key upper_there).bound
          ∙ bound-one front.log e key
          ∙ by_false (is_below middle key && is_under (bound_at front.log key) middle) (Some middle) (bound_at front.log key)
          (ap (λ (b : Bool). b && is_under (bound_at front.log key) middle) (from_excludes middle key parts_above.0))
          ∙ left.bound key upper_there

      upper_kept : map past_of (front_at upper.log key) ≡ history_at (upper_half s middle).histories key
      upper_kept =
          ap (map past_of) (front_stays upper.slot key lower.log upper.log parted.fresh given ∙ front_lower key upper_there)
          ∙ left.histories key upper_there
          ∙ sym (is_there s.pairs s.histories (is_from middle) key parts_above.0).0

      upper_container : part_at (world_left upper.log) key ≡ replayed_at s.pairs (upper_half s middle).histories key
      upper_container = kept.container ∙ container_lower key upper_there ∙ sym (is_there s.pairs s.histories (is_from middle) key parts_above.0).1

    pub upper_left : IsLeftBy upper to (upper_half s middle)
    upper_left = record {
      first = both (is_from middle middle) (is_under s.to middle) (from_itself middle) before_end;
      has = upper_has;
      ends = left.ends;
      bound = upper_bound;
      pairs = λ key there. (kept key there).pairs ∙ pairs_lower key (upper_there key there);
      numbered = left.numbered;
      calm = refl;
      histories = upper_kept;
      containers = upper_container;
    }
