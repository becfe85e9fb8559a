-- What the laws of slots over streams rest on.
use Rattle.std.proofs.Common.{◌≡◌, ◌∙◌, ◌⊎◌, ◌&&◌, inl, inr, ℕ, Bool, true, false, cond, IsSome, List, [], Option, Some, None, Ok, refl, sym, ap}
use Rattle.std.specs.FinMap.{retain_keys}
use Rattle.std.specs.Ordering.{is_gt, is_le}
use Rattle.std.specs.declared.cmp.Ordering.{Ordering}
use Rattle.std.specs.declared.cmp.Ordering.TheVariants.{Less, Equal, Greater}
use Rattle.stamp_values.specs.Order.{key_cmp}
use Rattle.stamp_values.specs.Trees.{is_below, is_from}
use Rattle.stamp_values.specs.declared.key.Key.{Key}
use Rattle.stamp_types.specs.Requests.{Asked}
use Rattle.stamp_types.specs.World.{World, no_part, part_at, part_value}
use Rattle.stamp_types.specs.declared.past.Past.{Past}
use Rattle.stamp_types.specs.declared.piece.Piece.{Piece}
use Rattle.stream_manager.specs.Streams.{laid}
use Rattle.partition_stream.specs.Contents.{content_at}
use Rattle.partition_stream.specs.Positions.{all_changes}
use Rattle.stamp_model.specs.Histories.{replay}
use Rattle.stamp_model.specs.SeenContainers.{is_under}
use Rattle.stored_rows.specs.Loaded.{AreRowsOf}
use Rattle.stored_rows.specs.Ranges.{covers, is_before_end}
use Rattle.stored_rows.specs.States.{Stored, bytes_of}
use Rattle.stored_rows.proofs.LoadLemmas.{part_of-apart, part_of-covered}
use Rattle.slot_state.specs.HistoryMaps.{Histories, history_at, with_entry}
use Rattle.slot_state.specs.Pairs.{Pairs, pairs_at}
use Rattle.slot_state.specs.Slots as slots
use Rattle.slot_state.specs.Slots.{SlotState, change_now, entry_of, lower_half, replayed_at, slot_after, upper_half}
use Rattle.slot_state.proofs.SplitLemmas.{read_retained}
use Rattle.stored_slot.specs.Meanings.{AreOfStreams, AreReplays, slot_with}
use Rattle.stored_slot.specs.Served.{doubting}
use Rattle.stored_slot.specs.Settled.{CutsSettled, SettlesSlot, SettlesDoubtBy}
use Rattle.stored_slot.proofs.DecisionLemmas.{and_parts, same_end}

-- ---- rows that are loaded

module _ (s m t : Stored) (w : World (List Piece)) (key : Key) (dropped : m ≡ record s { is_loaded = false }) (loaded : t ≡ record m { is_loaded = true })
    (rows : AreRowsOf t.range t.streams w) where
  same_range : t.range ≡ s.range
  same_range = ap (λ (x : Stored). x.range) loaded ∙ ap (λ (x : Stored). x.range) dropped

  same_bytes : bytes_of t key ≡ bytes_of s key
  same_bytes = ap (λ (x : Stored). bytes_of x key) loaded ∙ ap (λ (x : Stored). bytes_of x key) dropped

  pub loaded_replayed : (pairs : Pairs) (h : Histories) → AreReplays pairs h s → covers t.range key ≡ true
      → part_value (content_at (laid t.streams.blobs)) (part_at w key) ≡ replayed_at pairs h key
  loaded_replayed pairs h are covered =
      ap (part_value (content_at (laid t.streams.blobs))) (rows key ∙ part_of-covered t.range key (all_changes t.streams) covered)
      ∙ same_bytes
      ∙ are.bytes key (sym (ap (λ r. covers r key) same_range) ∙ covered)

  pub loaded_apart : covers t.range key ≡ false → part_at w key ≡ no_part
  loaded_apart apart = rows key ∙ part_of-apart t.range key (all_changes t.streams) apart

-- ---- a doubt that ends

pub doubt_ends : (s t : SlotState) (q : Asked) (moment : ℕ) → s.doubt ≡ None → IsSome (change_now s.pairs s.histories q moment) → SettlesSlot (doubting s q moment) t
    → (t ≡ slot_after s q moment) ⊎ (t ≡ s)
doubt_ends s t q moment none some settled = elim settled [
  | inl same ↦ inl (same ∙ sym (λ i. record s { histories = cond (some i) (with_entry s.histories (entry_of s.pairs q moment)) s.histories; doubt = none i }))
  | inr same ↦ inr (same ∙ sym (λ i. record s { doubt = none i }))
]

-- ---- a split

below_or_from : (r : Ordering) → (is_gt r ≡ true) ⊎ (is_le r ≡ true)
below_or_from Less = inr refl
below_or_from Equal = inr refl
below_or_from Greater = inl refl

settled_ends : (d : Option Past) (s m : SlotState) → SettlesDoubtBy d s m → (m.from ≡ s.from) × (m.to ≡ s.to)
settled_ends None s m same = (ap (λ (x : SlotState). x.from) same, ap (λ (x : SlotState). x.to) same)
settled_ends (Some e) s m (inl same) = (ap (λ (x : SlotState). x.from) same, ap (λ (x : SlotState). x.to) same)
settled_ends (Some e) s m (inr same) = (ap (λ (x : SlotState). x.from) same, ap (λ (x : SlotState). x.to) same)

-- a container whose history a half keeps is in bytes what this history replays to
half_replayed : (pairs : Pairs) (h : Histories) (t : Stored) (m : SlotState) (p : Key → Bool) (key : Key) → AreReplays pairs h t → pairs ≡ m.pairs → h ≡ retain_keys m.histories p
    → p key ≡ true → covers t.range key ≡ true → bytes_of t key ≡ replayed_at m.pairs m.histories key
half_replayed pairs h t m p key are same is passes covered =
    are.bytes key covered
    ∙ (λ i. replay (pairs_at (same i) key.account) (history_at (is i) key))
    ∙ ap (λ (es : List Past). replay (pairs_at m.pairs key.account) es) (read_retained [] m.histories p key ∙ ap (λ (b : Bool). cond b (history_at m.histories key) []) passes)

module _ (pairs : Pairs) (below above : Histories) (lower upper : Stored) (s : SlotState) (middle key : Key) (low : AreReplays pairs below lower) (up : AreReplays pairs above upper)
    (covered : slots.covers s key ≡ true) (m : SlotState) (settled : SettlesSlot s m) (is_lower : slot_with pairs below lower None ≡ lower_half m middle)
    (is_upper : slot_with pairs above upper None ≡ upper_half m middle) where
  abbrev ends : (m.from ≡ s.from) × (m.to ≡ s.to)
  ends = settled_ends s.doubt s m settled

  abbrev inside : (is_from s.from key ≡ true) × (is_under s.to key ≡ true)
  inside = and_parts (is_from s.from key) (is_under s.to key) covered

  in_lower : is_below middle key ≡ true → (covers lower.range key ≡ true) × (bytes_of lower key ≡ replayed_at m.pairs m.histories key)
  in_lower passes =
      let from : lower.range.from ≡ s.from = ap (λ (x : SlotState). x.from) is_lower ∙ ends.0 in
      let to : lower.range.to ≡ Some middle = ap (λ (x : SlotState). x.to) is_lower in
      let there : covers lower.range key ≡ true = (λ i. is_from (from i) key && is_before_end (to i) key) ∙ (λ i. inside.0 i && is_below middle key) ∙ passes in
      (there, half_replayed pairs below lower m (is_below middle) key low (ap (λ (x : SlotState). x.pairs) is_lower) (ap (λ (x : SlotState). x.histories) is_lower) passes there)

  in_upper : is_from middle key ≡ true → (covers upper.range key ≡ true) × (bytes_of upper key ≡ replayed_at m.pairs m.histories key)
  in_upper passes =
      let from : upper.range.from ≡ middle = ap (λ (x : SlotState). x.from) is_upper in
      let to : upper.range.to ≡ s.to = ap (λ (x : SlotState). x.to) is_upper ∙ ends.1 in
      let there : covers upper.range key ≡ true =
      (λ i. is_from (from i) key && is_before_end (to i) key) ∙ (λ i. passes i && is_before_end s.to key) ∙ sym (same_end s.to key) ∙ inside.1 in
      (there, half_replayed pairs above upper m (is_from middle) key up (ap (λ (x : SlotState). x.pairs) is_upper) (ap (λ (x : SlotState). x.histories) is_upper) passes there)

  in_one : ((covers lower.range key ≡ true) × (bytes_of lower key ≡ replayed_at m.pairs m.histories key)) ⊎ ((covers upper.range key ≡ true) × (bytes_of upper key ≡ replayed_at m.pairs m.histories key))
  in_one = elim (below_or_from (key_cmp middle key)) [
    | inl passes ↦ inl (in_lower passes)
    | inr passes ↦ inr (in_upper passes)
  ]

pub split_keeps : (pairs : Pairs) (below above : Histories) (lower upper : Stored) (s : SlotState) (middle key : Key) → AreOfStreams pairs below lower None → AreOfStreams pairs above upper None
    → CutsSettled (Ok (slot_with pairs above upper None)) s middle (slot_with pairs below lower None) → slots.covers s key ≡ true
    → (m : SlotState) × (SettlesSlot s m × (((covers lower.range key ≡ true) × (bytes_of lower key ≡ replayed_at m.pairs m.histories key))
    ⊎ ((covers upper.range key ≡ true) × (bytes_of upper key ≡ replayed_at m.pairs m.histories key))))
split_keeps pairs below above lower upper s middle key low up cut covered =
    (cut.0, (cut.1.0, in_one pairs below above lower upper s middle key low.replays up.replays covered cut.0 cut.1.0 cut.1.1.0 cut.1.1.1))
