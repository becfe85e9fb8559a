-- The histories of a slot and the range of its keys.
use Rattle.std.proofs.Common.{◌≡◌, ℕ, Bool, true, false, cond, ◌&&◌, List, [], ◌∷◌, ◌++◌, Option, Some, None, is_some, unwrap_or, refl, sym, ap, ◌∙◌}
use Rattle.std.specs.FinMap as finite
use Rattle.std.specs.Option.{option_map}
use Rattle.std.specs.Ordering.{eq_by_cmp}
use Rattle.stamp_values.specs.Operations.{names_container}
use Rattle.stamp_values.specs.Order.{key_cmp}
use Rattle.stamp_values.specs.Trees.{is_below, is_from}
use Rattle.stamp_values.specs.declared.key.Key.{Key}
use Rattle.stamp_values.specs.declared.op.Op.{Op}
use Rattle.stamp_values.specs.declared.op.Op.TheVariants as op
use Rattle.stamp_types.specs.declared.past.Past.{Past}
use Rattle.stamp_types.specs.declared.refusal.Refusal.{Refusal}
use Rattle.stamp_types.specs.Changes.{KeyedAct}
use Rattle.stamp_types.specs.Requests.{Asked}
use Rattle.stamp_types.specs.World.{Part}
use Rattle.access_rules.specs.declared.keys.Keys.{Keys}
use Rattle.range_rows.specs.RequestChanges.{act_by}
use Rattle.range_rows.specs.SentContent.{sizes}
use Rattle.stamp_model.specs.Effects.{accepted, unless_refused}
use Rattle.stamp_model.specs.Refusals.{refusal}
use Rattle.stamp_model.specs.SeenContainers.{is_under, routed}
use Rattle.slot_state.specs.HistoryMaps.{Histories, history_at, with_entry}
use Rattle.slot_state.specs.Pairs.{Pairs, current_at}
use Rattle.slot_state.specs.Slots.{KeepsToRange, SlotState, change_now, covers, empty_slot, entry_of, histories_after, lower_half, replayed_at, slot_after, upper_half}
use Rattle.slot_state.proofs.MapLemmas.{tied}
use Rattle.slot_state.proofs.SplitLemmas.{read_retained}
use Rattle.slot_state.proofs.StepLemmas.{history_at-insert}

-- a request that names no container changes nothing
reads : (o : Op) (p : Part ℕ) (q : Asked) (t : ℕ) → names_container o ≡ false → act_by o p q t ≡ None
reads op.ListContainers p q t e = refl
reads other p q t e = cc

unrefused : (r : Option Refusal) → unless_refused r None ≡ None
unrefused None = refl
unrefused (Some r) = refl

pub lists_nothing : (keys : Option Keys) (p : Part ℕ) (q : Asked) (t : ℕ) → names_container q.ask.op ≡ false → accepted keys p q t ≡ None
lists_nothing keys p q t e =
    ap (λ a. unless_refused (refusal keys p q t) (option_map (λ a. record { key = q.ask.key; act = a }) a)) (reads q.ask.op p q t e)
    ∙ unrefused (refusal keys p q t)

-- a list of containers leaves the histories
pub histories_after-listing : (pairs : Pairs) (h : Histories) (q : Asked) (t : ℕ) → names_container q.ask.op ≡ false → histories_after pairs h q t ≡ h
histories_after-listing pairs h q t e =
    ap (λ (c : Option KeyedAct). cond (is_some c) (with_entry h (entry_of pairs q t)) h)
    (lists_nothing (current_at pairs q.ask.key.account) (sizes (replayed_at pairs h q.ask.key)) q t e)

-- a request that names a container is routed by its key
pub routed_own : (q : Asked) → names_container q.ask.op ≡ true → routed q ≡ q.ask.key
routed_own q e = chosen (names_container q.ask.op) q.ask.key _ e
  where
    chosen : (b : Bool) (x y : Key) → b ≡ true → cond b x y ≡ x
    chosen true x y is = refl
    chosen false x y is = cc

-- a slot without containers
pub empty_keeps : (pairs : Pairs) → KeepsToRange (empty_slot pairs)
empty_keeps pairs key out = ap (λ (o : Option (List Past)). unwrap_or o []) (finite.get-empty key_cmp key)

-- an entry of another key
entered_by : (h : Histories) (e : Past) (key : Key) (b made : Bool) → eq_by_cmp key_cmp key e.request.ask.key ≡ false → history_at (cond made (with_entry h e) h) key ≡ history_at h key
entered_by h e key b true other =
    history_at-insert h e.request.ask.key (history_at h e.request.ask.key ++ e ∷ []) key ∙ ap (λ (b : Bool). cond b (history_at h e.request.ask.key ++ e ∷ []) (history_at h key)) other
entered_by h e key b false other = refl

-- a request that is sent to the slot of its first key
pub served_keeps : (s : SlotState) (q : Asked) (t : ℕ) → KeepsToRange s → covers s (routed q) ≡ true → KeepsToRange (slot_after s q t)
served_keeps s q t keeps covered key out = by (names_container q.ask.op) refl
  where
    never : {X : Type 0} → true ≡ false → X
    never f = cc

    outside : eq_by_cmp key_cmp key q.ask.key ≡ true → names_container q.ask.op ≡ true → true ≡ false
    outside same names = sym covered ∙ ap (covers s) (routed_own q names) ∙ sym (ap (covers s) (tied key q.ask.key same)) ∙ out

    other : (b : Bool) → eq_by_cmp key_cmp key q.ask.key ≡ b → names_container q.ask.op ≡ true → history_at (histories_after s.pairs s.histories q t) key ≡ []
    other true same names = never (outside same names)
    other false same names = entered_by s.histories (entry_of s.pairs q t) key true (is_some (change_now s.pairs s.histories q t)) same ∙ keeps key out

    by : (b : Bool) → names_container q.ask.op ≡ b → history_at (histories_after s.pairs s.histories q t) key ≡ []
    by true names = other (eq_by_cmp key_cmp key q.ask.key) refl names
    by false lists = ap (λ (h : Histories). history_at h key) (histories_after-listing s.pairs s.histories q t lists) ∙ keeps key out

-- ---- halves

lower_by : (s : SlotState) (middle key : Key) (b : Bool) → is_below middle key ≡ b → KeepsToRange s → covers (lower_half s middle) key ≡ false → cond b (history_at s.histories key) [] ≡ []
lower_by s middle key true below keeps out = keeps key (by (is_from s.from key) refl)
  where
    by : (b : Bool) → is_from s.from key ≡ b → (is_from s.from key && is_under s.to key) ≡ false
    by true from =
        let never : true ≡ false = sym (ap (λ (b : Bool). b && is_below middle key) from ∙ below) ∙ out in
        cc
    by false from = ap (λ (b : Bool). b && is_under s.to key) from
lower_by s middle key false below keeps out = refl

pub lower_keeps : (s : SlotState) (middle : Key) → KeepsToRange s → KeepsToRange (lower_half s middle)
lower_keeps s middle keeps key out = read_retained [] s.histories (is_below middle) key ∙ lower_by s middle key (is_below middle key) refl keeps out

upper_by : (s : SlotState) (middle key : Key) (b : Bool) → is_from middle key ≡ b → KeepsToRange s → covers (upper_half s middle) key ≡ false → cond b (history_at s.histories key) [] ≡ []
upper_by s middle key true from keeps out = keeps key (by (is_from s.from key))
  where
    past : is_under s.to key ≡ false
    past = sym (ap (λ (b : Bool). b && is_under s.to key) from) ∙ out

    by : (b : Bool) → (b && is_under s.to key) ≡ false
    by true = past
    by false = refl
upper_by s middle key false from keeps out = refl

pub upper_keeps : (s : SlotState) (middle : Key) → KeepsToRange s → KeepsToRange (upper_half s middle)
upper_keeps s middle keeps key out = read_retained [] s.histories (is_from middle) key ∙ upper_by s middle key (is_from middle key) refl keeps out
