-- The changes that a slot keeps of a container are those of the container's front.
use Rattle.std.proofs.Common.{◌≡◌, ℕ, ◌&&◌, Bool, true, false, cond, List, [], ◌∷◌, ◌++◌, map, Option, is_some, refl, sym, ap, ◌∙◌}
use Rattle.std.proofs.lemmas.List.{append-nil, map-append}
use Rattle.stamp_values.specs.Operations.{names_container}
use Rattle.stamp_values.specs.declared.key.Key.{Key}
use Rattle.stamp_types.specs.declared.past.Past.{Past}
use Rattle.stamp_types.specs.Changes.{KeyedAct}
use Rattle.stamp_types.specs.Requests.{Asked}
use Rattle.stamp_types.specs.World.{Part, World, part_at}
use Rattle.range_rows.specs.SentContent.{sizes}
use Rattle.stamp_model.specs.AcceptedRequests.{accepted_at, is_on}
use Rattle.stamp_model.specs.Effects.{accepted}
use Rattle.stamp_model.specs.Runs.{Timed}
use Rattle.slot_state.specs.HistoryMaps.{history_at, with_entry}
use Rattle.slot_state.specs.Pairs.{current_at}
use Rattle.slot_state.specs.Slots.{SlotState, change_now, entry_of, replayed_at, slot_after}
use Rattle.slot_state.proofs.MapLemmas.{tied}
use Rattle.slot_state.proofs.RangeLemmas.{lists_nothing}
use Rattle.slot_state.proofs.StepLemmas.{history_at-insert}
use Rattle.served_history.specs.declared.entry.Entry.{Entry}
use Rattle.served_history.specs.Fronts.{front_at}
use Rattle.served_history.specs.Growth.{IsEntered}
use Rattle.served_history.specs.Histories.{owner, served_requests, world_left}
use Rattle.served_history.proofs.FrontLemmas.{front-append, front_stays}
use Rattle.served_slots.specs.Slots.{past_of, timed_in}

-- an entry of a slot that is of no request leaves the fronts of the slot's containers
pub front_unserved : (slot : ℕ) (front known : List Entry) (e : Entry) (known' : List Entry) (key : Key) → served_requests (e ∷ []) ≡ [] → IsEntered slot front known e known' → owner front key ≡ slot
    → front_at known' key ≡ front_at front key
front_unserved slot front known e known' key none entered has =
    ap (λ (l : List Entry). front_at l key) entered.enters
    ∙ front-append key entered.log (e ∷ [])
    ∙ ap (λ (rs : List Timed). front_at entered.log key ++ accepted_at key (world_left entered.log) rs) none
    ∙ append-nil (front_at entered.log key)
    ∙ front_stays slot key front entered.log entered.slot_knew has

module _ (s : SlotState) (to : Option Key) (q : Asked) (t : ℕ) (key : Key) (front : List Timed) (kept : map past_of front ≡ history_at s.histories key) where
  abbrev r : Timed
  r = timed_in s to q t

  abbrev e : Past
  e = entry_of s.pairs q t

  abbrev longer : List Past
  longer = history_at s.histories q.ask.key ++ e ∷ []

  entered : history_at (with_entry s.histories e) key ≡ cond (is_on key q) longer (history_at s.histories key)
  entered = history_at-insert s.histories q.ask.key longer key

  none_more : map past_of (front ++ []) ≡ history_at s.histories key
  none_more = ap (map past_of) (append-nil front) ∙ kept

  one_more : (on : Bool) → is_on key q ≡ on → map past_of (front ++ cond on (r ∷ []) []) ≡ history_at (with_entry s.histories e) key
  one_more true on =
      map-append past_of front (r ∷ [])
      ∙ ap (λ (es : List Past). es ++ e ∷ []) (kept ∙ ap (λ (k : Key). history_at s.histories k) (tied key q.ask.key on))
      ∙ sym (entered ∙ ap (λ (b : Bool). cond b longer (history_at s.histories key)) on)
  one_more false on = none_more ∙ sym (entered ∙ ap (λ (b : Bool). cond b longer (history_at s.histories key)) on)

  by_change : (on changes : Bool) → is_on key q ≡ on → map past_of (front ++ cond (on && changes) (r ∷ []) []) ≡ history_at (cond changes (with_entry s.histories e) s.histories) key
  by_change true true on = one_more true on
  by_change true false on = none_more
  by_change false true on = one_more false on
  by_change false false on = none_more

  module _ (w : World (List ℕ)) (there : names_container q.ask.op ≡ true → part_at w q.ask.key ≡ replayed_at s.pairs s.histories q.ask.key) where
    -- the request makes the change there that it makes in the slot
    change_there : (b : Bool) → names_container q.ask.op ≡ b → accepted (current_at s.pairs q.ask.key.account) (sizes (part_at w q.ask.key)) q t ≡ change_now s.pairs s.histories q t
    change_there true names = ap (λ (p : Part (List ℕ)). accepted (current_at s.pairs q.ask.key.account) (sizes p) q t) (there names)
    change_there false lists =
        lists_nothing (current_at s.pairs q.ask.key.account) (sizes (part_at w q.ask.key)) q t lists
        ∙ sym (lists_nothing (current_at s.pairs q.ask.key.account) (sizes (replayed_at s.pairs s.histories q.ask.key)) q t lists)

    -- so its change is the last one that the slot keeps of the container, if it makes one
    pub kept_after : map past_of (front ++ accepted_at key w (r ∷ [])) ≡ history_at (slot_after s q t).histories key
    kept_after =
        ap (λ (o : Option KeyedAct). map past_of (front ++ cond (is_on key q && is_some o) (r ∷ []) [])) (change_there (names_container q.ask.op) refl)
        ∙ by_change (is_on key q) (is_some (change_now s.pairs s.histories q t)) refl
