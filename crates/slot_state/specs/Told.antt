-- What happened to histories, and the lists that this leaves.
use Rattle.std.proofs.Common.{◌≡◌, ◌≢◌, Bool, true, false, cond, List, [], ◌∷◌, ◌++◌, Option, Some, None, unwrap_or, refl, sym, ap, ◌∙◌}
use Rattle.std.specs.Ordering.{eq_by_cmp}
use Rattle.std.specs.FinMap as finite
use Rattle.std.specs.FinMap.{get-empty, get-insert, get-remove, get-retain_keys}
use Rattle.stamp_values.specs.Order.{key_cmp, keys_total, keys_exact}
use Rattle.stamp_values.specs.Trees.{is_below, is_from}
use Rattle.stamp_values.specs.declared.key.Key.{Key}
use Rattle.stamp_types.specs.declared.past.Past.{Past}
use Rattle.slot_state.specs.declared.event.Event.{Event}
use Rattle.slot_state.specs.declared.event.Event.TheVariants.{Pushed, TakenBack, Below, From}
use Rattle.slot_state.specs.HistoryMaps.{Histories, NoneIsEmpty, front, history_at, with_entry, with_history, without_last}

-- the lists after an event at a key
abbrev pub after_event : Histories → Key → Event → Histories
after_event h key (Pushed e) = with_entry h e
after_event h key TakenBack = without_last h key
after_event h key Below = finite.retain_keys h (is_below key)
after_event h key From = finite.retain_keys h (is_from key)

-- the lists after events
abbrev pub told_from : Histories → List (Key × Event) → Histories
told_from h [] = h
told_from h (e ∷ es) = told_from (after_event h e.0 e.1) es

-- the lists after all events, from none
abbrev pub told : List (Key × Event) → Histories
told es = told_from finite.empty es

-- one event more
told_from_next : (h : Histories) (es : List (Key × Event)) (k : Key) (e : Event) → told_from h (es ++ (k, e) ∷ []) ≡ after_event (told_from h es) k e
told_from_next h [] k e = refl
told_from_next h (d ∷ es) k e = told_from_next (after_event h d.0 d.1) es k e

pub told_next : (es ds : List (Key × Event)) (k : Key) (e : Event) → ds ≡ es ++ (k, e) ∷ [] → told ds ≡ after_event (told es) k e
told_next es ds k e is = ap (λ (xs : List (Key × Event)). told xs) is ∙ told_from_next finite.empty es k e

-- no list is empty, whatever happened
kept_by : (o : Option (List Past)) (v : List Past) (b : Bool) → v ≢ [] → o ≢ Some [] → cond b (Some v) o ≢ Some []
kept_by o v true some none h = some (ap (λ (o : Option (List Past)). unwrap_or o []) h)
kept_by o v false some none h = none h

not_none : (v : List Past) → None ≡ Some v → ⊥
not_none v h = cc

gone_by : (o : Option (List Past)) (b : Bool) → o ≢ Some [] → cond b None o ≢ Some []
gone_by o true none h = not_none [] h
gone_by o false none h = none h

stays_by : (o : Option (List Past)) (b : Bool) → o ≢ Some [] → cond b o None ≢ Some []
stays_by o true none h = none h
stays_by o false none h = not_none [] h

no_end : (xs : List Past) (e : Past) → xs ++ e ∷ [] ≡ [] → ⊥
no_end [] e h = cc
no_end (x ∷ xs) e h = cc

no_cons : (e : Past) (es : List Past) → e ∷ es ≡ [] → ⊥
no_cons e es h = cc

pub inserted_none : (h : Histories) (k : Key) (v : List Past) → NoneIsEmpty h → v ≢ [] → NoneIsEmpty (finite.insert h k v)
inserted_none h k v none some q is = kept_by (finite.get h q) v (eq_by_cmp key_cmp q k) some (none q) (sym (get-insert keys_total h k v q) ∙ is)

pub removed_none : (h : Histories) (k : Key) → NoneIsEmpty h → NoneIsEmpty (finite.remove h k)
removed_none h k none q is = gone_by (finite.get h q) (eq_by_cmp key_cmp q k) (none q) (sym (get-remove keys_total h k q) ∙ is)

pub retained_none : (h : Histories) (p : Key → Bool) → NoneIsEmpty h → NoneIsEmpty (finite.retain_keys h p)
retained_none h p none q is = stays_by (finite.get h q) (p q) (none q) (sym (get-retain_keys h p q (λ x tie. ap p (sym (keys_exact q x tie)))) ∙ is)

pub entered_none : (h : Histories) (e : Past) → NoneIsEmpty h → NoneIsEmpty (with_entry h e)
entered_none h e none = inserted_none h e.request.ask.key (history_at h e.request.ask.key ++ e ∷ []) none (no_end (history_at h e.request.ask.key) e)

with_none : (h : Histories) (k : Key) (es : List Past) → NoneIsEmpty h → NoneIsEmpty (with_history h k es)
with_none h k [] none = removed_none h k none
with_none h k (e ∷ es) none = inserted_none h k (e ∷ es) none (no_cons e es)

pub shortened_none : (h : Histories) (k : Key) → NoneIsEmpty h → NoneIsEmpty (without_last h k)
shortened_none h k none = with_none h k (front (history_at h k)) none

after_none : (h : Histories) (k : Key) (e : Event) → NoneIsEmpty h → NoneIsEmpty (after_event h k e)
after_none h k (Pushed e) none = entered_none h e none
after_none h k TakenBack none = shortened_none h k none
after_none h k Below none = retained_none h (is_below k) none
after_none h k From none = retained_none h (is_from k) none

told_from_none : (h : Histories) (es : List (Key × Event)) → NoneIsEmpty h → NoneIsEmpty (told_from h es)
told_from_none h [] none = none
told_from_none h (e ∷ es) none = told_from_none (after_event h e.0 e.1) es (after_none h e.0 e.1 none)

pub empty_none : NoneIsEmpty finite.empty
empty_none q is = not_none [] (sym (get-empty key_cmp q) ∙ is)

pub told_none_is_empty : (es : List (Key × Event)) → NoneIsEmpty (told es)
told_none_is_empty es = told_from_none finite.empty es empty_none
