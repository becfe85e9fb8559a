-- What a slot has of a container after a request of it.
use Rattle.std.proofs.Common.{◌≡◌, ◌≢◌, ◌⊎◌, inl, inr, ℕ, Bool, true, false, cond, IsTrue, List, [], ◌∷◌, ◌++◌, length, Option, Some, None, unwrap_or, Result, Ok, Err, OnOk, OnErr, IfOk, refl, sym, ap, ◌∙◌, subst, if◌then◌else◌, is_some}
use Rattle.std.specs.Prelude.{IsSome}
use Rattle.std.proofs.lemmas.List.{append-nil}
use mathlib.Core.List.{IsPrefix}
use Rattle.std.specs.Option.{option_map}
use Rattle.std.specs.Ordering.{eq_by_cmp}
use Rattle.std.specs.Cmp.{eq_by_cmp_equiv}
use Rattle.std.specs.FinMap.{get, insert, get-insert}
use Rattle.stamp_values.specs.Operations.{writes}
use Rattle.stamp_values.specs.Order.{key_cmp, keys_total}
use Rattle.stamp_values.specs.declared.key.Key.{Key}
use Rattle.stamp_types.specs.declared.act.Act.{Act}
use Rattle.stamp_types.specs.declared.past.Past.{Past}
use Rattle.stamp_types.specs.Changes.{KeyedAct}
use Rattle.stamp_types.specs.Requests.{Asked}
use Rattle.range_rows.specs.SentContent.{sizes}
use Rattle.range_rows.proofs.FrameLemmas.{act_by-read}
use Rattle.stamp_model.specs.Effects.{unless_refused}
use Rattle.stamp_model.specs.Refusals.{refusal}
use Rattle.stamp_model.proofs.EffectLemmas.{on_key}
use Rattle.stamp_types.specs.declared.refusal.Refusal.{Refusal}
use Rattle.access_rules.specs.declared.keys.Keys.{Keys}
use Rattle.tickets.specs.declared.answer.Answer.{Answer}
use Rattle.tickets.specs.declared.answer.Answer.TheVariants as answer
use Rattle.slot_state.specs.HistoryMaps.{Histories, history_at, with_entry}
use Rattle.slot_state.specs.Pairs.{Pairs, current_at, pairs_at}
use Rattle.slot_state.specs.Slots.{SlotState, change_now, entry_of, histories_after, replayed_at}
use Rattle.slot_state.proofs.MapLemmas.{tied}
use Rattle.stored_slot.specs.Served.{ServesBy, SlotServes}
use Rattle.stored_slot.specs.Settled.{SettlesDoubtBy, SettlesSlot}
use Rattle.slot_pass.specs.After.{IsDoubtOf, IsEntryOf, IsReady, ServesOrNot, pass_of, pass_with}
use Rattle.slot_pass.specs.Passes.{IsShown, PassState}
use Rattle.slot_pass.specs.Spares.{CanBecome, IsOneOf, with_last}

-- ---- one more entry

own_by : (o p : Option (List Past)) (b : Bool) → b ≡ true → cond b p o ≡ p
own_by o p true tie = refl
own_by o p false tie = cc

own_history : (h : Histories) (e : Past) → history_at (with_entry h e) e.request.ask.key ≡ history_at h e.request.ask.key ++ e ∷ []
own_history h e =
    let k = e.request.ask.key in
    let es = history_at h k ++ e ∷ [] in
    ap (λ (o : Option (List Past)). unwrap_or o []) (get-insert keys_total h k es k ∙ own_by (get h k) (Some es) (eq_by_cmp key_cmp k k) ((eq_by_cmp_equiv keys_total).refl k))

other_by : (o p : Option (List Past)) (b : Bool) → (b ≡ true → ⊥) → cond b p o ≡ o
other_by o p true tie = absurd (tie refl)
other_by o p false tie = refl

other_history : (h : Histories) (e : Past) (key : Key) → e.request.ask.key ≢ key → history_at (with_entry h e) key ≡ history_at h key
other_history h e key other =
    let k = e.request.ask.key in
    let es = history_at h k ++ e ∷ [] in
    ap (λ (o : Option (List Past)). unwrap_or o []) (get-insert keys_total h k es key ∙ other_by (get h key) (Some es) (eq_by_cmp key_cmp key k) (λ tie. other (sym (tied key k tie))))

-- ---- after the doubt was settled

module _ (s m : SlotState) (key : Key) where
  -- the doubt was kept as the last entry of this container, or this container has what it had
  abbrev Kept : Option Past → Type 0
  Kept doubt = (history_at m.histories key ≡ history_at s.histories key) ⊎ (history_at m.histories key ≡ with_last (history_at s.histories key) doubt)

  kept_own : (e : Past) (doubt : Option Past) → IsDoubtOf (Some e) key doubt → history_at (with_entry s.histories e) key ≡ with_last (history_at s.histories key) doubt
  kept_own e None other = other_history s.histories e key other
  kept_own e (Some d) is =
      ap (λ (k : Key). history_at (with_entry s.histories e) k) (sym is.1)
      ∙ (own_history s.histories e
      ∙ ((λ i. history_at s.histories (is.1 i) ++ e ∷ []) ∙ ap (λ (x : Past). history_at s.histories key ++ x ∷ []) (sym is.0)))

  settled_by : (d doubt : Option Past) → IsDoubtOf d key doubt → SettlesDoubtBy d s m → Kept doubt × (m.pairs ≡ s.pairs)
  settled_by None doubt is same = (inl (ap (λ (v : SlotState). history_at v.histories key) same), ap (λ (v : SlotState). v.pairs) same)
  settled_by (Some e) doubt is (inl kept) =
      (inr (ap (λ (v : SlotState). history_at v.histories key) kept ∙ kept_own e doubt is), ap (λ (v : SlotState). v.pairs) kept)
  settled_by (Some e) doubt is (inr dropped) = (inl (ap (λ (v : SlotState). history_at v.histories key) dropped), ap (λ (v : SlotState). v.pairs) dropped)

-- ---- after the request was served

unless_none : (r : Option Refusal) → unless_refused r None ≡ None
unless_none None = refl
unless_none (Some r) = refl

-- a request whose operation does not write makes no change
no_change : (pairs : Pairs) (h : Histories) (q : Asked) (t : ℕ) → writes q.ask.op ≡ false → change_now pairs h q t ≡ None
no_change pairs h q t reads =
    let z = sizes (replayed_at pairs h q.ask.key) in
    let r = refusal (current_at pairs q.ask.key.account) z q t in
    ap (λ (a : Option Act). unless_refused r (option_map (on_key q.ask.key) a)) (act_by-read z q t q.ask.op reads) ∙ unless_none r

module _ (pairs : Pairs) (h : Histories) (q : Asked) (t : ℕ) where
  after_by : (c : Option KeyedAct) (own : Option Past) → change_now pairs h q t ≡ c → IsEntryOf pairs q t own
      → (history_at (if is_some c then with_entry h (entry_of pairs q t) else h) q.ask.key ≡ history_at h q.ask.key)
      ⊎ (history_at (if is_some c then with_entry h (entry_of pairs q t) else h) q.ask.key ≡ with_last (history_at h q.ask.key) own)
  after_by None own makes is = inl refl
  after_by (Some c) None makes is = absurd (cc (makes, no_change pairs h q t is))
  after_by (Some c) (Some e) makes is = inr (own_history h (entry_of pairs q t) ∙ ap (λ (x : Past). history_at h q.ask.key ++ x ∷ []) (sym is))

  after_own : (own : Option Past) → IsEntryOf pairs q t own
      → (history_at (histories_after pairs h q t) q.ask.key ≡ history_at h q.ask.key) ⊎ (history_at (histories_after pairs h q t) q.ask.key ≡ with_last (history_at h q.ask.key) own)
  after_own own is = after_by (change_now pairs h q t) own refl is

module _ (m s' : SlotState) (q : Asked) (t : ℕ) (F : Type 0) (own : Option Past) (is_own : IsEntryOf m.pairs q t own) where
  -- the container has the entry of the request as its last one, or what it had
  abbrev Entered : Type 0
  Entered = ((history_at s'.histories q.ask.key ≡ history_at m.histories q.ask.key) ⊎ (history_at s'.histories q.ask.key ≡ with_last (history_at m.histories q.ask.key) own)) × (s'.pairs ≡ m.pairs)

  abbrev histories_next : Histories
  histories_next = histories_after m.pairs m.histories q t

  entered_next : s' ≡ record m { histories = histories_next } → Entered
  entered_next after = (
    subst (λ (h : Histories). (history_at h q.ask.key ≡ history_at m.histories q.ask.key) ⊎ (history_at h q.ask.key ≡ with_last (history_at m.histories q.ask.key) own))
        (sym (ap (λ (v : SlotState). v.histories) after)) (after_own m.pairs m.histories q t own is_own),
    ap (λ (v : SlotState). v.pairs) after,
  )

  unchanged : (history_at s'.histories q.ask.key ≡ history_at m.histories q.ask.key) → s'.pairs ≡ m.pairs → Entered
  unchanged same pairs = (inl same, pairs)

  as_it_was : s' ≡ m → Entered
  as_it_was same = unchanged (ap (λ (v : SlotState). history_at v.histories q.ask.key) same) (ap (λ (v : SlotState). v.pairs) same)

  entered : (a : Answer) → ServesBy m q t F a s' → Entered
  entered (answer.Done r) (inl served) = entered_next served.after
  entered (answer.Done r) (inr (inl busy)) = as_it_was busy.1.1
  entered (answer.Done r) (inr (inr unknown)) = unchanged (ap (λ (v : SlotState). history_at v.histories q.ask.key) unknown.1.1.1) (ap (λ (v : SlotState). v.pairs) unknown.1.1.1)
  entered (answer.Later r) served = entered_next served.0.after
  entered answer.NoMemory same = as_it_was same

-- ---- both

module _ {X : Type 0} (xs : List X) (one other : Option X) (ms ys : List X) where
  joined : (ms ≡ xs) ⊎ (ms ≡ with_last xs one) → (ys ≡ ms) ⊎ (ys ≡ with_last ms other) → IsOneOf xs one other ys
  joined (inl m) (inl y) = inl (y ∙ m)
  joined (inr m) (inl y) = inr (inl (y ∙ m))
  joined (inl m) (inr y) = inr (inr (inl (y ∙ ap (λ (l : List X). with_last l other) m)))
  joined (inr m) (inr y) = inr (inr (inr (y ∙ ap (λ (l : List X). with_last l other) m)))

module _ (s s' : SlotState) (q : Asked) (t : ℕ) (F : Type 0) (a : Answer) (doubt own : Option Past) (is_doubt : IsDoubtOf s.doubt q.ask.key doubt) (is_own : IsEntryOf s.pairs q t own) where
  abbrev Ends : Type 0
  Ends = IsOneOf (history_at s.histories q.ask.key) doubt own (history_at s'.histories q.ask.key) × (s'.pairs ≡ s.pairs)

  ends_same : s' ≡ s → Ends
  ends_same same = (inl (ap (λ (v : SlotState). history_at v.histories q.ask.key) same), ap (λ (v : SlotState). v.pairs) same)

  ends_served : (m : SlotState) → SettlesSlot s m → ServesBy m q t F a s' → Ends
  ends_served m settles serves =
      let first = settled_by s m q.ask.key s.doubt doubt is_doubt settles in
      let then_own = entered m s' q t F own (subst (λ (p : Pairs). IsEntryOf p q t own) (sym first.1) is_own) a serves in
      (joined (history_at s.histories q.ask.key) doubt own (history_at m.histories q.ask.key) (history_at s'.histories q.ask.key) first.0 then_own.0, then_own.1 ∙ first.1)

  ends : ServesOrNot s q t F a s' → Ends
  ends (inl (inl served)) = ends_served served.0 served.1.0 served.1.1
  ends (inl (inr failed)) = ends_same failed.1.1
  ends (inr none) = ends_same none.1

-- ---- what the steps of a call with a pass need

-- what a front may become
pub can_become : (s s' : SlotState) (key : Key) (q : Asked) (t : ℕ) (F : Type 0) (a : Answer) (known : ℕ) (all : List Past) → q.ask.key ≡ key → known ≡ length (history_at s.histories key) → IsReady s key q t all
    → ServesOrNot s q t F a s' → CanBecome known all (history_at s'.histories key)
can_become s s' key q t F a known all names len ready serves =
    let is_doubt = subst (λ (k : Key). IsDoubtOf s.doubt k ready.doubt) (sym names) ready.is_doubt in
    let ended = ends s s' q t F a ready.doubt ready.own is_doubt ready.is_own serves in record {
      first = history_at s.histories key;
      one = ready.doubt;
      other = ready.own;
      all_is = ready.all_is;
      known_is = len;
      becomes = subst (λ (k : Key). IsOneOf (history_at s.histories k) ready.doubt ready.own (history_at s'.histories k)) names ended.0;
    }

-- a slot keeps its key pairs
pub same_pairs : (s s' : SlotState) (key : Key) (q : Asked) (t : ℕ) (F : Type 0) (a : Answer) (all : List Past) → q.ask.key ≡ key → IsReady s key q t all → ServesOrNot s q t F a s' → s'.pairs ≡ s.pairs
same_pairs s s' key q t F a all names ready serves =
    (ends s s' q t F a ready.doubt ready.own (subst (λ (k : Key). IsDoubtOf s.doubt k ready.doubt) (sym names) ready.is_doubt) ready.is_own serves).1

-- a front that was made ready
pub ready_made : {E : Type 0} (r : Result (Unit {0}) E) (s : SlotState) (key : Key) (q : Asked) (t : ℕ) (doubt own : Option Past) (history all : List Past) → history ≡ history_at s.histories key
    → IsDoubtOf s.doubt key doubt → IsEntryOf s.pairs q t own → OnOk r (all ≡ with_last (with_last history doubt) own) → OnOk r (IsReady s key q t all)
ready_made (Ok u) s key q t doubt own history all is is_doubt is_own made = record {
  doubt = doubt;
  own = own;
  is_doubt = is_doubt;
  is_own = is_own;
  all_is = made ∙ ap (λ (l : List Past). with_last (with_last l doubt) own) is;
}
ready_made (Err e) s key q t doubt own history all is is_doubt is_own made = tt

-- what is shown then
pub shown_all : (s s' : SlotState) (key : Key) (front : List Past) (pairs : List Keys) → pairs ≡ pairs_at s.pairs key.account → s'.pairs ≡ s.pairs → IsShown (pairs_at s'.pairs key.account) key front → IsShown pairs key front
shown_all s s' key front pairs is same shown = subst (λ (ks : List Keys). IsShown ks key front) (ap (λ (p : Pairs). pairs_at p key.account) same ∙ sym is) shown

pub holds_all : (s s' : SlotState) (key : Key) (old front : List Past) (olds pairs : List Keys) → pairs ≡ pairs_at s.pairs key.account → s'.pairs ≡ s.pairs → front ≡ history_at s'.histories key
    → pass_of key front pairs ≡ pass_with (pass_of key old olds) s'
holds_all s s' key old front olds pairs is same shows = λ i. record { key = key; front = shows i; pairs = (is ∙ ap (λ (p : Pairs). pairs_at p key.account) (sym same)) i }

-- ---- lists that only get longer

true_false : true ≡ false → ⊥
true_false h = cc

longer_by : (h : Histories) (e : Past) (key : Key) (b : Bool) → eq_by_cmp key_cmp key e.request.ask.key ≡ b → IsPrefix (history_at h key) (history_at (with_entry h e) key)
longer_by h e key true tie =
    subst (λ (k : Key). IsPrefix (history_at h k) (history_at (with_entry h e) k)) (sym (tied key e.request.ask.key tie)) (e ∷ [], sym (own_history h e))
longer_by h e key false tie =
    let other : e.request.ask.key ≢ key = λ same. true_false (sym (subst (λ (k : Key). eq_by_cmp key_cmp key k ≡ true) (sym same) ((eq_by_cmp_equiv keys_total).refl key)) ∙ tie) in
    ([], append-nil (history_at h key) ∙ sym (other_history h e key other))

longer_with : (h : Histories) (e : Past) (key : Key) → IsPrefix (history_at h key) (history_at (with_entry h e) key)
longer_with h e key = longer_by h e key (eq_by_cmp key_cmp key e.request.ask.key) refl

no_longer : (h g : Histories) (key : Key) → g ≡ h → IsPrefix (history_at h key) (history_at g key)
no_longer h g key same = ([], append-nil (history_at h key) ∙ ap (λ (x : Histories). history_at x key) (sym same))

-- after a settle
pub longer_settled : (d : Option Past) (s m : SlotState) (key : Key) → SettlesDoubtBy d s m → IsPrefix (history_at s.histories key) (history_at m.histories key) × (m.pairs ≡ s.pairs)
longer_settled None s m key same = (no_longer s.histories m.histories key (ap (λ (v : SlotState). v.histories) same), ap (λ (v : SlotState). v.pairs) same)
longer_settled (Some e) s m key (inl kept) =
    (subst (λ (g : Histories). IsPrefix (history_at s.histories key) (history_at g key)) (sym (ap (λ (v : SlotState). v.histories) kept)) (longer_with s.histories e key), ap (λ (v : SlotState). v.pairs) kept)
longer_settled (Some e) s m key (inr dropped) = (no_longer s.histories m.histories key (ap (λ (v : SlotState). v.histories) dropped), ap (λ (v : SlotState). v.pairs) dropped)

longer_if : (h : Histories) (e : Past) (key : Key) (c : Option KeyedAct) → IsPrefix (history_at h key) (history_at (if is_some c then with_entry h e else h) key)
longer_if h e key None = no_longer h h key refl
longer_if h e key (Some c) = longer_with h e key

module _ (m s' : SlotState) (q : Asked) (t : ℕ) (F : Type 0) (key : Key) where
  abbrev Longer : Type 0
  Longer = IsPrefix (history_at m.histories key) (history_at s'.histories key) × (s'.pairs ≡ m.pairs)

  longer_next : s' ≡ record m { histories = histories_after m.pairs m.histories q t } → Longer
  longer_next after = (
    subst (λ (g : Histories). IsPrefix (history_at m.histories key) (history_at g key)) (sym (ap (λ (v : SlotState). v.histories) after))
        (longer_if m.histories (entry_of m.pairs q t) key (change_now m.pairs m.histories q t)),
    ap (λ (v : SlotState). v.pairs) after,
  )

  longer_same : s'.histories ≡ m.histories → s'.pairs ≡ m.pairs → Longer
  longer_same same pairs = (no_longer m.histories s'.histories key same, pairs)

  -- after a request
  pub longer_served : (a : Answer) → ServesBy m q t F a s' → Longer
  longer_served (answer.Done r) (inl served) = longer_next served.after
  longer_served (answer.Done r) (inr (inl busy)) = longer_same (ap (λ (v : SlotState). v.histories) busy.1.1) (ap (λ (v : SlotState). v.pairs) busy.1.1)
  longer_served (answer.Done r) (inr (inr unknown)) = longer_same (ap (λ (v : SlotState). v.histories) unknown.1.1.1) (ap (λ (v : SlotState). v.pairs) unknown.1.1.1)
  longer_served (answer.Later r) served = longer_next served.0.after
  longer_served answer.NoMemory same = longer_same (ap (λ (v : SlotState). v.histories) same) (ap (λ (v : SlotState). v.pairs) same)

-- the history of the request's container after the request
pub after_is : (pairs : Pairs) (h : Histories) (q : Asked) (t : ℕ) (c : Option KeyedAct)
    → history_at (if is_some c then with_entry h (entry_of pairs q t) else h) q.ask.key ≡ (if is_some c then history_at h q.ask.key ++ entry_of pairs q t ∷ [] else history_at h q.ask.key)
after_is pairs h q t None = refl
after_is pairs h q t (Some c) = own_history h (entry_of pairs q t)
