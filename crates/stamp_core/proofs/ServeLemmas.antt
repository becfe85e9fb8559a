-- Steps of a core on requests and tickets, as steps of the machine.
use Rattle.std.proofs.Common.{◌≡◌, ◌≢◌, ◌⊎◌, ◌<◌, inl, inr, ℕ, zero, suc, Bool, true, false, List, [], ◌∷◌, ◌++◌, Option, Some, None, is_some, refl, sym, ap, ◌∙◌, subst, arith, length, Ok, Err}
use Rattle.std.specs.Prelude.{IsSome, Result, if◌then◌else◌, slice_get, slice_index_or, slice_set}
use Rattle.std.specs.Option.{option_and_then}
use Rattle.std.proofs.lemmas.List.{get_or-set_same}
use Rattle.stamp_values.specs.declared.key.Key.{Key}
use Rattle.stamp_types.specs.declared.past.Past.{Past}
use Rattle.stamp_types.specs.declared.reply.Reply as replies
use Rattle.stamp_types.specs.Changes.{KeyedAct}
use Rattle.stamp_types.specs.Requests.{Asked}
use Rattle.partition_map.specs.Spans.{bound_at, slot_of}
use Rattle.stamp_model.specs.SeenContainers.{routed}
use Rattle.tickets.specs.declared.answer.Answer as answers
use Rattle.tickets.specs.declared.answer.Answer.TheVariants as answer
use Rattle.slot_state.specs.HistoryMaps.{with_entry}
use Rattle.slot_state.specs.Slots.{IsServed, SlotState, change_now, entry_of}
use Rattle.stored_slot.specs.Served as slots
use Rattle.stored_slot.specs.Served.{busy, doubting, unknown}
use Rattle.stored_slot.specs.Settled as settles
use Rattle.core_run.specs.Cores.{CoreState, StandsFor, no_slot, slot_at}
use Rattle.core_run.specs.Machine.{Answer, FetchesBy, MadeOrFails, OnSettled, Serves, SettlesDoubt, Takes}
use Rattle.core_run.specs.States.{State, slot_doubt, held_by, reply_in, served, slot_for, with_doubt, with_ticket, without_ticket}
use Rattle.core_run.specs.declared.step.Step.TheVariants as step
use Rattle.core_run.specs.declared.step.Outcome.{Outcome}
use Rattle.core_run.specs.declared.step.Outcome.TheVariants as outcome
use Rattle.core_run.specs.declared.step.StepFault.{StepFault}
use Rattle.core_run.specs.declared.step.StepFault.TheVariants as fault
use Rattle.core_run.proofs.ChangedCores.{doubt_is, same_place, set_same, set_twice, settled_core, some_change, stands_doubting, stands_same, with_slot, within}
use Rattle.core_run.proofs.CoreLemmas.{replied}
use Rattle.core_run.proofs.ServedCores.{at_place, stands_after}
use Rattle.core_run.proofs.ServiceLemmas.{served_is}
use Rattle.core_run.proofs.SoundLemmas.{same_but}
use Rattle.stamp_core.specs.CoreSteps.{AnswersSteadily, IsCalm, IsReadNow, IsServedBySlot, IsToldNow, TellsAnswer, told_answer, fetch_answer}
use Rattle.stamp_core.specs.Ranges.{HaveSpans, range_of}
use Rattle.stamp_core.specs.Tickets.{IsTicketFetched, held_reply, left_after}
use Rattle.stamp_core.proofs.RangeLemmas.{ends_there, set_spans, settled_range}

-- a slot after a request that makes no change is as it was
pub unchanged : (h new : SlotState) (q : Asked) (t : ℕ) (bound : Option Key) (r : replies.Reply) → IsServed h q t bound r new → change_now h.pairs h.histories q t ≡ None → new ≡ h
unchanged h new q t bound r is none = is.after ∙ ap (λ (o : Option KeyedAct). record h { histories = if is_some o then with_entry h.histories (entry_of h.pairs q t) else h.histories }) none

-- ---- a slot without a doubt

-- Fa and Fb say that a call of the wire failed, while the slot served the request and after it; b says so of the step
module _ (Fa Fb : Type 0) (b : Bool) (first : Fa → b ≡ true) (later : Fb → b ≡ true) where
  module _ (c : CoreState) (s : State) (stands : StandsFor c s) (q : Asked) (t : ℕ) (ends : (slot_at c.slots c.points (routed q)).to ≡ bound_at c.points (routed q)) where
    abbrev at : ℕ
    at = slot_of c.points (routed q)

    abbrev here : SlotState
    here = slot_at c.slots c.points (routed q)

    abbrev core_with : SlotState → List (Option replies.Reply) → CoreState
    core_with new tickets = record { slots = slice_set c.slots at new; points = c.points; tickets = tickets }

    abbrev Steps : Answer → SlotState → List (Option replies.Reply) → Type 0
    Steps o new tickets = (s' : State) × (MadeOrFails (step.Serve q t) s b o s' (Serves s q t b o s') × StandsFor (core_with new tickets) s')

    with_tickets : (new : SlotState) (s' : State) (tickets : List (Option replies.Reply)) → tickets ≡ c.tickets → StandsFor (with_slot c at new) s' → StandsFor (core_with new tickets) s'
    with_tickets new s' tickets same st = subst (λ (ts : List (Option replies.Reply)). StandsFor (core_with new ts) s') (sym same) st

    answered : (r : replies.Reply) (new : SlotState) → IsServed here q t here.to r new → (r ≡ reply_in s q t) × StandsFor (with_slot c at new) (served s q t)
    answered r new is =
        let own = subst (λ (bound : Option Key). IsServed here q t bound r new) ends is in
        (replied c s stands q t r new own, stands_after c s stands q t r new own)

    reply_told : (r : replies.Reply) (new : SlotState) (o : Answer) (tickets : List (Option replies.Reply)) → IsServed here q t here.to r new → o ≡ Ok (outcome.Reply r) → tickets ≡ c.tickets → Steps o new tickets
    reply_told r new o tickets is told same =
        let so = answered r new is in
        (served s q t, (inl (inl (told ∙ ap (λ (x : replies.Reply). Ok (outcome.Reply x)) so.0, refl)), with_tickets new (served s q t) tickets same so.1))

    busy_told : (new : SlotState) (o : Answer) (tickets : List (Option replies.Reply)) → b ≡ true → o ≡ Ok (outcome.Reply busy) → new ≡ here → tickets ≡ c.tickets → Steps o new tickets
    busy_told new o tickets failed told is same = (s, (inr (inl (failed, told), refl), with_tickets new s tickets same (stands_same c s stands at (within c s stands q t) new is)))

    starved_told : (new : SlotState) (o : Answer) (tickets : List (Option replies.Reply)) → o ≡ Err fault.NoMemory → new ≡ here → tickets ≡ c.tickets → Steps o new tickets
    starved_told new o tickets told is same = (s, (inr (inr told, refl), with_tickets new s tickets same (stands_same c s stands at (within c s stands q t) new is)))

    unknown_told : (new : SlotState) (o : Answer) (tickets : List (Option replies.Reply)) → b ≡ true → IsSome (change_now here.pairs here.histories q t) → o ≡ Ok (outcome.Reply unknown)
        → new ≡ doubting here q t → tickets ≡ c.tickets → Steps o new tickets
    unknown_told new o tickets failed some told is same = (
      with_doubt s (slot_for s q) (entry_of s.pairs q t),
      (
        inl (inr (inr (failed, (some_change c s stands q t some, (told, refl))))),
        with_tickets new (with_doubt s (slot_for s q) (entry_of s.pairs q t)) tickets same
            (subst (λ (h : SlotState). StandsFor (with_slot c at h) (with_doubt s (slot_for s q) (entry_of s.pairs q t))) (sym is) (stands_doubting c s stands q t some)),
      ),
    )

    ticket_told : (r : replies.Reply) (new : SlotState) (n : ℕ) (tickets : List (Option replies.Reply)) → IsServed here q t here.to r new → n ≡ length c.tickets → tickets ≡ c.tickets ++ Some r ∷ []
        → Steps (Ok (outcome.Later n)) new tickets
    ticket_told r new n tickets is number held =
        let so = answered r new is in (
          with_ticket (served s q t) (reply_in s q t),
          (
            inl (inr (inl (ap (λ (m : ℕ). Ok (outcome.Later m)) (number ∙ ap length (sym stands.tickets)), refl))),
            record {
              points = so.1.points;
              tickets = (λ i. stands.tickets i ++ Some (sym so.0 i) ∷ []) ∙ sym held;
              counted = so.1.counted;
              doubts = so.1.doubts;
              sound = same_but (served s q t) (with_ticket (served s q t) (reply_in s q t)) refl refl refl so.1.sound;
              pairs = so.1.pairs;
              parts = so.1.parts;
            },
          ),
        )

    later_told : (r : replies.Reply) (new : SlotState) → IsServed here q t here.to r new × (change_now here.pairs here.histories q t ≡ None) → (o : Answer) (tickets : List (Option replies.Reply))
        → TellsAnswer (answer.Later r) c.tickets Fb o tickets → Steps o new tickets
    later_told r new p (Ok (outcome.Later n)) tickets tells = ticket_told r new n tickets p.0 tells.0 tells.1
    later_told r new p (Ok (outcome.Reply o)) tickets tells = elim tells.0 [
      | inl is ↦ reply_told r new (Ok (outcome.Reply o)) tickets p.0 (ap (λ (x : replies.Reply). Ok (outcome.Reply x)) is) tells.1
      | inr is ↦ busy_told new (Ok (outcome.Reply o)) tickets (later is.0) (ap (λ (x : replies.Reply). Ok (outcome.Reply x)) is.1) (unchanged here new q t here.to r p.0 p.1) tells.1
    ]
    later_told r new p (Err fault.NoMemory) tickets tells = starved_told new (Err fault.NoMemory) tickets refl (unchanged here new q t here.to r p.0 p.1) tells
    later_told r new p other tickets tells = absurd tells

    pub told_by : (a : answers.Answer) (new : SlotState) → slots.ServesBy here q t Fa a new → (o : Answer) (tickets : List (Option replies.Reply)) → TellsAnswer a c.tickets Fb o tickets → Steps o new tickets
    told_by (answer.Done r) new (inl is) o tickets tells = reply_told r new o tickets is tells.0 tells.1
    told_by (answer.Done r) new (inr (inl p)) o tickets tells = busy_told new o tickets (first p.0) (tells.0 ∙ ap (λ (x : replies.Reply). Ok (outcome.Reply x)) p.1.0) p.1.1 tells.1
    told_by (answer.Done r) new (inr (inr p)) o tickets tells = unknown_told new o tickets (first p.0) p.1.0 (tells.0 ∙ ap (λ (x : replies.Reply). Ok (outcome.Reply x)) p.1.1.0) p.1.1.1 tells.1
    told_by (answer.Later r) new p o tickets tells = later_told r new p o tickets tells
    told_by answer.NoMemory new is o tickets tells = starved_told new o tickets tells.0 is tells.1

  -- ---- a slot that settles first

  module _ (c : CoreState) (have : HaveSpans c.slots c.points) (s : State) (stands : StandsFor c s) (q : Asked) (t : ℕ) (a : answers.Answer) (o : Answer) (tickets : List (Option replies.Reply))
      (tells : TellsAnswer a c.tickets Fb o tickets) where
    abbrev place : ℕ
    place = slot_of c.points (routed q)

    abbrev old : SlotState
    old = slot_at c.slots c.points (routed q)

    low : place < length c.slots
    low = within c s stands q t

    abbrev Takes_to : SlotState → Type 0
    Takes_to new = (s' : State) × (OnSettled (step.Serve q t) s place b o s' (λ m. Serves m q t b o s') × StandsFor (record { slots = slice_set c.slots place new; points = c.points; tickets = tickets }) s')

    after_settle : (h new : SlotState) → settles.SettlesSlot old h → slots.ServesBy h q t Fa a new → Takes_to new
    after_settle h new settled by =
        let m = settled_core c s stands place low h settled in
        let its : slot_at (slice_set c.slots place h) c.points (routed q) ≡ h = get_or-set_same c.slots place h no_slot low in
        let ends = ap (λ (x : SlotState). x.to) its ∙ ap (λ r. r.1.0) (settled_range old h settled) ∙ ends_there c.slots c.points have (routed q) in
        let made = told_by (with_slot c place h) m.0 m.1.1 q t ends a new (subst (λ (x : SlotState). slots.ServesBy x q t Fa a new) (sym its) by) o tickets tells in (
          made.0,
          (
            inl (m.0, (m.1.0, made.1.0)),
            subst (λ (hs : List SlotState). StandsFor (record { slots = hs; points = c.points; tickets = tickets }) made.0) (set_twice c.slots place h new) made.1.1,
          ),
        )

    some_doubt : IsSome old.doubt → IsSome (slot_doubt s place)
    some_doubt some = subst (λ (x : Option Past). IsSome x) (sym (doubt_is c s stands place low)) some

    left : (new : SlotState) → new ≡ old → tickets ≡ c.tickets → StandsFor (record { slots = slice_set c.slots place new; points = c.points; tickets = tickets }) s
    left new is same = subst (λ (ts : List (Option replies.Reply)). StandsFor (record { slots = slice_set c.slots place new; points = c.points; tickets = ts }) s) (sym same) (stands_same c s stands place low new is)

    not_settled : (x : answers.Answer) (new : SlotState) → IsSome old.doubt → slots.FailsAnswer Fa x → TellsAnswer x c.tickets Fb o tickets → new ≡ old → Takes_to new
    not_settled (answer.Done r) new some fails told is =
        (s, (inr (some_doubt some, (inl (first fails.0, told.0 ∙ ap (λ (x : replies.Reply). Ok (outcome.Reply x)) fails.1), refl)), left new is told.1))
    not_settled (answer.Later r) new some fails told is = absurd fails
    not_settled answer.NoMemory new some fails told is = (s, (inr (some_doubt some, (inr told.0, refl)), left new is told.1))

    served_at : (new : SlotState) → slots.SlotServes old q t Fa a new → Takes_to new
    served_at new (inl p) = after_settle p.0 new p.1.0 p.1.1
    served_at new (inr p) = not_settled a new p.0 p.1.0 tells p.1.1

    pub serve_step : (slots' : List SlotState) → IsServedBySlot c.slots c.points q t Fa a slots'
        → (s' : State) × (Takes s (step.Serve q t) b o s' × StandsFor (record { slots = slots'; points = c.points; tickets = tickets }) s')
    serve_step slots' is =
        let made = served_at is.0 is.1.0 in (
          made.0,
          (
            subst (λ (i : ℕ). OnSettled (step.Serve q t) s i b o made.0 (λ m. Serves m q t b o made.0)) (sym (same_place c s stands q t)) made.1.0,
            subst (λ (hs : List SlotState). StandsFor (record { slots = hs; points = c.points; tickets = tickets }) made.0) (sym is.1.1) made.1.1,
          ),
        )

  -- the step; c is the value that contracts see
  pub serve_at_core : (c seen : CoreState) → c ≡ seen → HaveSpans c.slots c.points → (q : Asked) (t : ℕ) (a : answers.Answer) (slots' : List SlotState) (o : Answer) (tickets : List (Option replies.Reply))
      → IsServedBySlot c.slots c.points q t Fa a slots' → TellsAnswer a c.tickets Fb o tickets → (s : State) → StandsFor seen s
      → (s' : State) × (Takes s (step.Serve q t) b o s' × StandsFor (record { slots = slots'; points = c.points; tickets = tickets }) s')
  serve_at_core c seen same have q t a slots' o tickets is tells s stands =
      serve_step c have s (subst (λ (x : CoreState). StandsFor x s) (sym same) stands) q t a o tickets tells slots' is

-- ---- a reply that is told at once

module _ {E : Type 0} where
  -- a reply at once, as what a step tells
  pub told_now : (F : Type 0) (a : answers.Answer) (tickets : List (Option replies.Reply)) (r : Result replies.Reply E) → IsToldNow a F r → TellsAnswer a tickets F (told_answer r) tickets
  told_now F (answer.Done r) tickets (Ok o) is = (ap (λ (x : replies.Reply). Ok (outcome.Reply x)) is, refl)
  told_now F (answer.Done r) tickets (Err e) is = absurd is
  told_now F (answer.Later r) tickets (Ok o) is = (is, refl)
  told_now F (answer.Later r) tickets (Err e) is = refl
  told_now F answer.NoMemory tickets (Ok o) is = absurd is
  told_now F answer.NoMemory tickets (Err e) is = (refl, refl)

-- ---- no doubt, and no call that fails

module _ (Fa Fb : Type 0) (never : Fa → ⊥) (never_later : Fb → ⊥) where
  some_none : (o : Option Past) → o ≡ None → IsSome o → ⊥
  some_none None is some = cc
  some_none (Some e) is some = cc

  settled_is : (h m : SlotState) → h.doubt ≡ None → settles.SettlesSlot h m → m ≡ h
  settled_is h m calm is = by h.doubt calm is
    where
      by : (o : Option Past) → o ≡ None → settles.SettlesDoubtBy o h m → m ≡ h
      by None calm is = is
      by (Some e) calm is = absurd (some_none (Some e) calm refl)

  -- the slot is not in doubt after the request
  stays_calm : (h new : SlotState) (q : Asked) (t : ℕ) (a : answers.Answer) → h.doubt ≡ None → slots.SlotServes h q t Fa a new → new.doubt ≡ None
  stays_calm h new q t a calm (inr p) = absurd (some_none h.doubt calm p.0)
  stays_calm h new q t a calm (inl p) = by a p.1.1
    where
      its : p.0.doubt ≡ None
      its = ap (λ (x : SlotState). x.doubt) (settled_is h p.0 calm p.1.0) ∙ calm

      by : (x : answers.Answer) → slots.ServesBy p.0 q t Fa x new → new.doubt ≡ None
      by (answer.Done r) (inl is) = ap (λ (x : SlotState). x.doubt) is.after ∙ its
      by (answer.Done r) (inr (inl is)) = absurd (never is.0)
      by (answer.Done r) (inr (inr is)) = absurd (never is.0)
      by (answer.Later r) is = ap (λ (x : SlotState). x.doubt) is.0.after ∙ its
      by answer.NoMemory is = ap (λ (x : SlotState). x.doubt) is ∙ its

  -- if no reply is told, the slot is as it was
  stays : {E : Type 0} (e : E) (h new : SlotState) (q : Asked) (t : ℕ) (a : answers.Answer) → h.doubt ≡ None → slots.SlotServes h q t Fa a new → IsToldNow {E = E} a Fb (Err e) → new ≡ h
  stays e h new q t a calm (inr p) told = absurd (some_none h.doubt calm p.0)
  stays {E} e h new q t a calm (inl p) told = by a p.1.1 told
    where
      its : p.0 ≡ h
      its = settled_is h p.0 calm p.1.0

      by : (x : answers.Answer) → slots.ServesBy p.0 q t Fa x new → IsToldNow {E = E} x Fb (Err e) → new ≡ h
      by (answer.Done r) is told = absurd told
      by (answer.Later r) is told = unchanged p.0 new q t p.0.to r is.0 is.1 ∙ its
      by answer.NoMemory is told = is ∙ its

  module _ (c seen : CoreState) (same : c ≡ seen) (have : HaveSpans c.slots c.points) (q : Asked) (t : ℕ) (a : answers.Answer) (slots' : List SlotState)
      (is : IsServedBySlot c.slots c.points q t Fa a slots') where
    abbrev after : CoreState
    after = record { slots = slots'; points = c.points; tickets = c.tickets }

    own_calm : IsCalm seen → IsCalm c
    own_calm calm = subst IsCalm (sym same) calm

    calm_after : slot_of c.points (routed q) < length c.slots → IsCalm c → IsCalm after
    calm_after within calm n =
        ap (λ (hs : List SlotState). (slice_index_or hs n no_slot).doubt) is.1.1
        ∙ at_place c.slots (slot_of c.points (routed q)) is.0 within (λ m h. h.doubt ≡ None) (stays_calm (slot_at c.slots c.points (routed q)) is.0 q t a (calm (slot_of c.points (routed q))) is.1.0) (λ m other. calm m) n

    pub steady : {E : Type 0} → slot_of c.points (routed q) < length c.slots → (r : Result replies.Reply E) → IsToldNow a Fb r → AnswersSteadily seen q t r after
    steady {E} inside (Ok r) told = λ calm. (calm_after inside (own_calm calm), replies calm)
      where
        replies : IsCalm seen → (s : State) → StandsFor seen s → (r ≡ reply_in s q t) × StandsFor after (served s q t)
        replies calm s stands =
            let own = subst (λ (x : CoreState). StandsFor x s) (sym same) stands in
            let made = serve_step Fa Fb false (λ f. absurd (never f)) (λ f. absurd (never_later f)) c have s own q t a (Ok (outcome.Reply r)) c.tickets (told_now {E = E} Fb a c.tickets (Ok r) told) slots' is in
            let none : slot_doubt s (slot_for s q) ≡ None = ap (slot_doubt s) (same_place c s own q t) ∙ doubt_is c s own (slot_of c.points (routed q)) inside ∙ own_calm calm (slot_of c.points (routed q)) in
            let so = served_is s made.0 q t r none made.1.0 in
            (so.0, subst (λ (x : State). StandsFor after x) so.1 made.1.1)
    steady inside (Err e) told = λ calm. (λ i. record { slots = back calm i; points = c.points; tickets = c.tickets }) ∙ same
      where
        back : IsCalm seen → slots' ≡ c.slots
        back calm =
            is.1.1
            ∙ ap (slice_set c.slots (slot_of c.points (routed q))) (stays e (slot_at c.slots c.points (routed q)) is.0 q t a (own_calm calm (slot_of c.points (routed q))) is.1.0 told)
            ∙ set_same c.slots (slot_of c.points (routed q)) no_slot

-- ---- tickets

fetches : (c : CoreState) (s : State) → StandsFor c s → (n : ℕ) → held_by s n ≡ held_reply c.tickets n
fetches c s stands n = ap (λ (ts : List (Option replies.Reply)). held_reply ts n) stands.tickets

module _ (F : Type 0) (b : Bool) (failed : F → b ≡ true) (c : CoreState) (n : ℕ) (s : State) (stands : StandsFor c s) where
  abbrev Fetched : Result replies.Reply StepFault → List (Option replies.Reply) → Type 0
  Fetched r tickets = (s' : State) × (Takes s (step.Fetch n) b (fetch_answer r) s' × StandsFor (record { slots = c.slots; points = c.points; tickets = tickets }) s')

  by_held : (o : Option replies.Reply) (r : Answer) (s' : State) → held_reply c.tickets n ≡ o → FetchesBy o s n b r s' → Takes s (step.Fetch n) b r s'
  by_held o r s' is by = subst (λ (x : Option replies.Reply). FetchesBy x s n b r s') (sym (fetches c s stands n ∙ is)) by

  fails : (o : Option replies.Reply) (r : Answer) → held_reply c.tickets n ≡ o → IsSome o → ((b ≡ true) × (r ≡ Err fault.Unreachable)) ⊎ (r ≡ Err fault.NoMemory) → Takes s (step.Fetch n) b r s
  fails None r is some why = absurd (some_none_reply None refl some)
    where
      some_none_reply : (o : Option replies.Reply) → o ≡ None → IsSome o → ⊥
      some_none_reply None is some = cc
      some_none_reply (Some e) is some = cc
  fails (Some o) r is some why = by_held (Some o) r s is (inr (why, refl))

  ended : (o : replies.Reply) → held_reply c.tickets n ≡ Some o → Fetched (Ok o) (slice_set c.tickets n None)
  ended o is = (
    without_ticket s n,
    (
      by_held (Some o) (Ok (outcome.Reply o)) (without_ticket s n) is (inl (refl, refl)),
      record {
        points = stands.points;
        tickets = ap (λ (ts : List (Option replies.Reply)). slice_set ts n None) stands.tickets;
        counted = stands.counted;
        doubts = stands.doubts;
        sound = same_but s (without_ticket s n) refl refl refl stands.sound;
        pairs = stands.pairs;
        parts = stands.parts;
      },
    ),
  )

  fetched_by : (r : Result replies.Reply StepFault) (new : Option replies.Reply) → IsTicketFetched (held_reply c.tickets n) F r new → Fetched r (left_after r c.tickets n)
  fetched_by (Ok o) new is = ended o is.0
  fetched_by (Err fault.NoSuchTicket) new is = (s, (by_held None (Err fault.NoSuchTicket) s is.0 (refl, refl), stands))
  fetched_by (Err fault.Unreachable) new is = (s, (fails (held_reply c.tickets n) (Err fault.Unreachable) refl is.0 (inl (failed is.1.0, refl)), stands))
  fetched_by (Err fault.NoMemory) new is = (s, (fails (held_reply c.tickets n) (Err fault.NoMemory) refl is.0 (inr refl), stands))
  fetched_by other new is = absurd is

  pub fetch_step : (r : Result replies.Reply StepFault) (new : Option replies.Reply) (tickets : List (Option replies.Reply)) → IsTicketFetched (held_reply c.tickets n) F r new → tickets ≡ left_after r c.tickets n → Fetched r tickets
  fetch_step r new tickets is left = subst (λ (ts : List (Option replies.Reply)). Fetched r ts) (sym left) (fetched_by r new is)

-- the step; c is the value that contracts see
pub fetch_at_core : (F : Type 0) (b : Bool) → (F → b ≡ true) → (c seen : CoreState) → c ≡ seen → (n : ℕ) (r : Result replies.Reply StepFault) (new : Option replies.Reply) (tickets : List (Option replies.Reply)) (o : Answer)
    → IsTicketFetched (held_reply c.tickets n) F r new → tickets ≡ left_after r c.tickets n → o ≡ fetch_answer r → (s : State) → StandsFor seen s
    → (s' : State) × (Takes s (step.Fetch n) b o s' × StandsFor (record { slots = c.slots; points = c.points; tickets = tickets }) s')
fetch_at_core F b failed c seen same n r new tickets o is left told s stands =
    subst (λ (x : Answer). (s' : State) × (Takes s (step.Fetch n) b x s' × StandsFor (record { slots = c.slots; points = c.points; tickets = tickets }) s')) (sym told)
    (fetch_step F b failed c n s (subst (λ (x : CoreState). StandsFor x s) (sym same) stands) r new tickets is left)

-- ---- the slot of a request

-- within a list no default is read
pub get_any : (xs : List SlotState) (i : ℕ) (d e : SlotState) → i < length xs → slice_index_or xs i d ≡ slice_index_or xs i e
get_any [] i d e low = absurd (omega (arith, low))
get_any (x ∷ xs) zero d e low = refl
get_any (x ∷ xs) (suc i) d e low = get_any xs i d e (omega (arith, low))

-- a request leaves the range of its slot
pub served_range : (F : Type 0) (h new : SlotState) (q : Asked) (t : ℕ) (a : answers.Answer) → slots.SlotServes h q t F a new → range_of new ≡ range_of h
served_range F h new q t a (inr p) = ap range_of p.1.1
served_range F h new q t a (inl p) = by a p.1.1 ∙ settled_range h p.0 p.1.0
  where
    by : (x : answers.Answer) → slots.ServesBy p.0 q t F x new → range_of new ≡ range_of p.0
    by (answer.Done r) (inl is) = ap range_of is.after
    by (answer.Done r) (inr (inl is)) = ap range_of is.1.1
    by (answer.Done r) (inr (inr is)) = ap range_of is.1.1.1
    by (answer.Later r) is = ap range_of is.0.after
    by answer.NoMemory is = ap range_of is

-- a request for which memory ran out before its slot was called
starved_by : (F : Type 0) (h : SlotState) (q : Asked) (t : ℕ) (o : Option Past) → h.doubt ≡ o → slots.SlotServes h q t F answer.NoMemory h
starved_by F h q t None none = inl (h, (subst (λ (x : Option Past). settles.SettlesDoubtBy x h h) (sym none) refl, refl))
starved_by F h q t (Some e) some = inr (subst (λ (x : Option Past). IsSome x) (sym some) refl, (tt, refl))

pub starved : (F : Type 0) (hs : List SlotState) (points : List Key) (q : Asked) (t : ℕ) → IsServedBySlot hs points q t F answer.NoMemory hs
starved F hs points q t =
    (slot_at hs points (routed q), (starved_by F (slot_at hs points (routed q)) q t (slot_at hs points (routed q)).doubt refl, sym (set_same hs (slot_of points (routed q)) no_slot)))

module _ (hs : List SlotState) (points : List Key) (have : HaveSpans hs points) (q : Asked) (at : ℕ) (place : at ≡ slot_of points (routed q)) (old d : SlotState) (was : old ≡ slice_index_or hs at d) (low : at < length hs) where
  pub its_slot : old ≡ slot_at hs points (routed q)
  its_slot = was ∙ get_any hs at d no_slot low ∙ ap (λ (n : ℕ). slice_index_or hs n no_slot) place

  module _ (F : Type 0) (t : ℕ) (a : answers.Answer) (new : SlotState) (serves : slots.SlotServes old q t F a new) where
    pub served_there : IsServedBySlot hs points q t F a (slice_set hs at new)
    served_there = (new, (subst (λ (h : SlotState). slots.SlotServes h q t F a new) its_slot serves, ap (λ (n : ℕ). slice_set hs n new) place))

    pub spans_kept : HaveSpans (slice_set hs at new) points
    spans_kept = set_spans hs points have at new d (served_range F old new q t a serves ∙ ap range_of was)
