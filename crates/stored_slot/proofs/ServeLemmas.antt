-- What a slot answers, from what its parts answered.
use Rattle.std.proofs.Common.{◌≡◌, ◌∙◌, inl, inr, arith, ℕ, Bool, true, false, cond, List, Option, Some, None, IsSome, is_some, Result, Ok, Err, refl, sym, ap, subst}
use Rattle.std.specs.Arc.{arc_value}
use Rattle.extent_node.specs.Faults.{Calls}
use Rattle.extent_seal.specs.Counting.{Grows}
use Rattle.stamp_values.specs.declared.key.Key.{Key}
use Rattle.stamp_types.specs.declared.past.Past.{Past}
use Rattle.stamp_types.specs.declared.refusal.Refusal.{Refusal}
use Rattle.stamp_types.specs.declared.reply.Reply.{Reply}
use Rattle.stamp_types.specs.Changes.{KeyedAct}
use Rattle.stamp_types.specs.Replies.{denied}
use Rattle.stamp_types.specs.Requests.{Asked}
use Rattle.access_rules.specs.declared.keys.Keys.{Keys}
use Rattle.stream_manager.specs.declared.faults.StoredFault.{StoredFault}
use Rattle.stream_manager.specs.declared.faults.StoredFault.TheVariants as stored
use Rattle.partition_stream.specs.declared.faults.TakeFault.{TakeFault}
use Rattle.partition_stream.specs.declared.faults.TakeFault.TheVariants as fault
use Rattle.range_rows.specs.RequestChanges.{change_of}
use Rattle.range_rows.specs.SentContent.{sizes}
use Rattle.stamp_model.specs.Effects.{unless_refused}
use Rattle.stamp_model.specs.Histories.{pair_of}
use Rattle.stamp_model.specs.Refusals.{refusal}
use Rattle.stamp_model.specs.SeenContainers.{is_between}
use Rattle.stamp_model.proofs.ReplyLemmas.{denied-names}
use Rattle.tickets.specs.Answers.{IsAnswer, IsAnswerIf}
use Rattle.tickets.specs.declared.answer.Answer.{Answer}
use Rattle.tickets.specs.declared.answer.Answer.TheVariants as answer
use Rattle.stored_rows.specs.Counting.{FailsStored, FailsTake}
use Rattle.stored_rows.specs.States.{Stored, own_doubt_of}
use Rattle.stored_rows.proofs.CountLemmas.{grows_twice}
use Rattle.slot_state.specs.HistoryMaps.{Histories, with_entry}
use Rattle.slot_state.specs.Pairs.{Pairs, current_at, pairs_at}
use Rattle.slot_state.specs.Slots as slots
use Rattle.slot_state.specs.Slots.{IsReplyFor, IsServed, SlotState, change_now, entry_of, replayed_at, slot_after}
use Rattle.slot_state.proofs.PairLemmas.{pair_of-current}
use Rattle.stored_slot.specs.Changes.{slot_taken}
use Rattle.stored_slot.specs.Meanings.{AreOfStreams, AreReplays, HasDoubt, MakesChange, NothingRefuses, slot_with}
use Rattle.stored_slot.specs.Parts.{AreOfSlot, AreSettled, slot_of}
use Rattle.stored_slot.specs.Served.{AnswersUnrefused, FailsAnswer, Faulted, IsFailed, IsTakenAnswer, ReadsAnswer, ServesBy, ServesUnrefused, SlotServes, busy, unknown}
use Rattle.stored_slot.specs.Settled.{LeavesSettled, SettlesDoubtBy, SettlesSlot}
use Rattle.stored_slot.specs.declared.parts.SlotParts.{SlotParts}

not_later : true ≡ false → ⊥
not_later h = cc

-- ---- a request that makes a change

module _ (pairs : Pairs) (h : Histories) (s : Stored) (e : Past) (c : KeyedAct) (F : Type 0) (are : AreReplays pairs h s) (makes : MakesChange pairs h s e c)
    (now : e ≡ entry_of pairs e.request e.moment) where
  abbrev before : SlotState
  before = slot_with pairs h s None

  abbrev own_pairs : List Keys
  own_pairs = pairs_at pairs e.request.ask.key.account

  current_is : pair_of own_pairs e.epoch ≡ current_at pairs e.request.ask.key.account
  current_is = ap (λ (x : Past). pair_of own_pairs x.epoch) now ∙ pair_of-current pairs e.request.ask.key.account are.numbered

  changes : change_now pairs h e.request e.moment ≡ Some c
  changes =
      (λ i. unless_refused (refusal (sym current_is i) (sizes (replayed_at pairs h e.request.ask.key)) e.request e.moment) (change_of (sizes (replayed_at pairs h e.request.ask.key)) e.request e.moment))
      ∙ (λ i. unless_refused (makes.allowed i) (makes.makes i))

  after_is : slot_taken (Ok tt) before e ≡ slot_after before e.request e.moment
  after_is =
      ap (λ (x : Past). record before { histories = with_entry h x }) now
      ∙ sym (ap (λ (o : Option KeyedAct). record before { histories = cond (is_some o) (with_entry h (entry_of pairs e.request e.moment)) h }) changes)

  -- the change is made
  pub change_done : (frame : Reply) (s' : SlotState) → IsReplyFor pairs h e.request e.moment s.range.to frame → s' ≡ slot_taken (Ok tt) before e
      → ServesBy before e.request e.moment F (answer.Done frame) s'
  change_done frame s' told is = inl (record { reply = told; after = is ∙ after_is })

  -- the change is in doubt
  pub change_doubted : (r : Reply) (s' : SlotState) → F → r ≡ unknown → s' ≡ slot_taken (Err fault.Doubt) before e → ServesBy before e.request e.moment F (answer.Done r) s'
  change_doubted r s' faulted is same = inr (inr (faulted, (ap is_some changes, (is, same ∙ ap (λ (x : Past). record before { doubt = Some x }) now))))

  -- nothing refuses the request
  pub change_unrefused : NothingRefuses pairs h e.request e.moment
  change_unrefused names = (λ i. refusal (sym current_is i) (sizes (replayed_at pairs h e.request.ask.key)) e.request e.moment) ∙ makes.allowed

-- ---- a request that changes nothing

module _ (s : SlotState) (q : Asked) (t : ℕ) (F : Type 0) where
  -- nodes were out of reach
  pub busy_told : (a : Answer) (s' : SlotState) → F → IsAnswer a true busy → s' ≡ s → ServesBy s q t F a s'
  busy_told (answer.Done r) s' faulted is same = inr (inl (faulted, (is.0, same)))
  busy_told (answer.Later r) s' faulted is same = absurd (not_later is.1)
  busy_told answer.NoMemory s' faulted is same = same

  stays : (s' : SlotState) → change_now s.pairs s.histories q t ≡ None → s' ≡ s → s' ≡ slot_after s q t
  stays s' none same =
      same ∙ sym (ap (λ (o : Option KeyedAct). record s { histories = cond (is_some o) (with_entry s.histories (entry_of s.pairs q t)) s.histories }) none)

  told : (r reply : Reply) (s' : SlotState) → r ≡ reply → IsReplyFor s.pairs s.histories q t s.to reply → change_now s.pairs s.histories q t ≡ None → s' ≡ s → IsServed s q t s.to r s'
  told r reply s' is model none same = record {
    reply = λ w agrees. is ∙ model w agrees;
    after = stays s' none same;
  }

  -- the request is refused
  pub denial_told : (a : Answer) (r : Refusal) (s' : SlotState) → IsAnswer a true (denied r) → IsReplyFor s.pairs s.histories q t s.to (denied r) → change_now s.pairs s.histories q t ≡ None
      → s' ≡ s → ServesBy s q t F a s'
  denial_told (answer.Done r') r s' is model none same = inl (told r' (denied r) s' is.0 model none same)
  denial_told (answer.Later r') r s' is model none same = absurd (not_later is.1)
  denial_told answer.NoMemory r s' is model none same = same

  -- the request reads
  pub read_told : (a : Answer) (reply : Reply) (s' : SlotState) → ReadsAnswer F reply a → IsReplyFor s.pairs s.histories q t s.to reply → change_now s.pairs s.histories q t ≡ None → s' ≡ s
      → ServesBy s q t F a s'
  read_told (answer.Done r) reply s' (inl is) model none same = inl (told r reply s' is model none same)
  read_told (answer.Done r) reply s' (inr failed) model none same = inr (inl (failed.0, (failed.1, same)))
  read_told (answer.Later r) reply s' is model none same = (told r reply s' is model none same, none)
  read_told answer.NoMemory reply s' is model none same = same

-- ---- faults

-- a fault that came after others
pub later_fault : (a b c : Calls) → Grows a b → Faulted b c → Faulted a c
later_fault a b c grown faulted = omega (arith, grown, faulted)

pub failed_fault : (f : StoredFault) (a : Answer) (old new : Calls) → FailsStored {T = Unit {0}} (Err f) old new → IsFailed a f → FailsAnswer (Faulted old new) a
failed_fault stored.Busy (answer.Done r) old new counted is = (counted.0, is.0)
failed_fault stored.Busy (answer.Later r) old new counted is = absurd (not_later is.1)
failed_fault stored.Busy answer.NoMemory old new counted is = tt
failed_fault stored.NoMemory (answer.Done r) old new counted is = cc
failed_fault stored.NoMemory (answer.Later r) old new counted is = cc
failed_fault stored.NoMemory answer.NoMemory old new counted is = tt

-- a request that failed before it was served
pub failed_told : (s : SlotState) (q : Asked) (t : ℕ) (F : Type 0) (a : Answer) (s' : SlotState) → FailsAnswer F a → s' ≡ s → ServesBy s q t F a s'
failed_told s q t F (answer.Done r) s' failed same = inr (inl (failed.0, (failed.1, same)))
failed_told s q t F (answer.Later r) s' failed same = absurd failed
failed_told s q t F answer.NoMemory s' failed same = same

-- a request that is served after other calls
pub served_later : (s : SlotState) (q : Asked) (t : ℕ) (F G : Type 0) (a : Answer) (s' : SlotState) → (F → G) → ServesBy s q t F a s' → ServesBy s q t G a s'
served_later s q t F G (answer.Done r) s' later (inl is) = inl is
served_later s q t F G (answer.Done r) s' later (inr (inl failed)) = inr (inl (later failed.0, failed.1))
served_later s q t F G (answer.Done r) s' later (inr (inr doubted)) = inr (inr (later doubted.0, doubted.1))
served_later s q t F G (answer.Later r) s' later is = is
served_later s q t F G answer.NoMemory s' later is = is

-- what grew in a call, whatever it answered
pub stored_grows : {T : Type 0} (r : Result T StoredFault) (old new : Calls) → FailsStored r old new → Grows old new
stored_grows (Ok x) old new counted = counted
stored_grows (Err stored.Busy) old new counted = counted.1
stored_grows (Err stored.NoMemory) old new counted = counted

pub take_grows : (r : Result (Unit {0}) TakeFault) (old new : Calls) → FailsTake r old new → Grows old new
take_grows (Ok u) old new counted = counted
take_grows (Err fault.Busy) old new counted = counted.1
take_grows (Err fault.Doubt) old new counted = counted.1
take_grows (Err fault.NoMemory) old new counted = counted

-- a change that was tried is answered
pub taken_told : (pairs : Pairs) (h : Histories) (s : Stored) (e : Past) (c : KeyedAct) (old new : Calls) → AreReplays pairs h s → MakesChange pairs h s e c
    → e ≡ entry_of pairs e.request e.moment → (frame : Reply) (a : Answer) (s' : SlotState) (r : Result (Unit {0}) TakeFault)
    → IsReplyFor pairs h e.request e.moment s.range.to frame → s' ≡ slot_taken r (slot_with pairs h s None) e → FailsTake r old new → IsTakenAnswer r frame a
    → ServesBy (slot_with pairs h s None) e.request e.moment (Faulted old new) a s'
taken_told pairs h s e c old new are makes now frame a s' (Ok u) told same counted is =
    subst (λ (a : Answer). ServesBy (slot_with pairs h s None) e.request e.moment (Faulted old new) a s') (sym is)
    (change_done pairs h s e c (Faulted old new) are makes now frame s' told same)
taken_told pairs h s e c old new are makes now frame a s' (Err fault.Doubt) told same counted is =
    subst (λ (a : Answer). ServesBy (slot_with pairs h s None) e.request e.moment (Faulted old new) a s') (sym is)
    (change_doubted pairs h s e c (Faulted old new) are makes now unknown s' counted.0 refl same)
taken_told pairs h s e c old new are makes now frame a s' (Err fault.Busy) told same counted is =
    busy_told (slot_with pairs h s None) e.request e.moment (Faulted old new) a s' counted.0 is same
taken_told pairs h s e c old new are makes now frame a s' (Err fault.NoMemory) told same counted is =
    subst (λ (a : Answer). ServesBy (slot_with pairs h s None) e.request e.moment (Faulted old new) a s') (sym is) same

-- ---- an answer that lets its request in

module _ (s : SlotState) (q : Asked) (t : ℕ) where
  -- whatever a request is answered that nothing refuses
  pub answers_free : NothingRefuses s.pairs s.histories q t → (a : Answer) → AnswersUnrefused s q t a
  answers_free free (answer.Done r) = λ none. free
  answers_free free (answer.Later r) = free
  answers_free free answer.NoMemory = tt

  -- a denial lets no request in
  pub denial_refuses : (a : Answer) (r : Refusal) → IsAnswer a true (denied r) → AnswersUnrefused s q t a
  denial_refuses (answer.Done r') r is = λ none. let f : Some r.rule ≡ None = sym (denied-names r) ∙ sym (ap (λ (x : Reply). x.rule) is.0) ∙ none in cc
  denial_refuses (answer.Later r') r is = absurd (not_later is.1)
  denial_refuses answer.NoMemory r is = tt

-- ---- a slot without a doubt

-- a change that was tried on a slot without a doubt is answered
pub taken_served : (pairs : Pairs) (h : Histories) (s : Stored) (d : Option Past) (e : Past) (c : KeyedAct) (old new : Calls) → d ≡ None → AreReplays pairs h s → MakesChange pairs h s e c
    → e ≡ entry_of pairs e.request e.moment → (frame : Reply) (a : Answer) (s' : SlotState) (r : Result (Unit {0}) TakeFault)
    → IsReplyFor pairs h e.request e.moment s.range.to frame → s' ≡ slot_taken r (slot_with pairs h s d) e → FailsTake r old new → IsTakenAnswer r frame a
    → ServesUnrefused (slot_with pairs h s d) e.request e.moment (Faulted old new) a s'
taken_served pairs h s d e c old new none are makes now frame a s' r told same counted is = (
  subst (λ (x : Option Past). ServesBy (slot_with pairs h s x) e.request e.moment (Faulted old new) a s') (sym none)
      (taken_told pairs h s e c old new are makes now frame a s' r told same counted is),
  answers_free (slot_with pairs h s d) e.request e.moment (change_unrefused pairs h s e c (Faulted old new) are makes now) a,
)

-- a slot whose streams have no doubt
pub none_kept : (pairs : Pairs) (h : Histories) (s : Stored) (d : Option Past) → AreReplays pairs h s → own_doubt_of s ≡ None → d ≡ None → AreOfStreams pairs h s d
none_kept pairs h s d are sure none = subst (λ (x : Option Past). AreOfStreams pairs h s x) (sym none) (record { replays = are; doubted = sure })

-- the same after calls that left the rows and the doubt as they were
pub none_same : (pairs : Pairs) (h : Histories) (s t : Stored) (d : Option Past) → t ≡ s → AreReplays pairs h s → own_doubt_of s ≡ None → d ≡ None → AreOfStreams pairs h t d
none_same pairs h s t d same are sure none = subst (λ (x : Stored). AreOfStreams pairs h x d) (sym same) (none_kept pairs h s d are sure none)

-- the parts of a slot without a doubt are those of a slot
pub kept_parts : {H : Type 0} (held : H → Histories) (p : SlotParts H) → AreSettled held p → AreOfSlot held p
kept_parts held p are = none_kept (arc_value p.pairs) (held p.histories) p.stored p.doubt are.replays are.sure are.none

-- ---- content that is read

pub answer_read : (F : Type 0) (g b : Bool) (reply : Reply) (a : Answer) → IsAnswerIf g a b reply → ReadsAnswer F reply a
answer_read F g b reply (answer.Done r) is = inl is.0
answer_read F g b reply (answer.Later r) is = is.0
answer_read F g b reply answer.NoMemory is = tt

pub busy_read : (F : Type 0) (reply : Reply) (a : Answer) → F → IsAnswer a true busy → ReadsAnswer F reply a
busy_read F reply (answer.Done r) faulted is = inr (faulted, is.0)
busy_read F reply (answer.Later r) faulted is = absurd (not_later is.1)
busy_read F reply answer.NoMemory faulted is = tt

-- ---- rows that are loaded

abbrev pub loaded : Stored → Stored
loaded s = record s { is_loaded = true }

module _ (pairs : Pairs) (h : Histories) (s t : Stored) (same : t ≡ loaded s) where
  pub loaded_replays : AreReplays pairs h s → AreReplays pairs h t
  loaded_replays are =
      subst (λ (x : Stored). AreReplays pairs h x) (sym same) (record { numbered = are.numbered; bytes = are.bytes; legal = are.legal; latest = are.latest })

  pub loaded_sure : own_doubt_of s ≡ None → own_doubt_of t ≡ None
  loaded_sure none = ap own_doubt_of same ∙ none

  pub loaded_slot : (d : Option Past) → slot_with pairs h t d ≡ slot_with pairs h s d
  loaded_slot d = ap (λ (x : Stored). slot_with pairs h x d) same

pub grown_twice : (a b c : Calls) → Grows a b → Grows b c → Grows a c
grown_twice = grows_twice

-- ---- a settle before a request

sure_by : (s m : SlotState) (d : Option Past) → s.doubt ≡ d → SettlesDoubtBy d s m → m.doubt ≡ None
sure_by s m None none is = ap (λ (x : SlotState). x.doubt) is ∙ none
sure_by s m (Some e) some (inl is) = ap (λ (x : SlotState). x.doubt) is
sure_by s m (Some e) some (inr is) = ap (λ (x : SlotState). x.doubt) is

-- after a settle the slot has no doubt
pub sure_after : (s m : SlotState) → SettlesSlot s m → m.doubt ≡ None
sure_after s m settled = sure_by s m s.doubt refl settled

ends_by : (s m : SlotState) (d : Option Past) → SettlesDoubtBy d s m → (m.from ≡ s.from) × (m.to ≡ s.to)
ends_by s m None is = (ap (λ (x : SlotState). x.from) is, ap (λ (x : SlotState). x.to) is)
ends_by s m (Some e) (inl is) = (ap (λ (x : SlotState). x.from) is, ap (λ (x : SlotState). x.to) is)
ends_by s m (Some e) (inr is) = (ap (λ (x : SlotState). x.from) is, ap (λ (x : SlotState). x.to) is)

-- a settle leaves the range as it was
pub covers_after : (s m : SlotState) (key : Key) → SettlesSlot s m → slots.covers s key ≡ true → slots.covers m key ≡ true
covers_after s m key settled covered = let ends = ends_by s m s.doubt settled in (λ i. is_between (ends.0 i) (ends.1 i) key) ∙ covered

module _ {H : Type 0} (held : H → Histories) (p m : SlotParts H) (settled : SettlesSlot (slot_of held p) (slot_of held m)) where
  pub range_after : m.stored.range ≡ p.stored.range
  range_after = let ends = ends_by (slot_of held p) (slot_of held m) p.doubt settled in λ i. record { from = ends.0 i; to = ends.1 i }

  pub settled_parts : AreOfSlot held m → AreSettled held m
  settled_parts are =
      let none = sure_after (slot_of held p) (slot_of held m) settled in record {
        replays = are.replays;
        sure = subst (λ (x : Option Past). HasDoubt (arc_value m.pairs) (held m.histories) m.stored x) none are.doubted;
        none = none;
      }

module _ (s : SlotState) (q : Asked) (t : ℕ) (a : Answer) (m : SlotState) where
  -- the settle is done
  pub serves_settled : (s' : SlotState) (old mid new : Calls) → SettlesSlot s m → Grows old mid → ServesUnrefused m q t (Faulted mid new) a s' → SlotServes s q t (Faulted old new) a s'
  serves_settled s' old mid new settled grown serves =
      inl (m, (settled, served_later m q t (Faulted mid new) (Faulted old new) a s' (later_fault old mid new grown) serves.0))

  -- the settle or the load failed
  pub serves_failed : (old new : Calls) (f : StoredFault) → LeavesSettled {T = Unit {0}} (Err f) s m → FailsStored {T = Unit {0}} (Err f) old new → IsFailed a f
      → SlotServes s q t (Faulted old new) a m
  serves_failed old new f (inl settled) counted is = inl (m, (settled, failed_told m q t (Faulted old new) a m (failed_fault f a old new counted is) refl))
  serves_failed old new f (inr same) counted is = inr (same.0, (failed_fault f a old new counted is, same.1))
