-- The audit entry of a request that a slot serves.
use Rattle.std.proofs.Common.{◌≡◌, ◌∙◌, inl, inr, ℕ, Bool, true, false, ◌||◌, ◌&&◌, Option, Some, None, List, length, refl, sym, ap}
use Rattle.std.specs.Prelude.{IfSome, IsSome, Err, is_some, not}
use Rattle.extent_node.specs.Faults.{Calls}
use Rattle.extent_seal.specs.Counting.{Grows}
use Rattle.stamp_values.specs.Operations.{names_container}
use Rattle.stamp_values.specs.Trees.{is_from}
use Rattle.stamp_types.specs.Changes.{KeyedAct}
use Rattle.stamp_types.specs.declared.refusal.Refusal.{Refusal}
use Rattle.stamp_types.specs.declared.reply.Reply.{Reply}
use Rattle.stamp_types.specs.declared.rule.Rule.{Rule}
use Rattle.stamp_types.specs.Requests.{Asked}
use Rattle.stamp_types.specs.World.{Part, no_part}
use Rattle.access_rules.specs.Rules.{verdict_by, verdict_of, way_of}
use Rattle.access_rules.specs.declared.judgement.Verdict.TheVariants.{Allow}
use Rattle.policy_book.specs.Entries.{AuditEntry}
use Rattle.range_rows.specs.RequestChanges.{change_of}
use Rattle.range_rows.specs.SentContent.{sizes}
use Rattle.stamp_model.specs.Effects.{unless_refused}
use Rattle.stamp_model.specs.Refusals.{refusal}
use Rattle.stamp_model.specs.SeenContainers.{is_under, routed}
use Rattle.stream_manager.specs.declared.faults.StoredFault.{StoredFault}
use Rattle.stamp_model.proofs.CountLemmas.{count-replayed, none_before}
use Rattle.stamp_model.proofs.ReplyLemmas.{unrefused}
use Rattle.tickets.specs.declared.answer.Answer.{Answer}
use Rattle.tickets.specs.declared.answer.Answer.TheVariants as answer
use Rattle.stored_rows.specs.Counting.{FailsStored}
use Rattle.stored_rows.specs.Ranges as ranges
use Rattle.stored_rows.specs.States.{Stored, bytes_of, pieces_of}
use Rattle.slot_state.specs.HistoryMaps.{Histories, history_at}
use Rattle.slot_state.specs.Pairs.{Pairs, current_at, pairs_at}
use Rattle.slot_state.specs.Slots.{SlotState, replayed_at}
use Rattle.stored_slot.specs.Audits.{Audits, AuditsBy, IsLetIn, SlotAudits, is_let_in}
use Rattle.stored_slot.specs.Entries.{IsEntryBy, entry_by, seen_at, seen_of}
use Rattle.stored_slot.specs.Meanings.{AreReplays, NothingRefuses}
use Rattle.stored_slot.specs.Served.{AnswersUnrefused, Faulted, IsFailed, ServesBy, ServesUnrefused, SlotServes, unknown}
use Rattle.stored_slot.specs.Settled.{LeavesSettled, SettlesSlot}
use Rattle.stored_slot.specs.declared.auditing.Seen.{Seen}
use Rattle.stored_slot.proofs.DecisionLemmas.{covers_same, own_covered}
use Rattle.stored_slot.proofs.ServeLemmas.{failed_fault, failed_told, later_fault, served_later}

-- what is seen of a container in the rows is what its history says
pub seen_replayed : (pairs : Pairs) (h : Histories) (s : Stored) (q : Asked) → AreReplays pairs h s → ranges.covers s.range q.ask.key ≡ true
    → seen_at pairs (pieces_of s q.ask.key).count (pieces_of s q.ask.key) q ≡ seen_of pairs h q
seen_replayed pairs h s q are covered =
    let key = q.ask.key in
    let bytes : seen_at pairs (bytes_of s key).count (bytes_of s key) q ≡ seen_at pairs (replayed_at pairs h key).count (replayed_at pairs h key) q =
    ap (λ (p : Part (List ℕ)). seen_at pairs p.count p q) (are.bytes key covered) in
    let place : (replayed_at pairs h key).count ≡ length (history_at h key) =
    count-replayed (pairs_at pairs key.account) key no_part (history_at h key) (are.legal key) ∙ none_before (history_at h key) in
    bytes ∙ ap (λ (n : ℕ). seen_at pairs n (replayed_at pairs h key) q) place

-- a slot that covers the first key that a request looks at has the container that the request names
pub own_seen : (s : Stored) (q : Asked) → (is_from s.range.from (routed q) && is_under s.range.to (routed q)) ≡ true → names_container q.ask.op ≡ true → ranges.covers s.range q.ask.key ≡ true
own_seen s q covered names = own_covered s q (sym (covers_same s.range (routed q)) ∙ covered) names

-- what was seen in the rows of a slot
pub seen_known : (p p' : Pairs) (h : Histories) (s : Stored) (q : Asked) (o : Option Seen) → p ≡ p' → AreReplays p' h s → ranges.covers s.range q.ask.key ≡ true
    → IfSome o (λ x. x ≡ seen_at p (pieces_of s q.ask.key).count (pieces_of s q.ask.key) q) → IfSome o (λ x. x ≡ seen_of p' h q)
seen_known p p' h s q None same are covered seen = tt
seen_known p p' h s q (Some x) same are covered seen =
    seen ∙ ap (λ (y : Pairs). seen_at y (pieces_of s q.ask.key).count (pieces_of s q.ask.key) q) same ∙ seen_replayed p' h s q are covered

-- ---- whether a request was let in

unrefused_change : (o : Option Refusal) (c : Option KeyedAct) → IsSome (unless_refused o c) → o ≡ None
unrefused_change None c some = refl
unrefused_change (Some r) c some = let f : false ≡ true = some in cc

module _ (s : SlotState) (q : Asked) (t : ℕ) (F : Type 0) (s' : SlotState) (sure : s.doubt ≡ None) where
  no_doubt : {A : Type 0} → is_some s'.doubt ≡ true → s'.doubt ≡ s.doubt → A
  no_doubt doubted same = let f : true ≡ false = sym doubted ∙ ap is_some (same ∙ sure) in cc

  -- a doubt after a request is the change of the request
  doubt_unknown : (r : Reply) → ServesBy s q t F (answer.Done r) s' → is_some s'.doubt ≡ true → r ≡ unknown
  doubt_unknown r (inl is) doubted = no_doubt doubted (ap (λ (x : SlotState). x.doubt) is.after)
  doubt_unknown r (inr (inl failed)) doubted = no_doubt doubted (ap (λ (x : SlotState). x.doubt) failed.1.1)
  doubt_unknown r (inr (inr is)) doubted = is.1.1.0

  -- nothing refuses a request that makes a change
  doubt_free : (r : Reply) → ServesBy s q t F (answer.Done r) s' → is_some s'.doubt ≡ true → NothingRefuses s.pairs s.histories q t
  doubt_free r (inl is) doubted = no_doubt doubted (ap (λ (x : SlotState). x.doubt) is.after)
  doubt_free r (inr (inl failed)) doubted = no_doubt doubted (ap (λ (x : SlotState). x.doubt) failed.1.1)
  doubt_free r (inr (inr is)) doubted = λ names. unrefused_change (refusal (current_at s.pairs q.ask.key.account) (sizes (replayed_at s.pairs s.histories q.ask.key)) q t) (change_of (sizes (replayed_at s.pairs s.histories q.ask.key)) q t) is.1.0

  reply_told : (r : Reply) (b : Bool) → ServesBy s q t F (answer.Done r) s' → b ≡ is_some s'.doubt → (o : Option Rule) → r.rule ≡ o → (not (is_some o) || b) ≡ true → IsLetIn (answer.Done r)
  reply_told r b serves is None none let_in = inl none
  reply_told r b serves is (Some rule) some let_in = inr (doubt_unknown r serves (sym is ∙ let_in))

  pub let_in_told : (a : Answer) (b : Bool) → ServesBy s q t F a s' → b ≡ is_some s'.doubt → is_let_in a b ≡ true → IsLetIn a
  let_in_told (answer.Done r) b serves is let_in = reply_told r b serves is r.rule refl let_in
  let_in_told (answer.Later r) b serves is let_in = tt
  let_in_told answer.NoMemory b serves is let_in = let f : false ≡ true = let_in in cc

  free_by : (r : Reply) (b : Bool) → ServesBy s q t F (answer.Done r) s' → b ≡ is_some s'.doubt → AnswersUnrefused s q t (answer.Done r) → (o : Option Rule) → r.rule ≡ o
      → (not (is_some o) || b) ≡ true → NothingRefuses s.pairs s.histories q t
  free_by r b serves is free None none let_in = free none
  free_by r b serves is free (Some rule) some let_in = doubt_free r serves (sym is ∙ let_in)

  -- nothing refuses a request that was let in
  pub let_in_free : (a : Answer) (b : Bool) → ServesUnrefused s q t F a s' → b ≡ is_some s'.doubt → is_let_in a b ≡ true → NothingRefuses s.pairs s.histories q t
  let_in_free (answer.Done r) b serves is let_in = free_by r b serves.0 is serves.1 r.rule refl let_in
  let_in_free (answer.Later r) b serves is let_in = serves.1
  let_in_free answer.NoMemory b serves is let_in = let f : false ≡ true = let_in in cc

  -- so its route allows it, by what was seen before it
  pub seen_allowed : (a : Answer) (o : Option Seen) (b d : Bool) → ServesUnrefused s q t F a s' → d ≡ is_some s'.doubt → b ≡ is_let_in a d → (IsSome o → names_container q.ask.op ≡ true)
      → IfSome o (λ x. x ≡ seen_of s.pairs s.histories q) → b ≡ true → IfSome o (λ x. verdict_of x.revision.keys x.revision.acl q.ask t ≡ Allow (way_of q.ask.credential))
  seen_allowed a None b d serves is tested names seen let_in = tt
  seen_allowed a (Some x) b d serves is tested names seen let_in =
      let free = let_in_free a d serves is (sym tested ∙ let_in) (names refl) in
      let own : verdict_of (seen_of s.pairs s.histories q).revision.keys (seen_of s.pairs s.histories q).revision.acl q.ask t ≡ Allow (way_of q.ask.credential) =
      ap (λ (r : Option Rule). verdict_by r (way_of q.ask.credential))
      (unrefused (current_at s.pairs q.ask.key.account) (sizes (replayed_at s.pairs s.histories q.ask.key)) q t free).permitted in
      ap (λ (y : Seen). verdict_of y.revision.keys y.revision.acl q.ask t) seen ∙ own

-- the entry that was made is the entry of the request
pub audits_told : (s : SlotState) (q : Asked) (t : ℕ) (a : Answer) (o : Option Seen) (o' : Option AuditEntry) (b : Bool) → IfSome o' (λ e. (b ≡ true) × IsEntryBy o q t e)
    → (IsSome o → names_container q.ask.op ≡ true) → IfSome o (λ x. x ≡ seen_of s.pairs s.histories q) → (b ≡ true → IsLetIn a) → Audits s q t a o'
audits_told s q t a o None b made names seen let_in = tt
audits_told s q t a None (Some e) b made names seen let_in = absurd made.1
audits_told s q t a (Some x) (Some e) b made names seen let_in = record {
  let_in = let_in made.0;
  names = names refl;
  value = made.1 ∙ ap (λ (y : Seen). entry_by y q t) seen;
}

-- a request that is served on a slot without a doubt, with its entry
pub audits_by : (s : SlotState) (q : Asked) (t : ℕ) (F : Type 0) (a : Answer) (s' : SlotState) (o : Option Seen) (o' : Option AuditEntry) (b d : Bool) → s.doubt ≡ None → ServesUnrefused s q t F a s'
    → d ≡ is_some s'.doubt → b ≡ is_let_in a d → IfSome o' (λ e. (b ≡ true) × IsEntryBy o q t e) → (IsSome o → names_container q.ask.op ≡ true) → IfSome o (λ x. x ≡ seen_of s.pairs s.histories q)
    → AuditsBy s q t F a o' s'
audits_by s q t F a s' o o' b d sure serves doubted tested made names seen =
    (serves.0, audits_told s q t a o o' b made names seen (λ let_in. let_in_told s q t F s' sure a d serves.0 doubted (sym tested ∙ let_in)))

-- ---- a settle before a request

module _ (s : SlotState) (q : Asked) (t : ℕ) (a : Answer) (m : SlotState) where
  -- the settle is done
  pub audits_settled : (o : Option AuditEntry) (s' : SlotState) (old mid new : Calls) → SettlesSlot s m → Grows old mid → AuditsBy m q t (Faulted mid new) a o s'
      → SlotAudits s q t (Faulted old new) a o s'
  audits_settled o s' old mid new settled grown audits =
      inl (m, (settled, (served_later m q t (Faulted mid new) (Faulted old new) a s' (later_fault old mid new grown) audits.0, audits.1)))

  -- the settle or the load failed
  pub audits_failed : (old new : Calls) (f : StoredFault) → LeavesSettled {T = Unit {0}} (Err f) s m → FailsStored {T = Unit {0}} (Err f) old new → IsFailed a f
      → SlotAudits s q t (Faulted old new) a None m
  audits_failed old new f (inl settled) counted is = inl (m, (settled, (failed_told m q t (Faulted old new) a m (failed_fault f a old new counted is) refl, tt)))
  audits_failed old new f (inr same) counted is = inr (same.0, (failed_fault f a old new counted is, (same.1, refl)))

-- a request that is served with its entry is served
pub audits_serve : (s : SlotState) (q : Asked) (t : ℕ) (F : Type 0) (a : Answer) (o : Option AuditEntry) (s' : SlotState) → SlotAudits s q t F a o s' → SlotServes s q t F a s'
audits_serve s q t F a o s' (inl audits) = inl (audits.0, (audits.1.0, audits.1.1.0))
audits_serve s q t F a o s' (inr failed) = inr (failed.0, (failed.1.0, failed.1.1.0))
