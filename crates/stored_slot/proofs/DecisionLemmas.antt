-- What is decided from the rows of a slot is what its histories have.
use Rattle.std.proofs.Common.{◌≡◌, ◌∙◌, ◌&&◌, arith, ℕ, Bool, true, false, cond, List, [], Option, Some, None, refl, sym, ap, subst}
use Rattle.std.proofs.lemmas.List.Elements.{All-nil}
use Rattle.std.specs.Prelude.{All, IfOk, Result, Ok, Err}
use Rattle.std.specs.declared.alloc.AllocError.{AllocError}
use Rattle.std.specs.Ordering.{is_le}
use Rattle.std.specs.declared.cmp.Ordering.{Ordering}
use Rattle.std.specs.declared.cmp.Ordering.TheVariants.{Less, Equal, Greater}
use Rattle.extent_node.specs.Copies.{Block}
use Rattle.stamp_values.specs.Operations.{names_container, writes}
use Rattle.stamp_values.specs.Order.{key_cmp, keys_exact, keys_total}
use Rattle.stamp_values.specs.Trees.{is_from}
use Rattle.stamp_values.specs.declared.key.Key.{Key}
use Rattle.stamp_values.specs.declared.op.Op.{Op}
use Rattle.stamp_values.specs.declared.op.Op.TheVariants as op
use Rattle.stamp_types.specs.declared.piece.Piece.{Piece}
use Rattle.stamp_types.specs.declared.refusal.Refusal.{Refusal}
use Rattle.stamp_types.specs.declared.reply.Reply.{Reply}
use Rattle.stamp_types.specs.Changes.{KeyedAct}
use Rattle.stamp_types.specs.Contents.{EachContent, EachWorldContent}
use Rattle.stamp_types.specs.Pieces.{pieces_len}
use Rattle.stamp_types.specs.Replies.{denied}
use Rattle.stamp_types.specs.Requests.{Asked, IsAsk}
use Rattle.stamp_types.specs.World.{Part, World, no_part, part_at, part_value, world_value}
use Rattle.stamp_types.proofs.EachContents.{EachContent-no_part}
use Rattle.stamp_types.proofs.WorldLemmas.{part_at-world_value}
use Rattle.access_rules.specs.declared.keys.Keys.{Keys}
use Rattle.block_blobs.specs.declared.found_blocks.FoundBlocks.{FoundBlocks}
use Rattle.row_trees.specs.ListedBlocks.{AreFoundFor}
use Rattle.range_rows.specs.declared.answer.FramedAnswer.{FramedAnswer}
use Rattle.range_rows.specs.FoundParts.{pieces_found_after}
use Rattle.range_rows.specs.Judgements.{blocks_found}
use Rattle.range_rows.specs.RequestChanges.{change_of}
use Rattle.range_rows.specs.SentContent.{ReadsWhole, sizes}
use Rattle.range_rows.proofs.FoundChanges.{found_for_change}
use Rattle.range_rows.proofs.FrameLemmas.{spans_of_write}
use Rattle.stream_manager.specs.Streams.{laid}
use Rattle.partition_stream.specs.Contents.{AreStored, bytes_at, content_at}
use Rattle.stamp_model.specs.AcceptedRequests.{is_on}
use Rattle.stamp_model.specs.Effects.{accepted, unless_refused}
use Rattle.stamp_model.specs.Refusals.{refusal}
use Rattle.stamp_model.specs.Responses.{reply}
use Rattle.stamp_model.specs.SeenContainers.{is_between, is_in_account, is_seen, is_under, routed}
use Rattle.stamp_model.proofs.SeenContainerLemmas.{reply-seen}
use Rattle.range_partition.specs.Decisions.{AnswerCanBeSent, framed_of, reply_read, row_answer, row_answer_by}
use Rattle.range_partition.specs.declared.framed.FramedDecision.{FramedDecision}
use Rattle.range_partition.specs.declared.framed.FramedDecision.TheVariants as framed
use Rattle.range_partition.proofs.DecisionLemmas.{framed_allowed, framed_refused, no_change}
use Rattle.tickets.specs.Answers.{IsSpanStored}
use Rattle.tickets.proofs.PartLemmas.{contents_whole}
use Rattle.tickets.proofs.SentLemmas.{sent_after, sent_stored}
use Rattle.stored_rows.specs.Loaded.{AreRowsOf}
use Rattle.stored_rows.specs.Ranges.{covers, is_before_end}
use Rattle.stored_rows.specs.States.{AreFoundIn, Stored, pieces_of}
use Rattle.stored_rows.specs.declared.key_range.KeyRange.{KeyRange}
use Rattle.slot_state.specs.HistoryMaps.{Histories}
use Rattle.slot_state.specs.Pairs.{Pairs, current_at}
use Rattle.slot_state.specs.Slots.{IsReplyFor, change_now, entry_of, replayed_at}
use Rattle.slot_state.proofs.MapLemmas.{tied}
use Rattle.slot_state.proofs.PairLemmas.{pair_of-current}
use Rattle.slot_state.proofs.RangeLemmas.{lists_nothing, routed_own}
use Rattle.stored_slot.specs.Decided.{DecidesFor}
use Rattle.stored_slot.specs.Meanings.{AreReplays, MakesChange}
use Rattle.stored_slot.proofs.AnswerLemmas.{reply_made, reply_refused, same_sizes, with_nothing}

none_some : {X : Type 0} (x : X) → None ≡ Some x → ⊥
none_some x h = cc

pub and_parts : (a b : Bool) → (a && b) ≡ true → (a ≡ true) × (b ≡ true)
and_parts true b both = (refl, both)
and_parts false b both = cc

-- ---- ranges

-- the end of a range and a bound are the same test
pub same_end : (o : Option Key) (key : Key) → is_under o key ≡ is_before_end o key
same_end None key = refl
same_end (Some end) key = refl

-- the range of a slot is the range of its rows
pub covers_same : (range : KeyRange) (key : Key) → (is_from range.from key && is_under range.to key) ≡ covers range key
covers_same range key = ap (λ (b : Bool). is_from range.from key && b) (same_end range.to key)

-- a ≤ b and b ≤ c give a ≤ c
pub from_from : (a b c : Key) → is_from a b ≡ true → is_from b c ≡ true → is_from a c ≡ true
from_from a b c e f = by (key_cmp a b) refl e
  where
    by_less : (r : Ordering) → key_cmp b c ≡ r → is_le r ≡ true → key_cmp a b ≡ Less → is_from a c ≡ true
    by_less Less is le less = ap is_le (keys_total.trans a b c less is)
    by_less Equal is le less = subst (λ (k : Key). is_from a k ≡ true) (keys_exact b c is) e
    by_less Greater is le less = cc

    by : (r : Ordering) → key_cmp a b ≡ r → is_le r ≡ true → is_from a c ≡ true
    by Less is le = by_less (key_cmp b c) refl f is
    by Equal is le = subst (λ (k : Key). is_from k c ≡ true) (sym (keys_exact a b is)) f
    by Greater is le = cc

module _ (s : Stored) (q : Asked) (covered : covers s.range (routed q) ≡ true) where
  -- a request that names a container names one of the range
  pub own_covered : names_container q.ask.op ≡ true → covers s.range q.ask.key ≡ true
  own_covered names = sym (ap (covers s.range) (routed_own q names)) ∙ covered

  -- the range has each container that the request sees
  pub seen_covered : (key : Key) → is_seen q s.range.to key ≡ true → covers s.range key ≡ true
  seen_covered key seen = by (names_container q.ask.op) refl
    where
      by : (b : Bool) → names_container q.ask.op ≡ b → covers s.range key ≡ true
      by true names =
          let on : is_on key q ≡ true = sym (ap (λ (b : Bool). cond b (is_on key q) (is_in_account key q && is_between (routed q) s.range.to key)) names) ∙ seen in
          ap (covers s.range) (tied key q.ask.key on) ∙ own_covered names
      by false lists =
          let listed : (is_in_account key q && is_between (routed q) s.range.to key) ≡ true = sym (ap (λ (b : Bool). cond b (is_on key q) (is_in_account key q && is_between (routed q) s.range.to key)) lists) ∙ seen in
          let between = and_parts (is_from (routed q) key) (is_under s.range.to key) (and_parts (is_in_account key q) (is_between (routed q) s.range.to key) listed).1 in
          let from = from_from s.range.from (routed q) key (and_parts (is_from s.range.from (routed q)) (is_before_end s.range.to (routed q)) covered).0 between.0 in
          (λ i. from i && is_before_end s.range.to key) ∙ sym (same_end s.range.to key) ∙ between.1

  -- the first key that the request looks at comes before the end of the range
  pub under_end : is_under s.range.to (routed q) ≡ true
  under_end = same_end s.range.to (routed q) ∙ (and_parts (is_from s.range.from (routed q)) (is_before_end s.range.to (routed q)) covered).1

-- ---- the decision

module _ (pairs : Pairs) (h : Histories) (s : Stored) (q : Asked) (t : ℕ) (w : World (List Piece)) (are : AreReplays pairs h s) (rows : AreRowsOf s.range s.streams w)
    (whole : (key : Key) → EachContent (AreStored (laid s.streams.blobs)) (pieces_of s key)) (fits : IsAsk q.ask) (covered : covers s.range (routed q) ≡ true) where
  abbrev es : List (List Block)
  es = laid s.streams.blobs

  abbrev keys : Option Keys
  keys = current_at pairs q.ask.key.account

  abbrev part : Part (List Piece)
  part = part_at w q.ask.key

  abbrev row_sizes : Part ℕ
  row_sizes = part_value pieces_len part

  abbrev bytes_world : World (List ℕ)
  bytes_world = world_value (content_at es) w

  stored_by : (key : Key) (b : Bool) → EachContent (AreStored es) (cond b (pieces_of s key) no_part)
  stored_by key true = whole key
  stored_by key false = EachContent-no_part (AreStored es)

  all_stored : EachWorldContent (AreStored es) w
  all_stored key = subst (λ (p : Part (List Piece)). EachContent (AreStored es) p) (sym (rows key)) (stored_by key (covers s.range key))

  all_read : EachWorldContent (ReadsWhole (bytes_at es)) w
  all_read key = contents_whole es (part_at w key) (all_stored key)

  -- a container of the range, as it is read in the data, is what its history replays to
  means : (key : Key) → covers s.range key ≡ true → part_at bytes_world key ≡ replayed_at pairs h key
  means key own =
      part_at-world_value (content_at es) w key
      ∙ ap (λ (p : Part (List Piece)). part_value (content_at es) p) (rows key ∙ ap (λ (b : Bool). cond b (pieces_of s key) no_part) own)
      ∙ are.bytes key own

  -- the reply from the rows is the model's in each world that agrees with the histories on what the request sees
  replied : (r : Reply) → r ≡ reply keys bytes_world q t s.range.to → IsReplyFor pairs h q t s.range.to r
  replied r is v agrees =
      is
      ∙ reply-seen keys bytes_world v q t s.range.to fits (λ lists. under_end s q covered) (λ key seen. means key (seen_covered s q covered key seen) ∙ sym (agrees key seen))

  own_sizes : names_container q.ask.op ≡ true → row_sizes ≡ sizes (replayed_at pairs h q.ask.key)
  own_sizes names =
      sym (same_sizes (bytes_at es) (λ bs. refl) keys w q t s.range.to all_read)
      ∙ ap (λ (p : Part (List ℕ)). sizes p) (means q.ask.key (own_covered s q covered names))

  -- the change of the request is the one that the rows say
  same_change : change_now pairs h q t ≡ accepted keys row_sizes q t
  same_change = by (names_container q.ask.op) refl
    where
      by : (b : Bool) → names_container q.ask.op ≡ b → change_now pairs h q t ≡ accepted keys row_sizes q t
      by true names = sym (ap (λ (z : Part ℕ). accepted keys z q t) (own_sizes names))
      by false lists = lists_nothing keys (sizes (replayed_at pairs h q.ask.key)) q t lists ∙ sym (lists_nothing keys row_sizes q t lists)

  change_free : refusal keys row_sizes q t ≡ None → change_now pairs h q t ≡ change_of row_sizes q t
  change_free free = same_change ∙ ap (λ (o : Option Refusal). unless_refused o (change_of row_sizes q t)) free

  makes_named : (c : KeyedAct) → refusal keys row_sizes q t ≡ None → change_of row_sizes q t ≡ Some c → names_container q.ask.op ≡ true → MakesChange pairs h s (entry_of pairs q t) c
  makes_named c free change names = record {
    makes = sym (ap (λ (z : Part ℕ). change_of z q t) (own_sizes names)) ∙ change;
    allowed = (λ i. refusal (pair_of-current pairs q.ask.key.account are.numbered i) (sym (own_sizes names) i) q t) ∙ free;
    covered = own_covered s q covered names;
    known = omega arith;
    last = are.latest q.ask.key;
  }

  makes_change : (c : KeyedAct) → refusal keys row_sizes q t ≡ None → change_of row_sizes q t ≡ Some c → MakesChange pairs h s (entry_of pairs q t) c
  makes_change c free change = by (names_container q.ask.op) refl
    where
      by : (b : Bool) → names_container q.ask.op ≡ b → MakesChange pairs h s (entry_of pairs q t) c
      by true names = makes_named c free change names
      by false lists =
          absurd (none_some c (sym (lists_nothing keys row_sizes q t lists) ∙ ap (λ (o : Option Refusal). unless_refused o (change_of row_sizes q t)) free ∙ change))

  -- the blocks that were found for the request are those that its change takes
  found_told : (c : KeyedAct) (blocks : FoundBlocks) → blocks ≡ (blocks_found part q).blocks → change_of row_sizes q t ≡ Some c → covers s.range q.ask.key ≡ true → AreFoundIn s c blocks
  found_told c blocks is change own =
      let told = found_for_change part q t c change in
      let here : part ≡ pieces_of s c.key = rows q.ask.key ∙ ap (λ (b : Bool). cond b (pieces_of s q.ask.key) no_part) own ∙ ap (pieces_of s) (sym told.0) in
      subst (λ (p : Part (List Piece)). AreFoundFor p c.act blocks) here (subst (λ (bs : FoundBlocks). AreFoundFor part c.act bs) (sym is) told.1)

  -- what goes out with the answer is stored
  spans_stored : (o : Op) → All (IsSpanStored es) (row_answer_by o w part q t s.range.to).spans
  spans_stored op.ListContainers = All-nil (IsSpanStored es)
  spans_stored op.ListBlobs = All-nil (IsSpanStored es)
  spans_stored o = subst (λ ss. All (IsSpanStored es) ss) (sym (sent_after part q t)) (sent_stored es part q (all_stored q.ask.key))

  -- no content goes out with the answer to a request that writes
  no_spans : (o : Op) → writes q.ask.op ≡ true → (row_answer_by o w part q t s.range.to).spans ≡ []
  no_spans op.ListContainers writing = refl
  no_spans op.ListBlobs writing = refl
  no_spans o writing = spans_of_write (pieces_found_after part q t) q writing

  changing_writes : (c : KeyedAct) → change_of row_sizes q t ≡ Some c → writes q.ask.op ≡ true
  changing_writes c change = by (writes q.ask.op) refl
    where
      by : (b : Bool) → writes q.ask.op ≡ b → writes q.ask.op ≡ true
      by true writing = writing
      by false reading = absurd (none_some c (no_change row_sizes q t reading ∙ change))

  bare_reply : (a : FramedAnswer) → a.spans ≡ [] → reply_read (bytes_at es) a ≡ a.frame
  bare_reply a none = ap (λ ss. reply_read (bytes_at es) (record { frame = a.frame; spans = ss })) none ∙ with_nothing a.frame

  frame_told : (a : FramedAnswer) (c : KeyedAct) → a ≡ row_answer w part q t s.range.to → refusal keys row_sizes q t ≡ None → change_of row_sizes q t ≡ Some c → IsReplyFor pairs h q t s.range.to a.frame
  frame_told a c is free change =
      replied a.frame (sym (bare_reply a (ap (λ (a : FramedAnswer). a.spans) is ∙ no_spans q.ask.op (changing_writes c change)))
      ∙ ap (λ (a : FramedAnswer). reply_read (bytes_at es) a) is
      ∙ reply_made (bytes_at es) (λ bs. refl) keys w q t s.range.to all_read free)

  read_told : (a : FramedAnswer) → a ≡ row_answer w part q t s.range.to → refusal keys row_sizes q t ≡ None → IsReplyFor pairs h q t s.range.to (reply_read (bytes_at es) a)
  read_told a is free =
      replied (reply_read (bytes_at es) a)
      (ap (λ (a : FramedAnswer). reply_read (bytes_at es) a) is ∙ reply_made (bytes_at es) (λ bs. refl) keys w q t s.range.to all_read free)

  -- what is decided from the rows is what the histories have
  pub decides : (d : FramedDecision) → d ≡ framed_of keys w part q t s.range.to → AnswerCanBeSent d → DecidesFor pairs h s q t d
  decides (framed.Refused r) is sent =
      let refused = framed_refused (refusal keys row_sizes q t) (row_answer w part q t s.range.to) (change_of row_sizes q t) (blocks_found part q).blocks r is in (
        replied (denied r) (reply_refused (bytes_at es) (λ bs. refl) keys w q t s.range.to all_read r refused),
        same_change ∙ ap (λ (o : Option Refusal). unless_refused o (change_of row_sizes q t)) refused,
      )
  decides (framed.Allowed a None found) is sent =
      let told = framed_allowed (refusal keys row_sizes q t) (row_answer w part q t s.range.to) a (change_of row_sizes q t) None (blocks_found part q).blocks found is in record {
        reply = read_told a told.1.0 told.0;
        free = λ names. sym (ap (λ (z : Part ℕ). refusal keys z q t) (own_sizes names)) ∙ told.0;
        unchanged = change_free told.0 ∙ sym told.1.1.0;
        stored = subst (λ (a : FramedAnswer). All (IsSpanStored es) a.spans) (sym told.1.0) (spans_stored q.ask.op);
        sent = sent;
      }
  decides (framed.Allowed a (Some c) found) is sent =
      let told = framed_allowed (refusal keys row_sizes q t) (row_answer w part q t s.range.to) a (change_of row_sizes q t) (Some c) (blocks_found part q).blocks found is in
      let makes = makes_change c told.0 (sym told.1.1.0) in
      (frame_told a c told.1.0 told.0 (sym told.1.1.0), (makes, found_told c found told.1.1.1 (sym told.1.1.0) makes.covered))

  -- the same of a decision that was made up to the end of the range, or of none
  pub decided_if : {D : Type 0} (decision : D → FramedDecision) (bound : Option Key) → bound ≡ s.range.to → (r : Result D AllocError)
      → IfOk r (λ d. decision d ≡ framed_of keys w part q t bound) → IfOk r (λ d. AnswerCanBeSent (decision d)) → IfOk r (λ d. DecidesFor pairs h s q t (decision d))
  decided_if decision bound ends (Ok d) is sent = decides (decision d) (is ∙ ap (λ (o : Option Key). framed_of keys w part q t o) ends) sent
  decided_if decision bound ends (Err e) is sent = tt
