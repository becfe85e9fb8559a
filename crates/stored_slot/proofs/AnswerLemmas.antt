-- What is answered from rows whose content is read in some way.
use Rattle.std.proofs.Common.{◌≡◌, ◌∙◌, ℕ, true, false, List, [], ◌∷◌, ◌++◌, length, Option, Some, None, refl, sym, ap}
use Rattle.std.proofs.lemmas.List.{append-nil}
use Rattle.std.proofs.lemmas.List.Elements.{All-cons, All-nil}
use Rattle.std.specs.List.{flat_map}
use Rattle.stamp_values.specs.Operations.{lists_names, writes}
use Rattle.stamp_values.specs.declared.key.Key.{Key}
use Rattle.stamp_values.specs.declared.op.Op.{Op}
use Rattle.stamp_values.specs.declared.op.Op.TheVariants as op
use Rattle.stamp_types.specs.declared.piece.Piece.{Piece}
use Rattle.stamp_types.specs.declared.piece.Piece.TheVariants as piece
use Rattle.stamp_types.specs.declared.refusal.Refusal.{Refusal}
use Rattle.stamp_types.specs.declared.reply.Reply.{Reply}
use Rattle.stamp_types.specs.Changes.{KeyedAct}
use Rattle.stamp_types.specs.Contents.{EachContent, EachWorldContent}
use Rattle.stamp_types.specs.Pieces.{held, is_held, piece_len, pieces_len}
use Rattle.stamp_types.specs.Replies.{denied}
use Rattle.stamp_types.specs.Requests.{Asked}
use Rattle.stamp_types.specs.World.{Part, World, part_at, part_value, same_pieces, world_value}
use Rattle.stamp_types.proofs.WorldLemmas.{part_at-world_value}
use Rattle.stamp_types.proofs.ContentReadings.{changed-alike, part_value-changed}
use Rattle.stamp_types.proofs.EachContents.{EachActContent-then, EachContent-changed, EachContent-then}
use Rattle.access_rules.specs.declared.keys.Keys.{Keys}
use Rattle.range_rows.specs.Frames.{frame}
use Rattle.range_rows.specs.SentContent.{ReadsWhole, byte_count, sizes, span_bytes, spans, with_content}
use Rattle.range_rows.specs.RequestChanges.{change_of, part_after}
use Rattle.range_rows.proofs.SpanLemmas.{length-read, reply_of-read}
use Rattle.list_pages.specs.ListReplies.{blob_list_reply, container_list_reply, containers_told, page_asked}
use Rattle.list_pages.proofs.Shown.{page_of_read}
use Rattle.stamp_model.specs.Effects.{effect, unless_refused}
use Rattle.stamp_model.specs.Overrides.{overrides_of}
use Rattle.stamp_model.specs.Refusals.{refusal}
use Rattle.stamp_model.specs.Responses.{answer_by, answer_of, own_answer_by, reply, response, rows_answer}
use Rattle.stamp_model.proofs.ContentLemmas.{sizes-read}
use Rattle.stamp_model.proofs.EffectLemmas.{part_at-effect}
use Rattle.stamp_model.proofs.ReadLemmas.{effect-read}
use Rattle.stamp_model.proofs.ReplyLemmas.{answer_of-rows, reply-admitted}
use Rattle.range_partition.specs.Decisions.{found_answer, reply_read, row_answer, row_answer_by}
use Rattle.slot_state.proofs.RowLemmas.{brings_held}

-- no content after the body
pub with_nothing : (r : Reply) → with_content r [] ≡ r
with_nothing r = λ i. record r { body = append-nil r.body i }

module _ (read : Piece → List ℕ) (own : (bs : List ℕ) → read (piece.Bytes bs) ≡ bs) where
  -- content in memory is read as it is
  read_held : (ps : List Piece) → is_held ps ≡ true → flat_map read ps ≡ held ps
  read_held [] all = refl
  read_held (piece.Bytes bs ∷ ps) all = λ i. own bs i ++ read_held ps all i
  read_held (piece.At place n ∷ ps) all = cc

  held_whole : (ps : List Piece) → is_held ps ≡ true → ReadsWhole read ps
  held_whole [] all = All-nil (λ (p : Piece). length (read p) ≡ piece_len p)
  held_whole (piece.Bytes bs ∷ ps) all = All-cons (λ (p : Piece). length (read p) ≡ piece_len p) (piece.Bytes bs) ps (ap length (own bs)) (held_whole ps all)
  held_whole (piece.At place n ∷ ps) all = cc

  module _ (keys : Option Keys) (rows : World (List Piece)) (q : Asked) (t : ℕ) (bound : Option Key) (all : EachWorldContent (ReadsWhole read) rows) where
    abbrev joined : List Piece → List ℕ
    joined ps = flat_map read ps

    abbrev part : Part (List Piece)
    part = part_at rows q.ask.key

    abbrev row_sizes : Part ℕ
    row_sizes = part_value pieces_len part

    abbrev change : Option KeyedAct
    change = change_of row_sizes q t

    abbrev bytes_world : World (List ℕ)
    bytes_world = world_value joined rows

    sized : EachContent (λ ps. byte_count (joined ps) ≡ pieces_len ps) part
    sized = EachContent-then (ReadsWhole read) (λ ps. byte_count (joined ps) ≡ pieces_len ps) (λ ps whole. length-read read ps whole) part (all q.ask.key)

    -- the sizes of the container are those of its bytes
    pub same_sizes : sizes (part_at bytes_world q.ask.key) ≡ row_sizes
    same_sizes = ap (λ (p : Part (List ℕ)). sizes p) (part_at-world_value joined rows q.ask.key) ∙ sizes-read joined pieces_len byte_count part sized

    same_refusal : refusal keys (sizes (part_at bytes_world q.ask.key)) q t ≡ refusal keys row_sizes q t
    same_refusal = ap (λ (z : Part ℕ). refusal keys z q t) same_sizes

    part_value-after : {D : Type 0} (f : List Piece → D) (c : Option KeyedAct) → part_value f (part_after same_pieces c part) ≡ part_after f c (part_value f part)
    part_value-after f None = refl
    part_value-after f (Some c) = part_value-changed f same_pieces c.act part

    after_whole : (c : Option KeyedAct) → change ≡ c → EachContent (ReadsWhole read) (part_after same_pieces c part)
    after_whole None e = all q.ask.key
    after_whole (Some c) e =
        EachContent-changed (ReadsWhole read) same_pieces c.act part (all q.ask.key)
        (EachActContent-then (λ ps. is_held ps ≡ true) (ReadsWhole read) held_whole c.act (brings_held row_sizes q t c e))

    after_alike : (c : Option KeyedAct) (p : Part (List ℕ)) → change ≡ c → part_after joined c p ≡ part_after held c p
    after_alike None p e = refl
    after_alike (Some c) p e =
        changed-alike joined held p c.act (EachActContent-then (λ ps. is_held ps ≡ true) (λ ps. joined ps ≡ held ps) read_held c.act (brings_held row_sizes q t c e))

    -- if nothing refuses a request, the reply is what the operation answers
    reply_free : refusal keys row_sizes q t ≡ None → reply keys bytes_world q t bound ≡ answer_of (effect keys bytes_world q t) q bound
    reply_free free = reply-admitted keys bytes_world q t bound (same_refusal ∙ free)

    -- the container after the request, in bytes
    part_after_free : refusal keys row_sizes q t ≡ None → part_at (effect keys bytes_world q t) q.ask.key ≡ part_after joined change (part_value joined part)
    part_after_free free =
        part_at-effect byte_count held keys bytes_world q t
        ∙ (λ i. part_after held (unless_refused (same_refusal i) (change_of (same_sizes i) q t)) (part_at-world_value joined rows q.ask.key i))
        ∙ ap (λ (o : Option Refusal). part_after held (unless_refused o change) (part_value joined part)) free
        ∙ sym (after_alike change (part_value joined part) refl)

    -- the frame with the bytes of its spans is the reply of an operation that lists no names
    reply_with_spans : lists_names q.ask.op ≡ false → refusal keys row_sizes q t ≡ None → reply_read read (found_answer part q t) ≡ reply keys bytes_world q t bound
    reply_with_spans other free =
        let after = part_after same_pieces change part in
        ap (λ (z : Part ℕ). with_content (frame (overrides_of q.ask) z q) (flat_map (span_bytes read) (spans after q))) (sym (part_value-after pieces_len change))
        ∙ reply_of-read read after q (after_whole change refl) (overrides_of q.ask)
        ∙ ap (λ (p : Part (List ℕ)). rows_answer p q) (part_value-after joined change ∙ sym (part_after_free free))
        ∙ sym (reply_free free ∙ answer_of-rows (effect keys bytes_world q t) q bound other)

    -- a list is made from what is kept as it is
    answer_of_list : refusal keys row_sizes q t ≡ None → writes q.ask.op ≡ false → reply keys bytes_world q t bound ≡ answer_of bytes_world q bound
    answer_of_list free reads = reply_free free ∙ ap (λ (v : World (List ℕ)). answer_of v q bound) (effect-read keys bytes_world q t reads)

    -- the reply to a request that nothing refuses, by its operation
    reply_by : (o : Op) → q.ask.op ≡ o → refusal keys row_sizes q t ≡ None → reply_read read (row_answer_by o rows part q t bound) ≡ reply keys bytes_world q t bound
    reply_by op.ListContainers is free =
        with_nothing (container_list_reply rows q bound)
        ∙ ap (containers_told (page_asked q)) (page_of_read joined q.ask.key.account (page_asked q) bound rows)
        ∙ sym (answer_of_list free (ap writes is) ∙ ap (λ (o : Op). answer_by o bytes_world q bound) is)
    reply_by op.ListBlobs is free =
        with_nothing (blob_list_reply row_sizes q)
        ∙ ap (λ (z : Part ℕ). blob_list_reply z q) (sym same_sizes)
        ∙ sym (answer_of_list free (ap writes is) ∙ ap (λ (o : Op). answer_by o bytes_world q bound) is ∙ ap (λ (o : Op). own_answer_by o (part_at bytes_world q.ask.key) q) is)
    reply_by o is free = reply_with_spans (ap lists_names is) free

    -- the reply that is read from the rows is the model's
    pub reply_made : refusal keys row_sizes q t ≡ None → reply_read read (row_answer rows part q t bound) ≡ reply keys bytes_world q t bound
    reply_made free = reply_by q.ask.op refl free

    -- the reply to a refused request
    pub reply_refused : (r : Refusal) → refusal keys row_sizes q t ≡ Some r → denied r ≡ reply keys bytes_world q t bound
    reply_refused r e = sym (ap (λ (o : Option Refusal). response o (answer_of (effect keys bytes_world q t) q bound)) (same_refusal ∙ e))
