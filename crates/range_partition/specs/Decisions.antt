-- What is decided on a request, from what rows find of its container (Blob service REST reference, 2012-02-12, the page of each
-- operation).
use Rattle.std.specs.Prelude.{⊤, ℕ, IsTrue, List, [], Option, Some, None}
use Rattle.std.specs.List.{flat_map, list_all}
use Rattle.stamp_values.specs.declared.key.Key.{Key}
use Rattle.stamp_values.specs.declared.op.Op.{Op}
use Rattle.stamp_values.specs.declared.op.Op.TheVariants as op
use Rattle.stamp_types.specs.Changes.{KeyedAct}
use Rattle.stamp_types.specs.declared.piece.Piece.{Piece}
use Rattle.stamp_types.specs.declared.refusal.Refusal.{Refusal}
use Rattle.stamp_types.specs.declared.reply.Reply.{Reply}
use Rattle.stamp_types.specs.Requests.{Asked}
use Rattle.stamp_types.specs.World.{Part, World}
use Rattle.access_rules.specs.declared.keys.Keys.{Keys}
use Rattle.block_blobs.specs.declared.found_blocks.FoundBlocks.{FoundBlocks}
use Rattle.row_trees.specs.FoundParts.{sizes_found}
use Rattle.range_rows.specs.declared.answer.FramedAnswer.{FramedAnswer}
use Rattle.range_rows.specs.FoundParts.{pieces_found_after, sizes_found_after}
use Rattle.range_rows.specs.Frames.{frame}
use Rattle.range_rows.specs.SentContent.{AreShort, is_within, span_bytes, spans, with_content}
use Rattle.range_rows.specs.RequestChanges.{change_of}
use Rattle.range_rows.specs.Judgements.{blocks_found}
use Rattle.list_pages.specs.ListReplies.{blob_list_reply, container_list_reply}
use Rattle.stamp_model.specs.Overrides.{overrides_of}
use Rattle.stamp_model.specs.Refusals.{refusal}
use Rattle.range_partition.specs.declared.framed.FramedDecision.{FramedDecision}
use Rattle.range_partition.specs.declared.framed.FramedDecision.TheVariants as framed

-- the refusal of a request, from the pair in force of its account and from the sizes in its container
abbrev pub found_refusal : Option Keys → Part (List Piece) → Asked → ℕ → Option Refusal
found_refusal keys p q t = refusal keys (sizes_found p) q t

-- the answer to a request from its container: the frame with the headers that the request overrides, and the spans of the content that goes
-- out after the body of the frame
abbrev pub found_answer : Part (List Piece) → Asked → ℕ → FramedAnswer
found_answer p q t = record { frame = frame (overrides_of q.ask) (sizes_found_after p q t) q; spans = spans (pieces_found_after p q t) q }

-- the answer to a request of the operation that nothing refuses, from all rows, its container, and the bound of a list of containers
abbrev pub row_answer_by : Op → World (List Piece) → Part (List Piece) → Asked → ℕ → Option Key → FramedAnswer
row_answer_by op.ListContainers w p q t bound = record { frame = container_list_reply w q bound; spans = [] }
row_answer_by op.ListBlobs w p q t bound = record { frame = blob_list_reply (sizes_found p) q; spans = [] }
row_answer_by _ w p q t bound = found_answer p q t

-- the answer to a request that nothing refuses, from all rows, its container, and the bound of a list of containers
abbrev pub row_answer : World (List Piece) → Part (List Piece) → Asked → ℕ → Option Key → FramedAnswer
row_answer w p q t bound = row_answer_by q.ask.op w p q t bound

-- the reply of an answer, if pieces are read in this way
abbrev pub reply_read : (Piece → List ℕ) → FramedAnswer → Reply
reply_read read a = with_content a.frame (flat_map (span_bytes read) a.spans)

-- each span lies within its piece, and if there are spans, they fit into memory after the body of the frame
pub record CanBeSent (a : FramedAnswer) : Type 0 where
  pub within : IsTrue (list_all is_within a.spans)
  pub short : AreShort a.frame.body a.spans

-- a request is refused, or else these are its answer, its change and the blocks that were found for it
abbrev pub framed_by : Option Refusal → FramedAnswer → Option KeyedAct → FoundBlocks → FramedDecision
framed_by (Some r) answer change found = framed.Refused r
framed_by None answer change found = framed.Allowed answer change found

-- what is decided on a request before its content is read, from the pair in force of its account, all rows, its container, and the bound
-- of a list of containers
abbrev pub framed_of : Option Keys → World (List Piece) → Part (List Piece) → Asked → ℕ → Option Key → FramedDecision
framed_of keys w p q t bound =
    framed_by (found_refusal keys p q t) (row_answer w p q t bound) (change_of (sizes_found p) q t) (blocks_found p q).blocks

-- the answer of a request that is not refused can be sent
abbrev pub AnswerCanBeSent : FramedDecision → Type 0
AnswerCanBeSent (framed.Refused r) = ⊤
AnswerCanBeSent (framed.Allowed answer change found) = CanBeSent answer
