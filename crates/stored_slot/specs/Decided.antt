-- What is decided on a request, as a slot's histories have it (Blob service REST reference, 2012-02-12; Calder et al., SOSP 2011, section 5).
use Rattle.std.specs.Prelude.{◌≡◌, ℕ, All, Option, Some, None}
use Rattle.stamp_types.specs.Changes.{KeyedAct}
use Rattle.stamp_types.specs.Replies.{denied}
use Rattle.stamp_types.specs.Requests.{Asked}
use Rattle.block_blobs.specs.declared.found_blocks.FoundBlocks.{FoundBlocks}
use Rattle.stream_manager.specs.Streams.{laid}
use Rattle.partition_stream.specs.Contents.{bytes_at}
use Rattle.range_rows.specs.declared.answer.FramedAnswer.{FramedAnswer}
use Rattle.range_partition.specs.Decisions.{CanBeSent, reply_read}
use Rattle.range_partition.specs.declared.framed.FramedDecision.{FramedDecision}
use Rattle.range_partition.specs.declared.framed.FramedDecision.TheVariants as framed
use Rattle.tickets.specs.Answers.{IsSpanStored}
use Rattle.stored_rows.specs.States.{AreFoundIn, Stored}
use Rattle.slot_state.specs.HistoryMaps.{Histories}
use Rattle.slot_state.specs.Pairs.{Pairs}
use Rattle.slot_state.specs.Slots.{IsReplyFor, change_now, entry_of}
use Rattle.stored_slot.specs.Meanings.{MakesChange, NothingRefuses}

-- the answer to a request that nothing refuses and that changes nothing: read in the data it is the model's reply, and its spans are stored
-- there
pub record IsReadAnswer (pairs : Pairs) (h : Histories) (s : Stored) (q : Asked) (t : ℕ) (a : FramedAnswer) : Type 0 where
  pub reply : IsReplyFor pairs h q t s.range.to (reply_read (bytes_at (laid s.streams.blobs)) a)
  pub free : NothingRefuses pairs h q t
  pub unchanged : change_now pairs h q t ≡ None
  pub stored : All (IsSpanStored (laid s.streams.blobs)) a.spans
  pub sent : CanBeSent a

-- A request that nothing refuses changes nothing, and this is its answer; or its frame is the model's reply, this is its change, and these are
-- the blocks that the change takes
abbrev pub AllowsFor : Pairs → Histories → Stored → Asked → ℕ → FramedAnswer → Option KeyedAct → FoundBlocks → Type 0
AllowsFor pairs h s q t a None blocks = IsReadAnswer pairs h s q t a
AllowsFor pairs h s q t a (Some c) blocks = IsReplyFor pairs h q t s.range.to a.frame × (MakesChange pairs h s (entry_of pairs q t) c × AreFoundIn s c blocks)

-- a request is refused by the model's denial, and changes nothing; or nothing refuses it, and this is its answer, its change and its blocks
abbrev pub DecidesFor : Pairs → Histories → Stored → Asked → ℕ → FramedDecision → Type 0
DecidesFor pairs h s q t (framed.Refused r) = IsReplyFor pairs h q t s.range.to (denied r) × (change_now pairs h q t ≡ None)
DecidesFor pairs h s q t (framed.Allowed a o blocks) = AllowsFor pairs h s q t a o blocks
