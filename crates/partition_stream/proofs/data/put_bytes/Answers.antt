use Rattle.std.proofs.Common.{length}
use Rattle.stream_manager.specs.Streams.{laid}
use Rattle.stream_manager.proofs.RunLemmas.{append_goes_on}
use Rattle.partition_stream.proofs.CallLemmas.{busy_calls, doubt_calls, placed_calls}
use Rattle.partition_stream.proofs.data.put_bytes.Goals as goal

pub returns-in-Ok-clause-called : goal.returns-in-Ok-clause-called
returns-in-Ok-clause-called g c =
    placed_calls (length c.args.blobs.now.sealed) (length c.append.new.self.sealed)
    (g.W.Wire.calls c.args.wire.now) (g.W.Wire.calls c.append.new.wire) c.in-Ok.ensures.called

pub returns-in-Err-Busy-clause-called : goal.returns-in-Err-Busy-clause-called
returns-in-Err-Busy-clause-called g c =
    busy_calls (length c.args.blobs.now.sealed) (length c.append.new.self.sealed)
    (g.W.Wire.calls c.args.wire.now) (g.W.Wire.calls c.append.new.wire) (rw c.in-Err-Busy.field-0-is at c.in-Err-Busy.ensures.called)

pub returns-in-Err-Doubt-clause-called : goal.returns-in-Err-Doubt-clause-called
returns-in-Err-Doubt-clause-called g c =
    doubt_calls (length c.args.blobs.now.sealed) (length c.append.new.self.sealed)
    (g.W.Wire.calls c.args.wire.now) (g.W.Wire.calls c.append.new.wire) (rw c.in-Err-Doubt.field-0-is at c.in-Err-Doubt.ensures.called)

pub returns-in-Ok-clause-follows : goal.returns-in-Ok-clause-follows
returns-in-Ok-clause-follows g c =
    append_goes_on c.append.result (laid c.args.blobs.now) (laid c.append.new.self) c.args.blobs.now.last c.append.new.self.last c.args.bytes.now c.append.ensures.appended

pub returns-in-Err-Busy-clause-follows : goal.returns-in-Err-Busy-clause-follows
returns-in-Err-Busy-clause-follows g c =
    append_goes_on c.append.result (laid c.args.blobs.now) (laid c.append.new.self) c.args.blobs.now.last c.append.new.self.last c.args.bytes.now c.append.ensures.appended

pub returns-in-Err-Doubt-clause-follows : goal.returns-in-Err-Doubt-clause-follows
returns-in-Err-Doubt-clause-follows g c =
    append_goes_on c.append.result (laid c.args.blobs.now) (laid c.append.new.self) c.args.blobs.now.last c.append.new.self.last c.args.bytes.now c.append.ensures.appended

pub returns-in-Err-NoMemory-clause-follows : goal.returns-in-Err-NoMemory-clause-follows
returns-in-Err-NoMemory-clause-follows g c =
    append_goes_on c.append.result (laid c.args.blobs.now) (laid c.append.new.self) c.args.blobs.now.last c.append.new.self.last c.args.bytes.now c.append.ensures.appended
