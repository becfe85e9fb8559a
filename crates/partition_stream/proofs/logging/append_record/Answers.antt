use Rattle.stream_manager.specs.Streams.{laid}
use Rattle.stream_manager.proofs.RunLemmas.{append_goes_on}
use Rattle.partition_stream.proofs.logging.append_record.Goals as goal

pub returns-in-Ok-clause-follows : goal.returns-in-Ok-clause-follows
returns-in-Ok-clause-follows g c =
    append_goes_on c.append.result (laid c.args.log.now) (laid c.append.new.self) c.args.log.now.last c.append.new.self.last c.args.block.now c.append.ensures.appended

pub returns-in-Err-Busy-clause-follows : goal.returns-in-Err-Busy-clause-follows
returns-in-Err-Busy-clause-follows g c =
    append_goes_on c.append.result (laid c.args.log.now) (laid c.append.new.self) c.args.log.now.last c.append.new.self.last c.args.block.now c.append.ensures.appended

pub returns-in-Err-Doubt-clause-follows : goal.returns-in-Err-Doubt-clause-follows
returns-in-Err-Doubt-clause-follows g c =
    append_goes_on c.append.result (laid c.args.log.now) (laid c.append.new.self) c.args.log.now.last c.append.new.self.last c.args.block.now c.append.ensures.appended

pub returns-in-Err-NoMemory-clause-follows : goal.returns-in-Err-NoMemory-clause-follows
returns-in-Err-NoMemory-clause-follows g c =
    append_goes_on c.append.result (laid c.args.log.now) (laid c.append.new.self) c.args.log.now.last c.append.new.self.last c.args.block.now c.append.ensures.appended
