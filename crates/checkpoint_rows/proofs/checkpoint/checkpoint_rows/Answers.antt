use Rattle.std.proofs.Common.{rules}
use Rattle.stream_manager.specs.Streams.{laid}
use Rattle.checkpoint_rows.proofs.PlacedLemmas.{all_stored, placed_rows, world_placed}
use Rattle.checkpoint_rows.proofs.ReadyLemmas.{ready_world}
use Rattle.checkpoint_rows.proofs.checkpoint.checkpoint_rows.Goals as goal

pub write_rows-requires-clause-ready : goal.write_rows-requires-clause-ready
write_rows-requires-clause-ready g c = ready_world (laid c.args.streams.now.blobs) c.args.rows.now c.requires.writable c.requires.stored

pub put_in_place-requires-clause-stored : goal.put_in_place-requires-clause-stored
put_in_place-requires-clause-stored g c =
    all_stored (laid c.args.streams.now.blobs) c.begin_checkpoint-new.result c.write_rows.new.new c.args.rows.now c.requires.stored
    (c.begin_checkpoint-new.ensures.stored (laid c.args.streams.now.blobs)) c.in_ok-write_rows.ensures.written

pub returns-clause-meaning : goal.returns-clause-meaning
returns-clause-meaning g c =
    world_placed c.args.streams.now c.put_in_place.new.self c.begin_checkpoint-new.result c.write_rows.new.new c.args.rows.now c.requires.writable
    c.begin_checkpoint-new.ensures.empty c.in_ok-write_rows.ensures.written c.put_in_place.ensures.placed

pub returns-clause-rows : goal.returns-clause-rows
returns-clause-rows g c =
    placed_rows c.args.streams.now c.put_in_place.new.self c.begin_checkpoint-new.result c.write_rows.new.new c.args.rows.now
    c.begin_checkpoint-new.ensures.empty c.in_ok-write_rows.ensures.written c.put_in_place.ensures.placed

pub returns-in_err-write_rows-clause-heard : goal.returns-in_err-write_rows-clause-heard
returns-in_err-write_rows-clause-heard g c = λ reached. c.write_rows.ensures.heard (search rules)
