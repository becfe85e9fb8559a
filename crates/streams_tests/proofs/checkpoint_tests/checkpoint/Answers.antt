use Rattle.std.proofs.Common.{rules, tests}
use Rattle.stream_manager.specs.Streams.{laid}
use Rattle.streams_tests.proofs.checkpoint_tests.checkpoint.Goals as goal

pub put_in_place-replaced-requires-clause-stored : goal.put_in_place-replaced-requires-clause-stored
put_in_place-replaced-requires-clause-stored g c =
    let es = laid c.args.streams.now.blobs in
    c.add-second.ensures.stored (search (rules, tests)) es (c.add-first.ensures.stored (search (rules, tests)) es (c.begin_checkpoint-rows.ensures.stored es))
