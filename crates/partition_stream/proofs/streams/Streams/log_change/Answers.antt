use Rattle.std.proofs.Common.{refl, sym, subst, arith}
use Rattle.stream_manager.specs.Places.{GoesOn}
use Rattle.stream_manager.specs.Streams.{laid}
use Rattle.stream_manager.proofs.RunLemmas.{stays_on}
use Rattle.partition_stream.specs.Outcomes.{IsLogged}
use Rattle.partition_stream.specs.Storing.{IsStoredChange}
use Rattle.partition_stream.specs.Streams.{ThreeStreams}
use Rattle.partition_stream.proofs.ChangeLemmas.{change_in-written}
use Rattle.partition_stream.proofs.ContentLemmas.{change_placed}
use Rattle.partition_stream.proofs.KeptLemmas.{kept_appended, stored_record}
use Rattle.partition_stream.proofs.LogLemmas.{is_logged}
use Rattle.partition_stream.proofs.streams.Streams.log_change.Goals as goal

pub record_of-requires : goal.record_of-requires
record_of-requires g c = change_placed (laid c.args.self.now.blobs) c.args.change.now c.requires.stored

pub invariant_of-self : goal.invariant_of-self
invariant_of-self g c =
    let stored : IsStoredChange (laid c.self.inside.blobs) c.args.change.now = subst (λ s. IsStoredChange (laid s.blobs) c.args.change.now) (sym c.self.view_is) c.requires.stored in
    kept_appended c.append_record.result (record { log = c.self.inside.log; blobs = c.self.inside.blobs; rows = c.self.inside.rows })
    c.append_record.new.log c.in_ok-block.block c.self.invariant
    (stored_record (laid c.self.inside.blobs) c.in_ok-block.block c.args.change.now c.args.epoch c.in_ok-block.ensures.fits (omega (arith, c.ranges.epoch)) c.in_ok-block.ensures.written stored)
    c.append_record.ensures.appended

pub returns-clause-logged : goal.returns-clause-logged
returns-clause-logged g c =
    let old : ThreeStreams = record { log = c.self.inside.log; blobs = c.self.inside.blobs; rows = c.self.inside.rows } in
    let new : ThreeStreams = record { log = c.append_record.new.log; blobs = c.self.inside.blobs; rows = c.self.inside.rows } in
    let read = change_in-written c.in_ok-block.block c.args.change.now c.args.epoch c.in_ok-block.ensures.fits (omega (arith, c.ranges.epoch)) c.in_ok-block.ensures.written in
    subst (λ s. IsLogged c.append_record.result s (c.args.change.now, c.args.epoch) new) c.self.view_is
    (is_logged c.append_record.result old new c.in_ok-block.block (c.args.change.now, c.args.epoch) read c.append_record.ensures.appended refl refl)

pub returns-in_err-block-clause-follows : goal.returns-in_err-block-clause-follows
returns-in_err-block-clause-follows g c = stays_on (laid c.args.self.now.log)

pub returns-clause-follows : goal.returns-clause-follows
returns-clause-follows g c =
    subst (λ (s : ThreeStreams). GoesOn (laid s.log) (laid c.append_record.new.log)) c.self.view_is c.append_record.ensures.follows
