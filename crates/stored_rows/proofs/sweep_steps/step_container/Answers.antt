use Rattle.std.proofs.Common.{◌≡◌, ◌∙◌, Ok, Result, subst, sym, true}
use Rattle.partition_stream.specs.declared.faults.TakeFault.{TakeFault}
use Rattle.stored_rows.specs.Noting.{taken_by}
use Rattle.stored_rows.specs.Ranges.{covers}
use Rattle.stored_rows.specs.Rewriting.{LeavesRowDoubt}
use Rattle.stored_rows.specs.declared.sweep_steps.Went.{Went}
use Rattle.stored_rows.proofs.StepLemmas.{other_doubt}
use Rattle.stored_rows.proofs.SteppedLemmas.{counted_covered, own_doubt, own_not_noted, own_passed}
use Rattle.stored_rows.proofs.HeardLemmas.{hears_not_written, hears_written}
use Rattle.stored_rows.proofs.sweep_steps.step_container.Goals as goal

pub returns-in-Ok-clause-stepped : goal.returns-in-Ok-clause-stepped
returns-in-Ok-clause-stepped g c =
    let covered : covers c.args.range.now c.args.key ≡ true =
    counted_covered c.args.streams.now c.args.range.now c.args.rows.now c.args.doubt.now c.requires.loaded c.args.key c.requires.next.seen in
    let ok : taken_by c.write_container-logged.result ≡ Ok tt = sym c.note_row.ensures.answer ∙ c.in-Ok.is in
    own_passed c.args.streams.now c.write_container-logged.new.streams c.args.range.now c.args.sweep.now c.args.rows.now c.args.doubt.now c.note_row.new.doubt c.requires.loaded c.requires.swept
    c.requires.sure c.write_container-logged.ensures.whole c.write_container-logged.ensures.follows c.args.key covered c.write_container-logged.result c.write_container-logged.ensures.logged
    c.write_container-logged.ensures.row c.note_row.ensures.kept c.args.spare.now c.requires.outside c.requires.next ok

pub returns-in-Err-clause-stepped : goal.returns-in-Err-clause-stepped
returns-in-Err-clause-stepped g c =
    let covered : covers c.args.range.now c.args.key ≡ true =
    counted_covered c.args.streams.now c.args.range.now c.args.rows.now c.args.doubt.now c.requires.loaded c.args.key c.requires.next.seen in
    own_not_noted c.args.streams.now c.write_container-logged.new.streams c.args.range.now c.args.sweep.now c.args.rows.now c.args.doubt.now c.note_row.new.doubt c.requires.loaded c.requires.swept
    c.requires.sure c.write_container-logged.ensures.whole c.write_container-logged.ensures.follows c.args.key covered c.write_container-logged.result c.write_container-logged.ensures.logged
    c.write_container-logged.ensures.row c.note_row.ensures.kept c.args.spare.now

pub returns-in-Err-clause-doubt : goal.returns-in-Err-clause-doubt
returns-in-Err-clause-doubt g c =
    let covered : covers c.args.range.now c.args.key ≡ true =
    counted_covered c.args.streams.now c.args.range.now c.args.rows.now c.args.doubt.now c.requires.loaded c.args.key c.requires.next.seen in
    other_doubt (Unit {0}) Went c.in-Err.fault c.write_container-logged.new.streams
    (subst (λ (r : Result (Unit {0}) TakeFault). LeavesRowDoubt r c.write_container-logged.new.streams) (sym c.note_row.ensures.answer ∙ c.in-Err.is)
    (own_doubt c.args.streams.now c.write_container-logged.new.streams c.args.range.now c.args.sweep.now c.args.rows.now c.args.doubt.now c.note_row.new.doubt c.requires.loaded c.requires.swept
    c.requires.sure c.write_container-logged.ensures.whole c.write_container-logged.ensures.follows c.args.key covered c.write_container-logged.result c.write_container-logged.ensures.logged
    c.write_container-logged.ensures.row c.note_row.ensures.kept c.args.spare.now))

pub returns-in-Ok-clause-heard : goal.returns-in-Ok-clause-heard
returns-in-Ok-clause-heard g c = hears_written c.write_container-logged.result c.note_row.result (g.W.Wire.calls c.args.wire.now) (g.W.Wire.calls c.write_container-logged.new.wire) (g.W.Wire.faults c.args.wire.now) (g.W.Wire.faults c.write_container-logged.new.wire) c.note_row.ensures.answer c.in-Ok.is c.write_container-logged.ensures.heard

pub returns-in-Err-clause-heard : goal.returns-in-Err-clause-heard
returns-in-Err-clause-heard g c = hears_not_written Went c.write_container-logged.result c.note_row.result c.in-Err.fault (g.W.Wire.calls c.args.wire.now) (g.W.Wire.calls c.write_container-logged.new.wire) (g.W.Wire.faults c.args.wire.now) (g.W.Wire.faults c.write_container-logged.new.wire) c.note_row.ensures.answer c.in-Err.is c.write_container-logged.ensures.heard
