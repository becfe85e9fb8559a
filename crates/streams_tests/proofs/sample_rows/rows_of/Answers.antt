use Rattle.std.proofs.Common.{◌≡◌, List, rules, subst, sym}
use Rattle.std.specs.FinMap as finite
use Rattle.stamp_types.specs.Contents.{EachWorldContent}
use Rattle.stamp_types.specs.World.{World, changed_in, same_pieces}
use Rattle.stamp_types.specs.declared.piece.Piece.{Piece}
use Rattle.partition_stream.specs.Contents.{AreStored}
use Rattle.checkpoint_rows.specs.Writing.{AreWritable}
use Rattle.streams_tests.proofs.CreatedLemmas.{created_stored, created_writable}
use Rattle.streams_tests.proofs.sample_rows.rows_of.Goals as goal

pub returns-clause-writable : goal.returns-clause-writable
returns-clause-writable g c =
    let made : c.take.new.self ≡ changed_in same_pieces finite.empty c.args.change = search rules in
    subst (λ (w : World (List Piece)). AreWritable w) (sym made) (created_writable c.args.change c.requires.0 c.act-names.ensures.valid c.requires.1)

pub returns-clause-stored : goal.returns-clause-stored
returns-clause-stored g c = λ es.
    let made : c.take.new.self ≡ changed_in same_pieces finite.empty c.args.change = search rules in
    subst (λ (w : World (List Piece)). EachWorldContent (AreStored es) w) (sym made) (created_stored es c.args.change c.requires.0 c.requires.1)
