use Rattle.std.proofs.Common.{◌≡◌, List, rules, subst}
use Rattle.std.specs.Prelude.{IfErr, IfOk}
use Rattle.stamp_types.specs.declared.piece.Piece.{Piece}
use Rattle.stamp_types.specs.World.{Blob}
use Rattle.block_blobs.specs.BlockLists.{taken_fault}
use Rattle.block_blobs.specs.Faults.{IsFault}
use Rattle.block_blobs.specs.FoundBlocks.{AreBlocksOf}
use Rattle.row_trees.proofs.found_blob.FoundBlob.listed.Goals as goal

pub returns-in-Some-clause-fault : goal.returns-in-Some-clause-fault
returns-in-Some-clause-fault c =
    let row : c.in-Some.row.now ≡ c.args.self.now = search rules in
    subst (λ (b : Blob (List Piece)). IfErr c.listed.result (IsFault (taken_fault b c.args.entries.now))) row c.listed.ensures.fault

pub returns-in-None-clause-fault : goal.returns-in-None-clause-fault
returns-in-None-clause-fault c =
    let row : c.new.result ≡ c.args.self.now = search rules in
    subst (λ (b : Blob (List Piece)). IfErr c.listed-in-None-2.result (IsFault (taken_fault b c.args.entries.now))) row c.listed-in-None-2.ensures.fault

pub returns-in-Some-clause-value : goal.returns-in-Some-clause-value
returns-in-Some-clause-value c =
    let row : c.in-Some.row.now ≡ c.args.self.now = search rules in
    subst (λ (b : Blob (List Piece)). IfOk c.listed.result (λ found. AreBlocksOf b c.args.entries.now found)) row c.listed.ensures.value

pub returns-in-None-clause-value : goal.returns-in-None-clause-value
returns-in-None-clause-value c =
    let row : c.new.result ≡ c.args.self.now = search rules in
    subst (λ (b : Blob (List Piece)). IfOk c.listed-in-None-2.result (λ found. AreBlocksOf b c.args.entries.now found)) row c.listed-in-None-2.ensures.value
