-- The row of a blob that has one committed and one uncommitted block.
use Rattle.std.proofs.Common.{◌≡◌, Option, Some, IfSome, List, [], ◌∷◌, sym, subst}
use Rattle.std.proofs.lemmas.List.Elements.{All-cons, All-nil, All-same}
use Rattle.extent_node.specs.Copies.{Block}
use Rattle.stamp_types.specs.Contents.{EachActContent, EachCommittedContent}
use Rattle.stamp_types.specs.declared.act.Act.TheVariants as act
use Rattle.stamp_types.specs.declared.act.StoredBlob.{StoredBlob}
use Rattle.stamp_types.specs.declared.committed.Block as stored
use Rattle.stamp_types.specs.declared.committed.Committed.{Committed}
use Rattle.stamp_types.specs.declared.committed.UncommittedBlock.{UncommittedBlock}
use Rattle.stamp_types.specs.declared.piece.Piece.{Piece}
use Rattle.partition_stream.specs.Contents.{AreStored}

-- each content of the row is stored
pub row_stored : (es : List (List Block)) (r : StoredBlob) (c : Committed (List Piece)) (b : stored.Block (List Piece)) (u : UncommittedBlock) → r.committed ≡ Some c → c.blocks ≡ b ∷ []
    → r.uncommitted ≡ u ∷ [] → AreStored es b.content → AreStored es u.content → EachActContent (AreStored es) (act.StoredBlob r)
row_stored es r c b u committed blocks uncommitted first second = (
  subst (λ (o : Option (Committed (List Piece))). IfSome o (EachCommittedContent (AreStored es))) (sym committed)
      (All-same (λ (x : stored.Block (List Piece)). AreStored es x.content) c.blocks (b ∷ []) blocks
      (All-cons (λ (x : stored.Block (List Piece)). AreStored es x.content) b [] first (All-nil (λ (x : stored.Block (List Piece)). AreStored es x.content)))),
  All-same (λ (x : UncommittedBlock). AreStored es x.content) r.uncommitted (u ∷ []) uncommitted
      (All-cons (λ (x : UncommittedBlock). AreStored es x.content) u [] second (All-nil (λ (x : UncommittedBlock). AreStored es x.content))),
)
