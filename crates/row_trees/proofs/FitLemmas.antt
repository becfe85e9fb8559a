-- What holds of a container if a change fits.
use Rattle.std.proofs.Common.{◌≡◌, ◌<◌, Bool, true, false, ◌&&◌, ◌||◌, List, length, nat_lt, refl, ap, ◌∙◌, subst}
use Rattle.std.proofs.lemmas.Bool.{and_parts, ltb-true}
use Rattle.std.specs.Prelude.{is_some}
use Rattle.stamp_values.specs.Names.{is_account, is_container, is_blob}
use Rattle.stamp_types.specs.declared.act.Act.{Act}
use Rattle.stamp_types.specs.declared.act.Act.TheVariants as act
use Rattle.stamp_types.specs.declared.act.StoredBlob.{StoredBlob}
use Rattle.stamp_types.specs.declared.piece.Piece.{Piece}
use Rattle.stamp_types.specs.ActKinds.{is_row}
use Rattle.stamp_types.specs.Changes.{KeyedAct, is_act, is_change, is_committed, is_stored_blob, are_uncommitted}
use Rattle.stamp_types.specs.Pieces.{pieces_len}
use Rattle.stamp_types.specs.World.{Part, no_part, part_value}
use Rattle.row_trees.specs.Fits.{commits, fits, fits_blob, creates, deletes}
use Rattle.row_trees.specs.Fits.{count_limit}

-- a container takes one more change, if the change fits and is not a row of a checkpoint
pub room_for_change : (p : Part (List Piece)) (a : Act) → fits (part_value pieces_len p) a ≡ true → is_row a ≡ false → p.count < count_limit
room_for_change p a h row =
    let z = part_value pieces_len p in
    let room : Bool = (is_some p.standing || creates a) && nat_lt p.count count_limit in
    let made : (room && fits_blob z a) ≡ true = subst (λ b. (b || (room && fits_blob z a)) ≡ true) row h in
    ltb-true p.count count_limit (and_parts (is_some p.standing || creates a) (nat_lt p.count count_limit) (and_parts room (fits_blob z a) made).0).1

-- a deletion does not fit a container that never was
pub no_deletion : (a : Act) → fits (part_value pieces_len (no_part {C = List Piece})) a ≡ true → deletes a ≡ false
no_deletion act.DeleteContainer h = cc
no_deletion (act.DeleteBlob a) h = cc
no_deletion (act.CreateContainer a) h = refl
no_deletion (act.SetContainerMetadata a) h = refl
no_deletion (act.SetAcl a) h = refl
no_deletion (act.PutBlob a) h = refl
no_deletion (act.SetMetadata a) h = refl
no_deletion (act.PutBlock a) h = refl
no_deletion (act.PutBlockList a) h = refl
no_deletion (act.ContainerRow a) h = refl
no_deletion (act.StoredBlob a) h = refl

-- a deletion commits no list
pub deletion_commits_nothing : (a : Act) → deletes a ≡ true → commits a ≡ false
deletion_commits_nothing (act.PutBlockList a) h = cc
deletion_commits_nothing act.DeleteContainer h = refl
deletion_commits_nothing (act.DeleteBlob a) h = refl
deletion_commits_nothing (act.CreateContainer a) h = refl
deletion_commits_nothing (act.SetContainerMetadata a) h = refl
deletion_commits_nothing (act.SetAcl a) h = refl
deletion_commits_nothing (act.PutBlob a) h = refl
deletion_commits_nothing (act.SetMetadata a) h = refl
deletion_commits_nothing (act.PutBlock a) h = refl
deletion_commits_nothing (act.ContainerRow a) h = refl
deletion_commits_nothing (act.StoredBlob a) h = refl

-- the act of a good change is good
pub act_of_change : (c : KeyedAct) (a : Act) → is_change c ≡ true → a ≡ c.act → is_act a ≡ true
act_of_change c a good is = ap is_act is ∙ (and_parts (is_account c.key.account && is_container c.key.container) (is_act c.act) good).1

-- the uncommitted blocks of a good row of a stored blob are good
pub uncommitted_of_row : (r : StoredBlob) → is_stored_blob r ≡ true → are_uncommitted r.uncommitted ≡ true
uncommitted_of_row r good =
    (and_parts (is_blob r.blob && (is_some r.committed || nat_lt 0 (length r.uncommitted)) && is_committed r.committed) (are_uncommitted r.uncommitted) good).1
