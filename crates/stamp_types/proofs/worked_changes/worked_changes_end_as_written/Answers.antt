use Rattle.std.proofs.Common.{◌≡◌, ℕ, ◌+◌, List, [], ◌∷◌, ◌++◌, Some, None, refl, ap, unwrap_or, ◌∙◌, take}
use Rattle.std.specs.FinMap as finite
use Rattle.std.specs.Prelude.{nat_eq, true, false}
use Rattle.std.specs.Cmp.Lexicographic.{pointwise}
use Rattle.std.proofs.lemmas.Slice.Eq.{bytes_eq-Decides}
use Rattle.stamp_types.specs.Pieces.{held}
use Rattle.std.specs.Option.{option_map, option_to_list}
use Rattle.stamp_types.specs.World.{Blob, Part, no_blob, no_part, block_of, blob_in, changed, committed_with_metadata}
use Rattle.stamp_types.specs.declared.act.Act.TheVariants as act
use Rattle.stamp_types.specs.WorkedChanges.{after_changes, first_blob, first_changes, first_id, last_changes, one_meta, one_piece, plain_props, second_blob, second_id}
use Rattle.stamp_types.proofs.EffectLemmas.{blob_in-insert, blob_in-set_metadata, get-insert_same, get-insert_other, get-remove_same, get-remove_other}
use Rattle.stamp_types.proofs.worked_changes.worked_changes_end_as_written.Goals as goal

put_block : (p : Part (List ℕ)) (id n : ℕ) → blob_in (changed held (act.PutBlock (record { blob = first_blob; id = id ∷ []; content = one_piece n })) p) first_blob
    ≡ record { committed = (blob_in p first_blob).committed; uncommitted = finite.insert (blob_in p first_blob).uncommitted (id ∷ []) (n ∷ []) }
put_block p id n = blob_in-insert held p (p.count + 1) p.standing first_blob _

pub returns-clause-gone : goal.returns-clause-gone
returns-clause-gone c = get-remove_same _ second_blob

differ : (a b : ℕ) → nat_eq a b ≡ false → a ∷ [] ≡ b ∷ [] → ⊥
differ a b apart same = let alike : pointwise nat_eq (a ∷ []) (b ∷ []) ≡ true = (bytes_eq-Decides (a ∷ []) (b ∷ [])).1 same in cc

-- the container after so many of the changes
abbrev after : ℕ → Part (List ℕ)
after n = after_changes held (take n (first_changes ++ last_changes)) no_part

put_first : blob_in (after 2) first_blob ≡ record { committed = Some (record { etag = 2; made = 20; props = plain_props; metadata = []; blocks = record { id = None; content = 1 ∷ [] } ∷ [] }); uncommitted = finite.empty }
put_first = blob_in-insert held (after 1) 2 (after 1).standing first_blob _

pub returns-clause-seen : goal.returns-clause-seen
returns-clause-seen c =
    ap (λ (b : Blob (List ℕ)). b.committed) (put_block (after 4) 66 4)
    ∙ ap (λ (b : Blob (List ℕ)). b.committed) (put_block (after 3) 65 3)
    ∙ ap (λ (b : Blob (List ℕ)). b.committed) (put_block (after 2) 65 2)
    ∙ ap (λ (b : Blob (List ℕ)). b.committed) put_first

first_block : finite.get (blob_in (after 5) first_blob).uncommitted first_id ≡ Some (3 ∷ [])
first_block =
    ap (λ (b : Blob (List ℕ)). finite.get b.uncommitted first_id) (put_block (after 4) 66 4)
    ∙ get-insert_other (blob_in (after 4) first_blob).uncommitted second_id (4 ∷ []) first_id (differ 65 66 refl)
    ∙ ap (λ (b : Blob (List ℕ)). finite.get b.uncommitted first_id) (put_block (after 3) 65 3)
    ∙ get-insert_same (blob_in (after 3) first_blob).uncommitted first_id (3 ∷ [])

pub returns-clause-unseen : goal.returns-clause-unseen
returns-clause-unseen c = first_block

commit : blob_in (after 6) first_blob ≡ record { committed = Some (record { etag = 6; made = 30; props = plain_props; metadata = []; blocks = record { id = Some first_id; content = 3 ∷ [] } ∷ [] }); uncommitted = finite.empty }
commit =
    blob_in-insert held (after 5) 6 (after 5).standing first_blob _
    ∙ ap (λ o. record { committed = Some (record { etag = 6; made = 30; props = plain_props; metadata = []; blocks = option_to_list (option_map (block_of first_id) o) ++ [] }); uncommitted = finite.empty }) first_block

metadata : blob_in (after 7) first_blob ≡ record { committed = option_map (committed_with_metadata 7 (record { blob = first_blob; moment = 40; metadata = one_meta })) (blob_in (after 6) first_blob).committed; uncommitted = (blob_in (after 6) first_blob).uncommitted }
metadata = blob_in-set_metadata held (after 6) (record { blob = first_blob; moment = 40; metadata = one_meta })

pub returns-clause-left : goal.returns-clause-left
returns-clause-left c =
    ap (λ o. unwrap_or o no_blob) (get-remove_other (after 8).blobs second_blob first_blob (differ 97 98 refl) ∙ get-insert_other (after 7).blobs second_blob _ first_blob (differ 97 98 refl))
    ∙ metadata
    ∙ ap (λ (b : Blob (List ℕ)). record { committed = option_map (committed_with_metadata 7 (record { blob = first_blob; moment = 40; metadata = one_meta })) b.committed; uncommitted = b.uncommitted }) commit
