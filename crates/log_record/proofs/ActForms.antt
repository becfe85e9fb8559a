-- The forms of what changes do, and of a key with what a change does.
use Rattle.std.proofs.Common.{◌≡◌, ℕ, List, ◌++◌, Some, refl, sym, subst}
use Rattle.stamp_types.specs.declared.act.Act.{Act}
use Rattle.stamp_types.specs.declared.act.Act.TheVariants as acts
use Rattle.log_record.specs.Fits.{FitsCreateContainer, FitsSetContainerMetadata, FitsSetAcl, FitsPutBlob, FitsSetMetadata, FitsPutBlock, FitsPutBlockList, FitsContainerRow, FitsStoredBlob, FitsDeleteBlob, FitsAct}
use Rattle.log_record.specs.Reading.{Read, made_at}
use Rattle.log_record.specs.Records.{create_container_bytes, set_container_metadata_bytes, set_acl_bytes, put_blob_bytes, set_metadata_bytes, put_block_bytes, put_block_list_bytes, container_row_bytes, stored_blob_bytes, delete_blob_bytes, kind_of, act_bytes}
use Rattle.log_record.specs.ReadRecords.{create_container_of, create_container_at, set_container_metadata_of, set_container_metadata_at, set_acl_of, set_acl_at, put_blob_of, put_blob_at, set_metadata_of, set_metadata_at, put_block_of, put_block_at, put_block_list_of, put_block_list_at, container_row_of, container_row_at, stored_blob_of, stored_blob_at, delete_blob_of, delete_blob_at, act_at}
use Rattle.log_record.proofs.FormLemmas.{IsBytes, IsForm, some_is, bind_some, long_form}
use Rattle.log_record.proofs.FieldForms.{listed, optional, both, made, got, case_taken, moment_form, level_form, text_form, id_form, metadata_form, props_form, acl_form, pieces_form, committed_form, uncommitted_form, standing_form, taken_form}

create_container_form : IsForm FitsCreateContainer create_container_bytes create_container_at
unfolding create_container_at
create_container_form =
    made create_container_of (λ a. (a.moment, (a.level, a.metadata))) (λ p. refl) (λ a. refl)
    (both moment_form (both level_form metadata_form))

set_container_metadata_form : IsForm FitsSetContainerMetadata set_container_metadata_bytes set_container_metadata_at
unfolding set_container_metadata_at
set_container_metadata_form =
    made set_container_metadata_of (λ a. (a.moment, a.metadata)) (λ p. refl) (λ a. refl)
    (both moment_form metadata_form)

set_acl_form : IsForm FitsSetAcl set_acl_bytes set_acl_at
unfolding set_acl_at
set_acl_form =
    made set_acl_of (λ a. (a.moment, a.acl)) (λ p. refl) (λ a. refl)
    (both moment_form acl_form)

put_blob_form : IsForm FitsPutBlob put_blob_bytes put_blob_at
unfolding put_blob_at
put_blob_form =
    made put_blob_of (λ a. (a.blob, (a.moment, (a.props, (a.metadata, a.content))))) (λ p. refl) (λ a. refl)
    (both text_form (both moment_form (both props_form (both metadata_form pieces_form))))

set_metadata_form : IsForm FitsSetMetadata set_metadata_bytes set_metadata_at
unfolding set_metadata_at
set_metadata_form =
    made set_metadata_of (λ a. (a.blob, (a.moment, a.metadata))) (λ p. refl) (λ a. refl)
    (both text_form (both moment_form metadata_form))

put_block_form : IsForm FitsPutBlock put_block_bytes put_block_at
unfolding put_block_at
put_block_form =
    made put_block_of (λ a. (a.blob, (a.id, a.content))) (λ p. refl) (λ a. refl)
    (both text_form (both id_form pieces_form))

put_block_list_form : IsForm FitsPutBlockList put_block_list_bytes put_block_list_at
unfolding put_block_list_at
put_block_list_form =
    made put_block_list_of (λ a. (a.blob, (a.moment, (a.props, (a.metadata, a.entries))))) (λ p. refl) (λ a. refl)
    (both text_form (both moment_form (both props_form (both metadata_form (listed taken_form)))))

container_row_form : IsForm FitsContainerRow container_row_bytes container_row_at
unfolding container_row_at
container_row_form =
    made container_row_of (λ a. (a.count, a.standing)) (λ p. refl) (λ a. refl)
    (both long_form (optional standing_form))

stored_blob_form : IsForm FitsStoredBlob stored_blob_bytes stored_blob_at
unfolding stored_blob_at
stored_blob_form =
    made stored_blob_of (λ a. (a.blob, (a.committed, a.uncommitted))) (λ p. refl) (λ a. refl)
    (both text_form (both (optional committed_form) (listed uncommitted_form)))

delete_blob_form : IsForm FitsDeleteBlob delete_blob_bytes delete_blob_at
unfolding delete_blob_at
delete_blob_form = made delete_blob_of (λ a. a.blob) (λ p. refl) (λ a. refl) text_form

-- what a change does is found by the number of its kind, whatever bytes come after it
pub act_again : (a : Act) (rest : List ℕ) → FitsAct a → act_at (kind_of a) (act_bytes a ++ rest) ≡ Some (a, rest)
unfolding act_at
act_again (acts.CreateContainer a) rest fits = rw (create_container_form.again a rest fits) refl
act_again (acts.SetContainerMetadata a) rest fits = rw (set_container_metadata_form.again a rest fits) refl
act_again (acts.SetAcl a) rest fits = rw (set_acl_form.again a rest fits) refl
act_again acts.DeleteContainer rest fits = refl
act_again (acts.PutBlob a) rest fits = rw (put_blob_form.again a rest fits) refl
act_again (acts.SetMetadata a) rest fits = rw (set_metadata_form.again a rest fits) refl
act_again (acts.DeleteBlob a) rest fits = rw (delete_blob_form.again a rest fits) refl
act_again (acts.PutBlock a) rest fits = rw (put_block_form.again a rest fits) refl
act_again (acts.PutBlockList a) rest fits = rw (put_block_list_form.again a rest fits) refl
act_again (acts.ContainerRow a) rest fits = rw (container_row_form.again a rest fits) refl
act_again (acts.StoredBlob a) rest fits = rw (stored_blob_form.again a rest fits) refl

-- the number is of the kind of this act, and its bytes come before these bytes
abbrev pub IsAct : List ℕ → Act → List ℕ → ℕ → Type 0
IsAct t a rest k = (k ≡ kind_of a) × (t ≡ act_bytes a ++ rest)

act_made : {B : Type 0} {Fits : B → Type 0} {bytes : B → List ℕ} {at : List ℕ → Read B} (make : B → Act) (k : ℕ) → IsForm Fits bytes at
    → ((b : B) → kind_of (make b) ≡ k) → ((b : B) → act_bytes (make b) ≡ bytes b)
    → (t : List ℕ) (a : Act) (rest : List ℕ) → IsBytes t → made_at make at t ≡ Some (a, rest) → IsAct t a rest k
act_made {B} {Fits} {bytes} {at} make k form kinds same t a rest good e =
    let b = bind_some (at t) (λ b. Some (make b.0, b.1)) (a, rest) e in
    subst (λ (x : Act × List ℕ). IsAct t x.0 x.1 k) (some_is (make b.0.0, b.0.1) (a, rest) b.2)
    (sym (kinds b.0.0), rw (same b.0.0) (form.taken t b.0.0 b.0.1 good b.1))

-- what is found of a kind is of that kind, and its bytes are there
pub act_taken : (k : ℕ) (t : List ℕ) (a : Act) (rest : List ℕ) → IsBytes t → act_at k t ≡ Some (a, rest) → IsAct t a rest k
unfolding act_at
act_taken k t a rest good e =
    case_taken (IsAct t a rest) k 1 _ _ _ (act_made acts.CreateContainer 1 create_container_form (λ b. refl) (λ b. refl) t a rest good)
    (case_taken (IsAct t a rest) k 2 _ _ _ (act_made acts.SetContainerMetadata 2 set_container_metadata_form (λ b. refl) (λ b. refl) t a rest good)
    (case_taken (IsAct t a rest) k 3 _ _ _ (act_made acts.SetAcl 3 set_acl_form (λ b. refl) (λ b. refl) t a rest good)
    (case_taken (IsAct t a rest) k 4 _ _ _ deleted
    (case_taken (IsAct t a rest) k 5 _ _ _ (act_made acts.PutBlob 5 put_blob_form (λ b. refl) (λ b. refl) t a rest good)
    (case_taken (IsAct t a rest) k 6 _ _ _ (act_made acts.SetMetadata 6 set_metadata_form (λ b. refl) (λ b. refl) t a rest good)
    (case_taken (IsAct t a rest) k 7 _ _ _ (act_made acts.DeleteBlob 7 delete_blob_form (λ b. refl) (λ b. refl) t a rest good)
    (case_taken (IsAct t a rest) k 8 _ _ _ (act_made acts.PutBlock 8 put_block_form (λ b. refl) (λ b. refl) t a rest good)
    (case_taken (IsAct t a rest) k 9 _ _ _ (act_made acts.PutBlockList 9 put_block_list_form (λ b. refl) (λ b. refl) t a rest good)
    (case_taken (IsAct t a rest) k 10 _ _ _ (act_made acts.ContainerRow 10 container_row_form (λ b. refl) (λ b. refl) t a rest good)
    (case_taken (IsAct t a rest) k 11 _ _ _ (act_made acts.StoredBlob 11 stored_blob_form (λ b. refl) (λ b. refl) t a rest good) (λ h. absurd cc))))))))))) e
  where
    deleted : got acts.DeleteContainer t ≡ got a rest → IsAct t a rest 4
    deleted h = subst (λ (x : Act × List ℕ). IsAct t x.0 x.1 4) (some_is (acts.DeleteContainer, t) (a, rest) h) (refl, refl)
