-- What each fault of a block list says.
use Rattle.std.proofs.Common.{◌≡◌, inl, inr, ◌⊎◌, ℕ, Bool, true, false, not, cond, ◌||◌, List, [], ◌∷◌, length, Option, Some, None, Err, Result, MatchResult, refl, ap, subst}
use Rattle.std.specs.Prelude.{option_map, option_and_then}
use Rattle.std.specs.List.{list_any}
use Rattle.std.specs.Option.{option_map_or}
use Rattle.stamp_values.specs.Names.{is_within}
use Rattle.stamp_values.specs.declared.block.Wanted.{Wanted}
use Rattle.base64_text.specs.Base64.{standard, decoded_of, is_base64_within}
use Rattle.body_forms.specs.declared.body_fault.BodyFault.{BodyFault}
use Rattle.body_forms.specs.declared.body_fault.BodyFault.TheVariants as fault
use Rattle.body_forms.specs.BlockLists.{IsBlockListBody, Entry}
use Rattle.body_forms.specs.BlockListReading.{body_entries}
use Rattle.body_forms.specs.Ids.{has_bad_id, if_id, id_of, wanted_of, wanted_list, listed_ids, listed_blocks, block_list_reading}
use Rattle.body_forms.specs.Outcomes.{FaultOf}
use Rattle.body_forms.proofs.BlockListLemmas.{entries_sound, not_a_body}

-- ---- ids

within_none : (b : Bool) (bytes : List ℕ) → cond b (Some bytes) None ≡ None → b ≡ false
within_none true bytes h = cc
within_none false bytes h = refl

decoded_none : (o : Option (List ℕ)) → option_and_then if_id o ≡ None → option_map_or (λ bytes. is_within 1 64 (length bytes)) o false ≡ false
decoded_none None h = refl
decoded_none (Some bytes) h = within_none (is_within 1 64 (length bytes)) bytes h

no_id : (text : List ℕ) → id_of text ≡ None → is_base64_within 1 64 text ≡ false
unfolding id_of is_base64_within
no_id text h = decoded_none (decoded_of standard text) h

unmapped : {A B : Type 0} (f : A → B) (o : Option A) → option_map f o ≡ None → o ≡ None
unmapped f None h = refl
unmapped f (Some x) h = cc

bad_id : (e : Entry) → wanted_of e ≡ None → has_bad_id e ≡ true
bad_id e h = ap not (no_id e.id_text (unmapped _ (id_of e.id_text) h))

or_right : (a b : Bool) → b ≡ true → (a || b) ≡ true
or_right true b h = refl
or_right false b h = h

some_bad_id : (es : List Entry) → wanted_list es ≡ None → list_any has_bad_id es ≡ true
unfolding wanted_list
some_bad_id [] h = cc
some_bad_id (e ∷ es) h =
    elim (wanted_of e) as (λ o. wanted_of e ≡ o → option_and_then (λ w. option_map (λ ws. w ∷ ws) (wanted_list es)) o ≡ None → list_any has_bad_id (e ∷ es) ≡ true) [
      | Some w ↦ λ _ more. or_right (has_bad_id e) (list_any has_bad_id es) (some_bad_id es (unmapped _ (wanted_list es) more))
      | None ↦ λ none _. rw (bad_id e none) refl
    ] refl h

-- ---- faults

-- the fault is of the form or of the ids
ids_fault : (o : Option (List Wanted)) (f : BodyFault) → listed_ids o ≡ Err f → (o ≡ None) × (f ≡ fault.Id)
ids_fault (Some ws) f h = cc
ids_fault None f h = (refl, cc)

-- why the reading has a fault
abbrev FaultCause : Option (List Entry) → BodyFault → Type 0
FaultCause o f = ((o ≡ None) × (f ≡ fault.Form)) ⊎ ((es : List Entry) × (o ≡ Some es) × (wanted_list es ≡ None) × (f ≡ fault.Id))

cause : (o : Option (List Entry)) (f : BodyFault) → listed_blocks o ≡ Err f → FaultCause o f
cause None f h = inl (refl, cc)
cause (Some es) f h = let (none, is) = ids_fault (wanted_list es) f h in inr (es, refl, none, is)

form_cause : (o : Option (List Entry)) → FaultCause o fault.Form → o ≡ None
form_cause o (inl (none, is)) = none
form_cause o (inr (es, some, none, is)) = cc

id_cause : (o : Option (List Entry)) → FaultCause o fault.Id → (es : List Entry) × (o ≡ Some es) × (wanted_list es ≡ None)
id_cause o (inl (none, is)) = cc
id_cause o (inr (es, some, none, is)) = (es, some, none)

other_cause : (o : Option (List Entry)) (f : BodyFault) → (f ≡ fault.Form → ⊥) → (f ≡ fault.Id → ⊥) → FaultCause o f → ⊥
other_cause o f form id (inl (none, is)) = form is
other_cause o f form id (inr (es, some, none, is)) = id is

pub form_fault : (body : List ℕ) → block_list_reading body ≡ Err fault.Form → (entries : List Entry) → IsBlockListBody body entries → ⊥
form_fault body h entries is = not_a_body body entries (form_cause (body_entries body) (cause (body_entries body) fault.Form h)) is

pub id_fault : (body : List ℕ) → block_list_reading body ≡ Err fault.Id → (entries : List Entry) × IsBlockListBody body entries × (list_any has_bad_id entries ≡ true)
id_fault body h =
    let (es, some, none) = id_cause (body_entries body) (cause (body_entries body) fault.Id h) in
    (es, entries_sound body es some, some_bad_id es none)

pub other_fault : (body : List ℕ) (f : BodyFault) → (f ≡ fault.Form → ⊥) → (f ≡ fault.Id → ⊥) → block_list_reading body ≡ Err f → ⊥
other_fault body f form id h = other_cause (body_entries body) f form id (cause (body_entries body) f h)

-- ---- one outcome of a call

pub fault_of : {V : Type 0} (P : V → Type 0) (reading : Result (List Wanted) BodyFault) (r : Result V BodyFault) (f : BodyFault) → MatchResult r P (FaultOf reading) → r ≡ Err f → FaultOf reading f
fault_of P reading r f m is = subst (λ x. MatchResult x P (FaultOf reading)) is m
