-- What a body is read as is what the grammar says, in both directions.
use Rattle.std.proofs.Common.{◌≡◌, ◌≢◌, inl, inr, ℕ, Bool, true, false, not, cond, ◌||◌, List, [], ◌∷◌, length, map, All, Option, Some, None, Ok, Err, refl, sym, ap, ◌∙◌, subst, rules}
use Rattle.std.specs.Prelude.{option_map, option_and_then}
use Rattle.std.specs.List.{list_any}
use Rattle.std.specs.Option.{option_map_or}
use Rattle.std.proofs.lemmas.List.Elements.{All-head, All-tail}
use Rattle.std.proofs.lemmas.Option.{option_and_then_some, same_Some}
use Rattle.base64.proofs.EngineFacts.{decode_of-encode_of}
use Rattle.stamp_values.specs.Names.{is_within}
use Rattle.stamp_values.specs.declared.block.Wanted.{Wanted}
use Rattle.stamp_values.specs.declared.policy.Policy.{Policy}
use Rattle.base64_text.specs.Base64.{standard, encode_of, decoded_of, is_base64_within, IsBytes}
use Rattle.base64_text.proofs.AlphabetLemmas.{encode_of-decoded}
use Rattle.base64_text.proofs.DecodingLemmas.{decoded_some}
use Rattle.body_forms.specs.declared.body_fault.BodyFault.{BodyFault}
use Rattle.body_forms.specs.declared.body_fault.BodyFault.TheVariants as fault
use Rattle.body_forms.specs.BlockLists.{IsBlockListBody, Entry}
use Rattle.body_forms.specs.BlockListReading.{body_entries}
use Rattle.body_forms.specs.Ids.{has_bad_id, wanted_entry, if_id, id_of, wanted_of, wanted_list, listed_ids, listed_blocks, block_list_reading, IsBlockId, HaveBlockIds}
use Rattle.body_forms.specs.PolicyReading.{body_policies}
use Rattle.body_forms.specs.Policies.{Sent, ArePoliciesBody}
use Rattle.body_forms.specs.PolicyValues.{judged_form, policies_reading, IsFirstFault, SaysPolicies, SaysFault}
use Rattle.body_forms.proofs.BlockListLemmas.{entries_read, entries_sound}
use Rattle.body_forms.proofs.PolicyFaults.{says_fault, reading_is, good_judged, fault_judged}
use Rattle.body_forms.proofs.PolicyLemmas.{policies_read, policies_sound}
use Rattle.xml_text.proofs.Runs.{if_none}
use Rattle.xml_text.proofs.Sound.{mapped_some}
use Rattle.body_forms.proofs.TextBytes.{body_is_bytes}

-- ---- ids

-- the Base64 of an id is read as the id
id_again : (id : List ℕ) → IsBlockId id → id_of (encode_of standard id) ≡ Some id
unfolding id_of
id_again id (bytes, within) =
    ap (λ o. option_and_then if_id o) (decoded_some standard (encode_of standard id) id (decode_of-encode_of standard id (search rules) bytes)) ∙ ap (λ b. cond b (Some id) None) within

wanted_again : (ws : List Wanted) → HaveBlockIds ws → wanted_list (map wanted_entry ws) ≡ Some ws
unfolding wanted_list
wanted_again [] have = refl
wanted_again (w ∷ ws) have = rw (id_again w.id (All-head (λ w. IsBlockId w.id) w ws have), wanted_again ws (All-tail (λ w. IsBlockId w.id) w ws have)) refl

id_text_is : (text id : List ℕ) → IsBytes text → id_of text ≡ Some id → text ≡ encode_of standard id
unfolding id_of
id_text_is text id bytes h =
    option_and_then_some if_id (decoded_of standard text) id h λ decoded found within.
    let same = same_Some decoded id (if_none (is_within 1 64 (length decoded)) (Some decoded) id within).1 in
    encode_of-decoded text id bytes (found ∙ ap Some same)

entry_is : (e : Entry) (w : Wanted) → IsBytes e.id_text → wanted_of e ≡ Some w → e ≡ wanted_entry w
entry_is e w bytes h =
    mapped_some (λ (id : List ℕ). let v : Wanted = record { id = id; lookup = e.lookup } in v) (id_of e.id_text) w h λ id found same.
    let text = id_text_is e.id_text id bytes found in
    let entry : e ≡ wanted_entry (record { id = id; lookup = e.lookup }) = λ i. record { lookup = e.lookup; id_text = text i } in
    entry ∙ ap wanted_entry same

entries_are : (es : List Entry) (ws : List Wanted) → All (λ e. IsBytes e.id_text) es → wanted_list es ≡ Some ws → es ≡ map wanted_entry ws
unfolding wanted_list
entries_are [] ws bytes h = ap (map wanted_entry) (same_Some [] ws h)
entries_are (e ∷ es) ws bytes h =
    option_and_then_some (λ (w : Wanted). option_map (λ (more : List Wanted). w ∷ more) (wanted_list es)) (wanted_of e) ws h λ w one rest.
    mapped_some (λ (more : List Wanted). w ∷ more) (wanted_list es) ws rest λ more found same.
    let first = entry_is e w (All-head (λ e. IsBytes e.id_text) e es bytes) one in
    let others = entries_are es more (All-tail (λ e. IsBytes e.id_text) e es bytes) found in
    let whole : e ∷ es ≡ map wanted_entry (w ∷ more) = λ i. first i ∷ others i in
    whole ∙ ap (map wanted_entry) same

-- ---- block lists

ok_entries : (o : Option (List Entry)) (ws : List Wanted) → listed_blocks o ≡ Ok ws → (es : List Entry) × (o ≡ Some es) × (wanted_list es ≡ Some ws)
ok_entries None ws h = cc
ok_entries (Some es) ws h = (es, refl, ok_ids (wanted_list es) h)
  where
    ok_ids : (o : Option (List Wanted)) → listed_ids o ≡ Ok ws → o ≡ Some ws
    ok_ids (Some vs) h = cc
    ok_ids None h = cc

pub blocks_sound : (body : List ℕ) (ws : List Wanted) → block_list_reading body ≡ Ok ws → IsBlockListBody body (map wanted_entry ws)
blocks_sound body ws h =
    let (es, read, wanted) = ok_entries (body_entries body) ws h in
    let is = entries_sound body es read in
    subst (IsBlockListBody body) (entries_are es ws (body_is_bytes body es is) wanted) is

pub blocks_complete : (body : List ℕ) (ws : List Wanted) → HaveBlockIds ws → IsBlockListBody body (map wanted_entry ws) → block_list_reading body ≡ Ok ws
blocks_complete body ws have is = ap listed_blocks (entries_read body (map wanted_entry ws) is) ∙ ap listed_ids (wanted_again ws have)

none_read : (body : List ℕ) (o : Option (List Entry)) → body_entries body ≡ o → ((entries : List Entry) → IsBlockListBody body entries → ⊥) → o ≡ None
none_read body None read none = refl
none_read body (Some es) read none = absurd (none es (entries_sound body es read))

pub form_complete : (body : List ℕ) → ((entries : List Entry) → IsBlockListBody body entries → ⊥) → block_list_reading body ≡ Err fault.Form
form_complete body none = ap listed_blocks (none_read body (body_entries body) refl none)

bad_decoded : (o : Option (List ℕ)) → option_map_or (λ bytes. is_within 1 64 (length bytes)) o false ≡ false → option_and_then if_id o ≡ None
bad_decoded None h = refl
bad_decoded (Some bytes) h = ap (λ b. cond b (Some bytes) None) h

not_true : (b : Bool) → not b ≡ true → b ≡ false
not_true true h = cc
not_true false h = refl

bad_wanted : (e : Entry) → has_bad_id e ≡ true → wanted_of e ≡ None
unfolding is_base64_within id_of
bad_wanted e bad = ap (λ o. option_map (λ (id : List ℕ). let v : Wanted = record { id = id; lookup = e.lookup } in v) o) (bad_decoded (decoded_of standard e.id_text) (not_true _ bad))

nothing_then : (o : Option Wanted) → option_and_then (λ (w : Wanted). option_map (λ (ws : List Wanted). w ∷ ws) None) o ≡ None
nothing_then None = refl
nothing_then (Some w) = refl

bad_list : (es : List Entry) → list_any has_bad_id es ≡ true → wanted_list es ≡ None
unfolding wanted_list
bad_list [] bad = cc
bad_list (e ∷ es) bad =
    elim (has_bad_id e) as (λ b. has_bad_id e ≡ b → (b || list_any has_bad_id es) ≡ true → wanted_list (e ∷ es) ≡ None) [
      | true ↦ λ h _. rw (bad_wanted e h) refl
      | false ↦ λ _ more. rw (bad_list es more) (nothing_then (wanted_of e))
    ] refl bad

pub id_complete : (body : List ℕ) → ((entries : List Entry) × IsBlockListBody body entries × (list_any has_bad_id entries ≡ true)) → block_list_reading body ≡ Err fault.Id
id_complete body (es, is, bad) = ap listed_blocks (entries_read body es is) ∙ ap listed_ids (bad_list es bad)

-- ---- stored policies

pub policies_complete : (body : List ℕ) (ps : List Policy) → SaysPolicies body ps → policies_reading body ≡ Ok ps
policies_complete body ps (inl (none, no_policies)) = ap policies_reading none ∙ ap Ok (sym no_policies)
policies_complete body ps (inr (sent, is, good, same)) = reading_is body sent (policies_read body sent is) ∙ good_judged sent good ∙ ap Ok (sym same)

unread : (body : List ℕ) (o : Option (List Sent)) → body_policies body ≡ o → ((sent : List Sent) → ArePoliciesBody body sent → ⊥) → o ≡ None
unread body None read none = refl
unread body (Some ss) read none = absurd (none ss (policies_sound body ss read))

no_form : (body : List ℕ) → (body ≢ []) → ((sent : List Sent) → ArePoliciesBody body sent → ⊥) → policies_reading body ≡ Err fault.Form
no_form [] some none = absurd (some refl)
no_form (b ∷ bs) some none = ap judged_form (unread (b ∷ bs) (body_policies (b ∷ bs)) refl none)

other_complete : (body : List ℕ) (f : BodyFault) → ((sent : List Sent) × ArePoliciesBody body sent × IsFirstFault f sent) → policies_reading body ≡ Err f
other_complete body f (sent, is, first) = reading_is body sent (policies_read body sent is) ∙ fault_judged f sent first

pub fault_complete : (body : List ℕ) (f : BodyFault) → f ≢ fault.NoMemory → SaysFault body f → policies_reading body ≡ Err f
fault_complete body fault.Form other (some, none) = no_form body some none
fault_complete body fault.TooMany other says = other_complete body fault.TooMany says
fault_complete body fault.Id other says = other_complete body fault.Id says
fault_complete body fault.Letters other says = other_complete body fault.Letters says
fault_complete body fault.Time other says = other_complete body fault.Time says
fault_complete body fault.NoMemory other says = absurd (other refl)

pub fault_sound : (body : List ℕ) (f : BodyFault) → f ≢ fault.NoMemory → policies_reading body ≡ Err f → SaysFault body f
fault_sound body fault.Form other h = says_fault body fault.Form h
fault_sound body fault.TooMany other h = says_fault body fault.TooMany h
fault_sound body fault.Id other h = says_fault body fault.Id h
fault_sound body fault.Letters other h = says_fault body fault.Letters h
fault_sound body fault.Time other h = says_fault body fault.Time h
fault_sound body fault.NoMemory other h = absurd (other refl)
