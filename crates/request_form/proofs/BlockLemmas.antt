-- The id of a block in a query that no rule refuses.
use Rattle.std.proofs.Common.{◌≡◌, ℕ, ◌≤◌, Bool, true, false, true≢false, not, ◌||◌, cond, List, [], ◌∷◌, find, length, nat_le, Option, Some, None, option_and_then, option_map, codes, refl, sym, ◌∙◌, leb-true}
use Rattle.std.proofs.lemmas.Bool.{and_parts, or_parts, not-false}
use Rattle.std.specs.Prelude.{IsSome, is_some}
use Rattle.std.specs.Option.{option_map_or}
use Rattle.base64_text.specs.Base64.{standard, decoded_of, is_base64_within}
use Rattle.stamp_types.specs.Requests.{given_len}
use Rattle.stamp_values.specs.Fields.{first_value, has_name, is_sent}
use Rattle.stamp_values.specs.Names.{is_within}
use Rattle.stamp_values.specs.declared.op.Op.{Op}
use Rattle.stamp_values.specs.declared.op.Op.TheVariants.{PutBlock}
use Rattle.stamp_values.specs.declared.signing.Field.{Field}
use Rattle.stamp_values.specs.declared.verb.Verb.{Verb}
use Rattle.request_form.specs.HeadBlocks.{id_given}
use Rattle.request_form.specs.HeadFields.{is_bad}
use Rattle.request_form.specs.HeadParts.{HeadParts}
use Rattle.request_form.specs.HeadRules.{has_bad_block_id, has_bad_parameter, if_identified, is_bad_parameter, is_good_value, is_id, op_at, op_of, row_at, verb_of}
use Rattle.request_form.specs.Targets.{target_of}

-- what was sent under a name has a first value
first_sent : (query : List Field) (name : List ℕ) → is_sent query name ≡ is_some (first_value query name)
first_sent [] name = refl
first_sent (f ∷ fs) name = by_name (has_name name f) (first_sent fs name)
  where
    by_name : (b : Bool) → is_sent fs name ≡ is_some (first_value fs name)
        → (b || is_sent fs name) ≡ is_some (option_map (λ g. g.value) (cond b (Some f) (find (has_name name) fs)))
    by_name true rest = refl
    by_name false rest = rest

-- the id is there and has at most 64 bytes
pub record IsShortId (id : Option (List ℕ)) : Type 0 where
  pub given : IsSome id
  pub short : given_len id ≤ 64

good_id : (v : List ℕ) → is_id v ≡ true → IsShortId (decoded_of standard v)
unfolding is_base64_within
good_id v good = of_bytes (decoded_of standard v) good
  where
    of_bytes : (o : Option (List ℕ)) → option_map_or (λ bytes. is_within 1 64 (length bytes)) o false ≡ true → IsShortId o
    of_bytes None good = absurd (true≢false (sym good))
    of_bytes (Some bytes) good =
        record { given = refl; short = leb-true (length bytes) 64 (and_parts (nat_le 1 (length bytes)) (nat_le (length bytes) 64) good).1 }

-- an id that was sent is there and has at most 64 bytes, if no parameter is bad
id_sent : (query : List Field) → is_sent query (codes "blockid") ≡ true → has_bad_parameter query ≡ false → IsShortId (id_given query)
unfolding has_bad_parameter has_bad_block_id is_bad_parameter is_bad
id_sent query sent good =
    let all = or_parts _ _ good in
    let first = or_parts _ _ all.0 in
    let parts = or_parts _ _ first.1 in
    by_value (first_value query (codes "blockid")) (sym (first_sent query (codes "blockid")) ∙ sent) parts.1
  where
    by_value : (o : Option (List ℕ)) → is_some o ≡ true → option_map_or (λ v. not (is_good_value is_id v)) o false ≡ false → IsShortId (option_and_then (decoded_of standard) o)
    by_value None there good = absurd (true≢false (sym there))
    by_value (Some v) there good = good_id v (and_parts _ _ (not-false _ good)).1

-- a Put Block gives the id of its block
identified : (given : Bool) (o : Option Op) → option_and_then (if_identified given) o ≡ Some PutBlock → given ≡ true
identified given None e = absurd (cc)
identified given (Some op) e = by_op op given e
  where
    by_op : (op : Op) (given : Bool) → if_identified given op ≡ Some PutBlock → given ≡ true
    by_op PutBlock true e = refl
    by_op PutBlock false e = absurd (cc)
    by_op other given e = absurd (cc)

-- the id of a Put Block is there and has at most 64 bytes
pub id_there : (p : HeadParts) → op_of p ≡ Some PutBlock → has_bad_parameter (target_of p.target).query ≡ false → IsShortId (id_given (target_of p.target).query)
unfolding op_of op_at
id_there p e good = id_sent (target_of p.target).query (by_verb (verb_of p.method) e) good
  where
    by_verb : (verb : Option Verb) → option_and_then (λ verb. op_at verb (target_of p.target)) verb ≡ Some PutBlock
        → is_sent (target_of p.target).query (codes "blockid") ≡ true
    by_verb None e = absurd (cc)
    by_verb (Some verb) e = identified (is_sent (target_of p.target).query (codes "blockid")) (row_at verb (target_of p.target)) e
