-- Bytes that are texts: names in ASCII, and values that are visible.
use Rattle.std.proofs.Common.{◌≡◌, inl, inr, ap, cond, not, IsTrue, Some, None, IsUtf8, ℕ, zero, suc, ◌≤◌, ◌<◌, Bool, true, false, ◌&&◌, ◌==◌, nat_lt, nat_le, List, [], ◌∷◌, length, slice_index, Ok, refl, ◌∙◌, arith, leb-true}
use Rattle.std.proofs.lemmas.Bool.{and_parts, and_from, cases_Bool, or_parts, not-false}
use Rattle.std.proofs.lemmas.Bool.Decides.{nat_tests}
use Rattle.std.proofs.lemmas.Str.{IsUtf8-from_ascii}
use Rattle.std.specs.Prelude.{IfSome, is_ok}
use Rattle.std.specs.List.{list_all}
use Rattle.stamp_values.specs.Operations.{names_blob, names_container}
use Rattle.stamp_values.specs.declared.op.Op.{Op}
use Rattle.name_rules.specs.BlobNames.{name_of, percent_decode}
use Rattle.name_rules.proofs.NameLemmas.{good_blob, name_is}
use Rattle.request_form.specs.HeadForms.{blob_by, blob_name_of, container_by}
use Rattle.request_form.specs.HeadRules.{has_bad_key, has_bad_name}
use Rattle.request_form.specs.Targets.{account_of, container_of, blob_of}
use Rattle.stamp_values.specs.Names.{is_lower_or_digit, is_container_byte, is_account, is_container, is_blob, is_within, is_metadata_name, begins_metadata_name, goes_on_metadata_name}
use Rattle.stamp_values.specs.Texts.{is_visible, is_visible_byte, is_clean}

weaker : (p q : ℕ → Bool) → ((b : ℕ) → p b ≡ true → q b ≡ true) → (t : List ℕ) → list_all p t ≡ true → list_all q t ≡ true
weaker p q each [] all = refl
weaker p q each (b ∷ t) all =
    let both = and_parts (p b) (list_all p t) all in
    and_from (q b) (list_all q t) (each b both.0) (weaker p q each t both.1)

ends : (b : ℕ) → is_visible_byte b ≡ true → (32 ≤ b) × (b ≤ 126)
ends b e =
    let both = and_parts (nat_le 32 b) (nat_le b 126) e in
    (leb-true 32 b both.0, leb-true b 126 both.1)

no_control : (b : ℕ) → (32 ≤ b) × (b ≤ 126) → (nat_lt b 32 ≡ false) × (((b == 127) ≡ false) × ((b == 239) ≡ false))
no_control b in_ends =
    let least = in_ends.0 in
    let most = in_ends.1 in
    (grind (arith, nat_tests), (grind (arith, nat_tests), grind (arith, nat_tests)))

pub visible_ascii : (t : List ℕ) → is_visible t ≡ true → (i : ℕ) → slice_index t i < 128
visible_ascii [] all i = omega arith
visible_ascii (b ∷ t) all zero = omega (arith, (ends b (and_parts (is_visible_byte b) (list_all is_visible_byte t) all).0).1)
visible_ascii (b ∷ t) all (suc i) = visible_ascii t (and_parts (is_visible_byte b) (list_all is_visible_byte t) all).1 i

-- a visible text has no control characters
pub visible_clean : (t : List ℕ) → is_visible t ≡ true → is_clean t ≡ true
visible_clean [] all = refl
visible_clean (b ∷ t) all =
    let both = and_parts (is_visible_byte b) (list_all is_visible_byte t) all in
    let none = no_control b (ends b both.0) in
    rw (none.0, none.1.0, none.1.1) (visible_clean t both.1)

letter_visible : (b : ℕ) → is_lower_or_digit b ≡ true → is_visible_byte b ≡ true
letter_visible b e = grind (arith, nat_tests)

container_byte_visible : (b : ℕ) → is_container_byte b ≡ true → is_visible_byte b ≡ true
container_byte_visible b e = grind (arith, nat_tests)

first_byte_visible : (b : ℕ) → begins_metadata_name b ≡ true → is_visible_byte b ≡ true
first_byte_visible b e = grind (arith, nat_tests)

next_byte_visible : (b : ℕ) → goes_on_metadata_name b ≡ true → is_visible_byte b ≡ true
next_byte_visible b e = grind (arith, nat_tests)

-- a name of metadata is visible
pub metadata_name_visible : (t : List ℕ) → is_metadata_name t ≡ true → is_visible t ≡ true
metadata_name_visible [] good = refl
metadata_name_visible (b ∷ t) good =
    let parts = and_parts (begins_metadata_name b) (list_all goes_on_metadata_name t) good in
    and_from (is_visible_byte b) (list_all is_visible_byte t) (first_byte_visible b parts.0) (weaker goes_on_metadata_name is_visible_byte next_byte_visible t parts.1)

-- an account's name is visible
pub account_visible : (t : List ℕ) → is_account t ≡ true → is_visible t ≡ true
account_visible t good = weaker is_lower_or_digit is_visible_byte letter_visible t (and_parts (is_within 3 24 (length t)) _ good).1

-- a container's name is visible
pub container_visible : (t : List ℕ) → is_container t ≡ true → is_visible t ≡ true
container_visible t good =
    let bytes = and_parts _ _ (and_parts _ _ (and_parts _ _ (and_parts _ _ good).0).0).0 in
    weaker is_container_byte is_visible_byte container_byte_visible t bytes.1

-- a container's name is not empty
pub container_some : (t : List ℕ) → is_container t ≡ true → 3 ≤ length t
container_some t good =
    let bytes = and_parts _ _ (and_parts _ _ (and_parts _ _ (and_parts _ _ good).0).0).0 in
    leb-true 3 (length t) (and_parts (nat_le 3 (length t)) (nat_le (length t) 63) bytes.0).0

-- bytes that are not a text are not visible
pub not_utf8 : (t : List ℕ) → ¬ (IsUtf8 t) → is_visible t ≡ false
not_utf8 t none = elim (cases_Bool (is_visible t)) [
  | inl all ↦ absurd (none (IsUtf8-from_ascii t (visible_ascii t all)))
  | inr some ↦ some
]

-- a text that is not clean is not visible
pub not_clean : (t s : List ℕ) → s ≡ t → ¬ (IsTrue (is_clean s)) → is_visible t ≡ false
not_clean t s same none = elim (cases_Bool (is_visible t)) [
  | inl all ↦ absurd (none (rw same (visible_clean t all)))
  | inr some ↦ some
]

-- what the names of a path are if no name is bad
pub record HasGoodNames (op : Op) (path : List ℕ) : Type 0 where
  pub account : is_account (account_of path) ≡ true
  pub container : names_container op ≡ true → is_container (container_of path) ≡ true
  pub blob : IfSome (blob_by op path) (λ t. IsTrue (is_blob t))

pub good_names : (op : Op) (path : List ℕ) → has_bad_name op path ≡ false → HasGoodNames op path
unfolding has_bad_name blob_name_of
good_names op path e =
    let parts = or_parts _ _ e in
    let places = or_parts _ _ parts.0 in
    record { account = not-false _ places.0; container = by_container (names_container op) (is_container (container_of path)) places.1; blob = by_op (names_blob op) parts.1 }
  where
    by_op : (b : Bool) → (b && not (is_ok (name_of (blob_of path)))) ≡ false → IfSome (cond b (Some (percent_decode (blob_of path))) None) (λ t. IsTrue (is_blob t))
    by_op true good = good_blob _ (not-false _ good)
    by_op false good = tt

    by_container : (b x : Bool) → (b && not x) ≡ false → b ≡ true → x ≡ true
    by_container true x good named = not-false x good
    by_container false x good named = cc

-- a path whose names were read has no bad name
pub no_bad_name : (op : Op) (path : List ℕ) → has_bad_key op path ≡ false
    → (names_blob op && not (is_ok (name_of (blob_of path)))) ≡ false → has_bad_name op path ≡ false
unfolding has_bad_name
no_bad_name op path key blob = rw (key, blob) refl

-- the name of a blob that was read is good
pub blob_named : (op : Op) (path blob : List ℕ) → names_blob op ≡ true → name_of (blob_of path) ≡ Ok blob
    → ((names_blob op && not (is_ok (name_of (blob_of path)))) ≡ false) × (Some blob ≡ blob_by op path)
unfolding blob_name_of
blob_named op path blob names named = rw (names, named) (refl, ap (λ (t : List ℕ). Some t) (name_is (percent_decode (blob_of path)) blob named))

-- a path has no bad name of a blob if the operation does not name a blob
pub blob_not_asked : (op : Op) (path : List ℕ) → names_blob op ≡ false
    → ((names_blob op && not (is_ok (name_of (blob_of path)))) ≡ false) × (None ≡ blob_by op path)
blob_not_asked op path none = rw none (refl, refl)

-- the names of a good key are visible
pub key_visible : (op : Op) (path account container : List ℕ) → is_account account ≡ true → (names_container op && not (is_container (container_of path))) ≡ false
    → container ≡ container_by op path → (is_visible account && is_visible container) ≡ true
key_visible op path account container a good same =
    and_from _ _ (account_visible account a) (ap is_visible same ∙ by_op (names_container op) good)
  where
    by_op : (b : Bool) → (b && not (is_container (container_of path))) ≡ false → is_visible (cond b (container_of path) []) ≡ true
    by_op true good = container_visible (container_of path) (not-false _ good)
    by_op false good = refl
