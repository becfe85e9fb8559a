-- Names of blobs that were read.
use Rattle.std.proofs.Common.{◌≡◌, sym, ℕ, ◌≤◌, Bool, true, false, not, ◌==◌, cond, nat_lt, List, [], ◌∷◌, length, is_ok, Ok, Err, refl, arith, true≢false}
use Rattle.std.proofs.lemmas.Bool.{and_from}
use Rattle.std.proofs.lemmas.Bool.Decides.{nat_tests}
use Rattle.std.proofs.lemmas.List.Sums.{sum_by-cons}
use Rattle.std.proofs.lemmas.Str.{IsCharBoundary-start}
use Rattle.stamp_values.specs.Names.{is_blob, is_within}
use Rattle.stamp_values.specs.Texts.{is_utf8, is_clean, is_continuation, char_count}
use Rattle.name_rules.specs.BlobNames.{decoded_name}
use Rattle.name_rules.specs.declared.blob_names.NameFault.TheVariants as fault
use Rattle.name_rules.proofs.Utf8Lemmas.{is_utf8-IsUtf8}

-- a text that is not empty has a character
some_char : (t : List ℕ) → is_utf8 t ≡ true → (length t == 0) ≡ false → 1 ≤ char_count t
some_char [] text some = absurd (true≢false some)
some_char (b ∷ t) text some =
    let start = (IsCharBoundary-start (b ∷ t) ((is_utf8-IsUtf8 (b ∷ t)).0 text)).1 (omega arith) in
    let first : not (is_continuation b) ≡ true = grind (arith, nat_tests) in
    let more = sum_by-cons (λ c. cond (not (is_continuation c)) 1 0) b t in
    let one : ◌≡◌ {A = ℕ} (cond (not (is_continuation b)) 1 0) 1 = rw first in
    omega (arith, more, one)

-- what the tests of a name say about a name that passes them
passed : (none text long clean : Bool) (name : List ℕ)
    → is_ok (cond none (Err fault.Empty) (cond (not text) (Err fault.NotUtf8) (cond long (Err fault.TooLong) (cond (not clean) (Err fault.Control) (Ok name))))) ≡ true
    → (none ≡ false) × (text ≡ true) × (long ≡ false) × (clean ≡ true)
passed false true false true name good = (refl, refl, refl, refl)
passed true text long clean name good = absurd (true≢false (sym good))
passed false false long clean name good = absurd (true≢false (sym good))
passed false true true clean name good = absurd (true≢false (sym good))
passed false true false false name good = absurd (true≢false (sym good))

-- a name that is read is a good one
pub good_blob : (name : List ℕ) → is_ok (decoded_name name) ≡ true → is_blob name ≡ true
unfolding decoded_name
good_blob name good =
    let (some, text, short, clean) = passed (length name == 0) (is_utf8 name) (nat_lt 1024 (char_count name)) (is_clean name) name good in
    let least = some_char name text some in
    let within : is_within 1 1024 (char_count name) ≡ true = grind (arith, nat_tests) in
    and_from (is_within 1 1024 (char_count name)) (is_clean name) within clean

-- a name that is read is what was decoded
pub name_is : (name read : List ℕ) → decoded_name name ≡ Ok read → read ≡ name
unfolding decoded_name
name_is name read e = by_tests (length name == 0) (is_utf8 name) (nat_lt 1024 (char_count name)) (is_clean name) e
  where
    by_tests : (none text long clean : Bool)
        → cond none (Err fault.Empty) (cond (not text) (Err fault.NotUtf8) (cond long (Err fault.TooLong) (cond (not clean) (Err fault.Control) (Ok name)))) ≡ Ok read → read ≡ name
    by_tests false true false true e = cc
    by_tests true text long clean e = absurd (cc)
    by_tests false false long clean e = absurd (cc)
    by_tests false true true clean e = absurd (cc)
    by_tests false true false false e = absurd (cc)
