-- Records are read again, what is read is a record, and no record begins another.
use Rattle.std.proofs.Common.{◌≡◌, ◌<◌, ◌^◌, ℕ, suc, ◌==◌, Bool, true, false, cond, List, [], ◌∷◌, ◌++◌, get_or, Option, IsTrue, Some, None, Result, Ok, Err, IfOk, refl, sym, ap, subst, ◌∙◌, append_assoc}
use Rattle.std.proofs.lemmas.List.{append-nil}
use Rattle.stamp_types.specs.declared.act.Act.{Act}
use Rattle.stamp_types.specs.Changes.{KeyedAct, is_change}
use Rattle.stamp_values.specs.declared.key.Key.{Key}
use Rattle.log_record.specs.declared.record_fault.RecordFault.{RecordFault}
use Rattle.log_record.specs.declared.record_fault.RecordFault.TheVariants as fault
use Rattle.log_record.specs.Fits.{FitsEpoch, IsRecorded}
use Rattle.log_record.specs.Outcomes.{Fills, Tells}
use Rattle.log_record.specs.Reading.{Read, ◌>>=◌, number_at}
use Rattle.log_record.specs.Records.{IsRecordOf, kind_of, act_bytes, epoch_bytes, is_version, key_bytes, record_bytes}
use Rattle.log_record.specs.Forms.{long_bytes}
use Rattle.std.specs.Int.{w64}
use Rattle.log_record.specs.ReadFields.{key_at}
use Rattle.log_record.specs.ReadRecords.{act_at, parts_at, epoch_at, keyed, keyed_at, whole, fields_of, change_of, ok_or_form, record_of, IsPrefixFree, SaysOneChange}
use Rattle.log_record.proofs.FormLemmas.{IsBytes, long_form, after_bytes, some_is, bind_some}
use Rattle.log_record.proofs.FieldForms.{key_form}
use Rattle.log_record.proofs.ActForms.{act_again, act_taken}

-- what is read after the version is the answer for the whole
pub told : (r : Result (KeyedAct × ℕ) RecordFault) (expected : Option (KeyedAct × ℕ)) → Fills r expected → Tells r (ok_or_form expected)
told (Ok c) expected h = ap ok_or_form h
told (Err fault.NoMemory) expected h = tt
told (Err fault.Form) expected h = ap ok_or_form h
told (Err fault.Version) expected h = absurd h

refused : (b : Bool) (c : KeyedAct × ℕ) → (IsTrue b → false ≡ true) → cond b (Some c) None ≡ None
refused true c fails = let wrong = fails refl in absurd cc
refused false c fails = refl

-- fields that are not those of a change are refused
pub change_refused : (v : ℕ) (t : List ℕ) (key : Key) (act : Act) (epoch : ℕ) → fields_of v t ≡ Some (keyed key act, epoch) → (IsTrue (is_change (keyed key act)) → false ≡ true) → change_of v t ≡ None
unfolding change_of
change_refused v t key act epoch e fails = rw e (refused (is_change (keyed key act)) (keyed key act, epoch) fails)

-- ---- what is read again

keyed_again : (c : KeyedAct) (rest : List ℕ) → IsRecorded c → keyed_at (kind_of c.act) ((key_bytes c.key ++ act_bytes c.act) ++ rest) ≡ Some (c, rest)
unfolding keyed_at
keyed_again c rest good =
    ap (keyed_at (kind_of c.act)) (append_assoc (key_bytes c.key) (act_bytes c.act) rest)
    ∙ rw (key_form.again c.key (act_bytes c.act ++ rest) good.key, act_again c.act rest good.act) refl

epoch_again : (v epoch : ℕ) (rest : List ℕ) → FitsEpoch v epoch → epoch_at v (epoch_bytes v epoch ++ rest) ≡ Some (epoch, rest)
epoch_again v epoch rest fits = by (v == 1) refl
  where
    by : (b : Bool) → (v == 1) ≡ b → cond b (Some (0, cond b [] (long_bytes epoch) ++ rest)) (number_at w64 (cond b [] (long_bytes epoch) ++ rest)) ≡ Some (epoch, rest)
    by true is = ap (λ (n : ℕ). Some (n, rest)) (sym (fits.1 is))
    by false is = long_form.again epoch rest fits.0

parts_again : (v : ℕ) (c : KeyedAct) (epoch : ℕ) (rest : List ℕ) → IsRecorded c → FitsEpoch v epoch
    → parts_at v (kind_of c.act) ((epoch_bytes v epoch ++ (key_bytes c.key ++ act_bytes c.act)) ++ rest) ≡ Some ((c, epoch), rest)
unfolding parts_at
parts_again v c epoch rest good fits =
    ap (parts_at v (kind_of c.act)) (append_assoc (epoch_bytes v epoch) (key_bytes c.key ++ act_bytes c.act) rest)
    ∙ rw (epoch_again v epoch ((key_bytes c.key ++ act_bytes c.act) ++ rest) fits, keyed_again c rest good) refl

-- a record of a change is read as that change, with its epoch
pub record_again : (v : ℕ) (c : KeyedAct) (epoch : ℕ) → is_version v ≡ true → IsRecorded c → FitsEpoch v epoch → record_of (record_bytes v c epoch) ≡ Ok (c, epoch)
unfolding record_of change_of fields_of
record_again v c epoch known good fits =
    let all : parts_at v (kind_of c.act) (epoch_bytes v epoch ++ (key_bytes c.key ++ act_bytes c.act)) ≡ Some ((c, epoch), []) =
    ap (parts_at v (kind_of c.act)) (sym (append-nil (epoch_bytes v epoch ++ (key_bytes c.key ++ act_bytes c.act)))) ∙ parts_again v c epoch [] good fits in
    rw (known, all, good.good) refl

-- the same, of bytes that are such a record
pub bytes_again : (t : List ℕ) (c : KeyedAct) (epoch : ℕ) → IsRecorded c → epoch < 2 ^ 64 → IsRecordOf t c epoch → record_of t ≡ Ok (c, epoch)
bytes_again t c epoch good within r = ap record_of r.written ∙ record_again r.version c epoch r.known good (within, r.zero)

-- bytes that were written of a change and its epoch are a record of these
pub second_version : (t : List ℕ) (c : KeyedAct) (epoch : ℕ) → t ≡ record_bytes 2 c epoch → IsRecordOf t c epoch
second_version t c epoch e = record { version = 2; known = refl; zero = λ first. absurd cc; written = e }

-- ---- what is read

whole_some : {A : Type 0} (read : Read A) (a : A) → whole read ≡ Some a → read ≡ Some (a, [])
whole_some None a e = absurd cc
whole_some (Some (b, [])) a e = ap (λ c. Some (c, [])) (some_is b a e)
whole_some (Some (b, x ∷ t)) a e = absurd cc

passed : {A : Type 0} (b : Bool) (x y : A) → cond b (Some x) None ≡ Some y → x ≡ y
passed false x y e = absurd cc
passed true x y e = cc

keyed_taken : (k : ℕ) (t : List ℕ) (c : KeyedAct) (rest : List ℕ) → IsBytes t → keyed_at k t ≡ Some (c, rest)
    → (k ≡ kind_of c.act) × (t ≡ (key_bytes c.key ++ act_bytes c.act) ++ rest)
unfolding keyed_at
keyed_taken k t c rest good e =
    let key = bind_some (key_at t) (λ key. act_at k key.1 >>= (λ act. Some (keyed key.0 act.0, act.1))) (c, rest) e in
    let act = bind_some (act_at k key.0.1) (λ act. Some (keyed key.0.0 act.0, act.1)) (c, rest) key.2 in
    let first = key_form.taken t key.0.0 key.0.1 good key.1 in
    let (kind, second) = act_taken k key.0.1 act.0.0 act.0.1 (after_bytes t (key_bytes key.0.0) key.0.1 good first) act.1 in
    subst (λ (x : KeyedAct × List ℕ). (k ≡ kind_of x.0.act) × (t ≡ (key_bytes x.0.key ++ act_bytes x.0.act) ++ x.1)) (some_is (keyed key.0.0 act.0.0, act.0.1) (c, rest) act.2)
    (kind, first ∙ ap (λ (u : List ℕ). key_bytes key.0.0 ++ u) second ∙ sym (append_assoc (key_bytes key.0.0) (act_bytes act.0.0) act.0.1))

epoch_taken : (v : ℕ) (t : List ℕ) (epoch : ℕ) (rest : List ℕ) → IsBytes t → epoch_at v t ≡ Some (epoch, rest)
    → (t ≡ epoch_bytes v epoch ++ rest) × ((v == 1) ≡ true → epoch ≡ 0)
epoch_taken v t epoch rest good e = by (v == 1) refl e
  where
    by : (b : Bool) → (v == 1) ≡ b → cond b (Some (0, t)) (number_at w64 t) ≡ Some (epoch, rest) → (t ≡ cond b [] (long_bytes epoch) ++ rest) × (b ≡ true → epoch ≡ 0)
    by true is e =
        let same = some_is (0, t) (epoch, rest) e in
        (ap (λ (p : ℕ × List ℕ). p.1) same, λ first. ap (λ (p : ℕ × List ℕ). p.0) (sym same))
    by false is e = (long_form.taken t epoch rest good e, λ first. absurd cc)

-- what is after the version
record AreAfter (v : ℕ) (t : List ℕ) (r : KeyedAct × ℕ) : Type 0 where
  bytes : t ≡ kind_of r.0.act ∷ (epoch_bytes v r.1 ++ (key_bytes r.0.key ++ act_bytes r.0.act))
  zero : (v == 1) ≡ true → r.1 ≡ 0

parts_taken : (v k : ℕ) (t : List ℕ) (r : KeyedAct × ℕ) → IsBytes t → parts_at v k t ≡ Some (r, []) → AreAfter v (k ∷ t) r
unfolding parts_at
parts_taken v k t r good e =
    let epoch = bind_some (epoch_at v t) (λ x. keyed_at k x.1 >>= (λ c. Some ((c.0, x.0), c.1))) (r, []) e in
    let c = bind_some (keyed_at k epoch.0.1) (λ c. Some ((c.0, epoch.0.0), c.1)) (r, []) epoch.2 in
    let (front, zero_first) = epoch_taken v t epoch.0.0 epoch.0.1 good epoch.1 in
    let (kind, parts) = keyed_taken k epoch.0.1 c.0.0 c.0.1 (after_bytes t (epoch_bytes v epoch.0.0) epoch.0.1 good front) c.1 in
    let same = some_is ((c.0.0, epoch.0.0), c.0.1) (r, []) c.2 in
    let rest : c.0.1 ≡ [] = ap (λ (p : (KeyedAct × ℕ) × List ℕ). p.1) same in
    subst (AreAfter v (k ∷ t)) (ap (λ (p : (KeyedAct × ℕ) × List ℕ). p.0) same)
    (record {
      bytes = (λ i. kind i ∷ front i) ∙ ap (λ (u : List ℕ). kind_of c.0.0.act ∷ (epoch_bytes v epoch.0.0 ++ u)) (parts ∙ ap (λ (u : List ℕ). (key_bytes c.0.0.key ++ act_bytes c.0.0.act) ++ u) rest ∙ append-nil (key_bytes c.0.0.key ++ act_bytes c.0.0.act));
      zero = zero_first;
    })

after_version : (v : ℕ) (t : List ℕ) (r : KeyedAct × ℕ) → IsBytes t → change_of v t ≡ Some r → AreAfter v t r
unfolding change_of fields_of
after_version v [] r good e = absurd cc
after_version v (k ∷ t) r good e =
    let d = bind_some (whole (parts_at v k t)) (λ d. cond (is_change d.0) (Some d) None) r e in
    let same = passed (is_change d.0.0) d.0 r d.2 in
    parts_taken v k t r (λ i. good (suc i)) (whole_some (parts_at v k t) r (d.1 ∙ ap (λ (x : KeyedAct × ℕ). Some x) same))

answer_some : (o : Option (KeyedAct × ℕ)) (r : KeyedAct × ℕ) → ok_or_form o ≡ Ok r → o ≡ Some r
answer_some (Some c) r e = let same : c ≡ r = cc in ap (λ (x : KeyedAct × ℕ). Some x) same
answer_some None r e = absurd cc

version_taken : (b : Bool) (v : ℕ) (t : List ℕ) (r : KeyedAct × ℕ) → IsBytes t → is_version v ≡ b → cond b (ok_or_form (change_of v t)) (Err fault.Version) ≡ Ok r
    → IsRecordOf (v ∷ t) r.0 r.1
version_taken false v t r good other e = absurd cc
version_taken true v t r good same e =
    let parts = after_version v t r good (answer_some (change_of v t) r e) in
    record { version = v; known = same; zero = parts.zero; written = ap (λ (u : List ℕ). v ∷ u) parts.bytes }

record_taken : (t : List ℕ) (r : KeyedAct × ℕ) → IsBytes t → record_of t ≡ Ok r → IsRecordOf t r.0 r.1
unfolding record_of
record_taken [] r good e = absurd cc
record_taken (v ∷ t) r good e = version_taken (is_version v) v t r (λ i. good (suc i)) refl e

-- bytes that are read as a change are a record of it
pub is_read : (t : List ℕ) (result : Result (KeyedAct × ℕ) RecordFault) → IsBytes t → Tells result (record_of t) → IfOk result (λ r. IsRecordOf t r.0 r.1)
is_read t (Ok r) good h = record_taken t r good h
is_read t (Err f) good h = tt

-- ---- no record begins another

abbrev tail_of : List ℕ → List ℕ
tail_of [] = []
tail_of (b ∷ t) = t

pub prefix_free : IsPrefixFree
prefix_free v w c d m n x y known good good' fits fits' e =
    let versions : v ≡ w = ap (λ (t : List ℕ). get_or t 0 0) e in
    let tail : kind_of c.act ∷ ((epoch_bytes v m ++ (key_bytes c.key ++ act_bytes c.act)) ++ x) ≡ kind_of d.act ∷ ((epoch_bytes w n ++ (key_bytes d.key ++ act_bytes d.act)) ++ y) = ap (λ (t : List ℕ). tail_of t) e in
    let kinds : kind_of c.act ≡ kind_of d.act = ap (λ (t : List ℕ). get_or t 0 0) tail in
    let rests : (epoch_bytes v m ++ (key_bytes c.key ++ act_bytes c.act)) ++ x ≡ (epoch_bytes w n ++ (key_bytes d.key ++ act_bytes d.act)) ++ y = ap (λ (t : List ℕ). tail_of t) tail in
    let same = some_is ((c, m), x) ((d, n), y)
    (sym (parts_again v c m x good fits) ∙ (λ i. parts_at (versions i) (kinds i) (rests i)) ∙ parts_again w d n y good' fits') in (
      ap (λ (p : (KeyedAct × ℕ) × List ℕ). p.0.0) same,
      ap (λ (p : (KeyedAct × ℕ) × List ℕ). p.0.1) same,
      ap (λ (p : (KeyedAct × ℕ) × List ℕ). p.1) same,
    )

-- two changes with the same record are the same change, of the same epoch
pub same_change : SaysOneChange
same_change v w c d m n known good good' fits fits' e =
    let all = prefix_free v w c d m n [] [] known good good' fits fits' (ap (λ (t : List ℕ). t ++ []) e) in
    (all.0, all.1)
