-- Values that were sent under a name.
use Rattle.std.proofs.Common.{◌≡◌, ℕ, ◌+◌, ◌≤◌, Bool, true, false, ◌||◌, cond, List, [], ◌∷◌, length, find, sum_by, Option, Some, None, option_map, bytes_eq, codes, refl, sym, ap, ◌∙◌, true≢false, arith}
use Rattle.std.proofs.lemmas.List.Sums.{sum_by-cons}
use Rattle.std.proofs.lemmas.Slice.Eq.{bytes_eq-Decides}
use Rattle.std.specs.Option.{option_map_or, option_or}
use Rattle.stamp_types.specs.Requests.{given_len, kept_len}
use Rattle.stamp_types.specs.declared.args.Kept.{Kept}
use Rattle.stamp_values.specs.Fields.{field_len, fields_len, has_name, first_value}
use Rattle.stamp_values.specs.declared.op.Op.{Op}
use Rattle.stamp_values.specs.declared.op.Op.TheVariants.{PutBlob}
use Rattle.stamp_values.specs.declared.signing.Field.{Field}
use Rattle.stamp_values.specs.MetadataLists.{metadata_len}
use Rattle.stamp_values.specs.Operations.{is_op, keeps_headers, keeps_metadata}
use Rattle.stamp_values.specs.declared.meta.Meta.{Meta}
use Rattle.request_form.specs.HeadFields.{is_bad, is_md5, is_meta}
use Rattle.request_form.specs.HeadForms.{md5_under, kept_by, kept_of}
use Rattle.request_form.specs.HeadMetadata.{metadata_by, metas_of}
use Rattle.request_form.proofs.MetadataLemmas.{meta_counted, metas_count}
use Rattle.request_form.specs.HeadRules.{has_bad_condition, has_bad_kept_by, has_bad_level_by, has_bad_line, has_bad_md5, has_own_twice, has_standard_twice, is_condition, kept_value}

-- the value that was sent under a name is counted if the test passes its name
pub under_short : (test : List ℕ → Bool) (name : List ℕ) → test name ≡ true → (fields : List Field) → given_len (first_value fields name) ≤ sum_by (λ f. cond (test f.name) (length f.value) 0) fields
under_short test name passes [] = omega arith
under_short test name passes (f ∷ fs) = by_name (bytes_eq f.name name) refl (under_short test name passes fs)
  where
    more : sum_by (λ g. cond (test g.name) (length g.value) 0) (f ∷ fs) ≡ cond (test f.name) (length f.value) 0 + sum_by (λ g. cond (test g.name) (length g.value) 0) fs
    more = sum_by-cons (λ g. cond (test g.name) (length g.value) 0) f fs

    by_name : (b : Bool) → bytes_eq f.name name ≡ b → given_len (option_map (λ g. g.value) (find (has_name name) fs)) ≤ sum_by (λ g. cond (test g.name) (length g.value) 0) fs
        → given_len (option_map (λ g. g.value) (find (has_name name) (f ∷ fs))) ≤ sum_by (λ g. cond (test g.name) (length g.value) 0) (f ∷ fs)
    by_name true e rest =
        let same : f.name ≡ name = (bytes_eq-Decides f.name name).0 e in
        let counted : test f.name ≡ true = ap test same ∙ passes in
        rw (e, more, counted) (omega arith)
    by_name false e rest = rw (e, more) (omega arith)

-- the first of two values is not longer than a bound of both; the second value counts or not
either_short : (m : ℕ) (takes : Bool) (a b : Option (List ℕ)) → given_len a ≤ m → given_len b ≤ m → length (option_map_or (λ v. v) (option_or a (cond takes b None)) []) ≤ m
either_short m takes (Some v) b x y = x
either_short m false None b x y = omega arith
either_short m true None None x y = omega arith
either_short m true None (Some v) x y = y

-- the headers that each of the four kept values may come from
abbrev is_type : List ℕ → Bool
is_type n = bytes_eq n (codes "x-ms-blob-content-type") || bytes_eq n (codes "content-type")

abbrev is_encoding : List ℕ → Bool
is_encoding n = bytes_eq n (codes "x-ms-blob-content-encoding") || bytes_eq n (codes "content-encoding")

abbrev is_language : List ℕ → Bool
is_language n = bytes_eq n (codes "x-ms-blob-content-language") || bytes_eq n (codes "content-language")

abbrev is_cache : List ℕ → Bool
is_cache n = bytes_eq n (codes "x-ms-blob-cache-control") || bytes_eq n (codes "cache-control")

-- a name that is one of two passes no test that both fail
alone : (test : List ℕ → Bool) (own plain n : List ℕ) → test own ≡ false → test plain ≡ false → (bytes_eq n own || bytes_eq n plain) ≡ true → test n ≡ false
alone test own plain n first second e = by_own (bytes_eq n own) refl
  where
    by_own : (b : Bool) → bytes_eq n own ≡ b → test n ≡ false
    by_own true t = ap test ((bytes_eq-Decides n own).0 t) ∙ first
    by_own false t = ap test ((bytes_eq-Decides n plain).0 (rw t at e)) ∙ second

-- if at most one of four counts counts, they are together not more than one of them
one_counts : (a b c d : Bool) (n : ℕ) → (a ≡ true → b ≡ false) → (a ≡ true → c ≡ false) → (a ≡ true → d ≡ false) → (b ≡ true → c ≡ false) → (b ≡ true → d ≡ false) → (c ≡ true → d ≡ false)
    → cond a n 0 + cond b n 0 + cond c n 0 + cond d n 0 ≤ n
one_counts true b c d n ab ac ad bc bd cd = rw (ab refl, ac refl, ad refl) (omega arith)
one_counts false true c d n ab ac ad bc bd cd = rw (bc refl, bd refl) (omega arith)
one_counts false false true d n ab ac ad bc bd cd = rw (cd refl) (omega arith)
one_counts false false false true n ab ac ad bc bd cd = omega arith
one_counts false false false false n ab ac ad bc bd cd = omega arith

-- the length of a header's value if the header passes the test, and else 0
abbrev counted : (List ℕ → Bool) → Field → ℕ
counted test f = cond (test f.name) (length f.value) 0

name_counts : (f : Field) → counted is_type f + counted is_encoding f + counted is_language f + counted is_cache f ≤ length f.value
name_counts f =
    one_counts (is_type f.name) (is_encoding f.name) (is_language f.name) (is_cache f.name) (length f.value)
    (alone is_encoding (codes "x-ms-blob-content-type") (codes "content-type") f.name refl refl)
    (alone is_language (codes "x-ms-blob-content-type") (codes "content-type") f.name refl refl)
    (alone is_cache (codes "x-ms-blob-content-type") (codes "content-type") f.name refl refl)
    (alone is_language (codes "x-ms-blob-content-encoding") (codes "content-encoding") f.name refl refl)
    (alone is_cache (codes "x-ms-blob-content-encoding") (codes "content-encoding") f.name refl refl)
    (alone is_cache (codes "x-ms-blob-content-language") (codes "content-language") f.name refl refl)

-- headers of metadata are not headers of kept values
not_meta : (own plain n : List ℕ) → is_meta own ≡ false → is_meta plain ≡ false → is_meta n ≡ true → (bytes_eq n own || bytes_eq n plain) ≡ false
not_meta own plain n first second meta = by_case (bytes_eq n own || bytes_eq n plain) refl
  where
    by_case : (b : Bool) → (bytes_eq n own || bytes_eq n plain) ≡ b → b ≡ false
    by_case true e = absurd (true≢false (sym meta ∙ alone is_meta own plain n first second e))
    by_case false e = refl

-- a header counts for one kept value or for the metadata
field_counts : (f : Field) → counted is_type f + counted is_encoding f + counted is_language f + counted is_cache f + meta_counted f ≤ field_len f
field_counts f = by_meta (is_meta f.name) refl
  where
    by_meta : (b : Bool) → is_meta f.name ≡ b → counted is_type f + counted is_encoding f + counted is_language f + counted is_cache f + cond b (field_len f) 0 ≤ field_len f
    by_meta true e =
        let a = not_meta (codes "x-ms-blob-content-type") (codes "content-type") f.name refl refl e in
        let b = not_meta (codes "x-ms-blob-content-encoding") (codes "content-encoding") f.name refl refl e in
        let c = not_meta (codes "x-ms-blob-content-language") (codes "content-language") f.name refl refl e in
        let d = not_meta (codes "x-ms-blob-cache-control") (codes "cache-control") f.name refl refl e in
        rw (a, b, c, d) (omega arith)
    by_meta false e = omega (arith, name_counts f)

sums_count : (u v w x y z : Field → ℕ) → ((f : Field) → v f + w f + x f + y f + u f ≤ z f) → (fields : List Field)
    → sum_by v fields + sum_by w fields + sum_by x fields + sum_by y fields + sum_by u fields ≤ sum_by z fields
sums_count u v w x y z each [] = omega arith
sums_count u v w x y z each (f ∷ fs) =
    let here = each f in
    let rest = sums_count u v w x y z each fs in
    rw (sum_by-cons u f fs, sum_by-cons v f fs, sum_by-cons w f fs, sum_by-cons x f fs, sum_by-cons y f fs, sum_by-cons z f fs) (omega arith)

value_counts : (takes : Bool) (own plain : List ℕ) (test : List ℕ → Bool) (fields : List Field) → test own ≡ true → test plain ≡ true → length (kept_value takes fields own plain) ≤ sum_by (counted test) fields
unfolding kept_value
value_counts takes own plain test fields o p =
    either_short (sum_by (counted test) fields) takes (first_value fields own) (first_value fields plain) (under_short test own o fields) (under_short test plain p fields)

-- the four kept values and the metadata are not longer than all names and values together
kept_short : (takes : Bool) (fields : List Field) → kept_len (Some (kept_of takes fields)) + metadata_len (metas_of fields) ≤ fields_len fields
unfolding kept_of
kept_short takes fields =
    let a = value_counts takes (codes "x-ms-blob-content-type") (codes "content-type") is_type fields refl refl in
    let b = value_counts takes (codes "x-ms-blob-content-encoding") (codes "content-encoding") is_encoding fields refl refl in
    let c = value_counts takes (codes "x-ms-blob-content-language") (codes "content-language") is_language fields refl refl in
    let d = value_counts takes (codes "x-ms-blob-cache-control") (codes "cache-control") is_cache fields refl refl in
    let e = metas_count fields in
    let all = sums_count meta_counted (counted is_type) (counted is_encoding) (counted is_language) (counted is_cache) field_len field_counts fields in
    omega arith

by_short : (b c : Bool) (k : Kept) (ms : List Meta) (n : ℕ) → kept_len (Some k) + metadata_len ms ≤ n → kept_len (cond b (Some k) None) + metadata_len (cond c ms []) ≤ n
by_short true true k ms n e = e
by_short true false k ms n e = omega arith
by_short false true k ms n e = omega arith
by_short false false k ms n e = omega arith

-- what an operation keeps is not longer than all names and values together
pub args_short : (op : Op) (fields : List Field) → kept_len (kept_by op fields) + metadata_len (metadata_by op fields) ≤ fields_len fields
unfolding metadata_by
args_short op fields =
    by_short (keeps_headers op) (keeps_metadata op) (kept_of (is_op PutBlob op) fields) (metas_of fields) (fields_len fields) (kept_short (is_op PutBlob op) fields)

-- the lines are not bad if no test of them holds
pub no_bad_line : (op : Op) (fields : List Field) → (has_standard_twice fields || has_own_twice fields) ≡ false
    → is_bad fields (codes "if-match") is_condition ≡ false → is_bad fields (codes "if-none-match") is_condition ≡ false
    → is_bad fields (codes "content-md5") is_md5 ≡ false → is_bad fields (codes "x-ms-blob-content-md5") is_md5 ≡ false → has_bad_kept_by op fields ≡ false → has_bad_level_by op fields ≡ false
    → has_bad_line (Some op) fields ≡ false
unfolding has_bad_line has_bad_condition has_bad_md5
no_bad_line op fields twice match none_match md5 own_md5 kept level = rw (match, none_match, md5, own_md5, kept, level) (two (has_standard_twice fields) (has_own_twice fields) twice)
  where
    two : (a b : Bool) → (a || b) ≡ false → (a || b || false || false || false) ≡ false
    two true b e = e
    two false true e = e
    two false false e = e

-- headers to keep are equal if their parts are equal
pub same_kept : (takes : Bool) (fields : List Field) (k : Kept)
    → k.content_type ≡ kept_value takes fields (codes "x-ms-blob-content-type") (codes "content-type")
    → k.encoding ≡ kept_value takes fields (codes "x-ms-blob-content-encoding") (codes "content-encoding")
    → k.language ≡ kept_value takes fields (codes "x-ms-blob-content-language") (codes "content-language")
    → k.cache_control ≡ kept_value takes fields (codes "x-ms-blob-cache-control") (codes "cache-control")
    → k.md5 ≡ md5_under fields (codes "x-ms-blob-content-md5")
    → k ≡ kept_of takes fields
unfolding kept_of
same_kept takes fields k a b c d e = λ i. record { content_type = a i; encoding = b i; language = c i; cache_control = d i; md5 = e i }
