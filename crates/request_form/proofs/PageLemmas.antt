-- The page of names in a query that no rule refuses: its number of names, and how long its texts are.
use Rattle.std.proofs.Common.{◌≡◌, ℕ, ◌+◌, ◌≤◌, Bool, true, false, not, ◌&&◌, ◌==◌, cond, List, [], ◌∷◌, length, map, filter, take, drop, sum_by, Option, Some, None, option_and_then, bytes_eq, codes, refl, ap, ◌∙◌, arith}
use Rattle.std.proofs.lemmas.Bool.{and_parts, or_parts, not-false}
use Rattle.std.proofs.lemmas.Bool.Decides.{nat_tests}
use Rattle.std.proofs.lemmas.List.{length-drop, length-map, length-take}
use Rattle.std.proofs.lemmas.List.Sums.{sum_by-cons}
use Rattle.std.proofs.lemmas.Slice.Eq.{bytes_eq-Decides}
use Rattle.std.specs.Char.{to_ascii_lowercase}
use Rattle.std.specs.List.{after_first, before_first, onto_first, position_or_len, slice_split}
use Rattle.std.specs.Option.{option_map_or}
use Rattle.std.specs.Str.Parse.{digits_value}
use Rattle.name_rules.specs.BlobNames.{percent_decode}
use Rattle.percent_encoding.proofs.PercentLemmas.{length-percent_decode}
use Rattle.stamp_types.specs.Requests.{IsGiven, IsPage, given_len, kept_len, page_len}
use Rattle.stamp_values.specs.Fields.{field_len, fields_len, first_value}
use Rattle.stamp_values.specs.MetadataLists.{metadata_len}
use Rattle.stamp_values.specs.Operations.{is_op}
use Rattle.stamp_values.specs.Texts.{is_clean, is_utf8}
use Rattle.stamp_values.specs.declared.op.Op.{Op}
use Rattle.stamp_values.specs.declared.op.Op.TheVariants.{ListBlobs, ListContainers, PutBlock}
use Rattle.stamp_values.specs.declared.signing.Field.{Field}
use Rattle.request_form.specs.HeadBlocks.{block_by, id_given}
use Rattle.request_form.specs.HeadFields.{is_bad, is_number}
use Rattle.request_form.specs.HeadForms.{kept_by}
use Rattle.request_form.specs.HeadMetadata.{metadata_by}
use Rattle.request_form.specs.HeadPages.{delimiter_by, max_given, max_named, page_by, page_of, text_given, unless_empty}
use Rattle.request_form.specs.HeadRules.{has_bad_parameter, is_bad_parameter, is_count, is_good_value, is_value_of, parameter_names}
use Rattle.request_form.specs.Targets.{is_absolute, is_equals, is_nothing, is_question_mark, origin_of, authority_len, parameter_of, query_of, query_text, target_of}
use Rattle.request_form.proofs.BlockLemmas.{IsShortId}
use Rattle.request_form.proofs.PageNames.{each_fails}
use Rattle.request_form.proofs.ValueLemmas.{args_short, under_short}

-- the value of the parameter is bad
abbrev is_bad_at : List Field → List ℕ → Bool
is_bad_at query name = is_bad query name (is_good_value (is_value_of name))

value_good : (query : List Field) (name : List ℕ) → is_bad_parameter query name (is_value_of name) ≡ false → is_bad_at query name ≡ false
unfolding is_bad_parameter
value_good query name e = (or_parts _ _ e).1

-- the number of names is good if no parameter is bad
good_number : (query : List Field) → has_bad_parameter query ≡ false → is_bad_at query (codes "maxresults") ≡ false
unfolding has_bad_parameter
good_number query good =
    let all = or_parts _ _ good in
    let named = or_parts _ _ all.0 in
    let each = each_fails (λ name. is_bad_parameter query name (is_value_of name)) parameter_names named.0 in
    value_good query (codes "maxresults") each.1.1.1.1.1.0

-- a text that is given is not empty
given : (query : List Field) (name : List ℕ) → IsGiven (text_given query name)
unfolding text_given
given query name = by_value (first_value query name)
  where
    by_length : (v : List ℕ) → IsGiven (unless_empty v)
    by_length [] = tt
    by_length (b ∷ v) = rw (not_nothing b v) (omega arith)
      where
        not_nothing : (b : ℕ) (v : List ℕ) → is_nothing (b ∷ v) ≡ false
        not_nothing b v = grind (arith, nat_tests)

    by_value : (o : Option (List ℕ)) → IsGiven (option_and_then unless_empty o)
    by_value None = tt
    by_value (Some v) = by_length v

delimiter_given : (op : Op) (query : List Field) → IsGiven (delimiter_by op query)
delimiter_given op query = by_op (is_op ListBlobs op)
  where
    by_op : (b : Bool) → IsGiven (cond b (text_given query (codes "delimiter")) None)
    by_op true = given query (codes "delimiter")
    by_op false = tt

-- a number of names is at most that of a page
most : (query : List Field) → max_given query ≤ 5000
unfolding max_given
most query = by_value (first_value query (codes "maxresults"))
  where
    by_value : (o : Option (List ℕ)) → option_map_or max_named o 5000 ≤ 5000
    by_value None = omega arith
    by_value (Some v) = omega arith

-- a value that is a good number of names asks for one name or more
good_max : (v : List ℕ) → is_good_value is_count v ≡ true → 1 ≤ max_named v
good_max v good =
    let count : is_count v ≡ true = (and_parts (is_utf8 v && is_clean v) (is_count v) good).1 in
    let number : not (digits_value 10 v == 0) ≡ true = (and_parts (is_number v) (not (digits_value 10 v == 0)) count).1 in
    grind (arith, nat_tests)

-- one name or more is asked for if the number of names is not bad
some : (query : List Field) → is_bad_at query (codes "maxresults") ≡ false → 1 ≤ max_given query
unfolding max_given is_bad is_value_of
some query good = by_value (first_value query (codes "maxresults")) good
  where
    by_value : (o : Option (List ℕ)) → option_map_or (λ v. not (is_good_value is_count v)) o false ≡ false → 1 ≤ option_map_or max_named o 5000
    by_value None good = omega arith
    by_value (Some v) good = good_max v (not-false (is_good_value is_count v) good)

-- the page of a query is good if no parameter is bad
pub good_page : (op : Op) (query : List Field) → has_bad_parameter query ≡ false → IsPage (page_of op query)
unfolding page_of
good_page op query good = record {
  some = some query (good_number query good);
  most = most query;
  prefix = given query (codes "prefix");
  delimiter = delimiter_given op query;
  marker = given query (codes "marker");
}

-- the pieces of a text are together not longer than the text
split_short : (test : ℕ → Bool) (text : List ℕ) → sum_by (λ (piece : List ℕ). length piece) (slice_split test text) ≤ length text
split_short test [] = omega arith
split_short test (b ∷ text) = by_test (test b) (slice_split test text) (split_short test text)
  where
    by_test : (ends : Bool) (pieces : List (List ℕ)) → sum_by (λ (piece : List ℕ). length piece) pieces ≤ length text
        → sum_by (λ (piece : List ℕ). length piece) (cond ends ([] ∷ pieces) (onto_first b pieces)) ≤ length (b ∷ text)
    by_test true pieces rest = rw (sum_by-cons (λ (piece : List ℕ). length piece) [] pieces) (omega arith)
    by_test false [] rest = omega arith
    by_test false (piece ∷ pieces) rest =
        let one = sum_by-cons (λ (piece : List ℕ). length piece) piece pieces in
        let more = sum_by-cons (λ (piece : List ℕ). length piece) (b ∷ piece) pieces in
        omega (arith, one, more)

-- what is before a byte and what is after it are together not longer than the piece
cut_short : (n : ℕ) (piece : List ℕ) → length (take n piece) + length (drop (n + 1) piece) ≤ length piece
cut_short n piece = omega (arith, length-take n piece, length-drop (n + 1) piece)

-- a parameter is not longer than its piece
parameter_short : (piece : List ℕ) → field_len (parameter_of piece) ≤ length piece
parameter_short piece =
    omega (
      arith,
      length-map (percent_decode (before_first is_equals piece)) to_ascii_lowercase,
      (length-percent_decode (before_first is_equals piece)).0,
      (length-percent_decode (after_first is_equals piece)).0,
      cut_short (position_or_len is_equals piece) piece,
    )

-- parameters are not longer than their pieces
pieces_short : (pieces : List (List ℕ)) → fields_len (map parameter_of (filter (λ piece. not (is_nothing piece)) pieces)) ≤ sum_by (λ (piece : List ℕ). length piece) pieces
pieces_short [] = omega arith
pieces_short (piece ∷ pieces) = by_test (not (is_nothing piece)) (filter (λ piece. not (is_nothing piece)) pieces) (pieces_short pieces)
  where
    by_test : (kept : Bool) (others : List (List ℕ)) → fields_len (map parameter_of others) ≤ sum_by (λ (piece : List ℕ). length piece) pieces
        → fields_len (map parameter_of (cond kept (piece ∷ others) others)) ≤ sum_by (λ (piece : List ℕ). length piece) (piece ∷ pieces)
    by_test true others rest =
        let all = sum_by-cons (λ (piece : List ℕ). length piece) piece pieces in
        let one = sum_by-cons field_len (parameter_of piece) (map parameter_of others) in
        omega (arith, all, one, rest, parameter_short piece)
    by_test false others rest =
        let all = sum_by-cons (λ (piece : List ℕ). length piece) piece pieces in
        omega (arith, all, rest)

origin_short : (target : List ℕ) → length (origin_of target) ≤ length target
unfolding origin_of
origin_short target = by_form (is_absolute target)
  where
    by_form : (absolute : Bool) → length (cond absolute (drop (7 + authority_len target) target) target) ≤ length target
    by_form true = omega (arith, length-drop (7 + authority_len target) target)
    by_form false = omega arith

query_text_short : (origin : List ℕ) → length (query_text origin) ≤ length origin
unfolding query_text
query_text_short origin = omega (arith, length-drop (position_or_len is_question_mark origin + 1) origin)

-- the parameters of a target are together not longer than the target
pub query_short : (target : List ℕ) → fields_len (target_of target).query ≤ length target
unfolding target_of query_of
query_short target =
    omega (
      arith,
      pieces_short (slice_split (λ b. b == 38) (query_text (origin_of target))),
      split_short (λ b. b == 38) (query_text (origin_of target)),
      query_text_short (origin_of target),
      origin_short target,
    )

-- the length of a parameter's value if its name is this name, and else 0
abbrev counted : List ℕ → Field → ℕ
counted name f = cond (bytes_eq f.name name) (length f.value) 0

-- a name that is the first of two names is not the second
other_name : (own other n : List ℕ) → bytes_eq own other ≡ false → bytes_eq n own ≡ true → bytes_eq n other ≡ false
other_name own other n differ is = ap (λ (m : List ℕ). bytes_eq m other) ((bytes_eq-Decides n own).0 is) ∙ differ

-- if at most one of three counts counts, they are together not more than one of them
one_counts : (a b c : Bool) (n : ℕ) → (a ≡ true → b ≡ false) → (a ≡ true → c ≡ false) → (b ≡ true → c ≡ false) → cond a n 0 + cond b n 0 + cond c n 0 ≤ n
one_counts true b c n ab ac bc = rw (ab refl, ac refl) (omega arith)
one_counts false true c n ab ac bc = rw (bc refl) (omega arith)
one_counts false false true n ab ac bc = omega arith
one_counts false false false n ab ac bc = omega arith

parameter_counts : (f : Field) → counted (codes "prefix") f + counted (codes "delimiter") f + counted (codes "marker") f ≤ field_len f
parameter_counts f =
    omega (
      arith,
      one_counts (bytes_eq f.name (codes "prefix")) (bytes_eq f.name (codes "delimiter")) (bytes_eq f.name (codes "marker")) (length f.value)
          (other_name (codes "prefix") (codes "delimiter") f.name refl) (other_name (codes "prefix") (codes "marker") f.name refl) (other_name (codes "delimiter") (codes "marker") f.name refl),
    )

sums_count : (u v w z : Field → ℕ) → ((f : Field) → u f + v f + w f ≤ z f) → (fields : List Field) → sum_by u fields + sum_by v fields + sum_by w fields ≤ sum_by z fields
sums_count u v w z each [] = omega arith
sums_count u v w z each (f ∷ fs) =
    let here = each f in
    let rest = sums_count u v w z each fs in
    rw (sum_by-cons u f fs, sum_by-cons v f fs, sum_by-cons w f fs, sum_by-cons z f fs) (omega arith)

text_short : (query : List Field) (name : List ℕ) → given_len (text_given query name) ≤ sum_by (counted name) query
unfolding text_given
text_short query name = omega (arith, under_short (λ n. bytes_eq n name) name ((bytes_eq-Decides name name).1 refl) query, by_value (first_value query name))
  where
    by_length : (v : List ℕ) (empty : Bool) → given_len (cond empty None (Some v)) ≤ length v
    by_length v true = omega arith
    by_length v false = omega arith

    by_value : (o : Option (List ℕ)) → given_len (option_and_then unless_empty o) ≤ given_len o
    by_value None = omega arith
    by_value (Some v) = by_length v (is_nothing v)

delimiter_short : (op : Op) (query : List Field) → given_len (delimiter_by op query) ≤ sum_by (counted (codes "delimiter")) query
delimiter_short op query = by_op (is_op ListBlobs op)
  where
    by_op : (b : Bool) → given_len (cond b (text_given query (codes "delimiter")) None) ≤ sum_by (counted (codes "delimiter")) query
    by_op true = text_short query (codes "delimiter")
    by_op false = omega arith

-- the texts of a page are together not longer than the parameters
pub page_short : (op : Op) (query : List Field) → page_len (Some (page_of op query)) ≤ fields_len query
unfolding page_of
page_short op query =
    omega (
      arith,
      text_short query (codes "prefix"),
      delimiter_short op query,
      text_short query (codes "marker"),
      sums_count (counted (codes "prefix")) (counted (codes "delimiter")) (counted (codes "marker")) field_len parameter_counts query,
    )

-- what an operation keeps, the texts of its page and the id of its block have together at most 16,384 bytes
pub all_short : (op : Op) (fields query : List Field) → fields_len fields ≤ 16384 → fields_len query ≤ 16384 → (op ≡ PutBlock → IsShortId (id_given query))
    → kept_len (kept_by op fields) + metadata_len (metadata_by op fields) + page_len (page_by op query) + given_len (block_by op query) ≤ 16384
unfolding metadata_by
all_short PutBlock fields query short parameters id = let bound = (id refl).short in omega (arith)
all_short ListContainers fields query short parameters id = omega (arith, page_short ListContainers query)
all_short ListBlobs fields query short parameters id = omega (arith, page_short ListBlobs query)
all_short other fields query short parameters id = omega (arith, args_short other fields)
