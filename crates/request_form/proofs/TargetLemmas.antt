-- The origin form: its test, its form in the grammar of the crate `http_uri`, and that it is a text if the target is a text.
use Rattle.std.proofs.Common.{◌≡◌, ◌⊎◌, inl, inr, ℕ, suc, ◌+◌, ◌<◌, ◌≤◌, Bool, true, false, cond, not, ◌&&◌, ◌||◌, List, [], ◌∷◌, ◌++◌, length, get_or, take, drop, refl, sym, ap, ◌∙◌, subst, arith, eqb-true, Option, Some, None}
use Rattle.std.specs.Prelude.{◌==◌, slice_index, nat_lt, IsUtf8, codes, if◌then◌else◌, IfSome, is_some}
use Rattle.std.specs.List.{list_all, position_or_len, prefix_len, AllPass}
use Rattle.std.proofs.lemmas.Bool.{and_parts, both_ways, false_from_ne_true}
use Rattle.std.proofs.lemmas.Bool.Decides.{nat_tests}
use Rattle.std.proofs.lemmas.List.{take_all, drop_all, get_or-drop, length-drop}
use Rattle.std.proofs.lemmas.List.Sums.{AllPass-from_list_all, list_all-from_AllPass, prefix_len_stops}
use Rattle.std.proofs.lemmas.Str.{IsUtf8-drop, IsUtf8-nil, IsCharBoundary-before_ascii}
use Rattle.http_uri.specs.ByteClasses.{is_path_byte, is_query_byte, is_authority_byte, is_scheme_byte, index_of, split_once_back, split_once_front}
use Rattle.http_uri.specs.Grammar.{IsPathAndQuery, IsUriText, IsForm, or_slash, without_fragment}
use Rattle.http_uri.specs.Uri.{SpellsNone, uri_data, uri_path, uri_scheme}
use Rattle.http_uri.specs.declared.uri.Uri.{Uri}
use Rattle.http_uri.specs.Error.{IsOutOfMemory, is_out_of_memory}
use Rattle.http_uri.specs.declared.error.UriError.{UriError}
use Rattle.http_uri.specs.declared.error.UriError.TheVariants.{Invalid}
use Rattle.http_uri.specs.declared.error.InvalidUri.{InvalidUri}
use Rattle.request_form.specs.Targets.{is_question_mark, path_of, query_text, is_origin, is_in_authority}

-- a byte that passes is not a byte that fails
other_byte : (p : ℕ → Bool) (c y : ℕ) → p c ≡ false → p y ≡ true → (y == c) ≡ false
other_byte p c y fails passes =
    elim (y == c) as (λ b. (y == c) ≡ b → b ≡ false) [
      | true ↦ λ e. let same = eqb-true y c e in let both = ap p same in cc
      | false ↦ λ _. refl
    ] refl

-- bytes of a query have no number sign
unsigned_query : (ys : List ℕ) → list_all is_query_byte ys ≡ true → index_of 35 ys ≡ length ys
unsigned_query [] all = refl
unsigned_query (y ∷ ys) all =
    let each = and_parts (is_query_byte y) (list_all is_query_byte ys) all in
    rw (other_byte is_query_byte 35 y refl each.0, unsigned_query ys each.1) (omega arith)

-- bytes of a path and a query have no number sign
unsigned : (text : List ℕ) → list_all is_path_byte (path_of text) ≡ true → list_all is_query_byte (query_text text) ≡ true → index_of 35 text ≡ length text
unfolding path_of query_text
unsigned [] p q = refl
unsigned (x ∷ xs) p q =
    let n = position_or_len is_question_mark xs in
    elim (x == 63) as (λ b. (x == 63) ≡ b → list_all is_path_byte (take (cond (not b) (1 + n) 0) (x ∷ xs)) ≡ true → list_all is_query_byte (drop (cond (not b) (1 + n) 0 + 1) (x ∷ xs)) ≡ true → index_of 35 (x ∷ xs) ≡ length (x ∷ xs)) [
      | true ↦ λ e path query.
          let is = eqb-true x 63 e in
          let other : (x == 35) ≡ false = rw is refl in
          rw (other, unsigned_query xs query) (omega arith)
      | false ↦ λ e path query.
          let next : 1 + n ≡ suc n = omega arith in
          let far : suc n + 1 ≡ suc (n + 1) = omega arith in
          let front : list_all is_path_byte (x ∷ take n xs) ≡ true = rw next at path in
          let back : list_all is_query_byte (drop (n + 1) xs) ≡ true = rw far at (rw next at query) in
          let each = and_parts (is_path_byte x) (list_all is_path_byte (take n xs)) front in
          rw (other_byte is_path_byte 35 x refl each.0, unsigned xs each.1 back) (omega arith)
    ] refl p q

-- what the test says
origin_parts : (text : List ℕ) → is_origin text ≡ true → (slice_index text 0 ≡ 47) × (list_all is_path_byte (path_of text) ≡ true) × (list_all is_query_byte (query_text text) ≡ true)
unfolding is_origin
origin_parts text is =
    let both = and_parts (slice_index text 0 == 47 && list_all is_path_byte (path_of text)) (list_all is_query_byte (query_text text)) is in
    let each = and_parts (slice_index text 0 == 47) (list_all is_path_byte (path_of text)) both.0 in
    (eqb-true (slice_index text 0) 47 each.0, each.1, both.1)

-- all of a text without a number sign is kept
whole : (text : List ℕ) → index_of 35 text ≡ length text → without_fragment text ≡ text
whole text none = rw none (take_all (length text) text (omega arith))

-- the bytes of a query pass, if there is a query
query_from : (text : List ℕ) → IfSome (split_once_back 63 text) (AllPass is_query_byte) → list_all is_query_byte (query_text text) ≡ true
unfolding query_text
query_from text some =
    elim (nat_lt (index_of 63 text) (length text)) as (λ b. nat_lt (index_of 63 text) (length text) ≡ b → IfSome (if b then Some (drop (index_of 63 text + 1) text) else None) (AllPass is_query_byte) → list_all is_query_byte (drop (index_of 63 text + 1) text) ≡ true) [
      | true ↦ λ e all. list_all-from_AllPass is_query_byte (drop (index_of 63 text + 1) text) all
      | false ↦ λ e _. rw (drop_all (index_of 63 text + 1) text (grind arith)) refl
    ] refl some

query_to : (text : List ℕ) → list_all is_query_byte (query_text text) ≡ true → IfSome (split_once_back 63 text) (AllPass is_query_byte)
unfolding query_text
query_to text all =
    elim (nat_lt (index_of 63 text) (length text)) as (λ b. IfSome (if b then Some (drop (index_of 63 text + 1) text) else None) (AllPass is_query_byte)) [
      | true ↦ AllPass-from_list_all is_query_byte (drop (index_of 63 text + 1) text) all
      | false ↦ tt
    ]

path_from : (text : List ℕ) → slice_index text 0 ≡ 47 → IsPathAndQuery text → is_origin text ≡ true
unfolding is_origin path_of
path_from text start is =
    let path = list_all-from_AllPass is_path_byte (path_of text) is.path in
    let query = query_from text is.query in
    rw (start, path, query) refl

-- a text that the grammar takes is an origin form, if it begins with `/` and has no number sign
pub is_origin_spelled : (text : List ℕ) (scheme authority : Option (List ℕ)) (kept : List ℕ) → slice_index text 0 ≡ 47 → index_of 35 text ≡ length text → IsForm text scheme authority kept → is_origin text ≡ true
is_origin_spelled text None None kept start none form = path_from text start (subst IsPathAndQuery (whole text none) form.0.1.kept)
is_origin_spelled text None (Some a) kept start none form =
    let first : is_authority_byte (slice_index text 0) ≡ true = (form.0.bytes 0 form.0.nonempty).byte in
    let both = ap is_authority_byte start in
    cc
is_origin_spelled text (Some s) None kept start none form = absurd form
is_origin_spelled text (Some s) (Some a) kept start none form =
    by_name form.name form.is_scheme.0 form.spelled
  where
    by_name : (name : List ℕ) → AllPass is_scheme_byte name → text ≡ name ++ codes "://" ++ a ++ form.tail → is_origin text ≡ true
    by_name [] bytes spelled = let first : slice_index text 0 ≡ 58 = ap (λ t. slice_index t 0) spelled in absurd (omega arith)
    by_name (x ∷ name) bytes spelled =
        let first : slice_index text 0 ≡ x = ap (λ t. slice_index t 0) spelled in
        let is : is_scheme_byte x ≡ true = bytes 0 0 (omega arith) in
        let slash : x ≡ 47 = sym first ∙ start in
        let both = ap is_scheme_byte slash in
        cc

-- an address that such a text spells has the whole text as its path and query
pub data_of_spelled : (text : List ℕ) (scheme authority : Option (List ℕ)) (kept : List ℕ) → slice_index text 0 ≡ 47 → index_of 35 text ≡ length text → IsForm text scheme authority kept → kept ≡ text
data_of_spelled text None None kept start none form = form.1 ∙ whole text none
data_of_spelled text None (Some a) kept start none form =
    let first : is_authority_byte (slice_index text 0) ≡ true = (form.0.bytes 0 form.0.nonempty).byte in
    let both = ap is_authority_byte start in
    cc
data_of_spelled text (Some s) None kept start none form = absurd form
data_of_spelled text (Some s) (Some a) kept start none form =
    by_name form.name form.is_scheme.0 form.spelled
  where
    by_name : (name : List ℕ) → AllPass is_scheme_byte name → text ≡ name ++ codes "://" ++ a ++ form.tail → kept ≡ text
    by_name [] bytes spelled = let first : slice_index text 0 ≡ 58 = ap (λ t. slice_index t 0) spelled in absurd (omega arith)
    by_name (x ∷ name) bytes spelled =
        let first : slice_index text 0 ≡ x = ap (λ t. slice_index t 0) spelled in
        let is : is_scheme_byte x ≡ true = bytes 0 0 (omega arith) in
        let slash : x ≡ 47 = sym first ∙ start in
        let both = ap is_scheme_byte slash in
        cc

-- a list with an element is not empty
not_empty : (x : ℕ) (xs : List ℕ) → (length (x ∷ xs) == 0) ≡ false
not_empty x xs = false_from_ne_true (length (x ∷ xs) == 0) (λ e. let none = eqb-true (length (x ∷ xs)) 0 e in absurd (omega (arith, none)))

kept : (x : ℕ) (xs : List ℕ) → or_slash (x ∷ xs) ≡ x ∷ xs
kept x xs = rw (not_empty x xs) refl

-- the path of a text that begins with `/` is not empty
slash_path : (text : List ℕ) → slice_index text 0 ≡ 47 → or_slash (split_once_front 63 text) ≡ path_of text
unfolding path_of
slash_path [] start = absurd (omega (arith, start))
slash_path (x ∷ xs) start =
    let other : (x == 63) ≡ false = rw start refl in
    let next : 1 + position_or_len is_question_mark xs ≡ suc (position_or_len is_question_mark xs) = omega arith in
    rw (other, next) (kept x (take (position_or_len is_question_mark xs) xs))

-- the path of an address whose path and query are an origin form, as it was sent
pub path_of_address : (address : Uri) → is_origin (uri_data address) ≡ true → uri_path address ≡ path_of (uri_data address)
path_of_address address is = shown (uri_data address) (uri_scheme address) (origin_parts (uri_data address) is).0
  where
    shown : (text : List ℕ) (scheme : Option (List ℕ)) → slice_index text 0 ≡ 47 → (if not (length text == 0) || is_some scheme then or_slash (split_once_front 63 text) else []) ≡ path_of text
    shown [] scheme start = absurd (omega (arith, start))
    shown (x ∷ xs) scheme start = rw (not_empty x xs) (slash_path (x ∷ xs) start)

-- the query of a text that has a question mark
pub query_text_some : (text query : List ℕ) → split_once_back 63 text ≡ Some query → query_text text ≡ query
unfolding query_text
query_text_some text query found =
    elim (nat_lt (index_of 63 text) (length text)) as (λ b. (if b then Some (drop (index_of 63 text + 1) text) else None) ≡ Some query → drop (index_of 63 text + 1) text ≡ query) [
      | true ↦ λ same. cc
      | false ↦ λ same. cc
    ] found

-- a text without a question mark has no query
pub query_text_none : (text : List ℕ) → split_once_back 63 text ≡ None → query_text text ≡ []
unfolding query_text
query_text_none text missing =
    elim (nat_lt (index_of 63 text) (length text)) as (λ b. nat_lt (index_of 63 text) (length text) ≡ b → (if b then Some (drop (index_of 63 text + 1) text) else None) ≡ None → drop (index_of 63 text + 1) text ≡ []) [
      | true ↦ λ e same. cc
      | false ↦ λ e same. drop_all (index_of 63 text + 1) text (grind arith)
    ] refl missing

-- the grammar takes each origin form that is a text and short
pub origin_spells : (text : List ℕ) → is_origin text ≡ true → IsUtf8 text → length text ≤ 65534 → IsUriText text None None text
unfolding path_of
origin_spells text is utf8 short =
    let parts = origin_parts text is in
    let start = parts.0 in
    let same = whole text (unsigned text parts.1 parts.2) in
    let good : IsPathAndQuery text = record {
      start = inr (inr (inl start));
      path = AllPass-from_list_all is_path_byte (path_of text) parts.1;
      query = query_to text parts.2;
      utf8 = utf8;
      short = short;
    } in (
      short,
      (
        (
          inr start,
          record {
            start = inr (rw start refl);
            short = short;
            kept = subst IsPathAndQuery (sym same) good;
          },
        ),
        sym same,
      ),
    )

-- a text with a number sign is not an origin form
pub is_origin_signed : (text : List ℕ) → index_of 35 text < length text → is_origin text ≡ false
is_origin_signed text less =
    elim (is_origin text) as (λ b. is_origin text ≡ b → b ≡ false) [
      | true ↦ λ is.
          let parts = origin_parts text is in
          let none = unsigned text parts.1 parts.2 in
          absurd (omega arith)
      | false ↦ λ _. refl
    ] refl

-- a text that the grammar does not take is not an origin form
pub is_origin_unspelled : (text : List ℕ) → IsUtf8 text → length text ≤ 65534 → SpellsNone text → is_origin text ≡ false
is_origin_unspelled text utf8 short none =
    elim (is_origin text) as (λ b. is_origin text ≡ b → b ≡ false) [
      | true ↦ λ is. absurd (none None None text (origin_spells text is utf8 short))
      | false ↦ λ _. refl
    ] refl

-- the byte that ends an authority is ASCII
ends_in_ascii : (b : ℕ) → is_in_authority b ≡ false → b < 128
ends_in_ascii b ends = grind (arith, nat_tests)

-- what follows the authority is a text, if the whole is a text
pub text_after : (target : List ℕ) (n : ℕ) → IsUtf8 target → n ≡ prefix_len is_in_authority (drop 7 target) → (7 + n < length target) ⊎ (length target ≤ 7 + n) → IsUtf8 (drop (7 + n) target)
text_after target n utf8 is (inl less) =
    let long = length-drop 7 target in
    let inside : prefix_len is_in_authority (drop 7 target) < length (drop 7 target) = rw (← is) (omega arith) in
    let stops = prefix_len_stops is_in_authority (drop 7 target) 0 inside in
    let there : is_in_authority (get_or target (7 + n) 0) ≡ false = rw (← get_or-drop 7 target n 0, is) stops in
    IsUtf8-drop target (7 + n) utf8 (IsCharBoundary-before_ascii target (7 + n) less (ends_in_ascii (get_or target (7 + n) 0) there))
text_after target n utf8 is (inr more) = rw (drop_all (7 + n) target more) IsUtf8-nil

-- bytes that are refused for their form are not a lack of memory
pub refused_by_form : (e : UriError) (why : InvalidUri) → e ≡ Invalid why → ¬ (IsOutOfMemory e)
refused_by_form e why is = both_ways (is_out_of_memory e) (ap is_out_of_memory is)
