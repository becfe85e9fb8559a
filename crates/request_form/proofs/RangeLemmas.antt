-- Texts of ranges.
use Rattle.std.proofs.Common.{◌≡◌, ◌≤◌, ◌<◌, ◌+◌, ℕ, Bool, true, false, true≢false, not, ◌&&◌, cond, List, ◌∷◌, ◌++◌, length, take, drop, get_or, Option, Some, None, bytes_eq, codes, refl, sym, ap, ◌∙◌, length-append, min, nat_lt, option_and_then, arith}
use Rattle.std.proofs.Math.Seq.{take-append_seam, drop-append-add, get_or-append_seam}
use Rattle.std.proofs.lemmas.Bool.{and_parts}
use Rattle.std.proofs.lemmas.Bool.Decides.{nat_tests}
use Rattle.std.proofs.lemmas.List.{take-append-drop, take_all, get_or_append_left}
use Rattle.std.proofs.lemmas.List.Sums.{split_at_first, passes_at_first, position_or_len_is}
use Rattle.std.proofs.lemmas.Slice.Eq.{bytes_eq-Decides}
use Rattle.std.specs.List.{position_or_len}
use Rattle.std.specs.Prelude.{IfSome}
use Rattle.std.specs.Str.Parse.{digits_value}
use Rattle.stamp_values.specs.Ascii.{hyphen}
use Rattle.stamp_values.specs.Fields.{first_value, is_sent}
use Rattle.stamp_values.specs.declared.condition.ByteRange.{ByteRange}
use Rattle.stamp_values.specs.declared.op.Op.{Op}
use Rattle.stamp_values.specs.declared.op.Op.TheVariants.{GetBlob}
use Rattle.stamp_values.specs.Operations.{is_op}
use Rattle.stamp_values.specs.declared.signing.Field.{Field}
use Rattle.request_form.specs.HeadFields.{are_digits}
use Rattle.request_form.specs.HeadRanges.{HasRange, first_digits, is_falling, is_hyphen, is_marked, is_range, last_digits, number_within, range_between, range_by, range_of, range_sent, range_text}
use Rattle.request_form.specs.Targets.{is_nothing}
use Rattle.request_form.proofs.DigitLemmas.{digit_in}

-- a byte that passes is a hyphen
hyphen_is : (b : ℕ) → is_hyphen b ≡ true → b ≡ hyphen
hyphen_is b is = grind (arith, nat_tests)

-- a text with both marks is printed by its parts
pub marked : (v : List ℕ) → bytes_eq (take 6 v) (codes "bytes=") ≡ true → position_or_len is_hyphen (drop 6 v) < length (drop 6 v) → is_marked v ≡ true
unfolding is_marked
marked v unit inside =
    let front : take 6 v ≡ codes "bytes=" = (bytes_eq-Decides (take 6 v) (codes "bytes=")).0 unit in
    let mark = hyphen_is (get_or (drop 6 v) (position_or_len is_hyphen (drop 6 v)) 0) (passes_at_first is_hyphen (drop 6 v) 0 inside) in
    let back : drop 6 v ≡ first_digits v ++ hyphen ∷ last_digits v =
    split_at_first is_hyphen (drop 6 v) 0 inside ∙ ap (λ (b : ℕ). first_digits v ++ b ∷ last_digits v) mark in
    let whole : v ≡ range_text (first_digits v) (last_digits v) =
    sym (take-append-drop 6 v) ∙ ap (λ (x : List ℕ). x ++ drop 6 v) front ∙ ap (λ (x : List ℕ). codes "bytes=" ++ x) back in
    (bytes_eq-Decides v (range_text (first_digits v) (last_digits v))).1 whole

-- what a test answers if it can not hold
refuted : (b : Bool) → (b ≡ true → ⊥) → b ≡ false
refuted true none = absurd (none refl)
refuted false none = refl

-- a text that is printed by its parts begins with `bytes=`
pub has_unit : (v : List ℕ) → is_marked v ≡ true → take 6 v ≡ codes "bytes="
unfolding is_marked
has_unit v is =
    ap (λ (x : List ℕ). take 6 x) ((bytes_eq-Decides v (range_text (first_digits v) (last_digits v))).0 is)

-- a text that does not begin with `bytes=` is not printed by its parts
pub without_unit : (v : List ℕ) → bytes_eq (take 6 v) (codes "bytes=") ≡ false → is_marked v ≡ false
without_unit v other =
    refuted (is_marked v) (λ is. true≢false (sym ((bytes_eq-Decides (take 6 v) (codes "bytes=")).1 (has_unit v is)) ∙ other))

-- a text that is printed by its parts has a hyphen
pub has_mark : (v : List ℕ) → is_marked v ≡ true → position_or_len is_hyphen (drop 6 v) ≡ length (drop 6 v) → ⊥
unfolding is_marked
has_mark v is none =
    let whole : v ≡ range_text (first_digits v) (last_digits v) = (bytes_eq-Decides v (range_text (first_digits v) (last_digits v))).0 is in
    let back : drop 6 v ≡ first_digits v ++ hyphen ∷ last_digits v = ap (λ (x : List ℕ). drop 6 x) whole in
    let all : first_digits v ≡ drop 6 v = take_all (position_or_len is_hyphen (drop 6 v)) (drop 6 v) (omega (arith, none)) in
    let len = ap (λ (x : List ℕ). length x) back ∙ length-append (first_digits v) (hyphen ∷ last_digits v) in
    omega (arith, len, ap (λ (x : List ℕ). length x) all)

-- a text without a hyphen after its first six bytes is not printed by its parts
pub without_mark : (v : List ℕ) → position_or_len is_hyphen (drop 6 v) ≡ length (drop 6 v) → is_marked v ≡ false
without_mark v none = refuted (is_marked v) (λ is. has_mark v is none)

-- a digit is not a hyphen
not_hyphen : (ds : List ℕ) (i : ℕ) → are_digits ds ≡ true → i < length ds → is_hyphen (get_or ds i 0) ≡ false
not_hyphen ds i digits inside = let digit = digit_in ds i digits inside in grind (arith, nat_tests)

-- the first hyphen after digits
hyphen_after : (first last : List ℕ) → are_digits first ≡ true → position_or_len is_hyphen (first ++ hyphen ∷ last) ≡ length first
hyphen_after first last digits =
    position_or_len_is is_hyphen (first ++ hyphen ∷ last) (length first) 0
    (omega (arith, length-append first (hyphen ∷ last)))
    (λ k less. ap is_hyphen (get_or_append_left first (hyphen ∷ last) 0 k less) ∙ not_hyphen first k digits less)
    (λ inside. ap is_hyphen (get_or-append_seam first hyphen last 0))

-- the parts of a printed text
pub first_printed : (first last : List ℕ) → are_digits first ≡ true → first_digits (range_text first last) ≡ first
first_printed first last digits =
    ap (λ (n : ℕ). take n (first ++ hyphen ∷ last)) (hyphen_after first last digits) ∙ take-append_seam first (hyphen ∷ last)

pub last_printed : (first last : List ℕ) → are_digits first ≡ true → last_digits (range_text first last) ≡ last
last_printed first last digits =
    ap (λ (n : ℕ). drop (n + 1) (first ++ hyphen ∷ last)) (hyphen_after first last digits) ∙ drop-append-add first (hyphen ∷ last) 1

-- a printed text has the form of a range
printed : (first last : List ℕ) → is_nothing first ≡ false → are_digits first ≡ true → are_digits last ≡ true → is_range (range_text first last) ≡ true
unfolding is_range is_marked
printed first last some digits others =
    let same = (bytes_eq-Decides (range_text first last) (range_text first last)).1 refl in
    rw (first_printed first last digits, last_printed first last digits, same, some, digits, others) refl

-- a printed text has the range between its digits
pub range_printed : (first last : List ℕ) → is_nothing first ≡ false → are_digits first ≡ true → are_digits last ≡ true → range_of (range_text first last) ≡ range_between first last
unfolding range_of
range_printed first last some digits others =
    rw (printed first last some digits others, first_printed first last digits, last_printed first last digits) refl

-- the parts of a text that has the form of a range
by_parts : (v : List ℕ) (r : ByteRange) → is_range v ≡ true → range_between (first_digits v) (last_digits v) ≡ Some r → HasRange v r
unfolding is_range is_marked
by_parts v r is range =
    let a = and_parts (is_marked v && not (is_nothing (first_digits v)) && are_digits (first_digits v)) (are_digits (last_digits v)) is in
    let b = and_parts (is_marked v && not (is_nothing (first_digits v))) (are_digits (first_digits v)) a.0 in
    let d = and_parts (is_marked v) (not (is_nothing (first_digits v))) b.0 in
    record {
      first = first_digits v;
      last = last_digits v;
      printed = (bytes_eq-Decides v (range_text (first_digits v) (last_digits v))).0 d.0;
      some = refuted (is_nothing (first_digits v)) (λ none. true≢false (sym d.1 ∙ ap not none));
      first_digits = b.1;
      last_digits = a.1;
      range = range;
    }

-- a text that has a range is a printed text that has this range
pub has_range : (v : List ℕ) (r : ByteRange) → range_of v ≡ Some r → HasRange v r
unfolding range_of
has_range v r e = by_form (is_range v) refl e
  where
    by_form : (b : Bool) → is_range v ≡ b → cond b (range_between (first_digits v) (last_digits v)) None ≡ Some r → HasRange v r
    by_form true is e = by_parts v r is e
    by_form false is e = absurd (cc)

-- a number that is not greater is not greater after both are cut
cut_rising : (a b : ℕ) → nat_lt b a ≡ false → min a 18_446_744_073_709_551_615 ≤ min b 18_446_744_073_709_551_615
cut_rising a b rising = grind (arith, nat_tests)

-- the range has no last byte, or its first byte is not after its last byte
abbrev IsRising : ByteRange → Type 0
IsRising r = IfSome r.last (λ last. r.first ≤ last)

-- a range between digits is rising
between_rising : (first last : List ℕ) → IfSome (range_between first last) IsRising
unfolding range_between
between_rising first last = by_end (is_nothing last)
  where
    by_order : (b : Bool) → is_falling first last ≡ b → IfSome (cond b None (Some (record { first = number_within first; last = Some (number_within last) }))) IsRising
    by_order true e = tt
    by_order false e = cut_rising (digits_value 10 first) (digits_value 10 last) e

    by_end : (b : Bool) → IfSome (cond b (Some (record { first = number_within first; last = None })) (cond (is_falling first last) None (Some (record { first = number_within first; last = Some (number_within last) })))) IsRising
    by_end true = tt
    by_end false = by_order (is_falling first last) refl

-- the range of a text is rising
of_rising : (v : List ℕ) → IfSome (range_of v) IsRising
unfolding range_of
of_rising v = by_form (is_range v)
  where
    by_form : (b : Bool) → IfSome (cond b (range_between (first_digits v) (last_digits v)) None) IsRising
    by_form true = between_rising (first_digits v) (last_digits v)
    by_form false = tt

-- the range that comes with a request is rising
pub range_rising : (op : Op) (fields : List Field) → IfSome (range_by op fields) IsRising
range_rising op fields = by_op (is_op GetBlob op) (range_sent fields)
  where
    by_op : (b : Bool) (sent : Option (List ℕ)) → IfSome (cond b (option_and_then range_of sent) None) IsRising
    by_op true (Some v) = of_rising v
    by_op true None = tt
    by_op false sent = tt

-- ---- the header that counts

pub range_sent-own : (fields : List Field) (value : List ℕ) → is_sent fields (codes "if-range") ≡ false → first_value fields (codes "x-ms-range") ≡ Some value
    → range_sent fields ≡ Some value
unfolding range_sent
range_sent-own fields value unconditional own = rw (unconditional, own) refl

pub range_sent-plain : (fields : List Field) (value : List ℕ) → is_sent fields (codes "if-range") ≡ false → first_value fields (codes "x-ms-range") ≡ None
    → first_value fields (codes "range") ≡ Some value → range_sent fields ≡ Some value
unfolding range_sent
range_sent-plain fields value unconditional none plain = rw (unconditional, none, plain) refl

pub range_sent-conditional : (fields : List Field) → is_sent fields (codes "if-range") ≡ true → range_sent fields ≡ None
unfolding range_sent
range_sent-conditional fields conditional = rw conditional refl

pub range_by-none : (op : Op) (fields : List Field) → range_sent fields ≡ None → range_by op fields ≡ None
range_by-none op fields none = by_op (is_op GetBlob op)
  where
    by_op : (b : Bool) → cond b (option_and_then range_of (range_sent fields)) None ≡ None
    by_op true = ap (option_and_then range_of) none
    by_op false = refl
