-- Texts that are written with references are read back.
use Rattle.std.proofs.Common.{◌≡◌, ℕ, ◌<◌, ◌≤◌, ◌-◌, Bool, true, false, not, ◌==◌, cond, List, [], ◌∷◌, ◌++◌, length, map, take, drop, slice_index, refl, sym, ap, ap₂, ◌∙◌, arith, append_assoc, append-nil, eqb-true}
use Rattle.std.specs.List.{list_all, flat_map, prefix_len}
use Rattle.std.proofs.lemmas.Bool.{and_parts}
use Rattle.std.proofs.lemmas.Bool.Decides.{nat_tests}
use Rattle.std.proofs.lemmas.List.{take_all}
use Rattle.std.proofs.lemmas.Grind.{flat_map-append}
use Rattle.std.proofs.lemmas.List.Folds.{list_all-append}
use Rattle.stamp_values.specs.Ascii.{ampersand}
use Rattle.xml_text.specs.Markup.{less_than, greater_than}
use Rattle.xml_text.specs.Texts.{Piece, plain, amp, lt, gt, piece_value, piece_bytes, is_piece, IsText}
use Rattle.xml_text.specs.Escapes.{escaped_byte, is_written_as_itself, escaped, IsReadBack}
use Rattle.xml_text.proofs.Runs.{run_passes, run_whole}
use Rattle.xml_text.proofs.TextLemmas.{pieces_text, text_value, text_read}

abbrev no_greater : List ℕ → Bool
no_greater s = list_all (λ c. not (c == greater_than)) s

-- the piece of a byte, by the three tests of the byte
abbrev pub chosen : ℕ → Bool → Bool → Bool → Piece
chosen c a l g = cond a amp (cond l lt (cond g gt (plain c)))

chosen_is_piece : (c : ℕ) (a l g : Bool) → (c == ampersand) ≡ a → (c == less_than) ≡ l → is_piece (chosen c a l g) ≡ true
chosen_is_piece c true l g is_amp is_lt = refl
chosen_is_piece c false true g is_amp is_lt = refl
chosen_is_piece c false false true is_amp is_lt = refl
chosen_is_piece c false false false is_amp is_lt = rw (is_lt, is_amp) refl

chosen_value : (c : ℕ) (a l g : Bool) → (c == ampersand) ≡ a → (c == less_than) ≡ l → (c == greater_than) ≡ g → piece_value (chosen c a l g) ≡ c
chosen_value c true l g is_amp is_lt is_gt = sym (eqb-true c ampersand is_amp)
chosen_value c false true g is_amp is_lt is_gt = sym (eqb-true c less_than is_lt)
chosen_value c false false true is_amp is_lt is_gt = sym (eqb-true c greater_than is_gt)
chosen_value c false false false is_amp is_lt is_gt = refl

chosen_no_greater : (c : ℕ) (a l g : Bool) → (c == greater_than) ≡ g → no_greater (piece_bytes (chosen c a l g)) ≡ true
chosen_no_greater c true l g is_gt = refl
chosen_no_greater c false true g is_gt = refl
chosen_no_greater c false false true is_gt = refl
chosen_no_greater c false false false is_gt = rw is_gt refl

are_pieces : (t : List ℕ) → list_all is_piece (map escaped_byte t) ≡ true
are_pieces [] = refl
are_pieces (c ∷ cs) = rw (chosen_is_piece c (c == ampersand) (c == less_than) (c == greater_than) refl refl, are_pieces cs) refl

values : (t : List ℕ) → map piece_value (map escaped_byte t) ≡ t
values [] = refl
values (c ∷ cs) = ap (λ v. v ∷ map piece_value (map escaped_byte cs)) (chosen_value c _ _ _ refl refl refl) ∙ ap (λ l. c ∷ l) (values cs)

bytes : (t : List ℕ) → flat_map (λ c. piece_bytes (escaped_byte c)) t ≡ flat_map piece_bytes (map escaped_byte t)
bytes [] = refl
bytes (c ∷ cs) = ap (λ l. piece_bytes (escaped_byte c) ++ l) (bytes cs)

no_greater_in : (t : List ℕ) → no_greater (flat_map (λ c. piece_bytes (escaped_byte c)) t) ≡ true
no_greater_in [] = refl
no_greater_in (c ∷ cs) =
    list_all-append _ (piece_bytes (escaped_byte c)) (flat_map (λ d. piece_bytes (escaped_byte d)) cs)
    ∙ rw (chosen_no_greater c (c == ampersand) (c == less_than) (c == greater_than) refl, no_greater_in cs) refl

-- a text may be written so
escaped_text : (t : List ℕ) → IsText t (escaped t)
unfolding escaped
escaped_text t = (map escaped_byte t, are_pieces t, sym (values t), bytes t)

no_greater_escaped : (t : List ℕ) → no_greater (escaped t) ≡ true
unfolding escaped
no_greater_escaped t = no_greater_in t

pub read_back : (t : List ℕ) → IsReadBack t (escaped t)
read_back t =
    let is = escaped_text t in
    let bare = pieces_text t (escaped t) is in
    let value = text_value t (escaped t) is in
    record {
      written = is;
      of_no_other = λ other other_is. sym (text_value other (escaped t) other_is) ∙ value;
      no_bare_reference = bare;
      no_greater_than = no_greater_escaped t;
      taken = λ rest. text_read (escaped t) rest bare;
      value = value;
    }

-- ---- bytes that are written as themselves

not_amp : (c : ℕ) → is_written_as_itself c ≡ true → (c == ampersand) ≡ false
not_amp c h = grind (arith, nat_tests)

not_lt : (c : ℕ) → is_written_as_itself c ≡ true → (c == less_than) ≡ false
not_lt c h = grind (arith, nat_tests)

not_gt : (c : ℕ) → is_written_as_itself c ≡ true → (c == greater_than) ≡ false
not_gt c h = grind (arith, nat_tests)

itself : (c : ℕ) → is_written_as_itself c ≡ true → piece_bytes (escaped_byte c) ≡ c ∷ []
itself c h = rw (not_amp c h, not_lt c h, not_gt c h) refl

-- such bytes stay as they are
pub escaped_itself : (s : List ℕ) → list_all is_written_as_itself s ≡ true → escaped s ≡ s
unfolding escaped
escaped_itself [] h = refl
escaped_itself (c ∷ cs) h =
    let (one, more) = and_parts (is_written_as_itself c) (list_all is_written_as_itself cs) h in
    ap₂ (λ (a b : List ℕ). a ++ b) (itself c one) (escaped_itself cs more)

escaped-append : (s t : List ℕ) → escaped (s ++ t) ≡ escaped s ++ escaped t
unfolding escaped
escaped-append s t = flat_map-append (λ c. piece_bytes (escaped_byte c)) s t

-- the bytes before the first byte that is written as a reference, and then the text from that byte on
run_escaped : (t : List ℕ) → escaped t ≡ take (prefix_len is_written_as_itself t) t ++ escaped (drop (prefix_len is_written_as_itself t) t)
run_escaped t =
    let run = take (prefix_len is_written_as_itself t) t in
    let left = drop (prefix_len is_written_as_itself t) t in
    ap escaped (run_whole is_written_as_itself t) ∙ escaped-append run left ∙ ap (λ l. l ++ escaped left) (escaped_itself run (run_passes is_written_as_itself t))

-- these bytes after a text
pub run_joined : (out new t : List ℕ) → new ≡ out ++ take (prefix_len is_written_as_itself t) t → new ++ escaped (drop (prefix_len is_written_as_itself t) t) ≡ out ++ escaped t
run_joined out new t is =
    ap (λ (l : List ℕ). l ++ escaped (drop (prefix_len is_written_as_itself t) t)) is
    ∙ append_assoc out (take (prefix_len is_written_as_itself t) t) (escaped (drop (prefix_len is_written_as_itself t) t))
    ∙ ap (λ (l : List ℕ). out ++ l) (sym (run_escaped t))

byte_joined : (out new t : List ℕ) (c : ℕ) → new ≡ out ++ piece_bytes (escaped_byte c) → new ++ escaped t ≡ out ++ escaped (c ∷ t)
unfolding escaped
byte_joined out new t c is = ap (λ (l : List ℕ). l ++ escaped t) is ∙ append_assoc out (piece_bytes (escaped_byte c)) (escaped t)

-- what is left after the first byte
after_first : (c : ℕ) (cs : List ℕ) → take (length (c ∷ cs) - 1) cs ≡ cs
after_first c cs =
    let same : length (c ∷ cs) - 1 ≡ length cs = omega arith in
    rw same (take_all (length cs) cs (omega arith))

-- one byte more, and the bytes after it that are written as themselves
pub turn_joined : (all out next new left rest : List ℕ) → 1 ≤ length left → out ++ escaped left ≡ all → next ≡ out ++ piece_bytes (escaped_byte (slice_index left 0))
    → new ++ escaped rest ≡ next ++ escaped (take (length left - 1) (drop 1 left)) → new ++ escaped rest ≡ all
turn_joined all out next new [] rest some before is more = absurd (omega arith)
turn_joined all out next new (c ∷ cs) rest some before is more = more ∙ ap (λ (l : List ℕ). next ++ escaped l) (after_first c cs) ∙ byte_joined out next cs c is ∙ before

-- nothing is left
pub end_joined : (all out left : List ℕ) → length left < 1 → out ++ escaped left ≡ all → out ≡ all
unfolding escaped
end_joined all out [] none before = sym (append-nil out) ∙ before
end_joined all out (c ∷ cs) none before = absurd (omega arith)
