-- Whether bytes are a head: each piece of the grammar is read in one way, or the text does not begin with it.
use Rattle.std.proofs.Common.{◌≡◌, ◌⊎◌, inl, inr, ℕ, zero, suc, ◌<◌, ◌≤◌, Bool, true, false, List, [], ◌∷◌, ◌++◌, length, refl, sym, ap, ◌∙◌, subst, arith, append_assoc, length-append, true≢false}
use Rattle.std.specs.Str as str
use Rattle.std.specs.List.{flat_map}
use Rattle.std.proofs.lemmas.Bool.{cases_Bool, cases_order}
use Rattle.std.proofs.lemmas.List.Elements.{All-cons, All-nil, All-head, All-tail}
use Rattle.std.proofs.lemmas.Str.{IsUtf8-from_is_utf8, is_utf8-from_IsUtf8}
use Rattle.httparse.specs.Grammar.{is_token_byte, is_uri_byte, is_value_byte, AllPass, LineEnd, crlf, lf, print_end, print_blank, print_version, Field, print_field, IsField, RequestHead, ReadsRequest}
use Rattle.httparse.specs.Pieces.{Piece, Begins, Then, Stops, is_newline, Bytes, Newline, Blank, Word, Method, Target, Version, Text, FieldLine, Section, RequestStart}
use Rattle.httparse.proofs.PieceLemmas.{IsDeterministic, Word_deterministic, Blank_deterministic, Method_deterministic, Target_deterministic, Version_deterministic, Name_deterministic, FieldLine_deterministic, RequestStart_deterministic, newline_not_stopped, print_end_unique, Stops_value, space_ends_token, colon_ends_token, print_field-append, FieldLine_parts}
use Rattle.httparse.proofs.GrammarLemmas.{request_tree, request_head, request_pieces, request_from_pieces, request_unique}

-- the text begins with the piece, or it does not
abbrev pub Found : {A : Type 0} → Piece A → List ℕ → Type 0
Found G text = Begins G text ⊎ (¬ (Begins G text))

-- what holds of a text if it holds of all shorter ones
pub by_length : (P : List ℕ → Type 0) → ((text : List ℕ) → ((rest : List ℕ) → length rest < length text → P rest) → P text)
    → (n : ℕ) (text : List ℕ) → length text ≤ n → P text
by_length P step zero text short = step text (λ rest less. absurd (omega arith))
by_length P step (suc n) text short = step text (λ rest less. by_length P step n rest (omega arith))

-- ---- pieces in a row

then_by : {A B : Type 0} (G : Piece A) (H : Piece B) (text : List ℕ) → IsDeterministic G
    → (a : A) (middle : List ℕ) → G a text middle → Found H middle → Found (Then G H) text
then_by G H text det a middle first (inl h) = inl ((a, h.0), h.1, (middle, first, h.2))
then_by G H text det a middle first (inr none) =
    inr (λ t. none (t.0.1, t.1, subst (λ (m : List ℕ). H t.0.1 m t.1) (det.unique t.0.0 a text t.2.0 middle t.2.1 first).1 t.2.2))

then_from : {A B : Type 0} (G : Piece A) (H : Piece B) (text : List ℕ) → IsDeterministic G
    → ((middle : List ℕ) → Found H middle) → Found G text → Found (Then G H) text
then_from G H text det h (inl x) = then_by G H text det x.0 x.1 x.2 (h x.1)
then_from G H text det h (inr none) = inr (λ t. none (t.0.0, t.2.0, t.2.1))

then_found : {A B : Type 0} (G : Piece A) (H : Piece B) → IsDeterministic G → ((text : List ℕ) → Found G text) → ((text : List ℕ) → Found H text)
    → (text : List ℕ) → Found (Then G H) text
then_found G H det g h text = then_from G H text det h (g text)

-- ---- literal bytes, ends of lines and the version

bytes_by : (b c : ℕ) (bytes text : List ℕ) → (c ≡ b) ⊎ ((c < b) ⊎ (b < c)) → Found (Bytes bytes) text → Found (Bytes (b ∷ bytes)) (c ∷ text)
bytes_by b c bytes text (inl same) (inl h) = inl (tt, h.1, ap (λ x. x ∷ text) same ∙ ap (λ l. b ∷ l) h.2)
bytes_by b c bytes text (inl same) (inr none) = inr (λ h. none (tt, h.1, let e = h.2 in cc))
bytes_by b c bytes text (inr other) found = inr (λ h. let e = h.2 in let same : c ≡ b = cc in not_same c b same other)
  where
    not_same : (m n : ℕ) → m ≡ n → (m < n) ⊎ (n < m) → ⊥
    not_same m n e (inl l) = omega arith
    not_same m n e (inr l) = omega arith

bytes_found : (bytes text : List ℕ) → Found (Bytes bytes) text
bytes_found [] text = inl (tt, text, refl)
bytes_found (b ∷ bytes) [] = inr (λ h. let e = h.2 in absurd (cc))
bytes_found (b ∷ bytes) (c ∷ text) = bytes_by b c bytes text (cases_order c b) (bytes_found bytes text)

newline_none : (text : List ℕ) → ¬ (Begins (Bytes (print_end crlf)) text) → ¬ (Begins (Bytes (print_end lf)) text)
    → (end : LineEnd) (rest : List ℕ) → text ≡ print_end end ++ rest → ⊥
newline_none text never not crlf rest e = never (tt, rest, e)
newline_none text never not lf rest e = not (tt, rest, e)

newline_by : (text : List ℕ) → Found (Bytes (print_end crlf)) text → Found (Bytes (print_end lf)) text → Found Newline text
newline_by text (inl h) found = inl (crlf, h.1, h.2)
newline_by text (inr never) (inl h) = inl (lf, h.1, h.2)
newline_by text (inr never) (inr not) = inr (λ h. newline_none text never not h.0 h.1 h.2)

newline_found : (text : List ℕ) → Found Newline text
newline_found text = newline_by text (bytes_found (print_end crlf) text) (bytes_found (print_end lf) text)

version_none : (text : List ℕ) → ¬ (Begins (Bytes (print_version 0)) text) → ¬ (Begins (Bytes (print_version 1)) text)
    → (minor : ℕ) (rest : List ℕ) → minor ≤ 1 → text ≡ print_version minor ++ rest → ⊥
version_none text never not zero rest small e = never (tt, rest, e)
version_none text never not (suc zero) rest small e = not (tt, rest, e)
version_none text never not (suc (suc minor)) rest small e = omega arith

version_by : (text : List ℕ) → Found (Bytes (print_version 0)) text → Found (Bytes (print_version 1)) text → Found Version text
version_by text (inl h) found = inl (0, h.1, (omega arith, h.2))
version_by text (inr never) (inl h) = inl (1, h.1, (omega arith, h.2))
version_by text (inr never) (inr not) = inr (λ h. version_none text never not h.0 h.1 h.2.0 h.2.1)

version_found : (text : List ℕ) → Found Version text
version_found text = version_by text (bytes_found (print_version 0) text) (bytes_found (print_version 1) text)

-- ---- words

-- no byte or more that pass the test, and then the byte stop
abbrev Front : (ℕ → Bool) → ℕ → Piece (List ℕ)
Front test stop word text rest = AllPass test word × (text ≡ word ++ stop ∷ rest)

front_none : (test : ℕ → Bool) (stop : ℕ) (word rest : List ℕ) → [] ≡ word ++ stop ∷ rest → ⊥
front_none test stop [] rest e = absurd (cc)
front_none test stop (w ∷ word) rest e = absurd (cc)

front_tail : (test : ℕ → Bool) (stop b : ℕ) (text : List ℕ) → test stop ≡ false → test b ≡ true → ¬ (Begins (Front test stop) text)
    → (word rest : List ℕ) → AllPass test word → b ∷ text ≡ word ++ stop ∷ rest → ⊥
front_tail test stop b text fails good none [] rest pass e =
    let same : b ≡ stop = cc in true≢false (sym good ∙ ap test same ∙ fails)
front_tail test stop b text fails good none (w ∷ word) rest pass e =
    none (word, rest, (All-tail (λ v. test v ≡ true) w word pass, cc))

front_stop : (test : ℕ → Bool) (stop b : ℕ) (text : List ℕ) → test b ≡ false → (b < stop) ⊎ (stop < b)
    → (word rest : List ℕ) → AllPass test word → b ∷ text ≡ word ++ stop ∷ rest → ⊥
front_stop test stop b text bad (inl l) [] rest pass e = let same : b ≡ stop = cc in omega arith
front_stop test stop b text bad (inr l) [] rest pass e = let same : b ≡ stop = cc in omega arith
front_stop test stop b text bad other (w ∷ word) rest pass e =
    let same : b ≡ w = cc in
    true≢false (sym (All-head (λ v. test v ≡ true) w word pass) ∙ ap test (sym same) ∙ bad)

front_by : (test : ℕ → Bool) (stop b : ℕ) (text : List ℕ) → test stop ≡ false → (test b ≡ true) ⊎ (test b ≡ false)
    → (b ≡ stop) ⊎ ((b < stop) ⊎ (stop < b)) → Found (Front test stop) text → Found (Front test stop) (b ∷ text)
front_by test stop b text fails (inl good) order (inl h) =
    inl (b ∷ h.0, h.1, (All-cons (λ v. test v ≡ true) b h.0 good h.2.0, ap (λ l. b ∷ l) h.2.1))
front_by test stop b text fails (inl good) order (inr none) = inr (λ h. front_tail test stop b text fails good none h.0 h.1 h.2.0 h.2.1)
front_by test stop b text fails (inr bad) (inl same) found = inl ([], text, (All-nil (λ v. test v ≡ true), ap (λ x. x ∷ text) same))
front_by test stop b text fails (inr bad) (inr other) found = inr (λ h. front_stop test stop b text bad other h.0 h.1 h.2.0 h.2.1)

front_found : (test : ℕ → Bool) (stop : ℕ) → test stop ≡ false → (text : List ℕ) → Found (Front test stop) text
front_found test stop fails [] = inr (λ h. front_none test stop h.0 h.1 h.2.1)
front_found test stop fails (b ∷ text) = front_by test stop b text fails (cases_Bool (test b)) (cases_order b stop) (front_found test stop fails text)

no_empty_word : (test : ℕ → Bool) (stop : ℕ) (rest : List ℕ) → test stop ≡ false → (word rest' : List ℕ)
    → 0 < length word → AllPass test word → stop ∷ rest ≡ word ++ stop ∷ rest' → ⊥
no_empty_word test stop rest fails [] rest' some pass e = omega arith
no_empty_word test stop rest fails (w ∷ word) rest' some pass e =
    let same : stop ≡ w = cc in
    true≢false (sym (All-head (λ v. test v ≡ true) w word pass) ∙ ap test (sym same) ∙ fails)

word_of : (test : ℕ → Bool) (stop : ℕ) → test stop ≡ false → (text word rest : List ℕ) → AllPass test word → text ≡ word ++ stop ∷ rest → Found (Word test stop) text
word_of test stop fails text [] rest pass e = inr (λ h. no_empty_word test stop rest fails h.0 h.1 h.2.0 h.2.1 (sym e ∙ h.2.2))
word_of test stop fails text (w ∷ word) rest pass e = inl (w ∷ word, rest, (omega arith, pass, e))

word_by : (test : ℕ → Bool) (stop : ℕ) → test stop ≡ false → (text : List ℕ) → Found (Front test stop) text → Found (Word test stop) text
word_by test stop fails text (inl h) = word_of test stop fails text h.0 h.1 h.2.0 h.2.1
word_by test stop fails text (inr none) = inr (λ h. none (h.0, h.1, (h.2.1, h.2.2)))

word_found : (test : ℕ → Bool) (stop : ℕ) → test stop ≡ false → (text : List ℕ) → Found (Word test stop) text
word_found test stop fails text = word_by test stop fails text (front_found test stop fails text)

method_found : (text : List ℕ) → Found Method text
method_found text = word_found is_token_byte 32 space_ends_token text

target_of : (text target rest : List ℕ) → Word is_uri_byte 32 target text rest → (str.is_utf8 target ≡ true) ⊎ (str.is_utf8 target ≡ false) → Found Target text
target_of text target rest word (inl good) = inl (target, rest, (word, IsUtf8-from_is_utf8 target good))
target_of text target rest word (inr bad) =
    let det = Word_deterministic is_uri_byte 32 refl in
    inr (λ h.
    let same = det.unique h.0 target text h.1 rest h.2.0 word in
    true≢false (sym (is_utf8-from_IsUtf8 h.0 h.2.1) ∙ ap str.is_utf8 same.0 ∙ bad))

target_by : (text : List ℕ) → Found (Word is_uri_byte 32) text → Found Target text
target_by text (inl h) = target_of text h.0 h.1 h.2 (cases_Bool (str.is_utf8 h.0))
target_by text (inr none) = inr (λ h. none (h.0, h.1, h.2.0))

target_found : (text : List ℕ) → Found Target text
target_found text = target_by text (word_found is_uri_byte 32 refl text)

-- ---- field lines

text_none : (t : List ℕ) (end : LineEnd) (rest : List ℕ) → [] ≡ t ++ (print_end end ++ rest) → ⊥
text_none [] crlf rest e = absurd (cc)
text_none [] lf rest e = absurd (cc)
text_none (w ∷ t) end rest e = absurd (cc)

text_tail : (b : ℕ) (text : List ℕ) → is_value_byte b ≡ true → ¬ (Begins Text text)
    → (t : List ℕ) (end : LineEnd) (rest : List ℕ) → AllPass is_value_byte t → b ∷ text ≡ t ++ (print_end end ++ rest) → ⊥
text_tail b text good none [] end rest pass e =
    let stops : is_value_byte b ≡ false = subst (Stops is_value_byte) (sym e) (Stops_value end rest) in true≢false (sym good ∙ stops)
text_tail b text good none (w ∷ t) end rest pass e = none ((t, end), rest, (All-tail (λ v. is_value_byte v ≡ true) w t pass, cc))

text_end : (b : ℕ) (text : List ℕ) → is_value_byte b ≡ false → ¬ (Begins Newline (b ∷ text))
    → (t : List ℕ) (end : LineEnd) (rest : List ℕ) → AllPass is_value_byte t → b ∷ text ≡ t ++ (print_end end ++ rest) → ⊥
text_end b text bad none [] end rest pass e = none (end, rest, e)
text_end b text bad none (w ∷ t) end rest pass e =
    let same : b ≡ w = cc in
    true≢false (sym (All-head (λ v. is_value_byte v ≡ true) w t pass) ∙ ap is_value_byte (sym same) ∙ bad)

text_by : (b : ℕ) (text : List ℕ) → (is_value_byte b ≡ true) ⊎ (is_value_byte b ≡ false) → Found Text text → Found Newline (b ∷ text) → Found Text (b ∷ text)
text_by b text (inl good) (inl h) end =
    inl ((b ∷ h.0.0, h.0.1), h.1, (All-cons (λ v. is_value_byte v ≡ true) b h.0.0 good h.2.0, ap (λ l. b ∷ l) h.2.1))
text_by b text (inl good) (inr none) end = inr (λ h. text_tail b text good none h.0.0 h.0.1 h.1 h.2.0 h.2.1)
text_by b text (inr bad) found (inl h) = inl (([], h.0), h.1, (All-nil (λ v. is_value_byte v ≡ true), h.2))
text_by b text (inr bad) found (inr none) = inr (λ h. text_end b text bad none h.0.0 h.0.1 h.1 h.2.0 h.2.1)

text_found : (text : List ℕ) → Found Text text
text_found [] = inr (λ h. text_none h.0.0 h.0.1 h.1 h.2.1)
text_found (b ∷ text) = text_by b text (cases_Bool (is_value_byte b)) (text_found text) (newline_found (b ∷ text))

field_by : (text : List ℕ) → Found (Then (Word is_token_byte 58) Text) text → Found FieldLine text
field_by text (inl h) =
    let f : Field = record { name = h.0.0; raw = h.0.1.0; end = h.0.1.1 } in
    inl (
      f,
      h.1,
      (
        record { name = (h.2.1.0, h.2.1.1); raw = h.2.2.0 },
        h.2.1.2 ∙ ap (λ m. h.0.0 ++ 58 ∷ m) h.2.2.1 ∙ sym (print_field-append f h.1),
      ),
    )
field_by text (inr none) = inr (λ h. none ((h.0.name, (h.0.raw, h.0.end)), h.1, FieldLine_parts h.0 text h.1 h.2))

field_found : (text : List ℕ) → Found FieldLine text
field_found text =
    field_by text (then_found (Word is_token_byte 58) Text Name_deterministic (word_found is_token_byte 58 colon_ends_token) text_found text)

-- ---- sections

field_short : (f : Field) (text rest : List ℕ) → FieldLine f text rest → length rest < length text
field_short f text rest line =
    let whole = ap length line.1 in
    let parts = ap length (print_field-append f rest) in
    let front = length-append f.name (58 ∷ (f.raw ++ (print_end f.end ++ rest))) in
    let middle = length-append f.raw (print_end f.end ++ rest) in
    let last = length-append (print_end f.end) rest in
    omega arith

-- the first line of a section
section_first : (g : Field) (fields : List Field) (last : LineEnd) (text rest : List ℕ) → Section (g ∷ fields, last) text rest
    → FieldLine g text ((flat_map print_field fields ++ print_end last) ++ rest)
section_first g fields last text rest x = (
  All-head IsField g fields x.0,
  x.1 ∙ ap (λ (t : List ℕ). t ++ rest) (append_assoc (print_field g) (flat_map print_field fields) (print_end last))
      ∙ append_assoc (print_field g) (flat_map print_field fields ++ print_end last) rest,
)

section_none : (text : List ℕ) → ¬ (Begins Newline text) → ¬ (Begins FieldLine text) → (fields : List Field) (last : LineEnd) (rest : List ℕ)
    → Section (fields, last) text rest → ⊥
section_none text never not [] last rest x = never (last, rest, x.1)
section_none text never not (f ∷ fields) last rest x = not (f, _, section_first f fields last text rest x)

section_rest : (text : List ℕ) (f : Field) (middle : List ℕ) → FieldLine f text middle → ¬ (Begins Newline text) → ¬ (Begins Section middle)
    → (fields : List Field) (last : LineEnd) (rest : List ℕ) → Section (fields, last) text rest → ⊥
section_rest text f middle line never none [] last rest x = never (last, rest, x.1)
section_rest text f middle line never none (g ∷ fields) last rest x =
    let same = FieldLine_deterministic.unique f g text middle _ line (section_first g fields last text rest x) in
    none ((fields, last), rest, (All-tail IsField g fields x.0, same.1))

section_more : (text : List ℕ) (f : Field) (middle : List ℕ) → FieldLine f text middle → ¬ (Begins Newline text) → Found Section middle → Found Section text
section_more text f middle line never (inl h) =
    inl (
      (f ∷ h.0.0, h.0.1),
      h.1,
      (
        All-cons IsField f h.0.0 line.0 h.2.0,
        line.1 ∙ ap (λ m. print_field f ++ m) h.2.1
            ∙ sym (append_assoc (print_field f) (flat_map print_field h.0.0 ++ print_end h.0.1) h.1)
            ∙ sym (ap (λ (t : List ℕ). t ++ h.1) (append_assoc (print_field f) (flat_map print_field h.0.0) (print_end h.0.1))),
      ),
    )
section_more text f middle line never (inr none) = inr (λ h. section_rest text f middle line never none h.0.0 h.0.1 h.1 h.2)

section_by : (text : List ℕ) → ((rest : List ℕ) → length rest < length text → Found Section rest) → Found Newline text → Found FieldLine text → Found Section text
section_by text shorter (inl h) found = inl (([], h.0), h.1, (All-nil IsField, h.2))
section_by text shorter (inr never) (inl h) = section_more text h.0 h.1 h.2 never (shorter h.1 (field_short h.0 text h.1 h.2))
section_by text shorter (inr never) (inr not) = inr (λ h. section_none text never not h.0.0 h.0.1 h.1 h.2)

section_found : (text : List ℕ) → Found Section text
section_found text = by_length (Found Section) (λ t shorter. section_by t shorter (newline_found t) (field_found t)) (length text) text (omega arith)

-- ---- empty lines

newline_short : (end : LineEnd) (text rest : List ℕ) → text ≡ print_end end ++ rest → length rest < length text
newline_short crlf text rest e = let size = ap length e in omega arith
newline_short lf text rest e = let size = ap length e in omega arith

stops_found : (text : List ℕ) → Stops is_newline text ⊎ (¬ (Stops is_newline text))
stops_found [] = inr (λ s. s)
stops_found (b ∷ text) = by_test (is_newline b)
  where
    by_test : (t : Bool) → (t ≡ false) ⊎ (¬ (t ≡ false))
    by_test true = inr (λ e. true≢false e)
    by_test false = inl refl

blank_none : (text : List ℕ) → ¬ (Begins Newline text) → ¬ (Stops is_newline text) → (ends : List LineEnd) (rest : List ℕ) → Blank ends text rest → ⊥
blank_none text never not [] rest x = not (subst (Stops is_newline) (sym x.0) x.1)
blank_none text never not (end ∷ ends) rest x = never (end, _, x.0 ∙ append_assoc (print_end end) (print_blank ends) rest)

blank_rest : (text : List ℕ) (end : LineEnd) (middle : List ℕ) → text ≡ print_end end ++ middle → ¬ (Begins Blank middle)
    → (ends : List LineEnd) (rest : List ℕ) → Blank ends text rest → ⊥
blank_rest text end middle line none [] rest x = newline_not_stopped end middle rest (sym line ∙ x.0) x.1
blank_rest text end middle line none (other ∷ ends) rest x =
    let same = print_end_unique end other middle _ (sym line ∙ x.0 ∙ append_assoc (print_end other) (print_blank ends) rest) in
    none (ends, rest, (same.1, x.1))

blank_more : (text : List ℕ) (end : LineEnd) (middle : List ℕ) → text ≡ print_end end ++ middle → Found Blank middle → Found Blank text
blank_more text end middle line (inl h) =
    inl (end ∷ h.0, h.1, (line ∙ ap (λ m. print_end end ++ m) h.2.0 ∙ sym (append_assoc (print_end end) (print_blank h.0) h.1), h.2.1))
blank_more text end middle line (inr none) = inr (λ h. blank_rest text end middle line none h.0 h.1 h.2)

blank_last : (text : List ℕ) → ¬ (Begins Newline text) → Stops is_newline text ⊎ (¬ (Stops is_newline text)) → Found Blank text
blank_last text never (inl stops) = inl ([], text, (refl, stops))
blank_last text never (inr not) = inr (λ h. blank_none text never not h.0 h.1 h.2)

blank_by : (text : List ℕ) → ((rest : List ℕ) → length rest < length text → Found Blank rest) → Found Newline text → Found Blank text
blank_by text shorter (inl h) = blank_more text h.0 h.1 h.2 (shorter h.1 (newline_short h.0 text h.1 h.2))
blank_by text shorter (inr never) = blank_last text never (stops_found text)

blank_found : (text : List ℕ) → Found Blank text
blank_found text = by_length (Found Blank) (λ t shorter. blank_by t shorter (newline_found t)) (length text) text (omega arith)

-- ---- heads

start_found : (text : List ℕ) → Found RequestStart text
start_found =
    then_found Blank _ Blank_deterministic blank_found
    (then_found Method _ Method_deterministic method_found
    (then_found Target _ Target_deterministic target_found
    (then_found Version Newline Version_deterministic version_found newline_found)))

whole_or_not : (text : List ℕ) (h : RequestHead) (rest : List ℕ) → ReadsRequest text h rest
    → ((k : RequestHead) × ReadsRequest text k []) ⊎ ((k : RequestHead) → ReadsRequest text k [] → ⊥)
whole_or_not text h [] reads = inl (h, reads)
whole_or_not text h (b ∷ rest) reads = inr (λ k other. let same = (request_unique text h k (b ∷ rest) [] reads other).1 in absurd (cc))

head_by : (text : List ℕ) → Found (Then RequestStart Section) text
    → ((k : RequestHead) × ReadsRequest text k []) ⊎ ((k : RequestHead) → ReadsRequest text k [] → ⊥)
head_by text (inl h) = whole_or_not text (request_head h.0) h.1 (request_from_pieces text h.0 h.1 h.2)
head_by text (inr none) = inr (λ k reads. none (request_tree k, [], request_pieces text k [] reads))

-- bytes are one head with nothing after it, or they are not
pub head_found : (text : List ℕ) → ((h : RequestHead) × ReadsRequest text h []) ⊎ ((h : RequestHead) → ReadsRequest text h [] → ⊥)
head_found text = head_by text (then_found RequestStart Section RequestStart_deterministic start_found section_found text)
