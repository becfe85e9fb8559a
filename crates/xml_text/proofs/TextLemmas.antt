-- Texts as they are written, and white space as a text.
use Rattle.std.proofs.Common.{◌≡◌, ◌⊎◌, inl, inr, ℕ, zero, suc, ◌<◌, Bool, true, false, not, ◌&&◌, ◌||◌, ◌==◌, List, [], ◌∷◌, ◌++◌, length, map, take, drop, Some, refl, sym, ap, ◌∙◌, subst, arith, eqb-true, length-drop}
use Rattle.std.specs.Prelude.{codes, bytes_eq}
use Rattle.std.specs.List.{prefix_len, list_all, flat_map}
use Rattle.std.proofs.lemmas.Bool.{and_parts}
use Rattle.std.proofs.lemmas.Bool.Decides.{nat_tests}
use Rattle.std.proofs.lemmas.List.{take-append-drop}
use Rattle.std.proofs.lemmas.Option.{cond_some}
use Rattle.std.proofs.lemmas.Slice.Eq.{bytes_eq-Decides}
use Rattle.stamp_values.specs.Ascii.{ampersand, quote}
use Rattle.xml_text.specs.Markup.{is_white, is_white_space, less_than, greater_than, apostrophe}
use Rattle.xml_text.specs.Tokens.{begins_reference, has_good_references, is_text}
use Rattle.xml_text.specs.Texts.{Piece, plain, amp, lt, gt, quot, apos, piece_value, piece_bytes, is_piece, IsText}
use Rattle.xml_text.specs.Reading.{text_at}
use Rattle.xml_text.specs.ElementReading.{unescaped}
use Rattle.xml_text.proofs.Runs.{Stops, run_take, run_drop, run_passes, run_whole}

abbrev no_bracket : List ℕ → Bool
no_bracket s = list_all (λ c. not (c == less_than)) s

both : (a b : Bool) → a ≡ true → b ≡ true → (a && b) ≡ true
both a b h k = rw (h, k) refl

-- ---- pieces are a text, and give its value

pieces_no_bracket : (pieces : List Piece) → list_all is_piece pieces ≡ true → no_bracket (flat_map piece_bytes pieces) ≡ true
pieces_no_bracket [] h = refl
pieces_no_bracket (plain c ∷ rest) h =
    let (one, more) = and_parts (is_piece (plain c)) (list_all is_piece rest) h in
    both (not (c == less_than)) (no_bracket (flat_map piece_bytes rest)) (and_parts (not (c == less_than)) (not (c == ampersand)) one).0 (pieces_no_bracket rest more)
pieces_no_bracket (amp ∷ rest) h = pieces_no_bracket rest h
pieces_no_bracket (lt ∷ rest) h = pieces_no_bracket rest h
pieces_no_bracket (gt ∷ rest) h = pieces_no_bracket rest h
pieces_no_bracket (quot ∷ rest) h = pieces_no_bracket rest h
pieces_no_bracket (apos ∷ rest) h = pieces_no_bracket rest h

either : (a b c : Bool) → a ≡ true → c ≡ true → ((a || b) && c) ≡ true
either a b c h k = rw (h, k) refl

pieces_good : (pieces : List Piece) → list_all is_piece pieces ≡ true → has_good_references (flat_map piece_bytes pieces) ≡ true
pieces_good [] h = refl
pieces_good (plain c ∷ rest) h =
    let (one, more) = and_parts (is_piece (plain c)) (list_all is_piece rest) h in
    either (not (c == ampersand)) _ _ (and_parts (not (c == less_than)) (not (c == ampersand)) one).1 (pieces_good rest more)
pieces_good (amp ∷ rest) h = pieces_good rest h
pieces_good (lt ∷ rest) h = pieces_good rest h
pieces_good (gt ∷ rest) h = pieces_good rest h
pieces_good (quot ∷ rest) h = pieces_good rest h
pieces_good (apos ∷ rest) h = pieces_good rest h

pub pieces_text : (t s : List ℕ) → IsText t s → is_text s ≡ true
pieces_text t s (pieces, good, value, bytes) =
    both (no_bracket s) (has_good_references s) (ap no_bracket bytes ∙ pieces_no_bracket pieces good) (ap has_good_references bytes ∙ pieces_good pieces good)

no_ampersand : (c : ℕ) → not (c == ampersand) ≡ true → (c == ampersand) ≡ false
no_ampersand c h = grind (arith, nat_tests)

pieces_value : (pieces : List Piece) → list_all is_piece pieces ≡ true → unescaped 0 (flat_map piece_bytes pieces) ≡ map piece_value pieces
unfolding unescaped
pieces_value [] h = refl
pieces_value (plain c ∷ rest) h =
    let (one, more) = and_parts (is_piece (plain c)) (list_all is_piece rest) h in
    rw (no_ampersand c (and_parts (not (c == less_than)) (not (c == ampersand)) one).1, pieces_value rest more) refl
pieces_value (amp ∷ rest) h = ap (λ l. ampersand ∷ l) (pieces_value rest h)
pieces_value (lt ∷ rest) h = ap (λ l. less_than ∷ l) (pieces_value rest h)
pieces_value (gt ∷ rest) h = ap (λ l. greater_than ∷ l) (pieces_value rest h)
pieces_value (quot ∷ rest) h = ap (λ l. quote ∷ l) (pieces_value rest h)
pieces_value (apos ∷ rest) h = ap (λ l. apostrophe ∷ l) (pieces_value rest h)

-- a text as it is written has one value
pub text_value : (t s : List ℕ) → IsText t s → unescaped 0 s ≡ t
text_value t s (pieces, good, value, bytes) = ap (unescaped 0) bytes ∙ pieces_value pieces good ∙ sym value

-- ---- a text is pieces

-- the text is a reference, and what follows it
pub record Referred (s : List ℕ) : Type 0 where
  pub piece : Piece
  pub rest : List ℕ
  pub good : is_piece piece ≡ true
  pub whole : s ≡ piece_bytes piece ++ rest
  pub value : unescaped 0 (piece_bytes piece ++ rest) ≡ piece_value piece ∷ unescaped 0 rest
  pub text : is_text (piece_bytes piece ++ rest) ≡ is_text rest
  pub shorter : length rest < length s

fronted : (n : ℕ) (front cs : List ℕ) → bytes_eq (take n cs) front ≡ true → ampersand ∷ cs ≡ ampersand ∷ (front ++ drop n cs)
fronted n front cs h = ap (λ l. ampersand ∷ l) (sym (take-append-drop n cs) ∙ ap (λ l. l ++ drop n cs) ((bytes_eq-Decides (take n cs) front).0 h))

drop_shorter : (n : ℕ) (cs : List ℕ) → length (drop n cs) < suc (length cs)
drop_shorter n cs = grind (arith, length-drop)

or_cases : (a b : Bool) → (a || b) ≡ true → (a ≡ true) ⊎ (b ≡ true)
or_cases true b h = inl refl
or_cases false b h = inr h

referred : (cs : List ℕ) → begins_reference cs ≡ true → Referred (ampersand ∷ cs)
unfolding unescaped
referred cs h =
    let is_amp = bytes_eq (take 4 cs) (codes "amp;") in
    let is_lt = bytes_eq (take 3 cs) (codes "lt;") in
    let is_gt = bytes_eq (take 3 cs) (codes "gt;") in
    let is_quot = bytes_eq (take 5 cs) (codes "quot;") in
    let is_apos = bytes_eq (take 5 cs) (codes "apos;") in
    elim (or_cases (is_amp || is_lt || is_gt || is_quot) is_apos h) [
      | inr e ↦ record { piece = apos; rest = drop 5 cs; good = refl; whole = fronted 5 (codes "apos;") cs e; value = refl; text = refl; shorter = drop_shorter 5 cs }
      | inl e ↦ elim (or_cases (is_amp || is_lt || is_gt) is_quot e) [
        | inr e ↦ record { piece = quot; rest = drop 5 cs; good = refl; whole = fronted 5 (codes "quot;") cs e; value = refl; text = refl; shorter = drop_shorter 5 cs }
        | inl e ↦ elim (or_cases (is_amp || is_lt) is_gt e) [
          | inr e ↦ record { piece = gt; rest = drop 3 cs; good = refl; whole = fronted 3 (codes "gt;") cs e; value = refl; text = refl; shorter = drop_shorter 3 cs }
          | inl e ↦ elim (or_cases is_amp is_lt e) [
            | inr e ↦ record { piece = lt; rest = drop 3 cs; good = refl; whole = fronted 3 (codes "lt;") cs e; value = refl; text = refl; shorter = drop_shorter 3 cs }
            | inl e ↦ record { piece = amp; rest = drop 4 cs; good = refl; whole = fronted 4 (codes "amp;") cs e; value = refl; text = refl; shorter = drop_shorter 4 cs }
          ]
        ]
      ]
    ]

with_reference : (s : List ℕ) (r : Referred s) → IsText (unescaped 0 r.rest) r.rest → IsText (unescaped 0 s) s
with_reference s r (pieces, good, value, bytes) = (
  r.piece ∷ pieces,
  both (is_piece r.piece) (list_all is_piece pieces) r.good good,
  ap (unescaped 0) r.whole ∙ r.value ∙ ap (λ l. piece_value r.piece ∷ l) value,
  r.whole ∙ ap (λ l. piece_bytes r.piece ++ l) bytes,
)

with_plain : (c : ℕ) (cs : List ℕ) → (c == ampersand) ≡ false → not (c == less_than) ≡ true → IsText (unescaped 0 cs) cs → IsText (unescaped 0 (c ∷ cs)) (c ∷ cs)
unfolding unescaped
with_plain c cs other no_less (pieces, good, value, bytes) = (
  plain c ∷ pieces,
  both (is_piece (plain c)) (list_all is_piece pieces) (rw (no_less, other) refl) good,
  rw other (ap (λ l. c ∷ l) value),
  ap (λ l. c ∷ l) bytes,
)

good_rest : (c : ℕ) (cs : List ℕ) → is_text (c ∷ cs) ≡ true → (not (c == less_than) ≡ true) × ((not (c == ampersand) || begins_reference cs) ≡ true) × (is_text cs ≡ true)
good_rest c cs h =
    let (a, b) = and_parts (no_bracket (c ∷ cs)) (has_good_references (c ∷ cs)) h in
    let (a₁, a₂) = and_parts (not (c == less_than)) (no_bracket cs) a in
    let (b₁, b₂) = and_parts (not (c == ampersand) || begins_reference cs) (has_good_references cs) b in
    (a₁, b₁, both (no_bracket cs) (has_good_references cs) a₂ b₂)

pub text_pieces : (n : ℕ) (s : List ℕ) → length s < n → is_text s ≡ true → IsText (unescaped 0 s) s
unfolding unescaped
text_pieces zero s h is = absurd (omega arith)
text_pieces (suc n) [] h is = ([], refl, refl, refl)
text_pieces (suc n) (c ∷ cs) h is =
    let (no_less, refers, rest) = good_rest c cs is in
    elim (c == ampersand) as (λ b. (c == ampersand) ≡ b → (not b || begins_reference cs) ≡ true → IsText (unescaped 0 (c ∷ cs)) (c ∷ cs)) [
      | true ↦ λ e begins.
          let r = referred cs begins in
          let same : ampersand ∷ cs ≡ c ∷ cs = λ i. sym (eqb-true c ampersand e) i ∷ cs in
          let text : is_text r.rest ≡ true = sym r.text ∙ ap is_text (sym r.whole ∙ same) ∙ is in
          subst (λ l. IsText (unescaped 0 l) l) same (with_reference (ampersand ∷ cs) r (text_pieces n r.rest (omega (arith, r.shorter)) text))
      | false ↦ λ e _. with_plain c cs e no_less (text_pieces n cs (omega arith) rest)
    ] refl refers

-- ---- a text before a tag or the end

pub text_read : (s r : List ℕ) → is_text s ≡ true → text_at (s ++ less_than ∷ r) ≡ Some (s, less_than ∷ r)
unfolding text_at
text_read s r h =
    let (a, b) = and_parts (no_bracket s) (has_good_references s) h in
    let p = λ (c : ℕ). not (c == less_than) in
    let stops : Stops p (less_than ∷ r) = record { first = less_than; rest = r; is = refl; fails = refl } in
    rw (run_take p s (less_than ∷ r) a stops, run_drop p s (less_than ∷ r) a stops, b) refl

pub text_sound : (t x r : List ℕ) → text_at t ≡ Some (x, r) → (is_text x ≡ true) × (t ≡ x ++ r)
unfolding text_at
text_sound t x r e =
    let p = λ (c : ℕ). not (c == less_than) in
    let k = prefix_len p t in
    let (good, same) = cond_some (has_good_references (take k t)) (take k t, drop k t) (x, r) e in
    (ap (λ q. is_text q.0) (sym same) ∙ both (no_bracket (take k t)) (has_good_references (take k t)) (run_passes p t) good, run_whole p t ∙ ap (λ q. q.0 ++ q.1) same)

-- ---- white space as a text

white_is_piece : (c : ℕ) → is_white c ≡ true → is_piece (plain c) ≡ true
white_is_piece c h = grind (arith, nat_tests)

pub gap_text : (g : List ℕ) → is_white_space g ≡ true → IsText g g
gap_text [] h = ([], refl, refl, refl)
gap_text (c ∷ cs) h =
    let (one, more) = and_parts (is_white c) (is_white_space cs) h in
    let (pieces, good, value, bytes) = gap_text cs more in
    (plain c ∷ pieces, both (is_piece (plain c)) (list_all is_piece pieces) (white_is_piece c one) good, ap (λ l. c ∷ l) value, ap (λ l. c ∷ l) bytes)

white_pieces : (pieces : List Piece) → is_white_space (map piece_value pieces) ≡ true → flat_map piece_bytes pieces ≡ map piece_value pieces
white_pieces [] h = refl
white_pieces (plain c ∷ rest) h = ap (λ l. c ∷ l) (white_pieces rest (and_parts (is_white c) (is_white_space (map piece_value rest)) h).1)
white_pieces (amp ∷ rest) h = cc
white_pieces (lt ∷ rest) h = cc
white_pieces (gt ∷ rest) h = cc
white_pieces (quot ∷ rest) h = cc
white_pieces (apos ∷ rest) h = cc

pub gap_written : (g s : List ℕ) → is_white_space g ≡ true → IsText g s → s ≡ g
gap_written g s h (pieces, good, value, bytes) = bytes ∙ white_pieces pieces (ap is_white_space (sym value) ∙ h) ∙ sym value

-- a text is written so if and only if it is the value of a good text
pub text_values : (t s : List ℕ) → (IsText t s → (is_text s ≡ true) × (unescaped 0 s ≡ t)) × ((is_text s ≡ true) × (unescaped 0 s ≡ t) → IsText t s)
text_values t s = (
  λ is. (pieces_text t s is, text_value t s is),
  λ h. subst (λ l. IsText l s) h.1 (text_pieces (suc (length s)) s (omega arith) h.0),
)
