-- The front of a body, its characters, and the body as a whole.
use Rattle.std.proofs.Common.{◌≡◌, inl, inr, ℕ, Bool, true, false, not, cond, ◌&&◌, ◌==◌, List, [], ◌∷◌, ◌++◌, take, drop, Option, Some, None, refl, sym, ap, ◌∙◌, subst, arith, append_assoc, eqb-true}
use Rattle.std.specs.Prelude.{codes, bytes_eq, slice_index, option_and_then}
use Rattle.std.proofs.lemmas.Bool.{and_parts}
use Rattle.std.proofs.lemmas.Bool.Decides.{nat_tests}
use Rattle.std.proofs.lemmas.List.{take-append-drop}
use Rattle.std.proofs.lemmas.Option.{option_and_then_some, same_Some}
use Rattle.std.proofs.lemmas.Slice.Eq.{bytes_eq-Decides}
use Rattle.stamp_values.specs.Ascii.{question_mark}
use Rattle.xml_text.specs.Markup.{is_white, less_than, greater_than}
use Rattle.xml_text.specs.Reading.{Read, tag_at, opening_at, name_at}
use Rattle.xml_text.specs.Tokens.{Tag}
use Rattle.xml_text.specs.ElementReading.{root_of}
use Rattle.stamp_values.specs.Texts.{is_utf8}
use Rattle.xml_text.specs.Bodies.{are_controls_white, byte_order_mark, IsByteOrderMark, has_no_prolog_end, IsProlog, IsBody}
use Rattle.xml_text.specs.FrontReading.{after_mark, after_end, prolog_end, after_prolog, body_of}
use Rattle.xml_text.proofs.Runs.{if_none}

-- ---- what is left out at the front is a byte order mark and a prolog

fronted : (n : ℕ) (front t : List ℕ) → bytes_eq (take n t) front ≡ true → t ≡ front ++ drop n t
fronted n front t h = sym (take-append-drop n t) ∙ ap (λ l. l ++ drop n t) ((bytes_eq-Decides (take n t) front).0 h)

mark_sound : (t : List ℕ) → (front : List ℕ) × IsByteOrderMark front × (t ≡ front ++ after_mark t)
mark_sound t =
    elim (bytes_eq (take 3 t) byte_order_mark) as (λ b. bytes_eq (take 3 t) byte_order_mark ≡ b → (front : List ℕ) × IsByteOrderMark front × (t ≡ front ++ cond b (drop 3 t) t)) [
      | true ↦ λ h. (byte_order_mark, inr refl, fronted 3 byte_order_mark t h)
      | false ↦ λ _. ([], inl refl, refl)
    ] refl

same_head : (content a b : List ℕ) → slice_index (content ++ question_mark ∷ a) 0 ≡ slice_index (content ++ question_mark ∷ b) 0
same_head [] a b = refl
same_head (c ∷ cs) a b = refl

begun : (c : ℕ) (cs : List ℕ) → (c == question_mark && slice_index cs 0 == greater_than) ≡ true → c ∷ cs ≡ question_mark ∷ greater_than ∷ drop 1 cs
begun c [] h = let (a, b) = and_parts (c == question_mark) (slice_index [] 0 == greater_than) h in cc
begun c (d ∷ ds) h = let (a, b) = and_parts (c == question_mark) (d == greater_than) h in λ i. eqb-true c question_mark a i ∷ eqb-true d greater_than b i ∷ ds

abbrev Ended : List ℕ → List ℕ → Type 0
Ended t r = (content : List ℕ) × (has_no_prolog_end (content ++ question_mark ∷ []) ≡ true) × (t ≡ content ++ question_mark ∷ greater_than ∷ r)

later : (c : ℕ) (cs r : List ℕ) → (c == question_mark && slice_index cs 0 == greater_than) ≡ false → Ended cs r → Ended (c ∷ cs) r
later c cs r h (content, none, whole) =
    let head : slice_index (content ++ question_mark ∷ []) 0 ≡ slice_index cs 0 = same_head content [] (greater_than ∷ r) ∙ ap (λ l. slice_index l 0) (sym whole) in
    (c ∷ content, rw (head, h, none) refl, ap (λ l. c ∷ l) whole)

end_sound : (t r : List ℕ) → after_end t ≡ Some r → Ended t r
unfolding after_end
end_sound [] r e = cc
end_sound (c ∷ cs) r e =
    elim (c == question_mark && slice_index cs 0 == greater_than) as (λ b. (c == question_mark && slice_index cs 0 == greater_than) ≡ b → cond b (Some (drop 1 cs)) (after_end cs) ≡ Some r → Ended (c ∷ cs) r) [
      | true ↦ λ h is. ([], refl, begun c cs h ∙ ap (λ l. question_mark ∷ greater_than ∷ l) (same_Some (drop 1 cs) r is))
      | false ↦ λ h is. later c cs r h (end_sound cs r is)
    ] refl e

abbrev PrologRead : List ℕ → List ℕ → Type 0
PrologRead t r = (p : List ℕ) × IsProlog p × (t ≡ p ++ r)

with_content : (c : ℕ) (cs r : List ℕ) → is_white c ≡ true → Ended cs r → PrologRead (codes "<?xml" ++ c ∷ cs) r
with_content c cs r white (content, none, whole) =
    (codes "<?xml" ++ (c ∷ (content ++ codes "?>")), inr (inr (c, content, white, none, refl)), ap (λ l. codes "<?xml" ++ c ∷ l) (whole ∙ sym (append_assoc content (codes "?>") r)))

prolog_end_sound : (s r : List ℕ) → prolog_end s ≡ Some r → PrologRead (codes "<?xml" ++ s) r
prolog_end_sound [] r e = cc
prolog_end_sound (c ∷ cs) r e =
    elim (c == question_mark && slice_index cs 0 == greater_than) as (λ b. (c == question_mark && slice_index cs 0 == greater_than) ≡ b → cond b (Some (drop 1 cs)) (cond (is_white c) (after_end cs) None) ≡ Some r → PrologRead (codes "<?xml" ++ c ∷ cs) r) [
      | true ↦ λ h is. (codes "<?xml?>", inr (inl refl), ap (λ l. codes "<?xml" ++ l) (begun c cs h ∙ ap (λ l. question_mark ∷ greater_than ∷ l) (same_Some (drop 1 cs) r is)))
      | false ↦ λ h is. let (white, ends) = if_none (is_white c) (after_end cs) r is in with_content c cs r white (end_sound cs r ends)
    ] refl e

prolog_sound : (t r : List ℕ) → after_prolog t ≡ Some r → PrologRead t r
prolog_sound t r e =
    elim (bytes_eq (take 5 t) (codes "<?xml")) as (λ b. bytes_eq (take 5 t) (codes "<?xml") ≡ b → cond b (prolog_end (drop 5 t)) (Some t) ≡ Some r → PrologRead t r) [
      | true ↦ λ h is. subst (λ l. PrologRead l r) (sym (fronted 5 (codes "<?xml") t h)) (prolog_end_sound (drop 5 t) r is)
      | false ↦ λ _ is. ([], inl refl, same_Some t r is)
    ] refl e

-- what is read is what the grammar says
pub body_sound : (A : Type 0) (root : List ℕ → Option A) (IsRootText : A → List ℕ → Type 0) → ((t : List ℕ) (a : A) → root t ≡ Some a → IsRootText a t) → (body : List ℕ) (a : A) → body_of root body ≡ Some a → IsBody (IsRootText a) body
body_sound A root IsRootText sound body a e =
    let (good, more) = if_none (is_utf8 body && are_controls_white body) (option_and_then root (after_prolog (after_mark body))) a e in
    let (utf8, clean) = and_parts (is_utf8 body) (are_controls_white body) good in
    let (front, is_mark, whole) = mark_sound body in
    option_and_then_some root (after_prolog (after_mark body)) a more λ rest found read.
    let (p, is_prolog, parts) = prolog_sound (after_mark body) rest found in
    record {
      utf8 = utf8;
      clean = clean;
      mark = front;
      prolog = p;
      rest = rest;
      is_mark = is_mark;
      is_prolog = is_prolog;
      root = sound rest a read;
      whole = whole ∙ ap (λ l. front ++ l) parts;
    }

-- ---- a byte order mark and a prolog are left out

not_true : (b : Bool) → not b ≡ true → b ≡ false
not_true true h = cc
not_true false h = refl

end_read : (content r : List ℕ) → has_no_prolog_end (content ++ question_mark ∷ []) ≡ true → after_end (content ++ question_mark ∷ greater_than ∷ r) ≡ Some r
unfolding after_end
end_read [] r h = refl
end_read (c ∷ cs) r h =
    let (here, more) = and_parts (not (c == question_mark && slice_index (cs ++ question_mark ∷ []) 0 == greater_than)) (has_no_prolog_end (cs ++ question_mark ∷ [])) h in
    let fails : (c == question_mark && slice_index (cs ++ question_mark ∷ greater_than ∷ r) 0 == greater_than) ≡ false = ap (λ n. c == question_mark && n == greater_than) (same_head cs (greater_than ∷ r) []) ∙ not_true (c == question_mark && slice_index (cs ++ question_mark ∷ []) 0 == greater_than) here in
    rw (fails, end_read cs r more) refl

white_no_question : (c : ℕ) → is_white c ≡ true → (c == question_mark) ≡ false
white_no_question c h = grind (arith, nat_tests)

content_read : (c : ℕ) (content rest : List ℕ) → is_white c ≡ true → has_no_prolog_end (content ++ question_mark ∷ []) ≡ true → after_prolog ((codes "<?xml" ++ (c ∷ (content ++ codes "?>"))) ++ rest) ≡ Some rest
content_read c content rest white none =
    let shape : (content ++ codes "?>") ++ rest ≡ content ++ question_mark ∷ greater_than ∷ rest = append_assoc content (codes "?>") rest in
    rw (white_no_question c white, white, shape) (end_read content rest none)

prolog_read : (p rest : List ℕ) → IsProlog p → bytes_eq (take 5 rest) (codes "<?xml") ≡ false → after_prolog (p ++ rest) ≡ Some rest
prolog_read p rest (inl is) other = ap (λ l. after_prolog (l ++ rest)) is ∙ ap (λ b. cond b (prolog_end (drop 5 rest)) (Some rest)) other
prolog_read p rest (inr (inl is)) other = ap (λ l. after_prolog (l ++ rest)) is
prolog_read p rest (inr (inr (c, content, white, none, is))) other = ap (λ l. after_prolog (l ++ rest)) is ∙ content_read c content rest white none

no_mark : (p rest : List ℕ) → IsProlog p → bytes_eq (take 3 rest) byte_order_mark ≡ false → bytes_eq (take 3 (p ++ rest)) byte_order_mark ≡ false
no_mark p rest (inl is) other = ap (λ l. bytes_eq (take 3 (l ++ rest)) byte_order_mark) is ∙ other
no_mark p rest (inr (inl is)) other = ap (λ l. bytes_eq (take 3 (l ++ rest)) byte_order_mark) is
no_mark p rest (inr (inr (c, content, white, none, is))) other = ap (λ l. bytes_eq (take 3 (l ++ rest)) byte_order_mark) is

mark_read : (front t : List ℕ) → IsByteOrderMark front → bytes_eq (take 3 t) byte_order_mark ≡ false → after_mark (front ++ t) ≡ t
mark_read front t (inl is) other = ap (λ l. after_mark (l ++ t)) is ∙ ap (λ b. cond b (drop 3 t) t) other
mark_read front t (inr is) other = ap (λ l. after_mark (l ++ t)) is

-- no root begins with a prolog or a byte order mark

nothing_at_question : (A : Type 0) (one : Tag → List ℕ → Read A) (d : List ℕ) → root_of one (less_than ∷ question_mark ∷ d) ≡ None
unfolding root_of tag_at opening_at name_at
nothing_at_question A one d = refl

nothing_at_mark : (A : Type 0) (one : Tag → List ℕ → Read A) (d : List ℕ) → root_of one (0xEF ∷ d) ≡ None
unfolding root_of tag_at
nothing_at_mark A one d = refl

no_front : (A : Type 0) (one : Tag → List ℕ → Read A) (n : ℕ) (front rest : List ℕ) (a : A) → ((d : List ℕ) → root_of one (front ++ d) ≡ None) → root_of one rest ≡ Some a → bytes_eq (take n rest) front ≡ false
no_front A one n front rest a nothing read =
    elim (bytes_eq (take n rest) front) as (λ b. bytes_eq (take n rest) front ≡ b → b ≡ false) [
      | true ↦ λ h. let none = nothing (drop n rest) in let same = ap (root_of one) (fronted n front rest h) in cc
      | false ↦ λ _. refl
    ] refl

-- what the grammar says is read
pub body_read : (A : Type 0) (one : Tag → List ℕ → Read A) (IsRootText : A → List ℕ → Type 0) → ((t : List ℕ) (a : A) → IsRootText a t → root_of one t ≡ Some a) → (body : List ℕ) (a : A) → IsBody (IsRootText a) body → body_of (root_of one) body ≡ Some a
body_read A one IsRootText complete body a b =
    let read = complete b.rest a b.root in
    let no_prolog = no_front A one 5 (codes "<?xml") b.rest a (λ d. nothing_at_question A one (codes "xml" ++ d)) read in
    let unmarked = no_front A one 3 byte_order_mark b.rest a (λ d. nothing_at_mark A one (0xBB ∷ 0xBF ∷ d)) read in
    let passed : after_mark body ≡ b.prolog ++ b.rest = ap after_mark b.whole ∙ mark_read b.mark (b.prolog ++ b.rest) b.is_mark (no_mark b.prolog b.rest b.is_prolog unmarked) in
    rw (b.utf8, b.clean, passed, prolog_read b.prolog b.rest b.is_prolog no_prolog) read
