-- Frames and what is read of them.
use Rattle.std.proofs.Common.{◌≡◌, ℕ, zero, suc, ◌+◌, ◌*◌, ◌^◌, ◌<◌, ◌≤◌, ◌==◌, Bool, true, false, cond, ltb, List, [], ◌∷◌, ◌++◌, length, take, drop, replicate, Option, Some, None, refl, sym, ap, subst, ◌∙◌, append_assoc, arith, eq-eqb}
use Rattle.std.specs.Int.{w64, from_be_bytes, to_be_bytes}
use Rattle.std.proofs.lemmas.Bool.{ltb-false, le-ltb, eqb-true}
use Rattle.std.proofs.lemmas.List.{take_at, drop_at, take-append-drop, length-append, length-take, length-replicate, take-replicate, append-nil}
use Rattle.std.proofs.lemmas.List.Elements.{All-append}
use Rattle.std.proofs.lemmas.Nat.{be_bytes_8, from_be_bytes-to_be_bytes_8}
use Rattle.extent_frames.specs.Frames.{EntryBytes, SegmentDigest, AreEntries, least_entry, eight_bytes, frame_of, frames_of}
use Rattle.extent_frames.specs.ReadFrames.{IsBytes, WithRest, ◌>>=◌, first_bytes, first_number, first_entry, first_frame}

rest_bytes : (front rest : List ℕ) → IsBytes (front ++ rest) → IsBytes rest
rest_bytes [] rest good = good
rest_bytes (b ∷ front) rest good = rest_bytes front rest (λ i. good (suc i))

front_bytes : (front rest : List ℕ) → IsBytes (front ++ rest) → IsBytes front
front_bytes [] rest good i = omega arith
front_bytes (b ∷ front) rest good zero = good 0
front_bytes (b ∷ front) rest good (suc i) = front_bytes front rest (λ k. good (suc k)) i

after_bytes : (t front rest : List ℕ) → IsBytes t → t ≡ front ++ rest → IsBytes rest
after_bytes t front rest good e = rest_bytes front rest (subst IsBytes e good)

abbrev some : {A : Type 0} → A → Option A
some x = Some x

pub some_is : {A : Type 0} (x y : A) → some x ≡ some y → x ≡ y
some_is x y e = cc

bind_some : {A B : Type 0} (o : Option A) (f : A → Option B) (y : B) → (o >>= f) ≡ Some y → (x : A) × (o ≡ Some x) × (f x ≡ Some y)
bind_some (Some x) f y e = (x, refl, e)
bind_some None f y e = absurd cc

guard_some : {A : Type 0} (b : Bool) (x : Option A) (y : A) → cond b None x ≡ Some y → (b ≡ false) × (x ≡ Some y)
guard_some true x y e = absurd cc
guard_some false x y e = (refl, e)

passed_some : {A : Type 0} (b : Bool) (x y : A) → cond b (Some x) None ≡ Some y → (b ≡ true) × (x ≡ y)
passed_some false x y e = absurd cc
passed_some true x y e = (refl, cc)

-- ---- fronts and numbers

front_taken : (n : ℕ) (t : List ℕ) (x : List ℕ × List ℕ) → first_bytes n t ≡ Some x → (t ≡ x.0 ++ x.1) × (length x.0 ≡ n)
front_taken n t x e =
    let g = guard_some (ltb (length t) n) (some (take n t, drop n t)) x e in
    let long : n ≤ length t = ltb-false _ _ g.0 in
    subst (λ (y : List ℕ × List ℕ). (t ≡ y.0 ++ y.1) × (length y.0 ≡ n)) (some_is (take n t, drop n t) x g.1) (sym (take-append-drop n t), omega (arith, length-take n t))

front_again : (n : ℕ) (s rest : List ℕ) → length s ≡ n → first_bytes n (s ++ rest) ≡ Some (s, rest)
front_again n s rest len =
    let long : ltb (length (s ++ rest)) n ≡ false = le-ltb _ _ (omega (arith, length-append s rest)) in
    rw (long, take_at s rest n len, drop_at s rest n len) refl

length-eight_bytes : (n : ℕ) → length (eight_bytes n) ≡ 8
unfolding eight_bytes
length-eight_bytes n = refl

number_again : (n : ℕ) (rest : List ℕ) → n < 2 ^ 64 → first_number (eight_bytes n ++ rest) ≡ Some (n, rest)
unfolding eight_bytes
number_again n rest lt = rw (front_again 8 (to_be_bytes w64 n) rest refl, from_be_bytes-to_be_bytes_8 n lt) refl

number_taken : (t : List ℕ) (n : ℕ) (rest : List ℕ) → IsBytes t → first_number t ≡ Some (n, rest) → t ≡ eight_bytes n ++ rest
unfolding eight_bytes
number_taken t n rest good e =
    let f = bind_some (first_bytes 8 t) (λ f. Some (from_be_bytes w64 f.0, f.1)) (n, rest) e in
    let (parts, len) = front_taken 8 t f.0 f.1 in
    let back = be_bytes_8 f.0.0 _ len (front_bytes f.0.0 f.0.1 (subst IsBytes parts good)) refl in
    subst (λ (x : ℕ × List ℕ). t ≡ to_be_bytes w64 x.0 ++ x.1) (some_is (from_be_bytes w64 f.0.0, f.0.1) (n, rest) f.2) (subst (λ (u : List ℕ). t ≡ u ++ f.0.1) (sym back) parts)

-- ---- frames

-- the frame of an entry that is long enough is read as the entry, whatever bytes come after it
pub frame_again : (digest : SegmentDigest) (index : ℕ) (e : EntryBytes) (rest : List ℕ) → least_entry ≤ length e → length e < 2 ^ 64 → digest index e < 2 ^ 64
    → first_frame digest index (frame_of digest index e ++ rest) ≡ Some (e, rest)
unfolding first_frame frame_of
frame_again digest index e rest long short small =
    let parts : (eight_bytes (length e) ++ (eight_bytes (digest index e) ++ e)) ++ rest ≡ eight_bytes (length e) ++ (eight_bytes (digest index e) ++ (e ++ rest))
    = append_assoc (eight_bytes (length e)) (eight_bytes (digest index e) ++ e) rest ∙ ap (λ (u : List ℕ). eight_bytes (length e) ++ u) (append_assoc (eight_bytes (digest index e)) e rest) in
    let enough : ltb (length e) 16 ≡ false = le-ltb _ _ long in
    let same : (digest index e == digest index e) ≡ true = eq-eqb (digest index e) (digest index e) refl in
    rw (parts, number_again (length e) (eight_bytes (digest index e) ++ (e ++ rest)) short, number_again (digest index e) (e ++ rest) small, enough, front_again (length e) e rest refl, same) refl

-- a frame is read only of bytes that begin with it, and its entry is long enough
pub frame_taken : (digest : SegmentDigest) (index : ℕ) (t : List ℕ) (e : EntryBytes) (rest : List ℕ) → IsBytes t → first_frame digest index t ≡ Some (e, rest)
    → (t ≡ frame_of digest index e ++ rest) × (least_entry ≤ length e)
unfolding first_frame frame_of
frame_taken digest index t e rest good is =
    let n = bind_some (first_number t) (λ n. first_number n.1 >>= (λ s. cond (ltb n.0 16) None (first_entry digest index n.0 s.0 s.1))) (e, rest) is in
    let first = number_taken t n.0.0 n.0.1 good n.1 in
    let good1 = after_bytes t (eight_bytes n.0.0) n.0.1 good first in
    let s = bind_some (first_number n.0.1) (λ s. cond (ltb n.0.0 16) None (first_entry digest index n.0.0 s.0 s.1)) (e, rest) n.2 in
    let second = number_taken n.0.1 s.0.0 s.0.1 good1 s.1 in
    let l = guard_some (ltb n.0.0 16) (first_entry digest index n.0.0 s.0.0 s.0.1) (e, rest) s.2 in
    let f = bind_some (first_bytes n.0.0 s.0.1) (λ b. cond (s.0.0 == digest index b.0) (Some b) None) (e, rest) l.1 in
    let g = passed_some (s.0.0 == digest index f.0.0) f.0 (e, rest) f.2 in
    let (third, len) = front_taken n.0.0 s.0.1 f.0 f.1 in
    let right : s.0.0 ≡ digest index f.0.0 = eqb-true _ _ g.0 in
    let enough : 16 ≤ n.0.0 = ltb-false _ _ l.0 in
    let long : 16 ≤ length f.0.0 = omega (arith, enough, len) in
    let laid : t ≡ eight_bytes n.0.0 ++ (eight_bytes s.0.0 ++ (f.0.0 ++ f.0.1)) =
    first ∙ ap (λ (u : List ℕ). eight_bytes n.0.0 ++ u) (second ∙ ap (λ (u : List ℕ). eight_bytes s.0.0 ++ u) third) in
    let measured : t ≡ eight_bytes (length f.0.0) ++ (eight_bytes s.0.0 ++ (f.0.0 ++ f.0.1)) =
    laid ∙ ap (λ (k : ℕ). eight_bytes k ++ (eight_bytes s.0.0 ++ (f.0.0 ++ f.0.1))) (sym len) in
    let summed : t ≡ eight_bytes (length f.0.0) ++ (eight_bytes (digest index f.0.0) ++ (f.0.0 ++ f.0.1)) =
    measured ∙ ap (λ (k : ℕ). eight_bytes (length f.0.0) ++ (eight_bytes k ++ (f.0.0 ++ f.0.1))) right in
    let whole : t ≡ (eight_bytes (length f.0.0) ++ (eight_bytes (digest index f.0.0) ++ f.0.0)) ++ f.0.1 =
    summed ∙ sym (append_assoc (eight_bytes (length f.0.0)) (eight_bytes (digest index f.0.0) ++ f.0.0) f.0.1
    ∙ ap (λ (u : List ℕ). eight_bytes (length f.0.0) ++ u) (append_assoc (eight_bytes (digest index f.0.0)) f.0.0 f.0.1)) in
    subst (λ (x : List ℕ × List ℕ). (t ≡ (eight_bytes (length x.0) ++ (eight_bytes (digest index x.0) ++ x.0)) ++ x.1) × (16 ≤ length x.0)) g.1 (whole, long)

pub length-frame_of : (digest : SegmentDigest) (index : ℕ) (e : EntryBytes) → length (frame_of digest index e) ≡ 16 + length e
unfolding frame_of
length-frame_of digest index e =
    let one = length-append (eight_bytes (length e)) (eight_bytes (digest index e) ++ e) in
    let two = length-append (eight_bytes (digest index e)) e in
    omega (arith, one, two, length-eight_bytes (length e), length-eight_bytes (digest index e))

-- one more entry has its frame after the others
pub frames_more : (digest : SegmentDigest) (index : ℕ) (es : List EntryBytes) (e : EntryBytes)
    → frames_of digest index (es ++ e ∷ []) ≡ frames_of digest index es ++ frame_of digest (index + length es) e
frames_more digest index [] e =
    let here : index ≡ index + 0 = omega arith in
    append-nil (frame_of digest index e) ∙ ap (λ (k : ℕ). frame_of digest k e) here
frames_more digest index (x ∷ es) e =
    let next : (index + 1) + length es ≡ index + suc (length es) = omega arith in
    ap (λ (u : List ℕ). frame_of digest index x ++ u) (frames_more digest (index + 1) es e ∙ ap (λ (k : ℕ). frames_of digest (index + 1) es ++ frame_of digest k e) next)
    ∙ sym (append_assoc (frame_of digest index x) (frames_of digest (index + 1) es) (frame_of digest (index + suc (length es)) e))

-- ---- entries that are long enough

pub first_is_long : (e : EntryBytes) (es : List EntryBytes) → AreEntries (e ∷ es) → least_entry ≤ length e
first_is_long e es long = long 0 e (omega arith)

pub rest_is_long : (e : EntryBytes) (es : List EntryBytes) → AreEntries (e ∷ es) → AreEntries es
rest_is_long e es long k d lt = long (suc k) d (omega (arith, lt))

-- each frame has 32 bytes or more
pub length-frames_of : (digest : SegmentDigest) (index : ℕ) (es : List EntryBytes) → AreEntries es → 32 * length es ≤ length (frames_of digest index es)
length-frames_of digest index [] long = omega arith
length-frames_of digest index (e ∷ es) long =
    let others = length-frames_of digest (index + 1) es (rest_is_long e es long) in
    let both = length-append (frame_of digest index e) (frames_of digest (index + 1) es) in
    omega (arith, others, both, length-frame_of digest index e, first_is_long e es long)

-- ---- zeros

-- if zeros write a number, it is 0
zeros_are_zero : (n : ℕ) (x : ℕ × List ℕ) → first_number (replicate n 0) ≡ Some x → x.0 ≡ 0
zeros_are_zero n x e =
    let f = bind_some (first_bytes 8 (replicate n 0)) (λ f. Some (from_be_bytes w64 f.0, f.1)) x e in
    let g = guard_some (ltb (length (replicate n 0)) 8) (some (take 8 (replicate n 0), drop 8 (replicate n 0))) f.0 f.1 in
    let enough : 8 ≤ n = omega (arith, ltb-false _ _ g.0, length-replicate {A = ℕ} n 0) in
    let front : f.0.0 ≡ replicate 8 0 =
    ap (λ (p : List ℕ × List ℕ). p.0) (sym (some_is (take 8 (replicate n 0), drop 8 (replicate n 0)) f.0 g.1)) ∙ take-replicate 8 n 0 enough in
    ap (λ (p : ℕ × List ℕ). p.0) (sym (some_is (from_be_bytes w64 f.0.0, f.0.1) x f.2)) ∙ ap (λ (u : List ℕ). from_be_bytes w64 u) front

-- no frame begins with a length of 0
no_frame : (digest : SegmentDigest) (index : ℕ) (o : WithRest ℕ) → ((x : ℕ × List ℕ) → o ≡ Some x → x.0 ≡ 0)
    → (o >>= (λ n. first_number n.1 >>= (λ s. cond (ltb n.0 16) None (first_entry digest index n.0 s.0 s.1)))) ≡ None
no_frame digest index None zero_length = refl
no_frame digest index (Some x) zero_length = by (first_number x.1)
  where
    by : (p : WithRest ℕ) → (p >>= (λ s. cond (ltb x.0 16) None (first_entry digest index x.0 s.0 s.1))) ≡ None
    by None = refl
    by (Some s) = let short : ltb x.0 16 ≡ true = ap (λ (k : ℕ). ltb k 16) (zero_length x refl) in rw short refl

pub no_frame_of_zeros : (digest : SegmentDigest) (index n : ℕ) → first_frame digest index (replicate n 0) ≡ None
unfolding first_frame
no_frame_of_zeros digest index n = no_frame digest index (first_number (replicate n 0)) (zeros_are_zero n)

-- ---- steps of the reading of a file

-- what was read so far: the frames of the entries that are long enough, before what is left, and how many they are
abbrev pub HasRead : SegmentDigest → List ℕ → List EntryBytes → ℕ → List ℕ → Type 0
HasRead digest file es index left = (file ≡ frames_of digest 0 es ++ left) × (AreEntries es) × (index ≡ length es)

-- what is left of a file has bytes alone
left_bytes : (digest : SegmentDigest) (file left : List ℕ) (es : List EntryBytes) (index : ℕ) → IsBytes file → HasRead digest file es index left → IsBytes left
left_bytes digest file left es index good read = after_bytes file (frames_of digest 0 es) left good read.0

-- a step: one entry more was read
pub read_more : (digest : SegmentDigest) (file left rest : List ℕ) (es : List EntryBytes) (index : ℕ) (e : EntryBytes) → IsBytes file
    → HasRead digest file es index left → first_frame digest index left ≡ Some (e, rest) → HasRead digest file (es ++ e ∷ []) (index + 1) rest
read_more digest file left rest es index e good read found =
    let (split, long, at) = read in
    let (taken, enough) = frame_taken digest index left e rest (left_bytes digest file left es index good read) found in
    let place : index ≡ 0 + length es = omega (arith, at) in
    let moved : left ≡ frame_of digest (0 + length es) e ++ rest = taken ∙ ap (λ (k : ℕ). frame_of digest k e ++ rest) place in
    let one = length-append es (e ∷ []) in (
      split ∙ ap (λ (u : List ℕ). frames_of digest 0 es ++ u) moved ∙ sym (append_assoc (frames_of digest 0 es) (frame_of digest (0 + length es) e) rest)
          ∙ ap (λ (u : List ℕ). u ++ rest) (sym (frames_more digest 0 es e)),
      All-append (λ (x : EntryBytes). least_entry ≤ length x) es (e ∷ []) long (All_one e enough),
      omega (arith, at, one),
    )
  where
    All_one : (e : EntryBytes) → least_entry ≤ length e → AreEntries (e ∷ [])
    All_one e enough zero d lt = enough
    All_one e enough (suc k) d lt = absurd (omega (arith, lt))

-- a step makes what is left shorter by 32 bytes or more
pub read_shorter : (digest : SegmentDigest) (file left rest : List ℕ) (es : List EntryBytes) (index : ℕ) (e : EntryBytes) → IsBytes file
    → HasRead digest file es index left → first_frame digest index left ≡ Some (e, rest) → length rest + 32 ≤ length left
read_shorter digest file left rest es index e good read found =
    let (is, enough) = frame_taken digest index left e rest (left_bytes digest file left es index good read) found in
    let taken : length left ≡ length (frame_of digest index e ++ rest) = ap (λ (u : List ℕ). length u) is in
    omega (arith, taken, length-append (frame_of digest index e) rest, length-frame_of digest index e, enough)

-- all frames that were read have at most the bytes that are not left
pub read_within : (digest : SegmentDigest) (file left : List ℕ) (es : List EntryBytes) (index : ℕ) → HasRead digest file es index left → 32 * index + length left ≤ length file
read_within digest file left es index read =
    let (split, long, at) = read in
    let all : length file ≡ length (frames_of digest 0 es ++ left) = ap (λ (u : List ℕ). length u) split in
    omega (arith, all, at, length-append (frames_of digest 0 es) left, length-frames_of digest 0 es long)
