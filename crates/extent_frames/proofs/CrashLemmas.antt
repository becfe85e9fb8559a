-- The entries of a file, whatever comes after its frames.
use Rattle.std.proofs.Common.{◌≡◌, ◌⊎◌, inl, inr, ℕ, zero, suc, ◌+◌, ◌-◌, ◌^◌, ◌<◌, ◌≤◌, Bool, true, false, List, [], ◌∷◌, ◌++◌, length, take, drop, replicate, Option, Some, None, refl, sym, ap, subst, ◌∙◌, append_assoc, arith}
use Rattle.std.proofs.lemmas.List.{take-append-drop, length-append, length-drop, drop-replicate, append-nil}
use Rattle.std.proofs.lemmas.Slice.Eq.{bytes_eq-Decides}
use Rattle.std.proofs.lemmas.Bool.Decides.{not_from_Decides}
use Rattle.std.specs.Prelude.{bytes_eq}
use Rattle.std.specs.List.{slice_get}
use Rattle.extent_frames.specs.Frames.{EntryBytes, SegmentDigest, IsOf64Bits, AreEntries, least_entry, frame_of, frames_of}
use Rattle.extent_frames.specs.ReadFrames.{first_frame, HasFrames}
use Rattle.extent_frames.specs.Crashes.{IsFileLength, IsCut, IsHonest, ReadsFirst, Forged, KeepsAcknowledged, HasOneReading, DropsCutFrame, TornIsWholeOrMissing, EndsBeforeZeros}
use Rattle.extent_frames.proofs.FrameLemmas.{frame_again, frames_more, length-frame_of, some_is, first_is_long, rest_is_long, no_frame_of_zeros}

-- the frame of an entry that is neither too short nor too long is read, whatever comes after it
read_first : (digest : SegmentDigest) (index : ℕ) → IsOf64Bits digest → (x : EntryBytes) (after : List ℕ) → least_entry ≤ length x → IsFileLength (frame_of digest index x ++ after)
    → first_frame digest index (frame_of digest index x ++ after) ≡ Some (x, after)
read_first digest index good x after long short =
    let both = length-append (frame_of digest index x) after in
    let small : length x < 2 ^ 64 = omega (arith, short, both, length-frame_of digest index x) in
    frame_again digest index x after long small (good index x)

abbrev got : EntryBytes → List ℕ → Option (EntryBytes × List ℕ)
got e t = Some (e, t)

abbrev pair_of : EntryBytes → List ℕ → EntryBytes × List ℕ
pair_of e t = (e, t)

first_is : (x y : EntryBytes) (s t : List ℕ) → got x s ≡ got y t → (x ≡ y) × (s ≡ t)
first_is x y s t e =
    let p : pair_of x s ≡ pair_of y t = some_is (pair_of x s) (pair_of y t) e in
    (ap (λ (q : EntryBytes × List ℕ). q.0) p, ap (λ (q : EntryBytes × List ℕ). q.1) p)

not_both : (x : EntryBytes × List ℕ) (o : Option (EntryBytes × List ℕ)) → o ≡ Some x → o ≡ None → ⊥
not_both x o e n = cc

-- what is read of a file that begins with the frames of xs begins with xs; the rest is read of what comes after these frames
reads_on : (digest : SegmentDigest) (index : ℕ) → IsOf64Bits digest → (xs ys : List EntryBytes) (t rest : List ℕ) → AreEntries xs → AreEntries ys
    → IsFileLength (frames_of digest index xs ++ t)
    → frames_of digest index xs ++ t ≡ frames_of digest index ys ++ rest
    → first_frame digest (index + length ys) rest ≡ None
    → (more : List EntryBytes) × (ys ≡ xs ++ more) × (t ≡ frames_of digest (index + length xs) more ++ rest)
reads_on digest index good [] ys t rest long_xs long_ys short same ended =
    let here : index ≡ index + 0 = omega arith in
    (ys, refl, same ∙ ap (λ (k : ℕ). frames_of digest k ys ++ rest) here)
reads_on digest index good (x ∷ xs) [] t rest long_xs long_ys short same ended =
    let parts = append_assoc (frame_of digest index x) (frames_of digest (index + 1) xs) t in
    let found = read_first digest index good x (frames_of digest (index + 1) xs ++ t) (first_is_long x xs long_xs) (subst IsFileLength parts short) in
    let here : index + 0 ≡ index = omega arith in
    let none : first_frame digest index (frame_of digest index x ++ (frames_of digest (index + 1) xs ++ t)) ≡ None =
    subst (λ (u : List ℕ). first_frame digest index u ≡ None) (sym same ∙ parts) (subst (λ (k : ℕ). first_frame digest k rest ≡ None) here ended) in
    absurd (not_both (x, frames_of digest (index + 1) xs ++ t) _ found none)
reads_on digest index good (x ∷ xs) (y ∷ ys) t rest long_xs long_ys short same ended =
    let left = append_assoc (frame_of digest index x) (frames_of digest (index + 1) xs) t in
    let right = append_assoc (frame_of digest index y) (frames_of digest (index + 1) ys) rest in
    let whole : frame_of digest index x ++ (frames_of digest (index + 1) xs ++ t) ≡ frame_of digest index y ++ (frames_of digest (index + 1) ys ++ rest) = sym left ∙ same ∙ right in
    let short_x = subst IsFileLength left short in
    let short_y = subst IsFileLength whole short_x in
    let at_x = read_first digest index good x (frames_of digest (index + 1) xs ++ t) (first_is_long x xs long_xs) short_x in
    let at_y = read_first digest index good y (frames_of digest (index + 1) ys ++ rest) (first_is_long y ys long_ys) short_y in
    let (head, tail) = first_is x y (frames_of digest (index + 1) xs ++ t) (frames_of digest (index + 1) ys ++ rest) (sym at_x ∙ ap (λ (u : List ℕ). first_frame digest index u) whole ∙ at_y) in
    let both = length-append (frame_of digest index x) (frames_of digest (index + 1) xs ++ t) in
    let shorter : IsFileLength (frames_of digest (index + 1) xs ++ t) = omega (arith, both, short_x) in
    let next_y : index + suc (length ys) ≡ (index + 1) + length ys = omega arith in
    let next_x : (index + 1) + length xs ≡ index + suc (length xs) = omega arith in
    let (more, order, behind) = reads_on digest (index + 1) good xs ys t rest (rest_is_long x xs long_xs) (rest_is_long y ys long_ys) shorter tail
    (subst (λ (k : ℕ). first_frame digest k rest ≡ None) next_y ended) in
    (more, ap (λ (b : EntryBytes). b ∷ ys) (sym head) ∙ ap (λ (l : List EntryBytes). x ∷ l) order, behind ∙ ap (λ (k : ℕ). frames_of digest k more ++ rest) next_x)

-- a reading of a file that begins with the frames of xs
reads_after : (digest : SegmentDigest) → IsOf64Bits digest → (xs ys : List EntryBytes) (t : List ℕ) → AreEntries xs
    → IsFileLength (frames_of digest 0 xs ++ t) → (h : HasFrames digest (frames_of digest 0 xs ++ t) ys)
    → (more : List EntryBytes) × (ys ≡ xs ++ more) × (t ≡ frames_of digest (length xs) more ++ h.rest)
reads_after digest good xs ys t long short h =
    let from_ys : length ys ≡ 0 + length ys = omega arith in
    let from_xs : 0 + length xs ≡ length xs = omega arith in
    let (more, order, behind) = reads_on digest 0 good xs ys t h.rest long h.long short h.split (subst (λ (k : ℕ). first_frame digest k h.rest ≡ None) from_ys h.ended) in
    (more, order, behind ∙ ap (λ (k : ℕ). frames_of digest k more ++ h.rest) from_xs)

pub keeps : (digest : SegmentDigest) → IsOf64Bits digest → KeepsAcknowledged digest
keeps digest good xs tail ys long short h = let (more, order, behind) = reads_after digest good xs ys tail long short h in (more, order)

-- of entries that are long enough, those after the first ones are so too
more_is_long : (xs more ys : List EntryBytes) → ys ≡ xs ++ more → AreEntries ys → AreEntries more
more_is_long [] more ys e long = subst AreEntries e long
more_is_long (x ∷ xs) more ys e long = more_is_long xs more (xs ++ more) refl (rest_is_long x (xs ++ more) (subst AreEntries e long))

-- what is found at the front of the bytes after the frames, if one entry more is read
found_first : (digest : SegmentDigest) (index : ℕ) → IsOf64Bits digest → (t rest : List ℕ) (m : EntryBytes) (ms : List EntryBytes) → least_entry ≤ length m → IsFileLength t
    → t ≡ frames_of digest index (m ∷ ms) ++ rest → first_frame digest index t ≡ Some (m, frames_of digest (index + 1) ms ++ rest)
found_first digest index good t rest m ms long short e =
    let parts = e ∙ append_assoc (frame_of digest index m) (frames_of digest (index + 1) ms) rest in
    let found = read_first digest index good m (frames_of digest (index + 1) ms ++ rest) long (subst IsFileLength parts short) in
    subst (λ (u : List ℕ). first_frame digest index u ≡ Some (m, frames_of digest (index + 1) ms ++ rest)) (sym parts) found

shorter_tail : (front tail : List ℕ) → IsFileLength (front ++ tail) → IsFileLength tail
shorter_tail front tail short = omega (arith, short, length-append front tail)

-- if no frame begins after the frames of the first entries, no other entry is read
no_more : (digest : SegmentDigest) → IsOf64Bits digest → (xs ys more : List EntryBytes) (t rest : List ℕ) → IsFileLength t → AreEntries more
    → ys ≡ xs ++ more → t ≡ frames_of digest (length xs) more ++ rest → first_frame digest (length xs) t ≡ None → ys ≡ xs
no_more digest good xs ys [] t rest short long order behind ended = order ∙ append-nil xs
no_more digest good xs ys (m ∷ ms) t rest short long order behind ended =
    absurd (not_both (m, frames_of digest (length xs + 1) ms ++ rest) _ (found_first digest (length xs) good t rest m ms (first_is_long m ms long) short behind) ended)

pub one_reading : (digest : SegmentDigest) → IsOf64Bits digest → HasOneReading digest
one_reading digest good file xs ys short hx hy =
    let short_x = subst IsFileLength hx.split short in
    let again : HasFrames digest (frames_of digest 0 xs ++ hx.rest) ys = subst (λ (u : List ℕ). HasFrames digest u ys) hx.split hy in
    let (more, order, behind) = reads_after digest good xs ys hx.rest hx.long short_x again in
    sym (no_more digest good xs ys more hx.rest again.rest (shorter_tail (frames_of digest 0 xs) hx.rest short_x) (more_is_long xs more ys order again.long) order behind hx.ended)

pub ends_before_zeros : (digest : SegmentDigest) → IsOf64Bits digest → EndsBeforeZeros digest
ends_before_zeros digest good xs n ys long short h =
    let (more, order, behind) = reads_after digest good xs ys (replicate n 0) long short h in
    let zeros = no_frame_of_zeros digest (length xs) n in
    no_more digest good xs ys more (replicate n 0) h.rest (shorter_tail (frames_of digest 0 xs) (replicate n 0) short) (more_is_long xs more ys order h.long) order behind zeros

none_after : (a b : List ℕ) → a ++ b ≡ [] → length b ≡ 0
none_after a b e = let sum = length-append a b in let none : length (a ++ b) ≡ 0 = ap (λ (u : List ℕ). length u) e in omega (arith, sum, none)

-- a frame that is cut is no frame
cut_is_none : (digest : SegmentDigest) (index : ℕ) → IsOf64Bits digest → (e m : EntryBytes) (ms : List EntryBytes) (rest : List ℕ) (n : ℕ) → least_entry ≤ length e → least_entry ≤ length m
    → IsFileLength (frame_of digest index e) → IsCut n (frame_of digest index e) → take n (frame_of digest index e) ≡ frames_of digest index (m ∷ ms) ++ rest → ⊥
cut_is_none digest index good e m ms rest n long_e long_m short less behind =
    let f = frame_of digest index e in
    let after = frames_of digest (index + 1) ms ++ rest in
    let parts : f ≡ frame_of digest index m ++ (after ++ drop n f) =
    sym (take-append-drop n f) ∙ ap (λ (u : List ℕ). u ++ drop n f) (behind ∙ append_assoc (frame_of digest index m) (frames_of digest (index + 1) ms) rest)
    ∙ append_assoc (frame_of digest index m) after (drop n f) in
    let as_m = subst (λ (u : List ℕ). first_frame digest index u ≡ Some (m, after ++ drop n f)) (sym parts) (read_first digest index good m (after ++ drop n f) long_m (subst IsFileLength parts short)) in
    let as_e = subst (λ (u : List ℕ). first_frame digest index u ≡ Some (e, [])) (append-nil f) (read_first digest index good e [] long_e (subst IsFileLength (sym (append-nil f)) short)) in
    let (head, tail) = first_is m e (after ++ drop n f) [] (sym as_m ∙ as_e) in
    omega (arith, none_after after (drop n f) tail, length-drop n f, less)

pub drops_cut : (digest : SegmentDigest) → IsOf64Bits digest → DropsCutFrame digest
drops_cut digest good xs e n ys long short less h =
    let f = frame_of digest (length xs) e in
    let lens = length-append (frames_of digest 0 xs) f in
    let lens' = length-append (frames_of digest 0 xs) (take n f) in
    let halves = length-append (take n f) (drop n f) in
    let same_len : length (take n f ++ drop n f) ≡ length f = ap (λ (u : List ℕ). length u) (take-append-drop n f) in
    let short' : IsFileLength (frames_of digest 0 xs ++ take n f) = omega (arith, short, lens, lens', halves, same_len) in
    let (more, order, behind) = reads_after digest good xs ys (take n f) (front_is_long xs (e ∷ []) long) short' h in
    by more (more_is_long xs more ys order h.long) order h.rest behind
  where
    front_is_long : (xs zs : List EntryBytes) → AreEntries (xs ++ zs) → AreEntries xs
    front_is_long [] zs long k d lt = absurd (omega (arith, lt))
    front_is_long (x ∷ xs) zs long zero d lt = first_is_long x (xs ++ zs) long
    front_is_long (x ∷ xs) zs long (suc k) d lt = front_is_long xs zs (rest_is_long x (xs ++ zs) long) k d (omega (arith, lt))

    by : (more : List EntryBytes) → AreEntries more → ys ≡ xs ++ more → (rest : List ℕ) → take n (frame_of digest (length xs) e) ≡ frames_of digest (length xs) more ++ rest → ys ≡ xs
    by [] long_more order rest behind = order ∙ append-nil xs
    by (m ∷ ms) long_more order rest behind =
        let long_e = first_is_long e [] (more_is_long xs (e ∷ []) (xs ++ e ∷ []) refl long) in
        let short_e = shorter_tail (frames_of digest 0 xs) (frame_of digest (length xs) e) short in
        absurd (cut_is_none digest (length xs) good e m ms rest n long_e (first_is_long m ms long_more) short_e less behind)

-- after bytes and zeros, if as many bytes are left out as there were before the zeros or more, only zeros are left
zeros_left : (t : List ℕ) (count k : ℕ) → length t ≤ k → drop k (t ++ replicate count 0) ≡ replicate (count - (k - length t)) 0
zeros_left [] count k le = let all : k - 0 ≡ k = omega arith in drop-replicate k count 0 ∙ ap (λ (j : ℕ). replicate (count - j) 0) (sym all)
zeros_left (b ∷ t) count zero le = absurd (omega (arith, le))
zeros_left (b ∷ t) count (suc k) le =
    let less : suc k - suc (length t) ≡ k - length t = omega arith in
    zeros_left t count k (omega (arith, le)) ∙ ap (λ (j : ℕ). replicate (count - j) 0) (sym less)

drop_front : (front t : List ℕ) → drop (length front) (front ++ t) ≡ t
drop_front [] t = refl
drop_front (b ∷ front) t = drop_front front t

-- after the frame of the entry itself there are only zeros, so no frame
nothing_after : (digest : SegmentDigest) (index : ℕ) → IsOf64Bits digest → (e m : EntryBytes) (ms : List EntryBytes) (torn rest : List ℕ) (count : ℕ) → AreEntries ms
    → IsFileLength (torn ++ replicate count 0) → length torn ≤ length (frame_of digest index e) → m ≡ e
    → torn ++ replicate count 0 ≡ frames_of digest index (m ∷ ms) ++ rest → ms ≡ []
nothing_after digest index good e m [] torn rest count long short within same behind = refl
nothing_after digest index good e m (k ∷ ks) torn rest count long short within same behind =
    let tail = torn ++ replicate count 0 in
    let f = frame_of digest index m in
    let others = frames_of digest (index + 1) (k ∷ ks) ++ rest in
    let parts : tail ≡ f ++ others = behind ∙ append_assoc f (frames_of digest (index + 1) (k ∷ ks)) rest in
    let same_len : length m ≡ length e = ap (λ (u : EntryBytes). length u) same in
    let fits : length torn ≤ length f = omega (arith, within, same_len, length-frame_of digest index m, length-frame_of digest index e) in
    let left : others ≡ replicate (count - (length f - length torn)) 0 =
    sym (drop_front f others) ∙ ap (λ (u : List ℕ). drop (length f) u) (sym parts) ∙ zeros_left torn count (length f) fits in
    let short_others : IsFileLength others = shorter_tail f others (subst IsFileLength parts short) in
    let found = found_first digest (index + 1) good others rest k ks (first_is_long k ks long) short_others refl in
    let none = subst (λ (u : List ℕ). first_frame digest (index + 1) u ≡ None) (sym left) (no_frame_of_zeros digest (index + 1) (count - (length f - length torn))) in
    absurd (not_both (k, frames_of digest (index + 1 + 1) ks ++ rest) _ found none)

pub torn_frame : (digest : SegmentDigest) → IsOf64Bits digest → TornIsWholeOrMissing digest
torn_frame digest good xs e torn count ys long short within h =
    let (more, order, behind) = reads_after digest good xs ys (torn ++ replicate count 0) long short h in
    by more (more_is_long xs more ys order h.long) order h.rest behind
  where
    tail : List ℕ
    tail = torn ++ replicate count 0

    short_tail : IsFileLength tail
    short_tail = shorter_tail (frames_of digest 0 xs) tail short

    by : (more : List EntryBytes) → AreEntries more → ys ≡ xs ++ more → (rest : List ℕ) → tail ≡ frames_of digest (length xs) more ++ rest
        → (ys ≡ xs) ⊎ ((ys ≡ xs ++ e ∷ []) ⊎ Forged digest (length xs) e tail)
    by [] long_more order rest behind = inl (order ∙ append-nil xs)
    by (m ∷ ms) long_more order rest behind = inr (decide (bytes_eq m e) refl)
      where
        found : first_frame digest (length xs) tail ≡ Some (m, frames_of digest (length xs + 1) ms ++ rest)
        found = found_first digest (length xs) good tail rest m ms (first_is_long m ms long_more) short_tail behind

        decide : (r : Bool) → bytes_eq m e ≡ r → (ys ≡ xs ++ e ∷ []) ⊎ Forged digest (length xs) e tail
        decide true is =
            let same = (bytes_eq-Decides m e).0 is in
            let none = nothing_after digest (length xs) good e m ms torn rest count (rest_is_long m ms long_more) short_tail within same behind in
            inl (order ∙ rw (none, same) refl)
        decide false is = inr (record { other = m; after = frames_of digest (length xs + 1) ms ++ rest; found = found; differs = not_from_Decides (bytes_eq m e) (bytes_eq-Decides m e) is })

-- ---- any number of frames on their way

first_of_all : (xs : List EntryBytes) (e : EntryBytes) → slice_get xs 0 ≡ Some e → (rest : List EntryBytes) × (xs ≡ e ∷ rest)
first_of_all [] e is = absurd cc
first_of_all (x ∷ xs) e is = (xs, ap (λ (k : EntryBytes). k ∷ xs) (some_is x e is))

next_of_all : (xs rest : List EntryBytes) (e : EntryBytes) (i : ℕ) → xs ≡ e ∷ rest → slice_get xs (i + 1) ≡ slice_get rest i
next_of_all xs rest e i is = rw is (next_get e rest i)
  where
    next_get : (e : EntryBytes) (rest : List EntryBytes) (i : ℕ) → slice_get (e ∷ rest) (i + 1) ≡ slice_get rest i
    next_get e rest i = let next : i + 1 ≡ suc i = omega arith in ap (λ (k : ℕ). slice_get (e ∷ rest) k) next

-- the first entries and the one after them
take_next : (xs : List EntryBytes) (i : ℕ) (e : EntryBytes) → slice_get xs i ≡ Some e → (take (suc i) xs ≡ take i xs ++ e ∷ []) × (length (take i xs) ≡ i)
take_next [] i e is = absurd cc
take_next (x ∷ xs) zero e is = (ap (λ (k : EntryBytes). k ∷ []) (some_is x e is), refl)
take_next (x ∷ xs) (suc i) e is = let rest = take_next xs i e is in (ap (λ (l : List EntryBytes). x ∷ l) rest.0, ap suc rest.1)

-- the entries that are read from an index on are the first of those that were appended from there on
reads_first : (digest : SegmentDigest) (index : ℕ) → IsOf64Bits digest → (file tail rest : List ℕ) (appended left entries : List EntryBytes) → AreEntries entries → IsFileLength file
    → IsHonest digest file appended → ((i : ℕ) → slice_get appended (index + i) ≡ slice_get left i)
    → file ≡ frames_of digest 0 (take index appended) ++ tail → tail ≡ frames_of digest index entries ++ rest → (n : ℕ) × (entries ≡ take n left)
reads_first digest index good file tail rest appended left [] long short honest shift split parts = (0, refl)
reads_first digest index good file tail rest appended left (e ∷ es) long short honest shift split parts =
    let front = frames_of digest 0 (take index appended) in
    let after = frames_of digest (index + 1) es ++ rest in
    let short_tail : IsFileLength tail = shorter_tail front tail (subst IsFileLength split short) in
    let found = found_first digest index good tail rest e es (first_is_long e es long) short_tail parts in
    let here : slice_get appended index ≡ Some e = honest tail after index e split found in
    let zero_place : index + 0 ≡ index = omega arith in
    let at : slice_get left 0 ≡ Some e = sym (shift 0) ∙ ap (λ (k : ℕ). slice_get appended k) zero_place ∙ here in
    let (others, is) = first_of_all left e at in
    let on : tail ≡ frame_of digest index e ++ after = parts ∙ append_assoc (frame_of digest index e) (frames_of digest (index + 1) es) rest in
    let next = take_next appended index e here in
    let suc_place : suc index ≡ index + 1 = omega arith in
    let place : index ≡ 0 + length (take index appended) = omega (arith, next.1) in
    let grown : front ++ frame_of digest index e ≡ frames_of digest 0 (take (index + 1) appended) =
    ap (λ (k : ℕ). front ++ frame_of digest k e) place ∙ sym (frames_more digest 0 (take index appended) e)
    ∙ ap (λ (l : List EntryBytes). frames_of digest 0 l) (sym next.0 ∙ ap (λ (k : ℕ). take k appended) suc_place) in
    let split' : file ≡ frames_of digest 0 (take (index + 1) appended) ++ after =
    split ∙ ap (λ (u : List ℕ). front ++ u) on ∙ sym (append_assoc front (frame_of digest index e) after) ∙ ap (λ (u : List ℕ). u ++ after) grown in
    let (n, more) = reads_first digest (index + 1) good file after rest appended others es (rest_is_long e es long) short honest
    (λ i. let step : (index + 1) + i ≡ index + (i + 1) = omega arith in ap (λ (k : ℕ). slice_get appended k) step ∙ shift (i + 1) ∙ next_of_all left others e i is) split' refl in
    (suc n, ap (λ (l : List EntryBytes). e ∷ l) more ∙ ap (λ (l : List EntryBytes). take (suc n) l) (sym is))

pub first_entries : (digest : SegmentDigest) → IsOf64Bits digest → ReadsFirst digest
first_entries digest good file appended entries short honest h =
    reads_first digest 0 good file file h.rest appended appended entries h.long short honest
    (λ i. let place : 0 + i ≡ i = omega arith in ap (λ (k : ℕ). slice_get appended k) place) refl h.split
