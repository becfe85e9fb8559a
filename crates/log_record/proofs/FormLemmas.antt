-- Forms: ways to write values of a type as bytes that can be read again.
use Rattle.std.proofs.Common.{◌≡◌, ℕ, zero, suc, ◌^◌, ◌<◌, ◌≤◌, Bool, true, false, cond, ltb, List, [], ◌∷◌, ◌++◌, length, take, drop, Option, Some, None, refl, sym, ap, subst, ◌∙◌, append_assoc, arith, All}
use Rattle.std.specs.List.{flat_map}
use Rattle.std.specs.Int.{Width, w32, w64, byte_len, from_be_bytes, to_be_bytes}
use Rattle.std.proofs.lemmas.Bool.{ltb-false, le-ltb}
use Rattle.std.proofs.lemmas.List.{take_at, drop_at, take-append-drop, length-append, length-take}
use Rattle.std.proofs.lemmas.List.Concat.{flat_map-cons}
use Rattle.std.proofs.lemmas.List.Elements.{All-head, All-tail}
use Rattle.std.proofs.lemmas.Nat.{be_bytes_4, be_bytes_8, from_be_bytes-to_be_bytes_4, from_be_bytes-to_be_bytes_8}
pub use Rattle.base64_text.specs.Base64.{IsBytes}
use Rattle.log_record.specs.Reading.{Read, ◌>>=◌, front_at, number_at, string_at, option_at, each_at, list_at, both_at, tested_at, made_at, parsed_at}
use Rattle.log_record.specs.Forms.{short_bytes, long_bytes, string_bytes, option_bytes, list_bytes, FitsOption, FitsList}

-- a value that fits is found whatever bytes come after it, and a value is found only in bytes that begin with its own
pub record IsForm {A : Type 0} (Fits : A → Type 0) (bytes : A → List ℕ) (at : List ℕ → Read A) : Type 0 where
  pub again : (a : A) (rest : List ℕ) → Fits a → at (bytes a ++ rest) ≡ Some (a, rest)
  pub taken : (t : List ℕ) (a : A) (rest : List ℕ) → IsBytes t → at t ≡ Some (a, rest) → t ≡ bytes a ++ rest

pub rest_bytes : (front rest : List ℕ) → IsBytes (front ++ rest) → IsBytes rest
rest_bytes [] rest good = good
rest_bytes (b ∷ front) rest good = rest_bytes front rest (λ i. good (suc i))

pub front_bytes : (front rest : List ℕ) → IsBytes (front ++ rest) → IsBytes front
front_bytes [] rest good i = omega arith
front_bytes (b ∷ front) rest good zero = good 0
front_bytes (b ∷ front) rest good (suc i) = front_bytes front rest (λ k. good (suc k)) i

pub after_bytes : (t front rest : List ℕ) → IsBytes t → t ≡ front ++ rest → IsBytes rest
after_bytes t front rest good e = rest_bytes front rest (subst IsBytes e good)

abbrev some : {A : Type 0} → A → Option A
some x = Some x

pub some_is : {A : Type 0} (x y : A) → some x ≡ some y → x ≡ y
some_is x y e = cc

pub bind_some : {A B : Type 0} (o : Option A) (f : A → Option B) (y : B) → (o >>= f) ≡ Some y → (x : A) × (o ≡ Some x) × (f x ≡ Some y)
bind_some (Some x) f y e = (x, refl, e)
bind_some None f y e = absurd cc

guard_some : {A : Type 0} (b : Bool) (x y : A) → cond b None (Some x) ≡ Some y → (b ≡ false) × (x ≡ y)
guard_some true x y e = absurd cc
guard_some false x y e = (refl, cc)

passed_some : {A : Type 0} (b : Bool) (x y : A) → cond b (Some x) None ≡ Some y → (b ≡ true) × (x ≡ y)
passed_some false x y e = absurd cc
passed_some true x y e = (refl, cc)

-- ---- fronts, numbers and strings

pub front_taken : (n : ℕ) (t : List ℕ) (x : List ℕ × List ℕ) → front_at n t ≡ Some x → (t ≡ x.0 ++ x.1) × (length x.0 ≡ n)
front_taken n t x e =
    let g = guard_some (ltb (length t) n) (take n t, drop n t) x e in
    let long : n ≤ length t = ltb-false _ _ g.0 in
    subst (λ (y : List ℕ × List ℕ). (t ≡ y.0 ++ y.1) × (length y.0 ≡ n)) g.1 (sym (take-append-drop n t), omega (arith, length-take n t))

pub front_again : (n : ℕ) (s rest : List ℕ) → length s ≡ n → front_at n (s ++ rest) ≡ Some (s, rest)
front_again n s rest len =
    let long : ltb (length (s ++ rest)) n ≡ false = le-ltb _ _ (omega (arith, length-append s rest)) in
    rw (long, take_at s rest n len, drop_at s rest n len) refl

record IsWide (w : Width) (limit : ℕ) : Type 0 where
  pub len : (n : ℕ) → length (to_be_bytes w n) ≡ byte_len w
  pub back : (bytes : List ℕ) → length bytes ≡ byte_len w → IsBytes bytes → to_be_bytes w (from_be_bytes w bytes) ≡ bytes
  pub again : (n : ℕ) → n < limit → from_be_bytes w (to_be_bytes w n) ≡ n

wide32 : IsWide w32 (2 ^ 32)
wide32 = record {
  len = λ n. refl;
  back = λ bytes len good. be_bytes_4 bytes _ len good refl;
  again = λ n lt. from_be_bytes-to_be_bytes_4 n lt;
}

wide64 : IsWide w64 (2 ^ 64)
wide64 = record {
  len = λ n. refl;
  back = λ bytes len good. be_bytes_8 bytes _ len good refl;
  again = λ n lt. from_be_bytes-to_be_bytes_8 n lt;
}

number_taken : (w : Width) (limit : ℕ) → IsWide w limit → (t : List ℕ) (n : ℕ) (rest : List ℕ) → IsBytes t → number_at w t ≡ Some (n, rest) → t ≡ to_be_bytes w n ++ rest
number_taken w limit wide t n rest good e =
    let f = bind_some (front_at (byte_len w) t) (λ f. Some (from_be_bytes w f.0, f.1)) (n, rest) e in
    let (parts, len) = front_taken (byte_len w) t f.0 f.1 in
    let back = wide.back f.0.0 len (front_bytes f.0.0 f.0.1 (subst IsBytes parts good)) in
    subst (λ (x : ℕ × List ℕ). t ≡ to_be_bytes w x.0 ++ x.1) (some_is (from_be_bytes w f.0.0, f.0.1) (n, rest) f.2) (rw back parts)

number_form : (w : Width) (limit : ℕ) → IsWide w limit → IsForm (λ n. n < limit) (to_be_bytes w) (number_at w)
number_form w limit wide = record {
  again = λ n rest lt. rw (front_again (byte_len w) (to_be_bytes w n) rest (wide.len n), wide.again n lt) refl;
  taken = number_taken w limit wide;
}

pub short_form : IsForm (λ n. n < 2 ^ 32) short_bytes (number_at w32)
unfolding short_bytes
short_form = number_form w32 (2 ^ 32) wide32

pub long_form : IsForm (λ n. n < 2 ^ 64) long_bytes (number_at w64)
unfolding long_bytes
long_form = number_form w64 (2 ^ 64) wide64

string_again : (s rest : List ℕ) → length s < 2 ^ 32 → string_at (string_bytes s ++ rest) ≡ Some (s, rest)
unfolding string_at string_bytes short_bytes
string_again s rest lt =
    rw ((number_form w32 (2 ^ 32) wide32).again (length s) (s ++ rest) lt) (front_again (length s) s rest refl)

string_taken : (t s rest : List ℕ) → IsBytes t → string_at t ≡ Some (s, rest) → t ≡ string_bytes s ++ rest
unfolding string_at string_bytes short_bytes
string_taken t s rest good e =
    let n = bind_some (number_at w32 t) (λ n. front_at n.0 n.1) (s, rest) e in
    let whole = number_taken w32 (2 ^ 32) wide32 t n.0.0 n.0.1 good n.1 in
    let (parts, len) = front_taken n.0.0 n.0.1 (s, rest) n.2 in
    rw (len, ← parts) whole

pub string_form : IsForm (λ s. length s < 2 ^ 32) string_bytes string_at
string_form = record { again = string_again; taken = string_taken }

-- ---- options and lists of values that have a form

module _ {A : Type 0} (Fits : A → Type 0) (bytes : A → List ℕ) (at : List ℕ → Read A) (form : IsForm Fits bytes at) where
  option_again : (o : Option A) (rest : List ℕ) → FitsOption Fits o → option_at at (option_bytes bytes o ++ rest) ≡ Some (o, rest)
  unfolding option_at
  option_again None rest fits = refl
  option_again (Some a) rest fits = rw (form.again a rest fits) refl

  option_taken : (t : List ℕ) (o : Option A) (rest : List ℕ) → IsBytes t → option_at at t ≡ Some (o, rest) → t ≡ option_bytes bytes o ++ rest
  unfolding option_at
  option_taken [] o rest good e = absurd cc
  option_taken (zero ∷ t) o rest good e =
      subst (λ (x : Option A × List ℕ). 0 ∷ t ≡ option_bytes bytes x.0 ++ x.1) (some_is (None, t) (o, rest) e) refl
  option_taken (suc zero ∷ t) o rest good e =
      let a = bind_some (at t) (λ a. Some (Some a.0, a.1)) (o, rest) e in
      let parts = form.taken t a.0.0 a.0.1 (λ i. good (suc i)) a.1 in
      subst (λ (x : Option A × List ℕ). 1 ∷ t ≡ option_bytes bytes x.0 ++ x.1) (some_is (Some a.0.0, a.0.1) (o, rest) a.2) (ap (λ (u : List ℕ). 1 ∷ u) parts)
  option_taken (suc (suc b) ∷ t) o rest good e = absurd cc

  pub option_form : IsForm (FitsOption Fits) (option_bytes bytes) (option_at at)
  option_form = record { again = option_again; taken = option_taken }

  each_again : (items : List A) (rest : List ℕ) → All Fits items → each_at at (length items) (flat_map bytes items ++ rest) ≡ Some (items, rest)
  unfolding each_at
  each_again [] rest fits = refl
  each_again (a ∷ items) rest fits =
      let apart : flat_map bytes (a ∷ items) ++ rest ≡ bytes a ++ (flat_map bytes items ++ rest) = rw (flat_map-cons bytes a items) (append_assoc (bytes a) (flat_map bytes items) rest) in
      let first = form.again a (flat_map bytes items ++ rest) (All-head Fits a items fits) in
      let others = each_again items rest (All-tail Fits a items fits) in
      ap (each_at at (suc (length items))) apart ∙ rw (first, others) refl

  each_taken : (n : ℕ) (t : List ℕ) (items : List A) (rest : List ℕ) → IsBytes t → each_at at n t ≡ Some (items, rest) → (t ≡ flat_map bytes items ++ rest) × (length items ≡ n)
  unfolding each_at
  each_taken zero t items rest good e =
      subst (λ (x : List A × List ℕ). (t ≡ flat_map bytes x.0 ++ x.1) × (length x.0 ≡ 0)) (some_is ([], t) (items, rest) e) (refl, refl)
  each_taken (suc n) t items rest good e =
      let a = bind_some (at t) (λ a. each_at at n a.1 >>= (λ others. Some (a.0 ∷ others.0, others.1))) (items, rest) e in
      let first = form.taken t a.0.0 a.0.1 good a.1 in
      let b = bind_some (each_at at n a.0.1) (λ others. Some (a.0.0 ∷ others.0, others.1)) (items, rest) a.2 in
      let (others, len) = each_taken n a.0.1 b.0.0 b.0.1 (after_bytes t (bytes a.0.0) a.0.1 good first) b.1 in
      let apart = flat_map-cons bytes a.0.0 b.0.0 in
      let whole : t ≡ flat_map bytes (a.0.0 ∷ b.0.0) ++ b.0.1 = rw apart (first ∙ ap (λ (u : List ℕ). bytes a.0.0 ++ u) others ∙ sym (append_assoc (bytes a.0.0) (flat_map bytes b.0.0) b.0.1)) in
      subst (λ (x : List A × List ℕ). (t ≡ flat_map bytes x.0 ++ x.1) × (length x.0 ≡ suc n)) (some_is (a.0.0 ∷ b.0.0, b.0.1) (items, rest) b.2) (whole, ap (λ k. suc k) len)

  list_again : (items : List A) (rest : List ℕ) → FitsList Fits items → list_at at (list_bytes bytes items ++ rest) ≡ Some (items, rest)
  unfolding list_at list_bytes short_bytes
  list_again items rest fits =
      rw ((number_form w32 (2 ^ 32) wide32).again (length items) (flat_map bytes items ++ rest) fits.0) (each_again items rest fits.1)

  list_taken : (t : List ℕ) (items : List A) (rest : List ℕ) → IsBytes t → list_at at t ≡ Some (items, rest) → t ≡ list_bytes bytes items ++ rest
  unfolding list_at list_bytes short_bytes
  list_taken t items rest good e =
      let n = bind_some (number_at w32 t) (λ n. each_at at n.0 n.1) (items, rest) e in
      let whole = number_taken w32 (2 ^ 32) wide32 t n.0.0 n.0.1 good n.1 in
      let (parts, len) = each_taken n.0.0 n.0.1 items rest (after_bytes t (to_be_bytes w32 n.0.0) n.0.1 good whole) n.2 in
      rw (len, ← parts) whole

  pub list_form : IsForm (FitsList Fits) (list_bytes bytes) (list_at at)
  list_form = record { again = list_again; taken = list_taken }

  -- ---- values that are tested, made or parsed

  tested_again : (test : A → Bool) (a : A) (rest : List ℕ) → Fits a × (test a ≡ true) → tested_at test at (bytes a ++ rest) ≡ Some (a, rest)
  tested_again test a rest fits = rw (form.again a rest fits.0, fits.1) refl

  tested_taken : (test : A → Bool) (t : List ℕ) (a : A) (rest : List ℕ) → IsBytes t → tested_at test at t ≡ Some (a, rest) → t ≡ bytes a ++ rest
  tested_taken test t a rest good e =
      let b = bind_some (at t) (λ b. cond (test b.0) (Some b) None) (a, rest) e in
      let same = (passed_some (test b.0.0) b.0 (a, rest) b.2).1 in
      form.taken t a rest good (b.1 ∙ ap some same)

  pub tested_form : (test : A → Bool) → IsForm (λ a. Fits a × (test a ≡ true)) bytes (tested_at test at)
  tested_form test = record { again = tested_again test; taken = tested_taken test }

  made_taken : {B : Type 0} (make : A → B) (parts : B → A) → ((a : A) → parts (make a) ≡ a)
      → (t : List ℕ) (b : B) (rest : List ℕ) → IsBytes t → made_at make at t ≡ Some (b, rest) → t ≡ bytes (parts b) ++ rest
  made_taken {B} make parts undone t b rest good e =
      let a = bind_some (at t) (λ a. Some (make a.0, a.1)) (b, rest) e in
      subst (λ (x : B × List ℕ). t ≡ bytes (parts x.0) ++ x.1) (some_is (make a.0.0, a.0.1) (b, rest) a.2)
      (rw (undone a.0.0) (form.taken t a.0.0 a.0.1 good a.1))

  pub made_form : {B : Type 0} (make : A → B) (parts : B → A) → ((a : A) → parts (make a) ≡ a) → ((b : B) → make (parts b) ≡ b)
      → IsForm (λ b. Fits (parts b)) (λ b. bytes (parts b)) (made_at make at)
  made_form make parts undone made = record {
    again = λ b rest fits. rw (form.again (parts b) rest fits, made b) refl;
    taken = made_taken make parts undone;
  }

  parsed_again : {B : Type 0} (FitsB : B → Type 0) (print : B → A) (parse : A → Option B) → ((b : B) → FitsB b → Fits (print b) × (parse (print b) ≡ Some b))
      → (b : B) (rest : List ℕ) → FitsB b → parsed_at parse at (bytes (print b) ++ rest) ≡ Some (b, rest)
  parsed_again FitsB print parse printed b rest fits =
      let both = printed b fits in rw (form.again (print b) rest both.0, both.1) refl

  parsed_taken : {B : Type 0} (print : B → A) (parse : A → Option B) → ((t : List ℕ) (a : A) (rest : List ℕ) (b : B) → IsBytes t → at t ≡ Some (a, rest) → parse a ≡ Some b → a ≡ print b)
      → (t : List ℕ) (b : B) (rest : List ℕ) → IsBytes t → parsed_at parse at t ≡ Some (b, rest) → t ≡ bytes (print b) ++ rest
  parsed_taken {B} print parse exact t b rest good e =
      let a = bind_some (at t) (λ a. parse a.0 >>= (λ b. Some (b, a.1))) (b, rest) e in
      let c = bind_some (parse a.0.0) (λ b. Some (b, a.0.1)) (b, rest) a.2 in
      let first = form.taken t a.0.0 a.0.1 good a.1 in
      let same = exact t a.0.0 a.0.1 c.0 good a.1 c.1 in
      subst (λ (x : B × List ℕ). t ≡ bytes (print x.0) ++ x.1) (some_is (c.0, a.0.1) (b, rest) c.2) (subst (λ (x : A). t ≡ bytes x ++ a.0.1) same first)

  pub parsed_form : {B : Type 0} (FitsB : B → Type 0) (print : B → A) (parse : A → Option B) → ((b : B) → FitsB b → Fits (print b) × (parse (print b) ≡ Some b))
      → ((t : List ℕ) (a : A) (rest : List ℕ) (b : B) → IsBytes t → at t ≡ Some (a, rest) → parse a ≡ Some b → a ≡ print b)
      → IsForm FitsB (λ b. bytes (print b)) (parsed_at parse at)
  parsed_form FitsB print parse printed exact = record { again = parsed_again FitsB print parse printed; taken = parsed_taken print parse exact }

-- ---- two values

module _ {A B : Type 0} (FitsA : A → Type 0) (bytes_a : A → List ℕ) (a_at : List ℕ → Read A) (form_a : IsForm FitsA bytes_a a_at)
    (FitsB : B → Type 0) (bytes_b : B → List ℕ) (b_at : List ℕ → Read B) (form_b : IsForm FitsB bytes_b b_at) where
  both_again : (x : A × B) (rest : List ℕ) → FitsA x.0 × FitsB x.1 → both_at a_at b_at ((bytes_a x.0 ++ bytes_b x.1) ++ rest) ≡ Some (x, rest)
  both_again x rest fits =
      ap (both_at a_at b_at) (append_assoc (bytes_a x.0) (bytes_b x.1) rest) ∙ rw (form_a.again x.0 (bytes_b x.1 ++ rest) fits.0, form_b.again x.1 rest fits.1) refl

  both_taken : (t : List ℕ) (x : A × B) (rest : List ℕ) → IsBytes t → both_at a_at b_at t ≡ Some (x, rest) → t ≡ (bytes_a x.0 ++ bytes_b x.1) ++ rest
  both_taken t x rest good e =
      let a = bind_some (a_at t) (λ a. b_at a.1 >>= (λ b. Some ((a.0, b.0), b.1))) (x, rest) e in
      let b = bind_some (b_at a.0.1) (λ b. Some ((a.0.0, b.0), b.1)) (x, rest) a.2 in
      let first = form_a.taken t a.0.0 a.0.1 good a.1 in
      let second = form_b.taken a.0.1 b.0.0 b.0.1 (after_bytes t (bytes_a a.0.0) a.0.1 good first) b.1 in
      subst (λ (y : (A × B) × List ℕ). t ≡ (bytes_a y.0.0 ++ bytes_b y.0.1) ++ y.1) (some_is ((a.0.0, b.0.0), b.0.1) (x, rest) b.2)
      (first ∙ ap (λ (u : List ℕ). bytes_a a.0.0 ++ u) second ∙ sym (append_assoc (bytes_a a.0.0) (bytes_b b.0.0) b.0.1))

  pub both_form : IsForm (λ (x : A × B). FitsA x.0 × FitsB x.1) (λ x. bytes_a x.0 ++ bytes_b x.1) (both_at a_at b_at)
  both_form = record { again = both_again; taken = both_taken }
