-- The lines of a string to sign can be told apart.
use Rattle.std.proofs.Common.{◌≡◌, ℕ, Bool, true, false, not, ◌&&◌, ◌||◌, ◌==◌, List, [], ◌∷◌, ◌++◌, Option, Some, None, refl, sym, ap, subst, eqb-true, eq-eqb, nat_le}
use Rattle.std.specs.List.{list_any, list_all}
use Rattle.stamp_values.specs.Letters.{Permissions, letters_text}
use Rattle.stamp_values.specs.Names.{is_account, is_container, is_blob, is_lower_or_digit, is_container_byte}
use Rattle.stamp_values.specs.Texts.{is_clean, is_visible, is_visible_byte, begins_with_control}
use Rattle.moment_text.proofs.TimeBytes.{time_bytes}
use Rattle.sas_token.specs.Tokens.{GivesLetters, GivesTime, Overridden, are_visible}

-- the list does not have the byte
pub record Lacks (c : ℕ) (xs : List ℕ) : Type 0 where
  pub none : list_any (λ b. b == c) xs ≡ false

neither : (a b : Bool) → (a || b) ≡ false → (a ≡ false) × (b ≡ false)
neither true b e = (e, absurd (cc))
neither false b e = (refl, e)

both : (a b : Bool) → (a && b) ≡ true → (a ≡ true) × (b ≡ true)
both true b e = (refl, e)
both false b e = (e, absurd (cc))

pub Lacks-nil : (c : ℕ) → Lacks c []
Lacks-nil c = record { none = refl }

pub Lacks-cons : (c x : ℕ) (xs : List ℕ) → (x == c) ≡ false → Lacks c xs → Lacks c (x ∷ xs)
Lacks-cons c x xs e h = record { none = rw e h.none }

pub Lacks-append : (c : ℕ) (xs ys : List ℕ) → Lacks c xs → Lacks c ys → Lacks c (xs ++ ys)
Lacks-append c [] ys h k = k
Lacks-append c (x ∷ xs) ys h k =
    let (first, rest) = neither (x == c) (list_any (λ b. b == c) xs) h.none in
    Lacks-cons c x (xs ++ ys) first (Lacks-append c xs ys (record { none = rest }) k)

-- two lists that lack a byte end at the same place if the byte comes after both
pub cut : (c : ℕ) (a b x y : List ℕ) → Lacks c a → Lacks c b → a ++ c ∷ x ≡ b ++ c ∷ y → (a ≡ b) × (x ≡ y)
cut c [] [] x y h k e = (refl, cc)
cut c [] (b ∷ bs) x y h k e =
    let same : b ≡ c = cc in
    let (first, rest) = neither (b == c) (list_any (λ z. z == c) bs) k.none in
    absurd (let in_it = eq-eqb b c same in cc)
cut c (a ∷ front) [] x y h k e =
    let same : a ≡ c = cc in
    let (first, rest) = neither (a == c) (list_any (λ z. z == c) front) h.none in
    absurd (let in_it = eq-eqb a c same in cc)
cut c (a ∷ front) (b ∷ bs) x y h k e =
    let same : a ≡ b = cc in
    let left : front ++ c ∷ x ≡ bs ++ c ∷ y = cc in
    let (first, rest) = neither (a == c) (list_any (λ z. z == c) front) h.none in
    let (first₂, rest₂) = neither (b == c) (list_any (λ z. z == c) bs) k.none in
    let (before, after) = cut c front bs x y (record { none = rest }) (record { none = rest₂ }) left in
    ((λ i. same i ∷ before i), after)

-- a byte that comes after one list does not come in the other
pub never : (c : ℕ) (a b x : List ℕ) → Lacks c a → a ≡ b ++ c ∷ x → ⊥
never c [] [] x h e = cc
never c [] (b ∷ bs) x h e = cc
never c (a ∷ front) [] x h e =
    let same : a ≡ c = cc in
    let (first, rest) = neither (a == c) (list_any (λ z. z == c) front) h.none in
    let in_it = eq-eqb a c same in cc
never c (a ∷ front) (b ∷ bs) x h e =
    let (first, rest) = neither (a == c) (list_any (λ z. z == c) front) h.none in
    never c front bs x (record { none = rest }) (cc)

-- two lists that lack a byte begin at the same place if the byte comes before both
pub cut_back : (c : ℕ) (a b x y : List ℕ) → Lacks c x → Lacks c y → a ++ c ∷ x ≡ b ++ c ∷ y → (a ≡ b) × (x ≡ y)
cut_back c [] [] x y h k e = (refl, cc)
cut_back c [] (z ∷ bs) x y h k e = absurd (never c x bs y h cc)
cut_back c (w ∷ ws) [] x y h k e = absurd (never c y ws x k cc)
cut_back c (w ∷ ws) (z ∷ bs) x y h k e =
    let same : w ≡ z = cc in
    let left : ws ++ c ∷ x ≡ bs ++ c ∷ y = cc in
    let (before, after) = cut_back c ws bs x y h k left in
    ((λ i. same i ∷ before i), after)

-- one more byte, which is not the byte, or which does not pass
more_lack : (p : ℕ → Bool) (c x : ℕ) (xs : List ℕ) (t : Bool) → p c ≡ false → p x ≡ true → Lacks c xs → (x == c) ≡ t → Lacks c (x ∷ xs)
more_lack p c x xs true out in_it h e = absurd (let same = ap p (eqb-true x c e) in cc)
more_lack p c x xs false out in_it h e = Lacks-cons c x xs e h

-- a list whose bytes pass a test lacks each byte that does not pass
all_lack : (p : ℕ → Bool) (c : ℕ) (xs : List ℕ) → p c ≡ false → list_all p xs ≡ true → Lacks c xs
all_lack p c [] out h = Lacks-nil c
all_lack p c (x ∷ xs) out h =
    let (first, rest) = both (p x) (list_all p xs) h in
    more_lack p c x xs (x == c) out first (all_lack p c xs out rest) refl

-- a text withno control characters has no line feed
clean_lacks : (xs : List ℕ) → is_clean xs ≡ true → Lacks 10 xs
clean_lacks [] h = Lacks-nil 10
clean_lacks (x ∷ xs) h =
    let (first, rest) = both (not (begins_with_control (x ∷ xs))) (is_clean xs) h in
    by_test (x == 10) refl first (clean_lacks xs rest)
  where
    by_test : (t : Bool) → (x == 10) ≡ t → not (begins_with_control (x ∷ xs)) ≡ true → Lacks 10 xs → Lacks 10 (x ∷ xs)
    by_test true e first rest = absurd (let same = eqb-true x 10 e in let out = rw same at first in cc)
    by_test false e first rest = Lacks-cons 10 x xs e rest

-- the text of a time has no line feed
pub time_lacks : (text : List ℕ) (m : Option ℕ) → GivesTime text m → Lacks 10 text
time_lacks text None h = subst (Lacks 10) (sym h) (Lacks-nil 10)
time_lacks text (Some m) h = all_lack (λ b. nat_le 45 b) 10 text refl (time_bytes text m h.1)

letters_lack : (r w d l : Bool) → list_any (λ b. b == 10) (letters_text (record { read = r; write = w; delete = d; list = l })) ≡ false
letters_lack true true true true = refl
letters_lack true true true false = refl
letters_lack true true false true = refl
letters_lack true true false false = refl
letters_lack true false true true = refl
letters_lack true false true false = refl
letters_lack true false false true = refl
letters_lack true false false false = refl
letters_lack false true true true = refl
letters_lack false true true false = refl
letters_lack false true false true = refl
letters_lack false true false false = refl
letters_lack false false true true = refl
letters_lack false false true false = refl
letters_lack false false false true = refl
letters_lack false false false false = refl

-- the text of permissions has no line feed
pub permissions_lack : (text : List ℕ) (p : Option Permissions) → GivesLetters text p → Lacks 10 text
permissions_lack text None h = subst (Lacks 10) (sym h) (Lacks-nil 10)
permissions_lack text (Some p) h = subst (Lacks 10) (sym h.1) (record { none = letters_lack p.read p.write p.delete p.list })

-- a good account has no slash and no line feed
pub account_lacks : (c : ℕ) (t : List ℕ) → is_lower_or_digit c ≡ false → is_account t ≡ true → Lacks c t
account_lacks c t out h = all_lack is_lower_or_digit c t out (both _ _ h).1

-- a good container has no slash and no line feed
pub container_lacks : (c : ℕ) (t : List ℕ) → is_container_byte c ≡ false → is_container t ≡ true → Lacks c t
container_lacks c t out h = all_lack is_container_byte c t out (both _ _ (both _ _ (both _ _ (both _ _ h).0).0).0).1

-- a good name of a blob has no line feed
pub blob_lacks : (t : List ℕ) → is_blob t ≡ true → Lacks 10 t
blob_lacks t h = clean_lacks t (both _ _ h).1

-- a text of printable ASCII has no line feed
pub visible_lacks : (t : List ℕ) → is_visible t ≡ true → Lacks 10 t
visible_lacks t h = all_lack is_visible_byte 10 t refl h

-- whether texts are of printable ASCII, one by one
pub record AreVisible (o : Overridden) : Type 0 where
  pub cache_control : Lacks 10 o.cache_control
  pub disposition : Lacks 10 o.disposition
  pub encoding : Lacks 10 o.encoding
  pub language : Lacks 10 o.language
  pub content_type : Lacks 10 o.content_type

pub are_visible-each : (o : Overridden) → are_visible o ≡ true → AreVisible o
are_visible-each o h =
    let (four, e) = both (is_visible o.cache_control && is_visible o.disposition && is_visible o.encoding && is_visible o.language) (is_visible o.content_type) h in
    let (three, d) = both (is_visible o.cache_control && is_visible o.disposition && is_visible o.encoding) (is_visible o.language) four in
    let (two, c) = both (is_visible o.cache_control && is_visible o.disposition) (is_visible o.encoding) three in
    let (a, b) = both (is_visible o.cache_control) (is_visible o.disposition) two in
    record {
      cache_control = visible_lacks o.cache_control a;
      disposition = visible_lacks o.disposition b;
      encoding = visible_lacks o.encoding c;
      language = visible_lacks o.language d;
      content_type = visible_lacks o.content_type e;
    }
