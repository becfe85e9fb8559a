-- The order of names, and what begins with a text.
use Rattle.std.proofs.Common.{◌≡◌, ◌≢◌, ℕ, ◌+◌, ◌<◌, ◌≤◌, Bool, true, false, ◌&&◌, not, List, [], ◌∷◌, ◌++◌, length, take, drop, refl, sym, ap, ◌∙◌, arith, nat_eq}
use Rattle.std.specs.Ordering.{nat_cmp, is_le, is_lt, is_eq, ordering_then, ordering_reverse, MatchOrdering}
use Rattle.std.specs.declared.cmp.Ordering.{Ordering}
use Rattle.std.specs.declared.cmp.Ordering.TheVariants.{Less, Equal, Greater}
use Rattle.std.specs.Cmp.Lexicographic.{pointwise, nat_list_cmp_total, bytes_decides}
use Rattle.std.proofs.lemmas.Cmp.{ranked, alike_right, tied_itself}
use Rattle.std.proofs.lemmas.List.{take-append-le, take-append-drop, take_all}
use borrow.Author.Tests.{eqb-true}
use mathlib.Core.Bool.{true≢false}
use Rattle.stamp_values.specs.Order.{name_cmp}
use Rattle.stamp_values.specs.Trees.{is_name_from}
use Rattle.list_pages.specs.Names.{begins_with}
use Rattle.list_pages.specs.Seeks.{raised}

pub not_both : {A : Type 0} {b : Bool} → b ≡ true → b ≡ false → A
not_both t f = absurd (true≢false (sym t ∙ f))

pub first_true : (a b : Bool) → a && b ≡ true → a ≡ true
first_true true b e = refl
first_true false b e = absurd (true≢false (sym e))

pub second_true : (a b : Bool) → a && b ≡ true → b ≡ true
second_true true b e = e
second_true false b e = absurd (true≢false (sym e))

pub both_true : (a b : Bool) → a ≡ true → b ≡ true → a && b ≡ true
both_true true b p q = q
both_true false b p q = p

-- the case that is left
pub is_false : (b : Bool) → (b ≢ true) → b ≡ false
is_false true no_true = absurd (no_true refl)
is_false false no_true = refl

-- ---- the order

greater : (r : Ordering) → is_le r ≡ false → r ≡ Greater
greater Less e = absurd (true≢false e)
greater Equal e = absurd (true≢false e)
greater Greater e = refl

at_most : (r : Ordering) → is_le r ≡ true → (P : Type 0) → (r ≡ Less → P) → (r ≡ Equal → P) → P
at_most Less e P f g = f refl
at_most Equal e P f g = g refl
at_most Greater e P f g = absurd (true≢false (sym e))

module _ (a b : List ℕ) where
  -- what is not at a bound or past it is before it
  pub before : is_name_from a b ≡ false → name_cmp b a ≡ Less
  before e = nat_list_cmp_total.antisymm b a ∙ ap ordering_reverse (greater (name_cmp a b) e)

  -- what is before a bound is not at it or past it
  pub not_from : name_cmp b a ≡ Less → is_name_from a b ≡ false
  not_from e = ap is_le (nat_list_cmp_total.antisymm a b ∙ ap ordering_reverse e)

  -- what is past a bound is at it or past it
  pub past_from : name_cmp a b ≡ Less → is_name_from a b ≡ true
  past_from e = ap is_le e

pub chain_less : (a b c : List ℕ) → name_cmp a b ≡ Less → name_cmp b c ≡ Less → name_cmp a c ≡ Less
chain_less a b c = nat_list_cmp_total.trans a b c

-- at or past, and then past
pub from_less : (a b c : List ℕ) → is_name_from a b ≡ true → name_cmp b c ≡ Less → name_cmp a c ≡ Less
from_less a b c e f = at_most (name_cmp a b) e (name_cmp a c ≡ Less) (λ l. nat_list_cmp_total.trans a b c l f) (λ q. nat_list_cmp_total.congr a b c q ∙ f)

-- past, and then at or past
pub less_from : (a b c : List ℕ) → name_cmp a b ≡ Less → is_name_from b c ≡ true → name_cmp a c ≡ Less
less_from a b c e f = at_most (name_cmp b c) f (name_cmp a c ≡ Less) (λ l. nat_list_cmp_total.trans a b c e l) (λ q. sym (alike_right nat_list_cmp_total b c a q) ∙ e)

from_from_by : (a b c : List ℕ) (r : Bool) → is_name_from a c ≡ r → is_name_from a b ≡ true → is_name_from b c ≡ true → is_name_from a c ≡ true
from_from_by a b c true is e f = is
from_from_by a b c false is e f = not_both f (not_from b c (less_from c a b (before a c is) e))

-- at or past, and again
pub from_from : (a b c : List ℕ) → is_name_from a b ≡ true → is_name_from b c ≡ true → is_name_from a c ≡ true
from_from a b c = from_from_by a b c (is_name_from a c) refl

pub not_itself : (a : List ℕ) → name_cmp a a ≢ Less
not_itself a e = true≢false (ap is_lt (sym e ∙ tied_itself nat_list_cmp_total a))

-- ---- what begins with a text

same_byte : (a b : ℕ) → is_eq (nat_cmp a b) ≡ nat_eq a b
same_byte a b = by (nat_cmp a b) (ranked a b _ refl)
  where
    by : (r : Ordering) → MatchOrdering r (a < b) (a ≡ b) (b < a) → is_eq r ≡ nat_eq a b
    by Less l = sym (grind arith)
    by Equal l = sym (grind arith)
    by Greater l = sym (grind arith)

-- what is at or past the bound that is raised is at or past the text, and does not begin with it
one_more : (b y : ℕ) (r s o : Ordering) → MatchOrdering r (b + 1 < y) (b + 1 ≡ y) (y < b + 1) → MatchOrdering s (b < y) (b ≡ y) (y < b) → is_le o ≡ true
    → is_le (ordering_then r o) ≡ is_le (ordering_then s o) && not (is_eq s && true)
one_more b y Less Less o p q le = refl
one_more b y Less Equal o p q le = absurd (omega arith)
one_more b y Less Greater o p q le = absurd (omega arith)
one_more b y Equal Less o p q le = le
one_more b y Equal Equal o p q le = absurd (omega arith)
one_more b y Equal Greater o p q le = absurd (omega arith)
one_more b y Greater Less o p q le = absurd (omega arith)
one_more b y Greater Equal o p q le = sym (ap (λ t. t && false) le)
one_more b y Greater Greater o p q le = refl

more : (r p q : Ordering) (s : Bool) → is_le p ≡ is_le q && not s → is_le (ordering_then r p) ≡ is_le (ordering_then r q) && not (is_eq r && s)
more Less p q s e = refl
more Equal p q s e = e
more Greater p q s e = refl

at_end : (ys : List ℕ) → is_le (name_cmp [] ys) ≡ true
at_end [] = refl
at_end (y ∷ ys) = refl

pub begins_with-none : (xs : List ℕ) → begins_with xs [] ≡ true
begins_with-none [] = refl
begins_with-none (x ∷ xs) = refl

-- what is at or past the raised bound is what is at or past the text and does not begin with it
pub from_raised : (g x : List ℕ) → 0 < length g → is_name_from (raised g) x ≡ is_name_from g x && not (begins_with x g)
from_raised [] x long = absurd (omega arith)
from_raised (b ∷ []) [] long = refl
from_raised (b ∷ []) (y ∷ ys) long =
    one_more b y (nat_cmp (b + 1) y) (nat_cmp b y) (name_cmp [] ys) (ranked (b + 1) y _ refl) (ranked b y _ refl) (at_end ys)
    ∙ ap (λ t. is_name_from (b ∷ []) (y ∷ ys) && not t) (λ i. same_byte b y i && sym (begins_with-none ys) i)
from_raised (a ∷ c ∷ g) [] long = refl
from_raised (a ∷ c ∷ g) (y ∷ ys) long =
    more (nat_cmp a y) (name_cmp (raised (c ∷ g)) ys) (name_cmp (c ∷ g) ys) (begins_with ys (c ∷ g)) (from_raised (c ∷ g) ys (omega arith))
    ∙ ap (λ t. is_name_from (a ∷ c ∷ g) (y ∷ ys) && not (t && begins_with ys (c ∷ g))) (same_byte a y)

equal_then : (r o : Ordering) → is_eq r ≡ true → ordering_then r o ≡ o
equal_then Less o e = absurd (true≢false (sym e))
equal_then Equal o e = refl
equal_then Greater o e = absurd (true≢false (sym e))

-- what begins with a text is at it or past it
pub begins_from : (g x : List ℕ) → begins_with x g ≡ true → is_name_from g x ≡ true
begins_from [] x e = at_end x
begins_from (a ∷ g) [] e = absurd (true≢false (sym e))
begins_from (a ∷ g) (y ∷ ys) e =
    ap is_le (equal_then (nat_cmp a y) (name_cmp g ys) (same_byte a y ∙ first_true (nat_eq a y) (begins_with ys g) e))
    ∙ begins_from g ys (second_true (nat_eq a y) (begins_with ys g) e)

between_by : (a b c : ℕ) (r s p q : Ordering) → a ≡ c → MatchOrdering r (b < c) (b ≡ c) (c < b) → MatchOrdering s (a < b) (a ≡ b) (b < a)
    → ordering_then r p ≡ Less → is_le (ordering_then s q) ≡ true → (is_eq s ≡ true) × (p ≡ Less) × (is_le q ≡ true)
between_by a b c Less Less p q same l m f g = absurd (omega arith)
between_by a b c Less Equal p q same l m f g = absurd (omega arith)
between_by a b c Less Greater p q same l m f g = absurd (true≢false (sym g))
between_by a b c Equal Less p q same l m f g = absurd (omega arith)
between_by a b c Equal Equal p q same l m f g = (refl, f, g)
between_by a b c Equal Greater p q same l m f g = absurd (true≢false (sym g))
between_by a b c Greater s p q same l m f g = absurd (true≢false (sym (ap is_lt f)))

-- what is between a text and what begins with it begins with it
pub begins_between : (p n x : List ℕ) → begins_with x p ≡ true → is_name_from p n ≡ true → name_cmp n x ≡ Less → begins_with n p ≡ true
begins_between [] n x e f g = begins_with-none n
begins_between (a ∷ p) [] x e f g = absurd (true≢false (sym f))
begins_between (a ∷ p) (b ∷ n) [] e f g = absurd (true≢false (sym e))
begins_between (a ∷ p) (b ∷ n) (c ∷ x) e f g =
    let both = between_by a b c (nat_cmp b c) (nat_cmp a b) (name_cmp n x) (name_cmp p n) (eqb-true a c (first_true (nat_eq a c) (begins_with x p) e)) (ranked b c _ refl) (ranked a b _ refl) g f in
    both_true (nat_eq a b) (begins_with n p) (sym (same_byte a b) ∙ both.0) (begins_between p n x (second_true (nat_eq a c) (begins_with x p) e) both.2 both.1)

-- ---- texts that begin alike

eq_itself : (xs : List ℕ) → pointwise nat_eq xs xs ≡ true
eq_itself xs = (bytes_decides xs xs).1 refl

pub begins_with-append : (g r : List ℕ) → begins_with (g ++ r) g ≡ true
begins_with-append g r = ap (pointwise nat_eq g) (take-append-le (length g) g r (omega arith) ∙ take_all (length g) g (omega arith)) ∙ eq_itself g

-- a text that begins with another is it and a rest
pub begins_split : (g x : List ℕ) → begins_with x g ≡ true → x ≡ g ++ drop (length g) x
begins_split g x e = sym (take-append-drop (length g) x) ∙ ap (λ t. t ++ drop (length g) x) (sym ((bytes_decides g (take (length g) x)).0 e))

-- two texts that begin with the same text begin alike with each shorter text
pub begins_alike : (d c u v : List ℕ) → begins_with u c ≡ true → begins_with v c ≡ true → length d ≤ length c → begins_with u d ≡ begins_with v d
begins_alike d c u v e f short = ap (pointwise nat_eq d) (front u e ∙ sym (front v f))
  where
    front : (u : List ℕ) → begins_with u c ≡ true → take (length d) u ≡ take (length d) c
    front u e = ap (take (length d)) (begins_split c u e) ∙ take-append-le (length d) c (drop (length c) u) short

pub begins_itself : (g : List ℕ) → begins_with g g ≡ true
begins_itself g = ap (pointwise nat_eq g) (take_all (length g) g (omega arith)) ∙ eq_itself g

pub is_le_by : (r : Ordering) → r ≡ Greater → is_le r ≡ false
is_le_by r e = ap is_le e

itself_by : (a : List ℕ) (b : Bool) → is_name_from a a ≡ b → is_name_from a a ≡ true
itself_by a true e = e
itself_by a false e = absurd (not_itself a (before a a e))

-- a text is at itself
pub from_itself : (a : List ℕ) → is_name_from a a ≡ true
from_itself a = itself_by a (is_name_from a a) refl
