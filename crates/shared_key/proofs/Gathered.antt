-- The groups of pairs in order are the names with their values in order.
use Rattle.std.proofs.Common.{◌≡◌, ℕ, ◌+◌, Bool, true, false, cond, ◌&&◌, ◌||◌, List, [], ◌∷◌, map, filter, Some, None, refl, sym, ap, subst, ◌∙◌, arith}
use Rattle.std.proofs.lemmas.List.Sorted.{sum_by-IsPermutation, list_any-IsPermutation}
use Rattle.std.proofs.lemmas.List.Sums.{sum_by-cons}
use Rattle.std.proofs.lemmas.Slice.Eq.{bytes_eq-Decides}
use Rattle.std.proofs.lemmas.Map.Text.{is_eq-slice_cmp}
use lib.Dec.{T}
use Rattle.std.specs.Cmp.{tied_itself}
use Rattle.std.specs.List.{AllByRecursion, list_any, sum_by, flat_map}
use Rattle.std.specs.Str.{bytes_eq}
use Rattle.std.specs.FinMap.{find, is_sorted, entries, from_entries, from_sorted, entries-from_sorted, get-from_sorted, get-from_entries, same_map}
use Rattle.std.specs.FinMap.Entries.{below_all}
use Rattle.std.specs.Ordering.{is_lt, is_eq, eq_by_cmp, ordering_then, ordering_reverse}
use Rattle.std.specs.declared.cmp.Ordering.{Ordering}
use Rattle.std.specs.declared.cmp.Ordering.TheVariants.{Less, Equal, Greater}
use Rattle.stamp_values.specs.Order.{name_cmp, names_total, names_exact}
use Rattle.shared_key.specs.Arranged.{in_order}
use Rattle.shared_key.specs.Strings.{Pair, parameter_line, values_of, values_by_name}
use Rattle.shared_key.specs.Parameters.{pair_cmp, pairs_text}
use Rattle.shared_key.proofs.Grouped.{Group, grouped, taken, left, onto_groups-first, pairs_text_first}
use Rattle.shared_key.proofs.Ordered.{Rises, one, count, count_is, same-in_order, rises-in_order, only_rising}
use Rattle.shared_key.proofs.Pairs.{pairs_total}

-- ---- tests
both : (a b : Bool) → T a → T b → T (a && b)
both true b p q = q
both false b p q = absurd p

former : (a b : Bool) → T (a && b) → T a
former true b p = tt
former false b p = absurd p

latter : (a b : Bool) → T (a && b) → T b
latter true b p = p
latter false b p = absurd p

yes : (b : Bool) → b ≡ true → T b
yes true e = tt
yes false e = cc

is_less : (r : Ordering) → T (is_lt r) → r ≡ Less
is_less Less h = refl
is_less Equal h = absurd h
is_less Greater h = absurd h

-- ---- names
-- no name of the pairs comes before n
abbrev IsFrom : List ℕ → List Pair → Type 0
IsFrom n ps = AllByRecursion (λ p. is_lt (name_cmp p.0 n) ≡ false) ps

first_not_before : (r s : Ordering) → is_lt (ordering_then r s) ≡ false → is_lt r ≡ false
first_not_before Less s h = cc
first_not_before Equal s h = refl
first_not_before Greater s h = refl

names_from : (p : Pair) (ps : List Pair) → AllByRecursion (λ q. is_lt (pair_cmp q p) ≡ false) ps → IsFrom p.0 ps
names_from p [] all = tt
names_from p (q ∷ qs) all = (first_not_before (name_cmp q.0 p.0) (name_cmp q.1 p.1) all.0, names_from p qs all.1)

turned_back : (r s : Ordering) → s ≡ ordering_reverse r → is_lt r ≡ false → is_eq r ≡ false → s ≡ Less
turned_back Less s e h a = cc
turned_back Equal s e h a = cc
turned_back Greater s e h a = e

-- a name that does not come before n, and is not n, comes after n
comes_after : (n m : List ℕ) → is_lt (name_cmp m n) ≡ false → bytes_eq m n ≡ false → name_cmp n m ≡ Less
comes_after n m h other =
    let turned = names_total.antisymm n m in
    let apart : is_eq (name_cmp m n) ≡ false = is_eq-slice_cmp m n ∙ other in
    turned_back (name_cmp m n) (name_cmp n m) turned h apart

same_name : (n m : List ℕ) → bytes_eq n m ≡ true → n ≡ m
same_name n m h = let d = bytes_eq-Decides n m in d.0 h

itself : (n : List ℕ) → bytes_eq n n ≡ true
itself n = let d = bytes_eq-Decides n n in d.1 refl

tied_name : (n m : List ℕ) → eq_by_cmp name_cmp n m ≡ true → n ≡ m
tied_name n m h = same_name n m (sym (is_eq-slice_cmp n m) ∙ h)

-- if two names do not compare as equal, their bytes differ
apart : (n m : List ℕ) → eq_by_cmp name_cmp n m ≡ false → bytes_eq m n ≡ false
apart n m h =
    elim (bytes_eq m n) as (λ b. bytes_eq m n ≡ b → b ≡ false) [
      | true ↦ λ e. let same = same_name m n e in let tie : eq_by_cmp name_cmp n m ≡ true = is_eq-slice_cmp n m ∙ ap (bytes_eq n) same ∙ itself n in cc
      | false ↦ λ _. refl
    ] refl

-- ---- the values of a name
-- if n comes before m, and no name of the pairs comes before m, the pairs have no value of n
no_values : (n m : List ℕ) → name_cmp n m ≡ Less → (ps : List Pair) → IsFrom m ps → values_of ps n ≡ []
no_values n m less [] from = refl
no_values n m less (p ∷ ps) from =
    elim (bytes_eq p.0 n) as (λ b. bytes_eq p.0 n ≡ b → map (λ p. p.1) (cond b (p ∷ filter (λ p. bytes_eq p.0 n) ps) (filter (λ p. bytes_eq p.0 n) ps)) ≡ []) [
      | true ↦ λ e.
          let same = same_name p.0 n e in
          let before : is_lt (name_cmp p.0 m) ≡ true = ap (λ k. is_lt (name_cmp k m)) same ∙ ap is_lt less in
          let not_before = from.0 in
          cc
      | false ↦ λ _. no_values n m less ps from.1
    ] refl

-- the first group has all values of its name
taken_values : (n : List ℕ) (ps : List Pair) → IsFrom n ps → Rises (λ p q. is_lt (pair_cmp p q)) ps → taken n (grouped ps) ≡ values_of ps n
taken_values n [] from up = refl
taken_values n (p ∷ ps) from up =
    let rest = taken_values p.0 ps (names_from p ps up.0) up.1 in
    ap (taken n) (onto_groups-first p (grouped ps))
    ∙ elim (bytes_eq p.0 n) as (λ b. bytes_eq p.0 n ≡ b → cond b (p.1 ∷ taken p.0 (grouped ps)) [] ≡ map (λ p. p.1) (cond b (p ∷ filter (λ p. bytes_eq p.0 n) ps) (filter (λ p. bytes_eq p.0 n) ps))) [
      | true ↦ λ e. ap (λ r. p.1 ∷ r) (rest ∙ ap (values_of ps) (same_name p.0 n e))
      | false ↦ λ e. sym (no_values n p.0 (comes_after n p.0 from.0 e) ps (names_from p ps up.0))
    ] refl

-- ---- the groups as a map
find_left : (q n : List ℕ) (gs : List Group) → eq_by_cmp name_cmp q n ≡ false → find name_cmp q (left n gs) ≡ find name_cmp q gs
find_left q n [] other = refl
find_left q n (g ∷ gs) other =
    elim (bytes_eq g.0 n) as (λ b. bytes_eq g.0 n ≡ b → find name_cmp q (cond b gs (g ∷ gs)) ≡ find name_cmp q (g ∷ gs)) [
      | true ↦ λ e.
          let missed : eq_by_cmp name_cmp q g.0 ≡ false = ap (eq_by_cmp name_cmp q) (same_name g.0 n e) ∙ other in
          sym (ap (λ b. cond b (Some g.1) (find name_cmp q gs)) missed)
      | false ↦ λ _. refl
    ] refl

-- what the groups have for a name: its values, if the pairs have the name
find_grouped : (q : List ℕ) (ps : List Pair) → Rises (λ p q. is_lt (pair_cmp p q)) ps → find name_cmp q (grouped ps) ≡ cond (list_any (λ p. eq_by_cmp name_cmp q p.0) ps) (Some (values_of ps q)) None
find_grouped q [] up = refl
find_grouped q (p ∷ ps) up =
    ap (find name_cmp q) (onto_groups-first p (grouped ps))
    ∙ elim (eq_by_cmp name_cmp q p.0) as (λ b. eq_by_cmp name_cmp q p.0 ≡ b → cond b (Some (p.1 ∷ taken p.0 (grouped ps))) (find name_cmp q (left p.0 (grouped ps))) ≡ cond (b || list_any (λ p. eq_by_cmp name_cmp q p.0) ps) (Some (values_of (p ∷ ps) q)) None) [
      | true ↦ λ e.
          let same = tied_name q p.0 e in
          let all : values_of (p ∷ ps) p.0 ≡ p.1 ∷ values_of ps p.0 = ap (λ b. map (λ (p : Pair). p.1) (cond b (p ∷ filter (λ r. bytes_eq r.0 p.0) ps) (filter (λ r. bytes_eq r.0 p.0) ps))) (itself p.0) in
          ap Some (ap (λ r. p.1 ∷ r) (taken_values p.0 ps (names_from p ps up.0) up.1) ∙ sym all ∙ ap (values_of (p ∷ ps)) (sym same))
      | false ↦ λ e.
          let others : values_of (p ∷ ps) q ≡ values_of ps q = ap (λ b. map (λ (p : Pair). p.1) (cond b (p ∷ filter (λ r. bytes_eq r.0 q) ps) (filter (λ r. bytes_eq r.0 q) ps))) (apart q p.0 e) in
          find_left q p.0 (grouped ps) e ∙ find_grouped q ps up.1
          ∙ ap (λ vs. cond (list_any (λ p. eq_by_cmp name_cmp q p.0) ps) (Some vs) None) (sym others)
    ] refl

-- what is found for a name if each name has what a function of the name gives
find_named : {V : Type 0} (f : List ℕ → V) (q : List ℕ) (ps : List Pair) → find name_cmp q (map (λ p. (p.0, f p.0)) ps) ≡ cond (list_any (λ p. eq_by_cmp name_cmp q p.0) ps) (Some (f q)) None
find_named f q [] = refl
find_named f q (p ∷ ps) =
    elim (eq_by_cmp name_cmp q p.0) as (λ b. eq_by_cmp name_cmp q p.0 ≡ b → cond b (Some (f p.0)) (find name_cmp q (map (λ p. (p.0, f p.0)) ps)) ≡ cond (b || list_any (λ p. eq_by_cmp name_cmp q p.0) ps) (Some (f q)) None) [
      | true ↦ λ e. ap (λ n. Some (f n)) (sym (tied_name q p.0 e))
      | false ↦ λ _. find_named f q ps
    ] refl

-- ---- names rise
all_left : (P : Group → Type 0) (n : List ℕ) (gs : List Group) → AllByRecursion P gs → AllByRecursion P (left n gs)
all_left P n [] all = tt
all_left P n (g ∷ gs) all =
    elim (bytes_eq g.0 n) as (λ b. AllByRecursion P (cond b gs (g ∷ gs))) [
      | true ↦ all.1
      | false ↦ all
    ]

left_rises : (n : List ℕ) (gs : List Group) → T (is_sorted name_cmp gs) → T (is_sorted name_cmp (left n gs))
left_rises n [] up = tt
left_rises n (g ∷ gs) up =
    elim (bytes_eq g.0 n) as (λ b. T (is_sorted name_cmp (cond b gs (g ∷ gs)))) [
      | true ↦ latter (below_all name_cmp g.0 gs) (is_sorted name_cmp gs) up
      | false ↦ up
    ]

groups_from : (n : List ℕ) (ps : List Pair) → IsFrom n ps → AllByRecursion (λ (g : Group). is_lt (name_cmp g.0 n) ≡ false) (grouped ps)
groups_from n [] from = tt
groups_from n (p ∷ ps) from =
    subst (AllByRecursion (λ (g : Group). is_lt (name_cmp g.0 n) ≡ false)) (sym (onto_groups-first p (grouped ps)))
    (from.0, all_left (λ (g : Group). is_lt (name_cmp g.0 n) ≡ false) p.0 (grouped ps) (groups_from n ps from.1))

below_further : (n m : List ℕ) → name_cmp n m ≡ Less → (gs : List Group) → T (below_all name_cmp m gs) → T (below_all name_cmp n gs)
below_further n m less [] h = tt
below_further n m less (g ∷ gs) h =
    let next = is_less (name_cmp m g.0) (former (is_lt (name_cmp m g.0)) (below_all name_cmp m gs) h) in
    both (is_lt (name_cmp n g.0)) (below_all name_cmp n gs) (yes (is_lt (name_cmp n g.0)) (ap is_lt (names_total.trans n m g.0 less next)))
    (below_further n m less gs (latter (is_lt (name_cmp m g.0)) (below_all name_cmp m gs) h))

below_rest : (n : List ℕ) (gs : List Group) → AllByRecursion (λ (g : Group). is_lt (name_cmp g.0 n) ≡ false) gs → T (is_sorted name_cmp gs) → T (below_all name_cmp n (left n gs))
below_rest n [] from up = tt
below_rest n (g ∷ gs) from up =
    elim (bytes_eq g.0 n) as (λ b. bytes_eq g.0 n ≡ b → T (below_all name_cmp n (cond b gs (g ∷ gs)))) [
      | true ↦ λ e. subst (λ k. T (below_all name_cmp k gs)) (same_name g.0 n e) (former (below_all name_cmp g.0 gs) (is_sorted name_cmp gs) up)
      | false ↦ λ e.
          let less = comes_after n g.0 from.0 e in
          both (is_lt (name_cmp n g.0)) (below_all name_cmp n gs) (yes (is_lt (name_cmp n g.0)) (ap is_lt less)) (below_further n g.0 less gs (former (below_all name_cmp g.0 gs) (is_sorted name_cmp gs) up))
    ] refl

groups_rise : (ps : List Pair) → Rises (λ p q. is_lt (pair_cmp p q)) ps → T (is_sorted name_cmp (grouped ps))
groups_rise [] up = tt
groups_rise (p ∷ ps) up =
    let rest = groups_rise ps up.1 in
    subst (λ gs. T (is_sorted name_cmp gs)) (sym (onto_groups-first p (grouped ps)))
    (both (below_all name_cmp p.0 (left p.0 (grouped ps))) (is_sorted name_cmp (left p.0 (grouped ps)))
    (below_rest p.0 (grouped ps) (groups_from p.0 ps (names_from p ps up.0)) rest) (left_rises p.0 (grouped ps) rest))

-- ---- the values of a name, in order
value_rises : (q : List ℕ) (p : Pair) (ps : List Pair) → p.0 ≡ q → AllByRecursion (λ r. is_lt (pair_cmp r p) ≡ false) ps → AllByRecursion (λ v. is_lt (name_cmp v p.1) ≡ false) (values_of ps q)
value_rises q p [] same all = tt
value_rises q p (r ∷ rs) same all =
    elim (bytes_eq r.0 q) as (λ b. bytes_eq r.0 q ≡ b → AllByRecursion (λ v. is_lt (name_cmp v p.1) ≡ false) (map (λ p. p.1) (cond b (r ∷ filter (λ p. bytes_eq p.0 q) rs) (filter (λ p. bytes_eq p.0 q) rs)))) [
      | true ↦ λ e.
          let tie : name_cmp r.0 p.0 ≡ Equal = ap (λ n. name_cmp n p.0) (same_name r.0 q e ∙ sym same) ∙ tied_itself names_total p.0 in
          (sym (ap (λ o. is_lt (ordering_then o (name_cmp r.1 p.1))) tie) ∙ all.0, value_rises q p rs same all.1)
      | false ↦ λ _. value_rises q p rs same all.1
    ] refl

values_rise : (q : List ℕ) (ps : List Pair) → Rises (λ p q. is_lt (pair_cmp p q)) ps → Rises (λ v w. is_lt (name_cmp v w)) (values_of ps q)
values_rise q [] up = tt
values_rise q (p ∷ ps) up =
    elim (bytes_eq p.0 q) as (λ b. bytes_eq p.0 q ≡ b → Rises (λ v w. is_lt (name_cmp v w)) (map (λ p. p.1) (cond b (p ∷ filter (λ p. bytes_eq p.0 q) ps) (filter (λ p. bytes_eq p.0 q) ps)))) [
      | true ↦ λ e. (value_rises q p ps (same_name p.0 q e) up.0, values_rise q ps up.1)
      | false ↦ λ _. values_rise q ps up.1
    ] refl

-- how often v is a value of q
abbrev weight : List ℕ → List ℕ → Pair → ℕ
weight q v p = cond (bytes_eq p.0 q) (one names_total names_exact v p.1) 0

count_values : (q v : List ℕ) (ps : List Pair) → count names_total names_exact v (values_of ps q) ≡ sum_by (weight q v) ps
count_values q v [] = refl
count_values q v (p ∷ ps) =
    elim (bytes_eq p.0 q) as (λ b. count names_total names_exact v (map (λ p. p.1) (cond b (p ∷ filter (λ p. bytes_eq p.0 q) ps) (filter (λ p. bytes_eq p.0 q) ps))) ≡ cond b (one names_total names_exact v p.1) 0 + sum_by (weight q v) ps) [
      | true ↦ ap (λ n. one names_total names_exact v p.1 + n) (count_values q v ps)
      | false ↦ let rest = count_values q v ps in omega arith
    ]
    ∙ sym (sum_by-cons (weight q v) p ps)

-- the values of a name in the pairs in order are the values of that name, in order
arranged_values : (q : List ℕ) (ps : List Pair) → values_of (in_order pair_cmp ps) q ≡ in_order name_cmp (values_of ps q)
arranged_values q ps =
    let a = in_order pair_cmp ps in
    let vs = values_of ps q in
    only_rising names_total names_exact (values_of a q) (in_order name_cmp vs) (values_rise q a (rises-in_order pairs_total ps)) (rises-in_order names_total vs)
    (λ v. count_values q v a ∙ sum_by-IsPermutation (weight q v) ps a (same-in_order pair_cmp ps) ∙ sym (count_values q v ps)
    ∙ sym (count_is names_total names_exact v vs) ∙ sym (sum_by-IsPermutation (one names_total names_exact v) vs (in_order name_cmp vs) (same-in_order name_cmp vs)) ∙ count_is names_total names_exact v (in_order name_cmp vs))

-- the groups of the pairs in order are the names, each with its values in order
pub grouped_arranged : (ps : List Pair) → grouped (in_order pair_cmp ps) ≡ values_by_name ps
grouped_arranged ps =
    let a = in_order pair_cmp ps in
    let up = rises-in_order pairs_total ps in
    let rise = groups_rise a up in
    let named = map (λ (p : Pair). (p.0, in_order name_cmp (values_of ps p.0))) ps in
    sym (entries-from_sorted name_cmp (grouped a) rise)
    ∙ ap entries (same_map names_total names_exact (from_sorted (grouped a)) (from_entries named) (λ q.
    get-from_sorted name_cmp (grouped a) q rise ∙ find_grouped q a up
    ∙ ap (λ b. cond b (Some (values_of a q)) None) (sym (list_any-IsPermutation (λ p. eq_by_cmp name_cmp q p.0) ps a (same-in_order pair_cmp ps)))
    ∙ ap (λ vs. cond (list_any (λ p. eq_by_cmp name_cmp q p.0) ps) (Some vs) None) (arranged_values q ps)
    ∙ sym (find_named (λ n. in_order name_cmp (values_of ps n)) q ps) ∙ sym (get-from_entries names_total named q)))

-- the text of the pairs in order is the lines of their names
pub pairs_text_arranged : (ps : List Pair) → pairs_text None (in_order pair_cmp ps) ≡ flat_map parameter_line (values_by_name ps)
pairs_text_arranged ps = pairs_text_first (in_order pair_cmp ps) ∙ ap (flat_map parameter_line) (grouped_arranged ps)
