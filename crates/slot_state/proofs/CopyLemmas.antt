-- A map into which the entries of another map are put in turn.
use Rattle.std.proofs.Common.{◌≡◌, ◌&&◌, Bool, true, false, cond, T, List, [], ◌∷◌, Option, Some, None, refl, sym, ap, ◌∙◌}
use Rattle.std.specs.Cmp.{Equal-is, IsTotalOrder}
use Rattle.std.specs.FinMap.{FinMap, empty, entries, entries_sorted, find, get, get-empty, get-entries, get-insert, insert, is_sorted, same_map}
use Rattle.std.specs.FinMap.Entries.{below_all}
use Rattle.std.specs.Option.{option_or}
use Rattle.std.specs.Ordering.{eq_by_cmp, is_eq, is_lt}
use Rattle.std.proofs.lemmas.Map.Lookups.{CmpEqualImpliesEq}
use Rattle.std.specs.declared.cmp.Ordering.{Ordering}
use Rattle.std.specs.declared.cmp.Ordering.TheVariants.{Less, Equal, Greater}
use Rattle.stamp_values.specs.Order.{key_cmp, keys_exact, keys_total, name_cmp, names_exact, names_total}
use Rattle.stamp_values.specs.declared.key.Key.{Key}

first : (a b : Bool) → T (a && b) → T a
first true b p = tt
first false b p = p

second : (a b : Bool) → T (a && b) → T b
second true b p = p
second false b p = absurd p

-- the entries put into the map in turn
abbrev pub put_all : {K X : Type 0} {cmp : K → K → Ordering} → FinMap cmp X → List (K × X) → FinMap cmp X
put_all m [] = m
put_all m (e ∷ es) = put_all (insert m e.0 e.1) es

found_by : {X : Type 0} (found o : Option X) (v : X) (b : Bool) → (b ≡ true → found ≡ None) → option_or found (cond b (Some v) o) ≡ option_or (cond b (Some v) found) o
found_by found o v true none = ap (λ (f : Option _). option_or f (Some v)) (none refl)
found_by found o v false none = refl

apart : {A : Type 0} (r : Ordering) (x y : A) → T (is_lt r) → cond (is_eq r) x y ≡ y
apart Less x y h = refl
apart Equal x y h = absurd h
apart Greater x y h = absurd h

or_none : {X : Type 0} (o : Option X) → option_or o None ≡ o
or_none None = refl
or_none (Some x) = refl

module _ {K X : Type 0} (cmp : K → K → Ordering) (total : IsTotalOrder cmp) (exact : CmpEqualImpliesEq cmp) where
  -- a key before all keys has no entry
  find_before : (q : K) (es : List (K × X)) → T (below_all cmp q es) → find cmp q es ≡ None
  find_before q [] h = refl
  find_before q (e ∷ es) h =
      apart (cmp q e.0) (Some e.1) (find cmp q es) (first (is_lt (cmp q e.0)) (below_all cmp q es) h)
      ∙ find_before q es (second (is_lt (cmp q e.0)) (below_all cmp q es) h)

  get-put_all : (es : List (K × X)) (m : FinMap cmp X) (q : K) → T (is_sorted cmp es) → get (put_all m es) q ≡ option_or (find cmp q es) (get m q)
  get-put_all [] m q up = refl
  get-put_all (e ∷ es) m q up =
      let below = first (below_all cmp e.0 es) (is_sorted cmp es) up in
      get-put_all es (insert m e.0 e.1) q (second (below_all cmp e.0 es) (is_sorted cmp es) up)
      ∙ ap (λ (o : Option X). option_or (find cmp q es) o) (get-insert total m e.0 e.1 q)
      ∙ found_by (find cmp q es) (get m q) e.1 (eq_by_cmp cmp q e.0)
      (λ tie. ap (λ (k : K). find cmp k es) (exact q e.0 ((Equal-is (cmp q e.0)).0 tie)) ∙ find_before e.0 es below)

  entries_put : (m : FinMap cmp X) → put_all empty (entries m) ≡ m
  entries_put m = same_map total exact _ _ (λ q.
      get-put_all (entries m) empty q (entries_sorted m)
      ∙ ap (λ (o : Option X). option_or (find cmp q (entries m)) o) (get-empty cmp q)
      ∙ or_none (find cmp q (entries m))
      ∙ sym (get-entries m q))

-- the entries of a map make the map
pub all_put : {X : Type 0} (m : FinMap key_cmp X) → put_all empty (entries m) ≡ m
all_put m = entries_put key_cmp keys_total keys_exact m

-- the same of a map by names
pub all_named : {X : Type 0} (m : FinMap name_cmp X) → put_all empty (entries m) ≡ m
all_named m = entries_put name_cmp names_total names_exact m
