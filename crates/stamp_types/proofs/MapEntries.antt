-- The entries of a map whose values are read by a function.
use Rattle.std.proofs.Common.{◌≡◌, ◌&&◌, T, List, [], ◌∷◌, refl, sym, ap, ◌∙◌, subst, map}
use Rattle.std.specs.Cmp.{IsTotalOrder}
use Rattle.std.specs.Ordering.{is_lt}
use Rattle.std.specs.declared.cmp.Ordering.{Ordering}
use Rattle.std.specs.FinMap.{FinMap, IsAntisymmetric, entries, entries_sorted, entries-from_sorted, from_sorted, get-from_entries, get-from_sorted, is_sorted, same_map}
use Rattle.std.specs.FinMap.Entries.{below_all}
use Rattle.stamp_values.specs.Maps.{entry_value, map_values}

module _ {K X Y : Type 0} (R : K → K → Ordering) (f : X → Y) where
  below_all-values : (k : K) (es : List (K × X)) → below_all R k (map (entry_value f) es) ≡ below_all R k es
  below_all-values k [] = refl
  below_all-values k (e ∷ es) = ap (λ b. is_lt (R k e.0) && b) (below_all-values k es)

  is_sorted-values : (es : List (K × X)) → is_sorted R (map (entry_value f) es) ≡ is_sorted R es
  is_sorted-values [] = refl
  is_sorted-values (e ∷ es) = λ i. below_all-values e.0 es i && is_sorted-values es i

-- the entries of a map that was read are the entries, each with what is read from its value
pub entries-map_values : {K X Y : Type 0} {R : K → K → Ordering} → IsTotalOrder R → IsAntisymmetric R → (f : X → Y) (m : FinMap R X)
    → entries (map_values f m) ≡ map (entry_value f) (entries m)
entries-map_values {R = R} o same f m =
    let es = map (entry_value f) (entries m) in
    let sorted : T (is_sorted R es) = subst T (sym (is_sorted-values R f (entries m))) (entries_sorted m) in
    let listed : from_sorted {R = R} es ≡ map_values f m = same_map o same _ _ (λ q. get-from_sorted R es q sorted ∙ sym (get-from_entries o es q)) in
    ap entries (sym listed) ∙ entries-from_sorted R es sorted
