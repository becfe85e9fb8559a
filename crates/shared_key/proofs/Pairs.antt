-- The order of parameters is that of their names and values.
use Rattle.std.proofs.Common.{List, map}
use Rattle.std.proofs.lemmas.Cmp.{then_total}
use Rattle.std.proofs.lemmas.List.Sorted.{ranks_by}
use Rattle.std.proofs.lemmas.Map.Lookups.{CmpEqualImpliesEq, exact_pairs}
use Rattle.std.specs.Cmp.{IsTotalOrder, on_total}
use Rattle.std.specs.List.Sorted.{IsSorted}
use Rattle.std.specs.Ordering.{is_lt}
use Rattle.stamp_values.specs.Order.{name_cmp, names_total, names_exact}
use Rattle.shared_key.specs.Parameters.{pair_of, pair_cmp}
use Rattle.shared_key.specs.declared.query.Parameter.{Parameter}
use Rattle.shared_key.proofs.Ordered.{Rises, rises_from_sorted, rises-map}

-- of two pairs, one comes first or the two compare as equal
pub pairs_total : IsTotalOrder pair_cmp
pairs_total = then_total (on_total (λ p. p.0) names_total) (on_total (λ p. p.1) names_total)

-- pairs that compare as equal are the same pair
pub pairs_exact : CmpEqualImpliesEq pair_cmp
pairs_exact = exact_pairs name_cmp name_cmp names_exact names_exact

-- if parameters are sorted, their names and values rise
pub rises_parameters : (ps : List Parameter) → IsSorted (λ p q. pair_cmp (pair_of p) (pair_of q)) ps → Rises (λ p q. is_lt (pair_cmp p q)) (map pair_of ps)
rises_parameters ps up =
    rises-map (λ p q. is_lt (pair_cmp p q)) pair_of ps (rises_from_sorted (λ p q. is_lt (pair_cmp (pair_of p) (pair_of q))) (ranks_by pairs_total pair_of) ps up)
