use Rattle.std.proofs.Common.{List, ℕ}
use Rattle.std.proofs.lemmas.List.Sorted.{ranks_by}
use Rattle.std.specs.Ordering.{is_lt}
use Rattle.stamp_values.specs.Order.{name_cmp, names_total, names_exact}
use Rattle.shared_key.specs.Arranged.{in_order}
use Rattle.shared_key.proofs.Ordered.{same-in_order, rises-in_order, sorted_from_rises, rises_from_sorted, only_in_order}
use Rattle.shared_key.proofs.laws.arrangements_are_unique.Goals as goal

pub returns : goal.returns
returns c = λ texts. record {
  same_members = same-in_order name_cmp texts;
  sorted = sorted_from_rises (λ p q. is_lt (name_cmp p q)) (in_order name_cmp texts) (rises-in_order names_total texts);
  only = λ zs same up. only_in_order names_total names_exact texts zs same (rises_from_sorted (λ p q. is_lt (name_cmp p q)) (ranks_by names_total (λ (t : List ℕ). t)) zs up);
}
