use Rattle.std.proofs.Common.{map}
use Rattle.std.proofs.lemmas.List.Sorted.{IsPermutation-map}
use Rattle.shared_key.proofs.Ordered.{only_in_order}
use Rattle.shared_key.specs.Parameters.{pair_of}
use Rattle.shared_key.proofs.Pairs.{pairs_total, pairs_exact, rises_parameters}
use Rattle.shared_key.proofs.query.arrange.Goals as goal

pub returns : goal.returns
returns c =
    let before = c.args.parameters.now.items in
    let after = c.sort_unstable.new.self.items in
    only_in_order pairs_total pairs_exact (map pair_of before) (map pair_of after)
    (IsPermutation-map pair_of before after c.sort_unstable.ensures.permutation) (rises_parameters after c.sort_unstable.ensures.sorted)
