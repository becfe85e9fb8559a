use Rattle.std.proofs.Common.{◌≡◌, ◌∙◌, List, rules, sym, subst}
use Rattle.std.proofs.lemmas.List.Sorted.{IsPartitionPoint-from_clause}
use Rattle.stamp_values.specs.Trees.{is_from}
use Rattle.stamp_values.specs.declared.key.Key.{Key}
use Rattle.partition_map.specs.Spans.{AreSpans, slot_of}
use Rattle.partition_map.proofs.PointLemmas.{are_parted, slot_at_point}
use Rattle.partition_map.proofs.spans.Spans.find.Goals as goal

pub returns-clause-slot : goal.returns-clause-slot
returns-clause-slot c =
    let points = c.as_slice.result.now in
    let key = c.args.key.now in
    let are : AreSpans points = subst AreSpans (sym c.as_slice.ensures.value) c.self.invariant in
    let point =
    IsPartitionPoint-from_clause (λ (p : Key). is_from p key) points c.partition_point.result c.partition_point.ensures.partitioned
    (are_parted points key are) (λ a r q k. search rules) in
    subst (λ (ps : List Key). c.partition_point.result ≡ slot_of ps key) (c.as_slice.ensures.value ∙ c.self.view_is)
    (slot_at_point points key c.partition_point.result c.partition_point.ensures.bound point)
