use Rattle.stamp_values.specs.Trees.{is_below, is_from}
use Rattle.slot_state.proofs.HalfLemmas.{below_excludes, from_excludes, is_left, is_there}
use Rattle.slot_state.proofs.laws.a_split_loses_nothing.Goals as goal

pub returns-clause-lower : goal.returns-clause-lower
returns-clause-lower c = λ s middle key below.
    let here = is_there s.pairs s.histories (is_below middle) key below in
    let there = is_left s.pairs s.histories (is_from middle) key (below_excludes middle key below) in
    (here.0, here.1, there.0, there.1)

pub returns-clause-upper : goal.returns-clause-upper
returns-clause-upper c = λ s middle key from.
    let here = is_there s.pairs s.histories (is_from middle) key from in
    let there = is_left s.pairs s.histories (is_below middle) key (from_excludes middle key from) in
    (here.0, here.1, there.0, there.1)
