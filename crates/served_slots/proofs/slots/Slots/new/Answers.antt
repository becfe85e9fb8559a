use Rattle.std.proofs.Common.{◌∙◌}
use Rattle.std.specs.Arc.{arc_value}
use Rattle.served_slots.proofs.FirstLemmas.{first_left, none_made}
use Rattle.served_slots.proofs.slots.Slots.new.Goals as goal

pub first_own-own-requires-clause-none : goal.first_own-own-requires-clause-none
first_own-own-requires-clause-none g c = none_made 0 c.front-front.result c.args.pairs.items (c.front-front.ensures ∙ c.requires.log)

pub first_table-requires : goal.first_table-requires
first_table-requires g c =
    first_left c.first_own-own.result c.args.pairs.items (arc_value c.in_ok-pairs.pairs) c.first_own-own.ensures.slot (c.first_own-own.ensures.log ∙ c.front-front.ensures ∙ c.requires.log)
    c.in_ok-pairs.ensures.value c.in_ok-pairs.ensures.numbered
