use Rattle.std.proofs.Common.{◌∙◌}
use Rattle.extent_seal.specs.contracts.sealed.Sealed as sealed
use Rattle.extent_seal.proofs.RepairLemmas.{copies_of, same_as_first, seen_as}
use Rattle.extent_seal.proofs.sealed.Sealed.copy.Goals as goal

pub invariant_of-result : goal.invariant_of-result
invariant_of-result c =
    let i = c.self.inside in
    same_as_first c.in_ok-zero.zero c.in_ok-one.one c.in_ok-two.two (sealed.the_view i)
    (copies_of i.zero i.one i.two c.in_ok-zero.zero c.in_ok-one.one c.in_ok-two.two c.self.invariant
    (c.in_ok-zero.ensures.there, c.in_ok-zero.ensures.blocks) (c.in_ok-one.ensures.there, c.in_ok-one.ensures.blocks) (c.in_ok-two.ensures.there, c.in_ok-two.ensures.blocks))

pub returns : goal.returns
returns c =
    let i = c.self.inside in
    seen_as c.in_ok-zero.zero c.in_ok-one.one c.in_ok-two.two (sealed.the_view i)
    (copies_of i.zero i.one i.two c.in_ok-zero.zero c.in_ok-one.one c.in_ok-two.two c.self.invariant
    (c.in_ok-zero.ensures.there, c.in_ok-zero.ensures.blocks) (c.in_ok-one.ensures.there, c.in_ok-one.ensures.blocks) (c.in_ok-two.ensures.there, c.in_ok-two.ensures.blocks))
    ∙ c.self.view_is
