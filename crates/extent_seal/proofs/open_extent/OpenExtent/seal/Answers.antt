use Rattle.std.proofs.Common.{rules}
use Rattle.extent_seal.specs.contracts.open_extent.OpenExtent as extent
use Rattle.extent_seal.proofs.HeardLemmas.{heard_sealed}
use Rattle.extent_seal.proofs.SealLemmas.{sealing, all_same, seals, committed}
use Rattle.extent_seal.proofs.open_extent.OpenExtent.seal.Goals as goal

pub invariant_of-result : goal.invariant_of-result
invariant_of-result g c =
    let i = c.self.invariant in
    let k = c.cut-kept in
    all_same (extent.the_view c.self.inside).extent k.result.zero k.result.one k.result.two k.result.len
    (sealing (extent.the_view c.self.inside).extent c.self.inside.zero.blocks c.self.inside.one.blocks c.self.inside.two.blocks
    k.result.zero k.result.one k.result.two k.result.len c.ask-zero.result c.ask-one.result c.ask-two.result
    i.0 i.1.0 i.1.1.0 k.ensures.kept_zero k.ensures.kept_one k.ensures.kept_two
    k.ensures.cut_zero k.ensures.cut_one k.ensures.cut_two k.ensures.smallest)

sealed : goal.returns-clause-sealed
sealed g c =
    let i = c.self.invariant in
    let k = c.cut-kept in
    rw (← c.self.view_is)
    (seals (extent.the_view c.self.inside).extent k.result.zero k.result.one k.result.two k.result.len
    (sealing (extent.the_view c.self.inside).extent c.self.inside.zero.blocks c.self.inside.one.blocks c.self.inside.two.blocks
    k.result.zero k.result.one k.result.two k.result.len c.ask-zero.result c.ask-one.result c.ask-two.result
    i.0 i.1.0 i.1.1.0 k.ensures.kept_zero k.ensures.kept_one k.ensures.kept_two
    k.ensures.cut_zero k.ensures.cut_one k.ensures.cut_two k.ensures.smallest))

pub returns-clause-sealed : goal.returns-clause-sealed
returns-clause-sealed g c = sealed g c

pub returns-clause-committed : goal.returns-clause-committed
returns-clause-committed g c = committed c.args.self.extent _ (sealed g c)

pub returns-clause-heard : goal.returns-clause-heard
returns-clause-heard g c = heard_sealed c.args.self.extent _ _ _ _ _ (sealed g c) (search rules) (search rules)
