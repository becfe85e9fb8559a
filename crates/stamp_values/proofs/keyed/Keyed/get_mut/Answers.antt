use Rattle.stamp_values.specs.Order.{keys_total, keys_exact}
use Rattle.stamp_values.specs.Trees.{own_key}
use Rattle.stamp_values.proofs.TreeMaps.{get-held, tree_map-lends}
use Rattle.stamp_values.proofs.keyed.Keyed.get_mut.Goals as goal

pub returns : goal.returns
returns g c =
    let map = c.args.self.now in
    let tree = c.self.inside.tree in
    let key = c.args.key.now in
    let lent = c.get_mut.follows in
    let found = c.get_mut.ensures.value in (
      tree_map-lends keys_total own_key keys_exact map tree key c.get_mut.result lent.lender lent.lender-at-none c.self.view_is found lent.holds lent.holds-at-none,
      record {
        writes_back = tt;
        value = get-held keys_total own_key map tree key _ c.self.view_is found;
      },
    )
