-- The first key that a list of containers looks at.
use Rattle.std.proofs.Common.{◌≡◌, Bool, true, false, cond, [], unwrap_or, refl, ◌∙◌}
use Rattle.std.specs.Option.{option_and_then}
use Rattle.stamp_values.specs.Operations.{names_container}
use Rattle.stamp_values.specs.declared.key.Key.{Key}
use Rattle.stamp_types.specs.Requests.{Asked}
use Rattle.stamp_model.specs.SeenContainers.{routed}

chosen : (b : Bool) (x y : Key) → b ≡ false → y ≡ cond b x y
chosen true x y is = cc
chosen false x y is = refl

-- it is the key of the marker
pub routed_by_marker : (q : Asked) (k : Key) → k ≡ record { account = q.ask.key.account; container = unwrap_or (option_and_then (λ page. page.marker) q.ask.args.page) [] }
    → names_container q.ask.op ≡ false → k ≡ routed q
routed_by_marker q k is lists = is ∙ chosen (names_container q.ask.op) q.ask.key _ lists
