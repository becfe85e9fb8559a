use Rattle.stamp_types.proofs.ActLaws.{count-changed}
use Rattle.stamp_types.proofs.laws.each_change_is_counted.Goals as goal

pub returns : goal.returns
returns g c = λ f a p kind. count-changed f p a kind
