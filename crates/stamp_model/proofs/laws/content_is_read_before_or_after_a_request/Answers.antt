use Rattle.stamp_model.proofs.ContentLemmas.{world_value-effect}
use Rattle.stamp_model.proofs.laws.content_is_read_before_or_after_a_request.Goals as goal

pub returns : goal.returns
returns g c = λ read size other f keys w q t sized. world_value-effect read size other f keys w q t sized
