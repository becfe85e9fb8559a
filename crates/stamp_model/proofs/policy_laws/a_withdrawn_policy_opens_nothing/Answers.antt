use Rattle.stamp_model.proofs.PolicyLemmas.{refused-withdrawn}
use Rattle.stamp_model.proofs.policy_laws.a_withdrawn_policy_opens_nothing.Goals as goal

pub returns : goal.returns
returns c = λ pairs key front rest e id legal withdraws none keys q t token asks reads named some. refused-withdrawn pairs key front rest e id legal withdraws none keys q t token asks reads named some
