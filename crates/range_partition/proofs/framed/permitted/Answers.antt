use Rattle.std.proofs.Common.{◌≡◌, rules}
use Rattle.std.specs.Option.{option_copied}
use Rattle.range_rows.specs.Judgements.{judgement}
use Rattle.range_rows.specs.declared.judged.ObjectVerdict.TheVariants as judged
use Rattle.range_rows.proofs.JudgementLemmas.{refusal_of_judgement}
use Rattle.range_partition.proofs.DecisionLemmas.{given_allowed, object_refused}
use Rattle.range_partition.proofs.framed.permitted.Goals as goal

pub returns-in-Refused-clause-decided : goal.returns-in-Refused-clause-decided
returns-in-Refused-clause-decided c =
    let t = c.args.target in
    let q = c.args.asked.now.request.now in
    let is : judged.Refused c.in-Refused.refusal ≡ judgement t q = search rules in
    object_refused c.args.listed.now.rows.now q c.args.asked.now.moment (option_copied c.args.listed.now.bound) t.container c.in-Refused.refusal (refusal_of_judgement t q (judged.Refused c.in-Refused.refusal) is)

pub returns-in-Allowed-clause-decided : goal.returns-in-Allowed-clause-decided
returns-in-Allowed-clause-decided c =
    let t = c.args.target in
    let q = c.args.asked.now.request.now in
    given_allowed c.args.listed.now.rows.now q c.args.asked.now.moment (option_copied c.args.listed.now.bound) c.in-Allowed.allowed t c.answered.result (search rules) (search rules) c.answered.ensures.given
