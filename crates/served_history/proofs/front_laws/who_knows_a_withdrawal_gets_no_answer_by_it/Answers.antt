use Rattle.std.proofs.Common.{ap, ◌∙◌, ◌++◌}
use Rattle.std.specs.FinMap as finite
use Rattle.stamp_types.specs.declared.reply.Reply.{Reply}
use Rattle.served_history.specs.Histories.{served_requests, timed_at}
use Rattle.stamp_model.proofs.WithdrawnLemmas.{refused_withdrawn}
use Rattle.served_history.proofs.front_laws.who_knows_a_withdrawal_gets_no_answer_by_it.Goals as goal

pub returns : goal.returns
returns c = λ known known' q t reply front rest e id token turn is withdraws none asks reads named some.
    let r = refused_withdrawn finite.empty (served_requests (known ++ turn.others)) front rest e id (timed_at (known ++ turn.others) q t) token is withdraws none asks reads named some in
    (r.0, (r.1.0, ap (λ (x : Reply). x.rule) turn.replied ∙ r.1.1))
