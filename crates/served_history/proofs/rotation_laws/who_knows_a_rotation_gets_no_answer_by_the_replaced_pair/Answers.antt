use Rattle.std.proofs.Common.{ap, sym, ◌∙◌, ◌++◌}
use Rattle.stamp_types.specs.declared.reply.Reply.{Reply}
use Rattle.stamp_model.proofs.ReplyLemmas.{reply-admits}
use Rattle.stamp_model.specs.SeenContainers.{routed}
use Rattle.served_history.specs.Histories.{bound_at, pair_for, world_left}
use Rattle.served_history.proofs.PairLemmas.{epoch_kept, key_stays_out}
use Rattle.served_history.proofs.RotationLemmas.{own_before, replaced_by}
use Rattle.served_history.proofs.rotation_laws.who_knows_a_rotation_gets_no_answer_by_the_replaced_pair.Goals as goal

pub returns-clause-epoch : goal.returns-clause-epoch
returns-clause-epoch c = λ known known' q t reply turn first all.
    epoch_kept (routed q) q.ask.key.account known turn.others first (own_before known known' q t reply turn all)

pub returns-clause-replaced : goal.returns-clause-replaced
returns-clause-replaced c = λ known known' q t reply turn first all key apart none.
    key_stays_out (routed q) q.ask.key.account known turn.others first (own_before known known' q t reply turn all) key none apart

pub returns-clause-entered : goal.returns-clause-entered
returns-clause-entered c = λ known known' q t reply turn first all front rest slot which new old key is has there apart none later.
    key_stays_out (routed q) q.ask.key.account known turn.others first (own_before known known' q t reply turn all) key later
    (replaced_by known front rest slot q.ask.key.account which new (routed q) old key first is has there apart none)

pub returns-clause-admitted : goal.returns-clause-admitted
returns-clause-admitted c = λ known known' q t reply turn none.
    reply-admits (pair_for (known ++ turn.others) (routed q) q.ask.key.account) (world_left (known ++ turn.others)) q t (bound_at (known ++ turn.others) (routed q))
    (ap (λ (r : Reply). r.rule) (sym turn.replied) ∙ none)
