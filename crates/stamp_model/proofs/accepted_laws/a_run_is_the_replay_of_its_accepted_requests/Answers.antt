use Rattle.stamp_model.proofs.AcceptedLemmas.{accepted_at-legal, each-accepted, history-accepted, part_at-run, replay_from-timed}
use Rattle.stamp_model.proofs.accepted_laws.a_run_is_the_replay_of_its_accepted_requests.Goals as goal

pub returns-clause-run : goal.returns-clause-run
returns-clause-run c = λ w key rs. part_at-run key rs w

pub returns-clause-each : goal.returns-clause-each
returns-clause-each c = λ w key rs front r rest is. each-accepted key rs w front r rest is

pub returns-clause-history : goal.returns-clause-history
returns-clause-history c = λ pairs start history. replay_from-timed pairs history start

pub returns-clause-legal : goal.returns-clause-legal
returns-clause-legal c = λ pairs key w history legal. accepted_at-legal pairs key history w legal

pub returns-clause-entries : goal.returns-clause-entries
returns-clause-entries c = λ pairs key w entries rise. history-accepted pairs key w entries rise
