use Rattle.std.proofs.Common.{◌≡◌, ◌++◌, ◌∷◌, true, Some, ap, sym, subst, ◌∙◌}
use Rattle.stamp_types.specs.World.{part_at}
use Rattle.stamp_model.proofs.AcceptedLemmas.{part_at-run}
use Rattle.stamp_types.specs.declared.rule.Rule.{Rule}
use Rattle.stamp_model.specs.Runs.{reply_to_one}
use Rattle.stamp_model.specs.Withdrawals.{is_before_fields}
use Rattle.core_run.specs.States.{requests, timed_in}
use Rattle.core_run.proofs.AskedLemmas.{asked_so}
use Rattle.core_run.proofs.HeadlineLemmas.{condition_met, etag_one, refused_replies, refused_world, written_read}
use Rattle.core_run.proofs.HistoryLemmas.{leads_so}
use Rattle.core_run.proofs.PlaceLemmas.{has_place}
use Rattle.stamp_model.proofs.WithdrawnLemmas.{refused_withdrawn}
use Rattle.core_run.proofs.laws.the_headline.Goals as goal

pub returns-clause-reply : goal.returns-clause-reply
returns-clause-reply c = λ s m m' s' before n k after xs ys rs ss q t a o first serve then gives.
    has_place xs ys rs ss s m m' s' before n k after q t a o first serve then gives

pub returns-clause-change : goal.returns-clause-change
returns-clause-change c = λ s s' before after steps answers us run is. (leads_so steps answers s s' before after us run is).world

pub returns-clause-container : goal.returns-clause-container
returns-clause-container c = λ s s' before after steps answers us key run is.
    ap (λ w. part_at w key) (leads_so steps answers s s' before after us run is).world ∙ part_at-run key (requests us) s.world

pub returns-clause-asked : goal.returns-clause-asked
returns-clause-asked c = λ s s' before after steps answers us test run sound is asks pass. asked_so test steps answers s s' before after us run asks sound pass is

pub returns-clause-refused : goal.returns-clause-refused
returns-clause-refused c = λ s s' before after steps answers front u rest r rule run is gives named.
    let led = leads_so steps answers s s' before after (front ++ u ∷ rest) run is in
    (refused_world s s' front u rest led r gives rule named, refused_replies s s' front u rest led r gives rule named)

pub returns-clause-read : goal.returns-clause-read
returns-clause-read c = λ s s' before after steps answers front put middle get rest key name p g run is fits puts puts_reply accepted leaves gets whole gets_reply free.
    written_read s s' front put middle get rest key name p g (leads_so steps answers s s' before after (front ++ put ∷ (middle ++ get ∷ rest)) run is) fits puts puts_reply accepted leaves gets whole gets_reply free

pub returns-clause-withdrawn : goal.returns-clause-withdrawn
returns-clause-withdrawn c = λ s s' before after steps answers us front rest e id q t token run is taken withdraws none asks reads named some.
    let led = leads_so steps answers s s' before after us run is in
    subst (λ w. (rule : Rule) × ((is_before_fields rule ≡ true) × ((reply_to_one w (timed_in s' q t)).rule ≡ Some rule))) (sym led.world)
    (refused_withdrawn s.world (requests us) front rest e id (timed_in s' q t) token taken withdraws none asks reads named some)

pub returns-clause-conditional : goal.returns-clause-conditional
returns-clause-conditional c = λ s s' before after steps answers front middle u rest name seen r run is within fits on asks at_first gives free.
    condition_met s s' front middle u rest name seen r (leads_so steps answers s s' before after (front ++ (middle ++ u ∷ rest)) run is) within fits on asks at_first gives free

pub returns-clause-etag : goal.returns-clause-etag
returns-clause-etag c = λ s s' before after steps answers front middle rest key name first last run is within at_first at_last same.
    etag_one s s' front middle rest key name first last (leads_so steps answers s s' before after (front ++ (middle ++ rest)) run is) within at_first at_last same
