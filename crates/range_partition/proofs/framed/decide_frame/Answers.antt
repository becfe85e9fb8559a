use Rattle.std.proofs.Common.{◌≡◌, Option, rules, ap, ◌∙◌, subst}
use Rattle.std.specs.Prelude.{IfOk}
use Rattle.std.specs.Option.{option_copied}
use Rattle.stamp_types.specs.declared.refusal.Refusal.{Refusal}
use Rattle.row_trees.specs.FoundParts.{sizes_found}
use Rattle.range_rows.specs.Judgements.{blocks_found}
use Rattle.range_rows.specs.RequestChanges.{change_of}
use Rattle.range_partition.specs.Decisions.{framed_by, row_answer}
use Rattle.range_partition.proofs.DecisionLemmas.{refusal_allowed, refusal_denied}
use Rattle.range_partition.proofs.framed.decide_frame.Goals as goal

pub returns-in-Deny-clause-decided : goal.returns-in-Deny-clause-decided
returns-in-Deny-clause-decided c =
    let p = c.args.target.container in
    let q = c.args.asked.now.request.now in
    let t = c.args.asked.now.moment in
    let denied = refusal_denied (option_copied c.args.keys) p q t c.in-Deny.rule (search rules) in
    search rules ∙ ap (λ o. framed_by o (row_answer c.args.rows.now p q t (option_copied c.args.bound)) (change_of (sizes_found p) q t) (blocks_found p q).blocks) denied

pub returns-in-Allow-clause-decided : goal.returns-in-Allow-clause-decided
returns-in-Allow-clause-decided c =
    let p = c.args.target.container in
    let q = c.args.asked.now.request.now in
    let t = c.args.asked.now.moment in
    let allowed = refusal_allowed (option_copied c.args.keys) p q t c.in-Allow._way (search rules) in
    subst (λ (o : Option Refusal). IfOk c.permitted.result (λ given. given ≡ framed_by o (row_answer c.args.rows.now p q t (option_copied c.args.bound)) (change_of (sizes_found p) q t) (blocks_found p q).blocks)) allowed c.permitted.ensures.decided
