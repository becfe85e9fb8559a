use Rattle.std.proofs.Common.{◌≡◌, sym, ◌∙◌, ap}
use Rattle.row_trees.specs.FoundParts.{sizes_found}
use Rattle.range_rows.specs.NamedBlobs.{target_blob}
use Rattle.range_rows.specs.Judgements.{blocks_found, judged_by, judgement}
use Rattle.range_rows.proofs.GroupLemmas.{refused_early}
use Rattle.range_rows.proofs.JudgementLemmas.{allowed_in_judgement, judged_by_blocks, judged_by_last}
use Rattle.range_rows.proofs.target.Target.judge.Goals as goal

pub returns-in-Some-clause-judged : goal.returns-in-Some-clause-judged
returns-in-Some-clause-judged c =
    let q = c.args.request.now in
    let early = refused_early (sizes_found c.args.self.container) q c.in-Some.refusal (sym c.in-Some.ensures) in
    ap (λ o. judged_by o c.args.self (blocks_found c.args.self.container q)) (sym early)

pub returns-in-Refused-clause-judged : goal.returns-in-Refused-clause-judged
returns-in-Refused-clause-judged c =
    let p = sizes_found c.args.self.container in
    let seen = c.named.ensures.value ∙ ap (target_blob c.args.self.container) c.ask.ensures.value in
    let sizes = c.named.ensures.sizes ∙ ap (target_blob p) c.ask.ensures.value in
    judged_by_blocks c.args.self c.args.request.now (sym c.in_default.ensures) c.named.result.now seen c.in_ok-blocks.blocks (c.in_ok-blocks.ensures.judged p sizes)
    c.in-Refused.refusal c.in-Refused.is

pub returns-in-Found-clause-judged : goal.returns-in-Found-clause-judged
returns-in-Found-clause-judged c =
    let p = sizes_found c.args.self.container in
    let seen = c.named.ensures.value ∙ ap (target_blob c.args.self.container) c.ask.ensures.value in
    let sizes = c.named.ensures.sizes ∙ ap (target_blob p) c.ask.ensures.value in
    judged_by_last c.args.self c.args.request.now (sym c.in_default.ensures) c.named.result.now seen c.in_ok-blocks.blocks (c.in_ok-blocks.ensures.judged p sizes)
    c.in-Found.found c.last_judged.result c.in-Found.is c.last_judged.ensures

pub returns-in-Found-clause-allowed : goal.returns-in-Found-clause-allowed
returns-in-Found-clause-allowed c =
    let p = sizes_found c.args.self.container in
    let seen = c.named.ensures.value ∙ ap (target_blob c.args.self.container) c.ask.ensures.value in
    let sizes = c.named.ensures.sizes ∙ ap (target_blob p) c.ask.ensures.value in
    let judged : c.last_judged.result ≡ judgement c.args.self c.args.request.now =
    judged_by_last c.args.self c.args.request.now (sym c.in_default.ensures) c.named.result.now seen c.in_ok-blocks.blocks (c.in_ok-blocks.ensures.judged p sizes)
    c.in-Found.found c.last_judged.result c.in-Found.is c.last_judged.ensures in
    allowed_in_judgement c.args.self c.args.request.now c.requires.target c.last_judged.result judged
