use Rattle.std.proofs.Common.{◌≡◌, rules, ap, ◌∙◌}
use Rattle.range_rows.specs.FoundParts.{pieces_found_after, sizes_found_after}
use Rattle.range_rows.specs.Frames.{frame}
use Rattle.range_rows.specs.Replaced.{Replaced}
use Rattle.stamp_model.specs.Overrides.{overrides_of}
use Rattle.range_partition.proofs.DecisionLemmas.{fits_memory}
use Rattle.range_partition.proofs.framed.answer_found.Goals as goal

pub returns-clause-found : goal.returns-clause-found
returns-clause-found c =
    let q = c.args.asked.now.request.now in
    let replaced : c.replacements-replaced.result ≡ overrides_of q.ask = search rules in
    let framed = c.in_ok-answer.ensures.frame ∙ ap (λ (v : Replaced). frame v (sizes_found_after c.args.allowed.now.target.container q c.args.asked.now.moment) q) replaced in
    λ i. record { frame = framed i; spans = c.in_ok-answer.ensures.spans i }

pub returns-clause-sent : goal.returns-clause-sent
returns-clause-sent c =
    let answer = c.in_ok-answer.answer in
    let q = c.args.asked.now.request.now in
    let replaced : c.replacements-replaced.result ≡ overrides_of q.ask = search rules in
    record {
      within = c.in_ok-answer.ensures.within;
      short =
          fits_memory (overrides_of q.ask) answer.frame (sizes_found_after c.args.allowed.now.target.container q c.args.asked.now.moment) (pieces_found_after c.args.allowed.now.target.container q c.args.asked.now.moment) q answer.spans
          (c.in_ok-answer.ensures.frame ∙ ap (λ (v : Replaced). frame v (sizes_found_after c.args.allowed.now.target.container q c.args.asked.now.moment) q) replaced)
          c.in_ok-answer.ensures.spans c.in_ok-answer.ensures.short;
    }
