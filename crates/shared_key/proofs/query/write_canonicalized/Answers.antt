use Rattle.std.proofs.Common.{◌∙◌, ap, map, List, ◌≡◌, None}
use Rattle.shared_key.specs.Parameters.{pair_of, pairs_text}
use Rattle.shared_key.specs.Strings.{field_pair, canonicalized_query}
use Rattle.shared_key.proofs.Gathered.{pairs_text_arranged}
use Rattle.shared_key.proofs.query.write_canonicalized.Goals as goal

pub returns : goal.returns
returns c =
    let same : pairs_text None (map pair_of c.deref.result.now) ≡ canonicalized_query c.args.query.now =
    ap (λ (ps : List _). pairs_text None (map pair_of ps)) c.deref.ensures.value ∙ ap (pairs_text None) c.in_ok-parameters.ensures ∙ pairs_text_arranged (map field_pair c.args.query.now) in
    rw same at c.write_arranged.ensures
