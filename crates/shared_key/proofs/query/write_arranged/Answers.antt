use Rattle.std.proofs.Common.{◌∙◌, sym}
use Rattle.std.proofs.lemmas.List.{append-nil, drop_all}
use Rattle.shared_key.proofs.query.write_arranged.Goals as goal

pub returns : goal.returns
returns c =
    let done = drop_all c.loop-parameter.parameter-index c.args.parameters.now c.loop-parameter-test.false in
    sym (append-nil c.loop-parameter.out.items) ∙ rw done at c.loop-parameter.invariant
