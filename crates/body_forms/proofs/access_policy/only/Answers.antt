use Rattle.body_forms.proofs.AbsentLemmas.{no_field}
use Rattle.body_forms.proofs.access_policy.only.Goals as goal

pub returns : goal.returns
returns c = no_field c.args.wanted c.loop-left.left.now _ c.loop-left.invariant c.in_default.len_below
