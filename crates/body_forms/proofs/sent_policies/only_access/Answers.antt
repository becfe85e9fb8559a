use Rattle.std.proofs.Common.{refl}
use Rattle.body_forms.proofs.AbsentLemmas.{no_part}
use Rattle.body_forms.proofs.sent_policies.only_access.Goals as goal

pub returns : goal.returns
returns c = no_part _ c.loop-left.left.now _ refl c.loop-left.invariant c.in_default.len_below
