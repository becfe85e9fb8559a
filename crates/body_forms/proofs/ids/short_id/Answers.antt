use Rattle.std.proofs.Common.{arith}
use Rattle.body_forms.proofs.ShortIds.{short_read}
use Rattle.body_forms.proofs.ids.short_id.Goals as goal

pub returns-in-Ok-clause-read : goal.returns-in-Ok-clause-read
returns-in-Ok-clause-read c =
    short_read c.args.text.now _ c.id_of_bytes.result (λ i. let fits = c.type_inv.text i in omega arith) c.in-Ok.ensures.ok.0 c.id_of_bytes.ensures
