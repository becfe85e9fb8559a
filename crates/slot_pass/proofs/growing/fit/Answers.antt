use Rattle.std.proofs.Common.{◌∙◌, List, subst}
use Rattle.stamp_types.specs.declared.past.Past.{Past}
use Rattle.slot_pass.specs.Spares.{AgreesAt}
use Rattle.slot_pass.proofs.SpareLemmas.{stays}
use Rattle.slot_pass.proofs.growing.fit.Goals as goal

pub returns : goal.returns
returns c =
    c.cut-2.ensures
    ∙ stays c.args.known c.args.front.now c.args.history.now c.requires
    (subst (λ (l : List Past). AgreesAt l c.args.history.now c.args.known) c.as_slice.ensures (c.is_other.ensures.same c.if-is_other.false))
