use Rattle.std.proofs.Common.{◌≡◌, Err, sym, subst, rules}
use Rattle.moment_text.specs.declared.fault.TimeFault.TheVariants.{Form}
use Rattle.moment_text.specs.IsoReader.{iso_moment}
use Rattle.moment_text.proofs.IsoMoment.{IsIsoMoment, iso_moment_is}
use Rattle.moment_text.proofs.iso.read_iso.Goals as goal

pub returns-in_default : goal.returns-in_default
returns-in_default c =
    let text = c.args.text.now in
    let value : Err Form ≡ iso_moment text = search rules in
    let facts = subst (IsIsoMoment text) (sym value) (iso_moment_is text) in
    record { read = facts.read; complete = facts.complete; form = facts.form; range = facts.range; no_memory = facts.no_memory; value = value }

pub returns : goal.returns
returns c =
    let text = c.args.text.now in
    let value : c.ok_or.result ≡ iso_moment text = search rules in
    let facts = subst (IsIsoMoment text) (sym value) (iso_moment_is text) in
    record { read = facts.read; complete = facts.complete; form = facts.form; range = facts.range; no_memory = facts.no_memory; value = value }
