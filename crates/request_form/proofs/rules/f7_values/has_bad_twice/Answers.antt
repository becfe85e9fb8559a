use Rattle.std.proofs.Common.{sym, ◌∙◌}
use Rattle.request_form.proofs.TwiceLemmas.{no_bad_twice}
use Rattle.request_form.proofs.rules.f7_values.has_bad_twice.Goals as goal

pub returns-else-some_name_is_twice : goal.returns-else-some_name_is_twice
returns-else-some_name_is_twice c =
    c.if-some_name_is_twice.false ∙ sym (no_bad_twice c.args.fields.now (sym c.some_name_is_twice.ensures ∙ c.if-some_name_is_twice.false))
