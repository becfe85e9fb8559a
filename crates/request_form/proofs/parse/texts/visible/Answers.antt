use Rattle.std.proofs.Common.{string_bytes, true≢false, sym, ◌∙◌}
use Rattle.request_form.proofs.TextLemmas.{not_utf8, not_clean}
use Rattle.request_form.proofs.parse.texts.visible.Goals as goal

pub returns-in_default : goal.returns-in_default
returns-in_default c = not_utf8 c.args.bytes.now c.in_default.ensures.cases.0

pub returns-in-None : goal.returns-in-None
returns-in-None c =
    not_clean c.args.bytes.now (string_bytes c.in_ok-from_str.field-0) (c.in_ok-from_str.ensures.ok ∙ c.in-Ok.ensures.cases.0) (λ clean. true≢false (sym (c.in-None.ensures.valid.1 clean)))
