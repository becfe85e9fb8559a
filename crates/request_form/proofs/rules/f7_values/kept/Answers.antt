use Rattle.request_form.specs.HeadRules.{has_bad_kept}
use Rattle.request_form.proofs.ValueLemmas.{same_kept}
use Rattle.request_form.proofs.rules.f7_values.kept.Goals as goal

pub returns : goal.returns
unfolding has_bad_kept
returns c = (
  rw (c.in_ok-content_type.ensures.0, c.in_ok-encoding.ensures.0, c.in_ok-language.ensures.0, c.in_ok-cache_control.ensures.0),
  same_kept c.args.takes_plain c.args.fields.now _ c.in_ok-content_type.ensures.1 c.in_ok-encoding.ensures.1 c.in_ok-language.ensures.1 c.in_ok-cache_control.ensures.1 c.requires.md5,
)
