use Rattle.std.proofs.Common.{◌∙◌, subst, IsUtf8}
use Rattle.stamp_values.proofs.Utf8Lemmas.{utf8_passes}
use Rattle.body_forms.proofs.written_policies.append_id.Goals as goal

pub returns-clause-kept : goal.returns-clause-kept
returns-clause-kept c = λ _. utf8_passes c.args.id.now (subst IsUtf8 (c.as_bytes.ensures.value ∙ c.as_str.ensures.value) c.as_bytes.ensures.utf8)
