use Rattle.body_forms.proofs.ReadAgain.{again_if_ok}
use Rattle.body_forms.proofs.written_policies.write_policies.Goals as goal

pub returns-clause-read_again : goal.returns-clause-read_again
returns-clause-read_again c =
    again_if_ok _ c.args.policies.now c.as_slice.result.now c.written_policies.result c.as_slice.ensures.value c.as_slice.ensures.valid c.written_policies.ensures.written c.written_policies.ensures.kept
