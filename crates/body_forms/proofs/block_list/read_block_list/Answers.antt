use Rattle.std.proofs.Common.{map}
use Rattle.body_forms.specs.declared.body_fault.BodyFault.TheVariants as fault
use Rattle.body_forms.specs.Ids.{wanted_entry}
use Rattle.body_forms.proofs.Readings.{if_ok}
use Rattle.body_forms.proofs.BlockListLemmas.{entries_sound}
use Rattle.body_forms.proofs.FaultLemmas.{form_fault, id_fault, other_fault, fault_of}
use Rattle.body_forms.proofs.block_list.read_block_list.Goals as goal

pub returns-clause-read : goal.returns-clause-read
returns-clause-read c = if_ok _ _ c.wanted_blocks.result c.wanted_blocks.ensures.read (λ ws h. entries_sound c.args.body.now (map wanted_entry ws) h)

pub returns-clause-form : goal.returns-clause-form
returns-clause-form c is = form_fault c.args.body.now (fault_of _ _ _ fault.Form c.wanted_blocks.ensures.value is)

pub returns-clause-id : goal.returns-clause-id
returns-clause-id c is = id_fault c.args.body.now (fault_of _ _ _ fault.Id c.wanted_blocks.ensures.value is)

pub returns-clause-others : goal.returns-clause-others
returns-clause-others c = (
  λ is. other_fault c.args.body.now fault.TooMany (λ e. cc) (λ e. cc) (fault_of _ _ _ fault.TooMany c.wanted_blocks.ensures.value is),
  λ is. other_fault c.args.body.now fault.Letters (λ e. cc) (λ e. cc) (fault_of _ _ _ fault.Letters c.wanted_blocks.ensures.value is),
  λ is. other_fault c.args.body.now fault.Time (λ e. cc) (λ e. cc) (fault_of _ _ _ fault.Time c.wanted_blocks.ensures.value is),
)
