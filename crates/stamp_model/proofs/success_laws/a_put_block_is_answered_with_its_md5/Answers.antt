use Rattle.stamp_model.proofs.MadeLemmas.{headers-put_block}
use Rattle.stamp_model.proofs.success_laws.a_put_block_is_answered_with_its_md5.Goals as goal

pub returns : goal.returns
returns c = λ w key put puts none. headers-put_block w key put puts none
