use Rattle.log_record.proofs.SizeLemmas.{record_within}
use Rattle.log_record.proofs.laws.a_placed_record_fits_a_block.Goals as goal

pub returns : goal.returns
returns c = record_within
