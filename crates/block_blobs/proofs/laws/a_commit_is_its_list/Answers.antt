use Rattle.std.proofs.Common.{Some, ap}
use Rattle.std.specs.FinMap as finite
use Rattle.block_blobs.proofs.ListLemmas.{first_absent-found_entries, length-found_entries, length-taken_blocks, taken_blocks-alike, taken_fault-found_entries}
use Rattle.block_blobs.proofs.laws.a_commit_is_its_list.Goals as goal

pub returns-clause-found : goal.returns-clause-found
returns-clause-found g c = λ b ws all. length-found_entries b ws all

pub returns-clause-there : goal.returns-clause-there
returns-clause-there g c = λ b ws. first_absent-found_entries b ws

pub returns-clause-fits : goal.returns-clause-fits
returns-clause-fits g c = λ b ws fits. taken_fault-found_entries b ws fits

pub returns-clause-count : goal.returns-clause-count
returns-clause-count g c = λ n a b all. ap Some (length-taken_blocks b a.entries all)

pub returns-clause-alike : goal.returns-clause-alike
returns-clause-alike g c = λ n a b d alike i. record {
  committed = Some (record { etag = n; made = a.moment; props = a.props; metadata = a.metadata; blocks = taken_blocks-alike b d a.entries alike i });
  uncommitted = finite.empty;
}
