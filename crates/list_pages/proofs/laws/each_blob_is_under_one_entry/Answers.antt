use Rattle.list_pages.proofs.Under.{committed_name, each_of_names, names_alone}
use Rattle.list_pages.proofs.laws.each_blob_is_under_one_entry.Goals as goal

pub returns : goal.returns
returns c = record {
  under = λ q p name some begins. committed_name q p name some begins;
  of_names = λ q p. each_of_names q p;
  names = λ q p none. names_alone q p none;
}
