use Rattle.xml_text.proofs.EscapeLemmas.{read_back}
use Rattle.xml_text.proofs.laws.what_is_escaped_is_read_back.Goals as goal

pub returns : goal.returns
returns c = read_back
