use Rattle.xml_text.proofs.Complete.{tag_read}
use Rattle.xml_text.proofs.Sound.{tag_sound}
use Rattle.xml_text.proofs.laws.a_tag_is_read_as_the_grammar_says.Goals as goal

pub returns-clause-read : goal.returns-clause-read
returns-clause-read c = tag_read

pub returns-clause-written : goal.returns-clause-written
returns-clause-written c = λ tag text rest. tag_sound text rest tag
