use Rattle.xml_text.proofs.TextElements.{element_read, element_sound}
use Rattle.xml_text.proofs.laws.an_element_of_a_text_is_read_as_the_grammar_says.Goals as goal

pub returns-clause-read : goal.returns-clause-read
returns-clause-read c = element_read

pub returns-clause-written : goal.returns-clause-written
returns-clause-written c = element_sound
