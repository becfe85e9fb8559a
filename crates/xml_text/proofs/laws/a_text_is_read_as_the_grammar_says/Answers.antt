use Rattle.xml_text.proofs.TextLemmas.{text_read, text_sound, text_values}
use Rattle.xml_text.proofs.laws.a_text_is_read_as_the_grammar_says.Goals as goal

pub returns-clause-read : goal.returns-clause-read
returns-clause-read c = text_read

pub returns-clause-written : goal.returns-clause-written
returns-clause-written c = text_sound

pub returns-clause-value : goal.returns-clause-value
returns-clause-value c = text_values
