use Rattle.xml_text.specs.WrittenElements.{element_text}
use Rattle.xml_text.specs.WrittenTokens.{field_tokens}
use Rattle.xml_text.proofs.TokensRead.{body_as, field_as}
use Rattle.xml_text.proofs.laws.a_written_element_is_read_as_its_text.Goals as goal

pub returns : goal.returns
returns c = λ name text named clean. body_as (field_tokens name text) (element_text name text) (field_as name text named clean)
