use Rattle.base64_text.proofs.DecodingLemmas.{same_bytes}
use Rattle.hmac_sign.proofs.laws.different_bytes_have_different_texts.Goals as goal

pub returns : goal.returns
returns c = λ bytes others are_bytes others_are_bytes same_text. same_bytes bytes others are_bytes others_are_bytes same_text
