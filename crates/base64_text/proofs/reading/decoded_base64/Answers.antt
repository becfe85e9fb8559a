use Rattle.std.proofs.Common.{sym}
use Rattle.base64.specs.Engines.{standard}
use Rattle.base64_text.proofs.DecodingLemmas.{decoded_some, decoded_none}
use Rattle.base64_text.proofs.reading.decoded_base64.Goals as goal

pub returns-in-Ok-clause-value : goal.returns-in-Ok-clause-value
returns-in-Ok-clause-value c = sym (decoded_some standard c.args.text.now c.in-Ok.bytes.items c.in-Ok.ensures.ok)

pub returns-in-Err-DecodeError-clause-value : goal.returns-in-Err-DecodeError-clause-value
returns-in-Err-DecodeError-clause-value c = sym (decoded_none standard c.args.text.now c.decode.result c.in-Err-DecodeError.field-0 c.in-Err-DecodeError.field-0-0 c.decode.ensures.err c.in-Err-DecodeError.is c.in-Err-DecodeError.field-0-is)
