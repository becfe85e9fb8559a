-- Refusals, and replies with a text ("Status and Error Codes" of the Blob service REST reference, 2012-02-12; RFC 9110, sections 15.3.1, 15.4.5 and 15.5).
use Rattle.std.specs.Prelude.{ℕ, Some, None, List, [], ◌∷◌, ◌++◌, length, codes, if◌then◌else◌}
use Rattle.stamp_types.specs.Codes.{code_text, code_status, has_error_body}
use Rattle.stamp_types.specs.Rules.{rule_label}
use Rattle.stamp_types.specs.declared.code.Code.{Code}
use Rattle.stamp_types.specs.declared.header.Header.{Header}
use Rattle.stamp_types.specs.declared.header.Header.TheVariants.{ContentType}
use Rattle.stamp_types.specs.declared.refusal.Refusal.{Refusal}
use Rattle.stamp_types.specs.declared.reply.Reply.{Reply}
use Rattle.stamp_types.specs.declared.rule.Rule.{Rule}
use Rattle.stamp_types.specs.declared.status.Status.TheVariants.{Success}

-- the XML that names the code, and the rule in its message
unfoldable pub error_body : Code → Rule → List ℕ
error_body code rule =
    codes "<?xml version=\"1.0\" encoding=\"utf-8\"?><Error><Code>" ++ code_text code
    ++ codes "</Code><Message>Refused by rule " ++ rule_label rule ++ codes ".</Message></Error>"

-- the reply to a refusal that has these headers and this body
abbrev pub refusal_reply : Refusal → List Header → List ℕ → Reply
refusal_reply r headers body = record {
  status = code_status r.code;
  code = Some r.code;
  rule = Some r.rule;
  headers = headers;
  length = length body;
  body = body;
}

-- the reply to a request that is refused: the error in XML, if the code has an error body
abbrev pub denied : Refusal → Reply
denied r =
    if has_error_body r.code then refusal_reply r (ContentType (codes "application/xml") ∷ []) (error_body r.code r.rule)
    else refusal_reply r [] []

-- the header of a body in XML
abbrev pub xml_header : Header
xml_header = ContentType (codes "application/xml")

-- a reply that refuses nothing, with this text as its body
abbrev pub text_reply : List Header → List ℕ → Reply
text_reply headers text = record { status = Success; code = None; rule = None; headers = headers; length = length text; body = text }
