use Rattle.std.proofs.Common.{◌≡◌, ◌++◌, drop}
use Rattle.request_form.specs.HeadFields.{signed_headers, authorization_values}
use Rattle.request_form.specs.HeadSpans.{fields_at}
use Rattle.request_form.proofs.parse.head_parts.read_headers.Given as goal

-- what was read and what is left are the whole
abbrev pub invariant-loop-header : goal.invariant-loop-header
invariant-loop-header l =
    (l.fields ++ signed_headers (fields_at l.text (drop l.header-index l.headers)) ≡ signed_headers (fields_at l.text l.headers))
    × (l.authorization.items ++ authorization_values (fields_at l.text (drop l.header-index l.headers)) ≡ authorization_values (fields_at l.text l.headers))
