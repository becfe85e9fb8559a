-- The parts of a head, by the spans of its bytes that the crate `httparse` answers.
use Rattle.std.specs.Prelude.{ℕ, List, map, take}
use Rattle.httparse.specs.Spans.{span_bytes}
use Rattle.httparse.specs.declared.spans.HeaderSpan.{HeaderSpan}
use Rattle.httparse.specs.declared.spans.RequestSpans.{RequestSpans}
use Rattle.stamp_values.specs.declared.signing.Field.{Field}
use Rattle.request_form.specs.HeadFields.{signed_headers, authorization_values}
use Rattle.request_form.specs.Targets.{lowered}
use Rattle.request_form.specs.Heads.{version_of}
use Rattle.request_form.specs.HeadParts.{HeadParts}

-- the header at these spans, its name in lower case
abbrev pub field_at : List ℕ → HeaderSpan → Field
field_at text h = record { name = lowered (span_bytes text h.name); value = span_bytes text h.value }

-- the headers at the spans that were filled
abbrev pub fields_at : List ℕ → List HeaderSpan → List Field
fields_at text headers = map (field_at text) headers

-- the parts at these spans
unfoldable pub parts_at : List ℕ → List HeaderSpan → RequestSpans → HeadParts
parts_at text headers r = record {
  method = span_bytes text r.method;
  target = span_bytes text r.path;
  version = version_of r.version;
  fields = signed_headers (fields_at text (take r.headers headers));
  authorization = authorization_values (fields_at text (take r.headers headers));
}
