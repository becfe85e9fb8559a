-- The parts of a head are those of the grammar, and no part is longer than the head.
use Rattle.std.proofs.Common.{◌≡◌, ℕ, ◌+◌, ◌≤◌, List, [], ◌∷◌, ◌++◌, length, map, take, sym, ap, ◌∙◌, subst, arith, cond, true, false, not}
use Rattle.std.specs.Prelude.{reverse, IsUtf8}
use Rattle.std.specs.Char.{to_ascii_lowercase}
use Rattle.std.specs.List.{flat_map}
use Rattle.std.proofs.lemmas.List.{length-append, length-map, length-reverse}
use Rattle.std.proofs.lemmas.List.Sums.{sum_by-cons}
use Rattle.std.proofs.lemmas.Simd.{map-map}
use Rattle.httparse.specs.Grammar.{RequestHead, Field, print_field, print_blank, print_version, print_end, print_section, field_value, trim_ows, skip_ows, is_ows}
use Rattle.httparse.proofs.GrammarLemmas.{print_request-append}
use Rattle.httparse.specs.Spans.{IsRequestAt, header_bytes, name_and_value}
use Rattle.httparse.specs.declared.spans.HeaderSpan.{HeaderSpan}
use Rattle.httparse.specs.declared.spans.RequestSpans.{RequestSpans}
use Rattle.stamp_values.specs.declared.signing.Field.{Field as Header}
use Rattle.stamp_values.specs.Fields.{field_len, fields_len}
use Rattle.request_form.specs.HeadFields.{is_authorization, signed_headers, authorization_values}
use Rattle.request_form.specs.Targets.{lowered}
use Rattle.request_form.specs.Heads.{IsHead, parsed_of, parsed_field, version_of}
use Rattle.request_form.specs.HeadSpans.{field_at, parts_at}
use Rattle.request_form.specs.HeadParts.{HeadParts}

-- a header of a name and a value
abbrev header_of : List ℕ × List ℕ → Header
header_of p = record { name = lowered p.0; value = p.1 }

-- the parts at the spans of a head are those of the head
pub parts_are : {text : List ℕ} {headers : List HeaderSpan} {r : RequestSpans} {h : RequestHead} {p : HeadParts} → IsRequestAt text headers r h → p ≡ parts_at text headers r → p ≡ parsed_of h
unfolding parts_at parsed_of
parts_are {text} {headers} {r} {h} {p} at is =
    let fields : map (field_at text) (take r.headers headers) ≡ map parsed_field h.fields =
    sym (map-map header_of (header_bytes text) (take r.headers headers)) ∙ ap (map header_of) at.fields ∙ map-map header_of name_and_value h.fields in
    is ∙ (λ i. record { method = at.method i; target = at.path i; version = version_of (at.version i); fields = signed_headers (fields i); authorization = authorization_values (fields i) })

-- a text without its white space is not longer
skip_shortens : (bytes : List ℕ) → length (skip_ows bytes) ≤ length bytes
skip_shortens [] = omega arith
skip_shortens (b ∷ bytes) =
    let rest = skip_shortens bytes in
    elim (is_ows b) as (λ t. length (cond t (skip_ows bytes) (b ∷ bytes)) ≤ length (b ∷ bytes)) [
      | true ↦ omega arith
      | false ↦ omega arith
    ]

trim_shortens : (bytes : List ℕ) → length (trim_ows bytes) ≤ length bytes
unfolding trim_ows
trim_shortens bytes =
    omega (arith, length-reverse (skip_ows (reverse (skip_ows bytes))), skip_shortens (reverse (skip_ows bytes)), length-reverse (skip_ows bytes), skip_shortens bytes)

-- names and values are not longer than the lines
fields_shorter : (fields : List Field) → fields_len (map parsed_field fields) ≤ length (flat_map print_field fields)
fields_shorter [] = omega arith
fields_shorter (f ∷ fields) =
    let name = length-map f.name to_ascii_lowercase in
    let value = trim_shortens f.raw in
    let rest = fields_shorter fields in
    let sum : fields_len (map parsed_field (f ∷ fields)) ≡ length (lowered f.name) + length (field_value f) + fields_len (map parsed_field fields) = sum_by-cons field_len (parsed_field f) (map parsed_field fields) in
    let lines : length (flat_map print_field (f ∷ fields)) ≡ length (print_field f) + length (flat_map print_field fields) = length-append (print_field f) (flat_map print_field fields) in
    omega (arith, name, value, rest, sum, lines, length-append (f.name ++ 58 ∷ f.raw) (print_end f.end), length-append f.name (58 ∷ f.raw))

-- the headers that are signed have no more bytes than all headers
signed_fewer : (fields : List Header) → fields_len (signed_headers fields) ≤ fields_len fields
unfolding signed_headers
signed_fewer [] = omega arith
signed_fewer (f ∷ fields) =
    let rest = signed_fewer fields in
    let all = sum_by-cons field_len f fields in
    let kept = sum_by-cons field_len f (signed_headers fields) in
    elim (is_authorization f) as (λ t. fields_len (cond (not t) (f ∷ signed_headers fields) (signed_headers fields)) ≤ fields_len (f ∷ fields)) [
      | true ↦ omega arith
      | false ↦ omega arith
    ]

-- the bytes of a head, part by part
bytes_of : (text : List ℕ) (h : RequestHead) → IsHead text h → text ≡ print_blank h.blank ++ (h.method ++ 32 ∷ (h.target ++ 32 ∷ (print_version h.minor ++ (print_end h.line_end ++ (print_section h.fields h.last ++ [])))))
bytes_of text h is = is.reads.1 ∙ print_request-append h []

-- the names and values of a head are not longer than the limit of a head
pub fields_fit : {text : List ℕ} {h : RequestHead} {p : HeadParts} → IsHead text h → p ≡ parsed_of h → fields_len p.fields ≤ 16384
unfolding parsed_of
fields_fit {text} {h} {p} is same =
    let bytes = simp length-append at (ap length (bytes_of text h is)) in
    let short = is.short in
    let sum = ap (λ (p : HeadParts). fields_len p.fields) same in
    omega (arith, signed_fewer (map parsed_field h.fields), fields_shorter h.fields, bytes, short, sum)

-- the target of a head is a text, and is not longer than the limit of a head
pub target_fits : {text : List ℕ} {h : RequestHead} {p : HeadParts} → IsHead text h → p ≡ parsed_of h → (length p.target ≤ 16384) × IsUtf8 p.target
unfolding parsed_of
target_fits {text} {h} {p} is same =
    let bytes = simp length-append at (ap length (bytes_of text h is)) in
    let short = is.short in
    let whole = ap (λ (p : HeadParts). p.target) same in
    (omega (arith, bytes, short, ap length whole), subst IsUtf8 (sym whole) is.reads.0.target_text)
