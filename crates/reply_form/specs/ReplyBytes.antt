-- Replies as bytes (RFC 9112, sections 4, 6.1 and 9.6; RFC 9110, sections 6.6.1, 9.3.2, 15 and 15.4.5).
use Rattle.std.specs.Prelude.{ℕ, Bool, true, false, Option, Some, None, List, [], ◌++◌, codes, decimal, flat_map, unwrap_or, ◌||◌, not, if◌then◌else◌}
use Rattle.http.specs.StatusCode.{reason_phrase}
use Rattle.reply_form.specs.HeaderLines.{line, reply_line}
use Rattle.moment_text.specs.Http.{http_text}
use Rattle.stamp_types.specs.Rules.{rule_label}
use Rattle.stamp_types.specs.Statuses.{status_number}
use Rattle.stamp_types.specs.declared.reply.Reply.{Reply}
use Rattle.stamp_types.specs.declared.rule.Rule.{Rule}
use Rattle.stamp_types.specs.declared.status.Status.{Status}
use Rattle.stamp_types.specs.declared.status.Status.TheVariants.{NotModified}
use Rattle.stamp_values.specs.declared.verb.Verb.{Verb}
use Rattle.stamp_values.specs.declared.verb.Verb.TheVariants.{Head}

-- the standard phrase of a status
unfoldable pub phrase : Status → List ℕ
phrase status = unwrap_or (reason_phrase (status_number status)) []

-- the version of HTTP, the number of the status, the phrase of the status
unfoldable pub status_line : Status → List ℕ
status_line status = codes "HTTP/1.1 " ++ decimal (status_number status) ++ codes " " ++ phrase status ++ codes "\r\n"

-- the line of the rule that refused, if a rule refused
abbrev pub rule_line : Option Rule → List ℕ
rule_line None = []
rule_line (Some rule) = line (codes "x-stamp-rule") (rule_label rule)

-- the line that says that the connection ends, if it ends
abbrev pub connection_line : Bool → List ℕ
connection_line false = []
connection_line true = line (codes "Connection") (codes "close")

-- whether the status is 304
abbrev pub is_not_modified : Status → Bool
is_not_modified NotModified = true
is_not_modified other = false

-- whether the verb is HEAD
abbrev pub is_head : Option Verb → Bool
is_head (Some Head) = true
is_head other = false

-- the line of the length that the reply gives; a reply of 304 has no such line
abbrev pub length_line : Status → ℕ → List ℕ
length_line status length = if is_not_modified status then [] else line (codes "Content-Length") (decimal length)

-- whether the body is sent: a reply of 304 and a reply to HEAD send no body
abbrev pub sends_body : Status → Option Verb → Bool
sends_body status verb = not (is_not_modified status || is_head verb)

-- the body, if it is sent
abbrev pub sent_body : Status → Option Verb → List ℕ → List ℕ
sent_body status verb body = if sends_body status verb then body else []

-- a reply up to and including the empty line, in the order of its lines
unfoldable pub head_bytes : Reply → ℕ → Bool → List ℕ
head_bytes reply moment close =
    status_line reply.status
    ++ line (codes "Date") (http_text moment)
    ++ line (codes "x-ms-version") (codes "2012-02-12")
    ++ rule_line reply.rule
    ++ flat_map reply_line reply.headers
    ++ connection_line close
    ++ length_line reply.status reply.length
    ++ codes "\r\n"

-- the reply to a request of the verb that was judged at the moment
unfoldable pub reply_bytes : Reply → ℕ → Option Verb → Bool → List ℕ
reply_bytes reply moment verb close = head_bytes reply moment close ++ sent_body reply.status verb reply.body
