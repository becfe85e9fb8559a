-- Replies that are always the same (RFC 9110, sections 15.2.1 and 15.6.1; RFC 9112, section 4).
use Rattle.std.specs.Prelude.{ℕ, true, Some, List, ◌++◌, codes}
use Rattle.reply_form.specs.ReplyBytes.{status_line, rule_line, connection_line, length_line}
use Rattle.stamp_types.specs.declared.rule.Rule.TheVariants.{M1}
use Rattle.stamp_types.specs.declared.status.Status.TheVariants.{InternalServerError}

-- the interim reply: a status line, and the empty line
abbrev pub interim_bytes : List ℕ
interim_bytes = codes "HTTP/1.1 100 Continue\r\n" ++ codes "\r\n"

-- the reply that is given if memory runs out for a reply: it has no date and no version
abbrev pub out_of_memory_bytes : List ℕ
out_of_memory_bytes =
    status_line InternalServerError ++ connection_line true ++ rule_line (Some M1)
    ++ length_line InternalServerError 0 ++ codes "\r\n"
