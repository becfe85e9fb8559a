-- The bytes of replies that are always the same.
use Rattle.std.proofs.Common.{◌≡◌, codes, refl}
use Rattle.std.specs.Fmt.{digits}
use Rattle.reply_form.specs.HeaderLines.{line}
use Rattle.reply_form.specs.ReplyBytes.{status_line, phrase}
use Rattle.reply_form.specs.FixedReplies.{out_of_memory_bytes}

-- the bytes of the reply, written out
pub out_of_memory_is : codes "HTTP/1.1 500 Internal Server Error\r\nConnection: close\r\nx-stamp-rule: M1\r\nContent-Length: 0\r\n\r\n" ≡ out_of_memory_bytes
unfolding line status_line phrase digits
out_of_memory_is = refl
