use Rattle.std.proofs.Common.{◌≡◌, ◌<◌, ◌/◌, sym, ◌∙◌, arith}
use Rattle.httpdate.specs.Date.{unix_secs}
use Rattle.httpdate.proofs.Theorems.{date_text_is}
use Rattle.httpdate.proofs.ValidLemmas.{is_valid_complete}
use Rattle.moment_text.specs.Http.{http_text, parts_at}
use Rattle.moment_text.proofs.CivilLemmas.{parts_at_secs, parts_at_valid}
use Rattle.moment_text.proofs.HttpLemmas.{http_moment-http_text}
use Rattle.moment_text.proofs.http_date.write_http.Goals as goal

-- the library's text is the text of the date that counting from day to day gives
text_is : (c : goal.After-to_bytes) → c.to_bytes.result ≡ http_text c.args.moment
unfolding http_text
text_is c =
    let secs = c.args.moment / 10_000_000 in
    let within : secs < 253_402_300_800 = omega (arith, c.ticks.ensures.within) in
    let valid = is_valid_complete (parts_at secs) (parts_at_valid secs within) in
    let second : unix_secs c.in-Ok.date ≡ secs = omega (arith, c.in-Ok.ensures.value, c.ticks.ensures.value) in
    c.to_bytes.ensures ∙ date_text_is c.in-Ok.date (parts_at secs) valid (second ∙ sym (parts_at_secs secs))

pub returns-clause-text : goal.returns-clause-text
returns-clause-text c = text_is c

pub returns-clause-read_back : goal.returns-clause-read_back
returns-clause-read_back c = rw (text_is c) (http_moment-http_text c.args.moment c.ticks.ensures.within)
