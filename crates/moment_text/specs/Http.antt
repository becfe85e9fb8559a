-- The dates of HTTP, and the moments that they name (RFC 9110, section 5.6.7).
use Rattle.std.specs.Prelude.{ℕ, ◌*◌, ◌/◌, ◌%◌, List, Option, option_map, Result}
use Rattle.std.specs.Option.{ok_or}
use Rattle.httpdate.specs.Calendar.{weekday}
use Rattle.httpdate.specs.Date.{IsPartsText, parse_secs}
use Rattle.httpdate.specs.Text.{imf_fixdate}
use Rattle.httpdate.specs.Valid.{IsValid, parts_secs}
use Rattle.httpdate.specs.declared.parts.Parts.{Parts}
use Rattle.moment_text.specs.Civil.{civil_date}
use Rattle.moment_text.specs.declared.fault.TimeFault.{TimeFault}
use Rattle.moment_text.specs.declared.fault.TimeFault.TheVariants.{Form}

-- the text shows these numbers in one of the three formats, and the numbers are a date
pub record IsHttpText (text : List ℕ) (p : Parts) : Type 0 where
  pub valid : IsValid p
  pub shown : IsPartsText text p

-- steps of 100 ns since the start of 1970
abbrev pub http_ticks : Parts → ℕ
http_ticks p = parts_secs p * 10_000_000

-- a second as a moment, or a fault of form if there is no second
abbrev pub moment_or_form : Option ℕ → Result ℕ TimeFault
moment_or_form secs = ok_or (option_map (λ s. s * 10_000_000) secs) Form

-- the moment that a text shows, as a function
abbrev pub http_moment : List ℕ → Result ℕ TimeFault
http_moment text = moment_or_form (parse_secs text)

-- the day, the time of day and the weekday of a second since 1970
abbrev pub parts_at : ℕ → Parts
parts_at secs = record {
  year = (civil_date (secs / 86_400)).year;
  mon = (civil_date (secs / 86_400)).month;
  day = (civil_date (secs / 86_400)).day;
  hour = secs % 86_400 / 3_600;
  min = secs % 3_600 / 60;
  sec = secs % 60;
  wday = weekday (secs / 86_400);
}

-- the date of the second in which a moment lies
unfoldable pub http_text : ℕ → List ℕ
http_text moment = imf_fixdate (parts_at (moment / 10_000_000))
