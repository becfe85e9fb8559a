-- A date of HTTP names the moment that its numbers give.
use Rattle.std.proofs.Common.{◌≡◌, ◌↔◌, ℕ, ◌*◌, ◌/◌, ◌≤◌, List, Option, Some, None, Result, Ok, Err, IfOk, refl, ap, ◌∙◌, arith, inl}
use Rattle.httpdate.specs.declared.parts.Parts.{Parts}
use Rattle.httpdate.specs.Valid.{is_valid, parts_secs}
use Rattle.httpdate.specs.Date.{valid_secs, parse_secs}
use Rattle.httpdate.specs.Reader.{parse}
use Rattle.httpdate.proofs.ValidLemmas.{is_valid_sound, is_valid_complete}
use Rattle.httpdate.proofs.FormatLemmas.{parse_sound, parse_complete}
use Rattle.httpdate.proofs.OptionLemmas.{cond_some, and_then_some}
use Rattle.moment_text.specs.Http.{moment_or_form, http_moment, http_text, http_ticks, IsHttpText, parts_at}
use Rattle.moment_text.specs.declared.fault.TimeFault.{TimeFault}
use Rattle.moment_text.specs.declared.fault.TimeFault.TheVariants.{Form}
use Rattle.moment_text.proofs.CivilLemmas.{parts_at_secs, parts_at_valid}

-- if a text shows a date, the date is read
http_moment_complete : (text : List ℕ) (p : Parts) → IsHttpText text p → http_moment text ≡ Ok (http_ticks p)
http_moment_complete text p h = rw (parse_complete text p h.valid h.shown, is_valid_complete p h.valid)

-- if a date is read from a text, the text shows the date
shown_by : (text : List ℕ) (secs : ℕ) → parse_secs text ≡ Some secs → (p : Parts) × IsHttpText text p × (parts_secs p ≡ secs)
shown_by text secs found =
    and_then_some valid_secs (parse text) secs found λ p parsed timed.
    let (test, same) = cond_some (is_valid p) (parts_secs p) secs timed in
    (p, record { valid = is_valid_sound p test; shown = parse_sound text p parsed }, same)

-- the clauses of `read_http`
pub record IsHttpMoment (text : List ℕ) (r : Result ℕ TimeFault) : Type 0 where
  pub read : IfOk r (λ m. (p : Parts) × IsHttpText text p × (m ≡ http_ticks p))
  pub complete : (p : Parts) → IsHttpText text p → r ≡ Ok (http_ticks p)
  pub form : (r ≡ Err Form) ↔ ((p : Parts) → ¬ IsHttpText text p)
  pub no_other : (fault : TimeFault) → r ≡ Err fault → fault ≡ Form

pub http_moment_is : (text : List ℕ) → IsHttpMoment text (http_moment text)
http_moment_is text = by_secs (parse_secs text) refl
  where
    by_secs : (secs : Option ℕ) → parse_secs text ≡ secs → IsHttpMoment text (moment_or_form secs)
    by_secs None found = record {
      read = tt;
      complete = λ p h. rw found at (http_moment_complete text p h);
      form = (λ e p h. let read = rw found at (http_moment_complete text p h) in cc, λ none. refl);
      no_other = λ fault e. cc;
    }
    by_secs (Some secs) found =
        let (p, shows, same) = shown_by text secs found in
        record {
          read = (p, shows, cc);
          complete = λ q h. rw found at (http_moment_complete text q h);
          form = (λ e. cc, λ none. absurd (none p shows));
          no_other = λ fault e. cc;
        }

-- what is written is read as the second in which the moment lies
pub http_moment-http_text : (m : ℕ) → m ≤ 2_534_023_007_999_999_999 → http_moment (http_text m) ≡ Ok (m / 10_000_000 * 10_000_000)
unfolding http_text
http_moment-http_text m h =
    let secs = m / 10_000_000 in
    let valid = parts_at_valid secs (omega arith) in
    http_moment_complete (http_text m) (parts_at secs) (record { valid = valid; shown = inl refl }) ∙ ap (λ s. Ok (s * 10_000_000)) (parts_at_secs secs)
