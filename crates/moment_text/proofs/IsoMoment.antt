-- What the reader of times answers, in terms of the printed forms.
use Rattle.std.proofs.Common.{◌≡◌, ◌≢◌, ◌↔◌, ℕ, Bool, true, false, cond, IsTrue, IsFalse, List, Option, Some, None, Result, Ok, Err, IfOk, refl, sym, ap, ◌∙◌}
use Rattle.std.proofs.lemmas.Option.{none-some, same_Some}
use Rattle.moment_text.specs.declared.civil.CivilTime.{CivilTime}
use Rattle.moment_text.specs.declared.fault.TimeFault.{TimeFault}
use Rattle.moment_text.specs.declared.fault.TimeFault.TheVariants.{Form, Range, NoMemory}
use Rattle.moment_text.specs.Iso.{Shape, IsIsoText, is_in_range, ticks_of}
use Rattle.moment_text.specs.IsoReader.{iso_time, moment_of_time, iso_moment}
use Rattle.moment_text.proofs.IsoLemmas.{iso_time_sound, iso_time_complete}

-- the clauses of `read_iso`
pub record IsIsoMoment (t : List ℕ) (r : Result ℕ TimeFault) : Type 0 where
  pub read : IfOk r (λ m. (shape : Shape) × (time : CivilTime) × IsIsoText t shape time × IsTrue (is_in_range time) × (m ≡ ticks_of time))
  pub complete : (shape : Shape) (time : CivilTime) → IsIsoText t shape time → IsTrue (is_in_range time) → r ≡ Ok (ticks_of time)
  pub form : (r ≡ Err Form) ↔ ((shape : Shape) (time : CivilTime) → ¬ IsIsoText t shape time)
  pub range : (r ≡ Err Range) ↔ ((shape : Shape) × (time : CivilTime) × IsIsoText t shape time × IsFalse (is_in_range time))
  pub no_memory : r ≢ Err NoMemory

-- no text writes two different times
same_time : (t : List ℕ) (p time : CivilTime) (shape : Shape) → iso_time t ≡ Some p → IsIsoText t shape time → p ≡ time
same_time t p time shape found h = same_Some p time (sym found ∙ iso_time_complete t shape time h)

module _ (t : List ℕ) where
  not_written : iso_time t ≡ None → (shape : Shape) (time : CivilTime) → ¬ IsIsoText t shape time
  not_written found shape time h = none-some time (sym found ∙ iso_time_complete t shape time h)

  by_range : (p : CivilTime) (within : Bool) → iso_time t ≡ Some p → is_in_range p ≡ within → IsIsoMoment t (cond within (Ok (ticks_of p)) (Err Range))
  by_range p true found test =
      let (shape, written) = iso_time_sound t p found in
      record {
        read = (shape, p, written, test, refl);
        complete = λ shape₂ time h within. ap (λ q. Ok (ticks_of q)) (same_time t p time shape₂ found h);
        form = (λ e. cc, λ none. absurd (none shape p written));
        range = (λ e. cc, λ out. let same = same_time t p out.1 out.0 found out.2 in let outside = out.3 in let inside = ap is_in_range same in cc);
        no_memory = λ e. cc;
      }
  by_range p false found test =
      let (shape, written) = iso_time_sound t p found in
      record {
        read = tt;
        complete = λ shape₂ time h within. let inside = ap is_in_range (same_time t p time shape₂ found h) in cc;
        form = (λ e. cc, λ none. absurd (none shape p written));
        range = (λ e. (shape, p, written, test), λ out. refl);
        no_memory = λ e. cc;
      }

  by_time : (o : Option CivilTime) → iso_time t ≡ o → IsIsoMoment t (moment_of_time o)
  by_time None found = record {
    read = tt;
    complete = λ shape time h within. absurd (not_written found shape time h);
    form = (λ e. not_written found, λ none. refl);
    range = (λ e. cc, λ out. absurd (not_written found out.0 out.1 out.2));
    no_memory = λ e. cc;
  }
  by_time (Some p) found = by_range p (is_in_range p) found refl

  pub iso_moment_is : IsIsoMoment t (iso_moment t)
  iso_moment_is = by_time (iso_time t) refl
