use Rattle.std.proofs.Common.{◌∙◌, arith, rules}
use Rattle.std.proofs.lemmas.Int.{ints}
use Rattle.jiff_core.proofs.SignedLemmas.{signed_casts}
use Rattle.moment_text.specs.Civil.{time_at}
use Rattle.moment_text.proofs.TimeLemmas.{counted, same_times}
use Rattle.moment_text.proofs.civil.time_of.Goals as goal

pub overflow_cast-result : goal.overflow_cast-result
overflow_cast-result c =
    let same = counted c.ticks-ticks.result c.in-Ok.date (omega arith) (c.in-Ok.ensures.value ∙ omega (arith, ints)) in
    search (rules, ints)

pub returns-clause-value : goal.returns-clause-value
unfolding time_at
returns-clause-value c =
    let same = counted c.ticks-ticks.result c.in-Ok.date (omega arith) (c.in-Ok.ensures.value ∙ omega (arith, ints)) in
    rw (← c.ticks-ticks.ensures.value, same.same_month, same.same_day) (same_times (omega (arith, signed_casts, same.same_year)))
