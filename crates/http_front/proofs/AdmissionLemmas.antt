-- Nothing is admitted but by a judgement.
use Rattle.std.proofs.Common.{List, ℕ, Option, Some, None, Result, Ok, Err, refl, sym, subst}
use Rattle.stamp_types.specs.declared.ask.Ask.{Ask}
use Rattle.request_form.specs.HeadForms.{Form}
use Rattle.http_front.specs.declared.end.FrontFault.{FrontFault}
use Rattle.http_front.specs.declared.item.Found.{Found}
use Rattle.http_front.specs.declared.item.Progress.{Progress}
use Rattle.http_front.specs.declared.item.Progress.TheVariants.{Ended, Waits}
use Rattle.http_front.specs.Admissions.{ReadsAdmitted, StaysAdmitted, StepAdmitted, stage_admitted}
use Rattle.http_front.specs.Stages.{IsCallOf}

pub stays_same : (now : Option Ask) → StaysAdmitted now now
stays_same None = tt
stays_same (Some ask) = refl

pub stays_more : (before then now : Option Ask) → StaysAdmitted before then → StaysAdmitted then now → StaysAdmitted before now
stays_more before then None p q = tt
stays_more before then (Some ask) p q = subst (StaysAdmitted before) q p

pub step_more : (before then : Option Ask) (step : Progress) → StaysAdmitted before then → StepAdmitted then (Ok step) → StepAdmitted before (Ok step)
step_more before then (Ended end) p q = tt
step_more before then (Waits stage) p q = stays_more before then (stage_admitted stage) p q

-- a whole request is no body that is awaited
pub admits_call : (before : Option Ask) (result : Result Found FrontFault) (form : Form) (body : List ℕ) → IsCallOf form body result → ReadsAdmitted before result
admits_call before (Ok found) form body call = subst (λ f. ReadsAdmitted before (Ok f)) (sym call) tt
admits_call before (Err fault) form body call = tt
