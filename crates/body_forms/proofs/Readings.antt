-- The outcomes of a call.
use Rattle.std.proofs.Common.{Ok, Err, Result}
use Rattle.std.specs.Prelude.{IfOk, IfErr, MatchResult}
use Rattle.body_forms.specs.declared.body_fault.BodyFault.{BodyFault}
use Rattle.body_forms.specs.declared.body_fault.BodyFault.TheVariants as fault
use Rattle.body_forms.specs.Outcomes.{OnForm}

-- what a value says, and what a fault says
pub ok_says : {V E : Type 0} (P R : V → Type 0) (Q : E → Type 0) (r : Result V E) → MatchResult r P Q → ((v : V) → P v → R v) → IfOk r R
ok_says P R Q (Ok v) m f = f v m
ok_says P R Q (Err e) m f = tt

pub err_says : {V E : Type 0} (P : V → Type 0) (Q S : E → Type 0) (r : Result V E) → MatchResult r P Q → ((e : E) → Q e → S e) → IfErr r S
err_says P Q S (Ok v) m f = tt
err_says P Q S (Err e) m f = f e m

pub if_ok : {V E : Type 0} (P R : V → Type 0) (r : Result V E) → IfOk r P → ((v : V) → P v → R v) → IfOk r R
if_ok P R (Ok v) m f = f v m
if_ok P R (Err e) m f = tt

-- a fault of form says what follows from what it said
pub form_says : (said says : Type 0) → (said → says) → (f : BodyFault) → OnForm said f → OnForm says f
form_says said says f fault.Form m = f m
form_says said says f fault.TooMany m = absurd m
form_says said says f fault.Id m = absurd m
form_says said says f fault.Letters m = absurd m
form_says said says f fault.Time m = absurd m
form_says said says f fault.NoMemory m = tt
