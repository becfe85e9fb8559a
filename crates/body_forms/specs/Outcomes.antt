-- What the faults of a body say.
use Rattle.std.specs.Prelude.{◌≡◌, ℕ, List, Some, None, Result, Err, MatchResult}
use Rattle.body_forms.specs.declared.body_fault.BodyFault.{BodyFault}
use Rattle.body_forms.specs.declared.body_fault.BodyFault.TheVariants as fault
use Rattle.xml_text.specs.Reading.{Read}

-- the fault says this because the body does not have its form, unless memory ran out; no other fault comes
abbrev pub OnForm : Type 0 → BodyFault → Type 0
OnForm says fault.Form = says
OnForm says fault.NoMemory = Unit {0}
OnForm says other = ⊥

-- the call gave the value that is expected, and left the text that is expected; if nothing is expected, the fault is of form
abbrev pub Finds : {A B : Type 0} → (A → B) → Result A BodyFault → List ℕ → Read B → Type 0
Finds f result left expected = MatchResult result (λ a. expected ≡ Some (f a, left)) (OnForm (expected ≡ None))

-- the fault says this because of an id, unless memory ran out; no other fault comes
abbrev pub OnId : Type 0 → BodyFault → Type 0
OnId says fault.Id = says
OnId says fault.NoMemory = Unit {0}
OnId says other = ⊥

-- the fault is the fault of the reading, unless memory ran out
abbrev pub FaultOf : {A : Type 0} → Result A BodyFault → BodyFault → Type 0
FaultOf reading fault.NoMemory = Unit {0}
FaultOf reading other = reading ≡ Err other
