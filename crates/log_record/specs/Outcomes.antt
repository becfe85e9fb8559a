-- What a reader answers, beside what the bytes say (docs/formats/records.md).
use Rattle.std.specs.Prelude.{◌≡◌, ℕ, List, Option, Some, None, Result, Ok, Err}
use Rattle.log_record.specs.declared.record_fault.RecordFault.{RecordFault}
use Rattle.log_record.specs.declared.record_fault.RecordFault.TheVariants.{Form, Version, NoMemory}
use Rattle.log_record.specs.Reading.{Read}

-- Form is answered only if nothing is read, Version is not answered, and if memory ran out then nothing is said
abbrev pub Refuses : {A : Type 0} → RecordFault → Option A → Type 0
Refuses Form expected = expected ≡ None
Refuses Version expected = ⊥
Refuses NoMemory expected = Unit {0}

-- the answer, seen by a function, is the value that is read, and these bytes are after it
abbrev pub Gives : {A B : Type 0} → (A → B) → Result A RecordFault → List ℕ → Read B → Type 0
Gives f (Ok a) left expected = expected ≡ Some (f a, left)
Gives f (Err fault) left expected = Refuses fault expected

-- the value as it is
abbrev pub itself : {A : Type 0} → A → A
itself a = a

-- the answer, seen by a function, is the value that is expected, and Form says that no value is expected
abbrev pub FillsBy : {A B : Type 0} → (A → B) → Result A RecordFault → Option B → Type 0
FillsBy f (Ok a) expected = expected ≡ Some (f a)
FillsBy f (Err fault) expected = Refuses fault expected

-- the answer is the value that is expected, and Form says that no value is expected
abbrev pub Fills : {A : Type 0} → Result A RecordFault → Option A → Type 0
Fills result expected = FillsBy itself result expected

-- the answer is the one that is expected, unless memory ran out
abbrev pub Tells : {A : Type 0} → Result A RecordFault → Result A RecordFault → Type 0
Tells (Ok a) expected = expected ≡ Ok a
Tells (Err NoMemory) expected = Unit {0}
Tells (Err Form) expected = expected ≡ Err Form
Tells (Err Version) expected = expected ≡ Err Version
