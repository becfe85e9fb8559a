-- What is told of a result: by another fact of its value, or of its fault.
use Rattle.std.proofs.Common.{Result, Ok, Err, IfErr, IfOk}

pub if_ok : {X Y : Type 0} (r : Result X Y) (P Q : X → Type 0) → ((x : X) → P x → Q x) → IfOk r P → IfOk r Q
if_ok (Ok x) P Q step has = step x has
if_ok (Err e) P Q step has = tt

pub if_err : {X Y : Type 0} (r : Result X Y) (P Q : Y → Type 0) → ((y : Y) → P y → Q y) → IfErr r P → IfErr r Q
if_err (Ok x) P Q step has = tt
if_err (Err e) P Q step has = step e has
