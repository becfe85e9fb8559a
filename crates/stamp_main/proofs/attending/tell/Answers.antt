use Rattle.std.proofs.Common.{◌≡◌, ◌++◌, List, ℕ, ap, inl, inr, refl, rules}
use Rattle.std.specs.Prelude.{codes}
use Rattle.stamp_main.specs.OperatorLines.{answer_text}
use Rattle.stamp_main.proofs.attending.tell.Goals as goal

pub returns-in-Ok : goal.returns-in-Ok
returns-in-Ok g c =
    let same : c.as_bytes.result.now ≡ answer_text c.args.answer = search rules in
    (c.as_bytes.result.now ++ codes "\n", (inl (ap (λ (l : List ℕ). l ++ codes "\n") same), c.write_line.ensures))

pub returns-in-Err : goal.returns-in-Err
returns-in-Err g c = (codes "no memory for the answer" ++ codes "\n", (inr refl, c.write_line-in-Err.ensures))
