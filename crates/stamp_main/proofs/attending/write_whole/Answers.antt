use Rattle.std.proofs.Common.{◌≡◌, ◌-◌, ℕ, List, arith, drop, length, length-drop, subst, sym, take}
use Rattle.std.proofs.lemmas.List.{take_all}
use Rattle.audit_lines.specs.Lines.{WritesFrom}
use Rattle.audit_lines.proofs.WriteLemmas.{writes_joined}
use Rattle.stamp_main.proofs.AttendingLemmas.{writes_taken}
use Rattle.stamp_main.proofs.attending.write_whole.Goals as goal

pub loop-turn-preserved : goal.loop-turn-preserved
loop-turn-preserved g c =
    let left = c.loop-turn.left.now in
    let rest : take (length left - c.in-Some.count) (drop c.in-Some.count left) ≡ drop c.in-Some.count left =
    take_all (length left - c.in-Some.count) (drop c.in-Some.count left) (omega (arith, length-drop c.in-Some.count left)) in
    subst (λ (l : List ℕ). WritesFrom (g.O.Write.contents c.args.writer.now) (g.O.Write.contents c.write_some.new.writer) c.args.bytes.now l) (sym rest)
    (writes_joined (g.O.Write.contents c.args.writer.now) (g.O.Write.contents c.loop-turn.writer) (g.O.Write.contents c.write_some.new.writer) c.args.bytes.now left (drop c.in-Some.count left)
    c.loop-turn.invariant (writes_taken (g.O.Write.contents c.loop-turn.writer) (g.O.Write.contents c.write_some.new.writer) c.in-Some.count left c.in-Some.ensures.1))
