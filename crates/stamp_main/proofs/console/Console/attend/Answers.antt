use Rattle.std.proofs.Common.{◌∙◌, Bool, List, ℕ, Option, Some, [], ap, refl, subst, sym, true}
use Rattle.stamp_main.specs.Attending.{ReadsLines, all_answered}
use Rattle.stamp_main.proofs.AttendingLemmas.{HasRead, all_read, read_none, reads_all, reads_nothing, reads_then}
use Rattle.stamp_main.proofs.console.Console.attend.Goals as goal

pub returns-then-eq : goal.returns-then-eq
returns-then-eq g c =
    (Some [], reads_nothing (g.L.Read.remaining c.args.self.now.lines) c.args.operator.now.account c.args.operator.now.known (Some []) (g.O.Write.contents c.args.self.now.answers) true)

pub loop-turn-init : goal.loop-turn-init
loop-turn-init g c = record {
  attended = subst
      (λ (line : Option (List ℕ)). HasRead (g.L.Read.remaining c.args.self.now.lines) (g.L.Read.remaining c.args.self.now.lines) c.args.operator.now.account c.args.operator.now.known (Some [])
      (g.O.Write.contents c.args.self.now.answers) (g.O.Write.contents c.args.self.now.answers) c.args.operator.now.known line)
      (sym c.new-line.ensures)
      (read_none (g.L.Read.remaining c.args.self.now.lines) c.args.operator.now.account c.args.operator.now.known (Some []) (g.O.Write.contents c.args.self.now.answers));
  account = refl;
}

pub loop-turn-preserved : goal.loop-turn-preserved
loop-turn-preserved g c = record {
  attended = all_read (g.L.Read.remaining c.args.self.now.lines) (g.L.Read.remaining c.read_ready.new.self.lines) c.args.operator.now.account c.args.operator.now.known c.read_ready.new.operator.known
      (Some []) c.read_ready.new.line (g.O.Write.contents c.args.self.now.answers) (g.O.Write.contents c.read_ready.new.self.answers) (all_answered c.read_ready.result) (ap all_answered c.in-More.is)
      (reads_then (g.L.Read.remaining c.args.self.now.lines) (g.L.Read.remaining c.loop-turn.self.lines) (g.L.Read.remaining c.read_ready.new.self.lines)
      c.args.operator.now.account c.loop-turn.operator.account c.args.operator.now.known c.loop-turn.operator.known c.read_ready.new.operator.known
      (Some []) c.loop-turn.line c.read_ready.new.line
      (g.O.Write.contents c.args.self.now.answers) (g.O.Write.contents c.loop-turn.self.answers) (g.O.Write.contents c.read_ready.new.self.answers)
      (all_answered c.read_ready.result) c.loop-turn.invariant.account c.loop-turn.invariant.attended c.read_ready.ensures.attended);
  account = c.read_ready.ensures.account ∙ c.loop-turn.invariant.account;
}

pub returns-then-load : goal.returns-then-load
returns-then-load g c = (
  c.loop-turn.line,
  reads_all (g.L.Read.remaining c.args.self.now.lines) (g.L.Read.remaining c.loop-turn.self.lines) c.args.operator.now.account c.args.operator.now.known c.loop-turn.operator.known
      (Some []) c.loop-turn.line (g.O.Write.contents c.args.self.now.answers) (g.O.Write.contents c.loop-turn.self.answers) true c.loop-turn.invariant.attended,
)

pub returns-in-Ended : goal.returns-in-Ended
returns-in-Ended g c = (
  c.read_ready.new.line,
  subst
      (λ (all : Bool). ReadsLines (g.L.Read.remaining c.args.self.now.lines) (g.L.Read.remaining c.read_ready.new.self.lines) c.args.operator.now.account c.args.operator.now.known (Some [])
      (g.O.Write.contents c.args.self.now.answers) (g.O.Write.contents c.read_ready.new.self.answers) all c.read_ready.new.operator.known c.read_ready.new.line)
      (ap all_answered c.in-Ended.is)
      (reads_then (g.L.Read.remaining c.args.self.now.lines) (g.L.Read.remaining c.loop-turn.self.lines) (g.L.Read.remaining c.read_ready.new.self.lines)
      c.args.operator.now.account c.loop-turn.operator.account c.args.operator.now.known c.loop-turn.operator.known c.read_ready.new.operator.known
      (Some []) c.loop-turn.line c.read_ready.new.line
      (g.O.Write.contents c.args.self.now.answers) (g.O.Write.contents c.loop-turn.self.answers) (g.O.Write.contents c.read_ready.new.self.answers)
      (all_answered c.read_ready.result) c.loop-turn.invariant.account c.loop-turn.invariant.attended c.read_ready.ensures.attended),
)

pub returns-in-Unanswered : goal.returns-in-Unanswered
returns-in-Unanswered g c = (
  c.read_ready.new.line,
  subst
      (λ (all : Bool). ReadsLines (g.L.Read.remaining c.args.self.now.lines) (g.L.Read.remaining c.read_ready.new.self.lines) c.args.operator.now.account c.args.operator.now.known (Some [])
      (g.O.Write.contents c.args.self.now.answers) (g.O.Write.contents c.read_ready.new.self.answers) all c.read_ready.new.operator.known c.read_ready.new.line)
      (ap all_answered c.in-Unanswered.is)
      (reads_then (g.L.Read.remaining c.args.self.now.lines) (g.L.Read.remaining c.loop-turn.self.lines) (g.L.Read.remaining c.read_ready.new.self.lines)
      c.args.operator.now.account c.loop-turn.operator.account c.args.operator.now.known c.loop-turn.operator.known c.read_ready.new.operator.known
      (Some []) c.loop-turn.line c.read_ready.new.line
      (g.O.Write.contents c.args.self.now.answers) (g.O.Write.contents c.loop-turn.self.answers) (g.O.Write.contents c.read_ready.new.self.answers)
      (all_answered c.read_ready.result) c.loop-turn.invariant.account c.loop-turn.invariant.attended c.read_ready.ensures.attended),
)

pub returns : goal.returns
returns g c = (
  c.loop-turn.line,
  reads_all (g.L.Read.remaining c.args.self.now.lines) (g.L.Read.remaining c.loop-turn.self.lines) c.args.operator.now.account c.args.operator.now.known c.loop-turn.operator.known
      (Some []) c.loop-turn.line (g.O.Write.contents c.args.self.now.answers) (g.O.Write.contents c.loop-turn.self.answers) true c.loop-turn.invariant.attended,
)
