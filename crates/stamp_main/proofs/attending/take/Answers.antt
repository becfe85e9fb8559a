use Rattle.std.proofs.Common.{◌≡◌, ◌∙◌, ℕ, List, false, true, refl, rules, subst}
use Rattle.std.proofs.lemmas.List.{take_all}
use Rattle.stamp_main.proofs.AttendingLemmas.{HasAttended, attended_all, attended_before, attended_byte, attended_none}
use Rattle.stamp_main.proofs.attending.take.Goals as goal

pub loop-byte-init : goal.loop-byte-init
loop-byte-init g c = record {
  attended = attended_none c.args.operator.now.account c.args.operator.now.known c.args.line.now (g.O.Write.contents c.args.writer.now);
  account = refl;
}

pub loop-byte-preserved : goal.loop-byte-preserved
loop-byte-preserved g c =
    let told : c.take_byte.result ≡ true = search rules in record {
      attended = attended_byte c.args.operator.now.account c.loop-byte.operator.account c.args.operator.now.known c.loop-byte.operator.known c.take_byte.new.operator.known
          c.args.line.now c.loop-byte.line c.take_byte.new.line c.args.came.now c.loop-byte.byte-index
          (g.O.Write.contents c.args.writer.now) (g.O.Write.contents c.loop-byte.writer) (g.O.Write.contents c.take_byte.new.writer) c.take_byte.result
          c.loop-byte-test.true told c.loop-byte.invariant.account c.loop-byte.invariant.attended c.take_byte.ensures.taken;
      account = c.take_byte.ensures.account ∙ c.loop-byte.invariant.account;
    }

pub returns-then-not-take_byte : goal.returns-then-not-take_byte
returns-then-not-take_byte g c =
    let untold : c.take_byte.result ≡ false = search rules in record {
      attended = attended_before c.args.operator.now.account c.loop-byte.operator.account c.args.operator.now.known c.loop-byte.operator.known c.take_byte.new.operator.known
          c.args.line.now c.loop-byte.line c.take_byte.new.line c.args.came.now c.loop-byte.byte-index
          (g.O.Write.contents c.args.writer.now) (g.O.Write.contents c.loop-byte.writer) (g.O.Write.contents c.take_byte.new.writer) c.take_byte.result
          c.loop-byte-test.true untold c.loop-byte.invariant.account c.loop-byte.invariant.attended c.take_byte.ensures.taken;
      account = c.take_byte.ensures.account ∙ c.loop-byte.invariant.account;
    }

pub returns-clause-attended : goal.returns-clause-attended
returns-clause-attended g c =
    let has = subst
    (λ (l : List ℕ). HasAttended c.args.operator.now.account c.args.operator.now.known c.args.line.now l (g.O.Write.contents c.args.writer.now) (g.O.Write.contents c.loop-byte.writer) c.loop-byte.operator.known c.loop-byte.line)
    (take_all c.loop-byte.byte-index c.args.came.now c.loop-byte-test.false) c.loop-byte.invariant.attended in
    attended_all c.args.operator.now.account c.args.operator.now.known c.loop-byte.operator.known c.args.line.now c.loop-byte.line c.args.came.now
    (g.O.Write.contents c.args.writer.now) (g.O.Write.contents c.loop-byte.writer) true has
