use Rattle.std.proofs.Common.{rules, subst, true, ℕ, ◌≡◌}
use Rattle.audit_lines.specs.Lines.{AppendsLines}
use Rattle.audit_lines.proofs.WriteLemmas.{one_more}
use Rattle.audit_lines.proofs.writing.append_from.Goals as goal

pub loop-at-preserved : goal.loop-at-preserved
loop-at-preserved c =
    let told : c.append_whole.result ≡ true = search rules in (
      one_more c.args.book.now c.args.from c.loop-at.at c.args.out.now.items c.loop-at.out.items c.append_whole.new.out.items c.loop-at.invariant.0 (c.append_whole.ensures.there told),
      search rules,
    )

pub returns : goal.returns
returns c =
    let same : c.loop-at.at ≡ c.max.result = search rules in
    subst (λ (n : ℕ). AppendsLines c.args.book.now c.args.from n c.args.out.now.items c.loop-at.out.items) same c.loop-at.invariant.0
