use Rattle.std.proofs.Common.{refl}
use Rattle.body_forms.proofs.KeptLemmas.{one_written_more, one_kept_more}
use Rattle.body_forms.proofs.written_policies.append_policies.Goals as goal

pub loop-policy-preserved : goal.loop-policy-preserved
loop-policy-preserved c =
    let l = c.loop-policy in
    let all = c.args.policies.now in
    let one = c.policy-item.result in
    record {
      written = one_written_more all l.policy-index one c.args.out.now.items l.out.items c.append_policy.new.out.items c.loop-policy-test.true c.policy-item.is l.invariant.written c.in_ok-append_policy.ensures.written;
      kept = one_kept_more all l.policy-index one c.loop-policy-test.true c.policy-item.is l.invariant.kept (c.in_ok-append_policy.ensures.kept refl);
    }
