use Rattle.body_forms.proofs.WrittenLemmas.{policy_joined}
use Rattle.body_forms.proofs.written_policies.append_policy.Goals as goal

pub returns-clause-written : goal.returns-clause-written
returns-clause-written c =
    policy_joined c.args.policy.now c.args.out.now.items c.append_opening.new.out.items c.append_identified.new.out.items c.append_closing.new.out.items
    c.in_ok-append_opening.ensures c.in_ok-append_identified.ensures.written c.in_ok-append_closing.ensures
