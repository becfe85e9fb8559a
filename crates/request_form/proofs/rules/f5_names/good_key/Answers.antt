use Rattle.std.proofs.Common.{◌≡◌, ◌∙◌, rules, sym, true, true≢false}
use Rattle.stamp_values.specs.Names.{is_account}
use Rattle.request_form.proofs.TextLemmas.{key_visible}
use Rattle.request_form.proofs.rules.f5_names.good_key.Goals as goal

pub returns-in-None : goal.returns-in-None
returns-in-None c =
    let named = rw c.in-Some.is at c.container_name.ensures in
    let hidden = rw c.in-None.is at c.in_ok-key.ensures in
    let account : is_account c.account-account.result.now ≡ true = search rules in
    absurd (true≢false (sym (key_visible c.args.op c.args.path.now c.account-account.result.now c.in-Some.container.now account named.0 named.1) ∙ hidden))
