use Rattle.std.proofs.Common.{ap, ◌∙◌, option_copied, sym}
use Rattle.stamp_types.specs.declared.ask.Ask.{Ask}
use Rattle.access_rules.specs.Rules.{verdict_of}
use Rattle.access_rules.proofs.JudgeLemmas.{key_verdict}
use Rattle.access_rules.proofs.judge.verdict_judged.Goals as goal

pub returns-in-Shared : goal.returns-in-Shared
returns-in-Shared c =
    c.by_judged_key.ensures
    ∙ key_verdict c.args.early (option_copied c.args.keys) (option_copied c.args.acl) c.args.request.now.ask c.args.now _ (ap (λ (q : Ask). q.credential) (sym c.ask-ask.ensures.value) ∙ c.in-Shared.is) c.requires.judged

pub returns-in-Token : goal.returns-in-Token
returns-in-Token c =
    c.by_judged_token.ensures
    ∙ ap (λ q. verdict_of (option_copied c.args.keys) (option_copied c.args.acl) q c.args.now) c.ask-ask.ensures.value
