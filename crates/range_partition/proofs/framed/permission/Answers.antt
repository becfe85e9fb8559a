use Rattle.std.proofs.Common.{Option, ap, ◌∙◌}
use Rattle.std.specs.Option.{option_copied}
use Rattle.stamp_values.specs.declared.acl.Acl.{Acl}
use Rattle.access_rules.specs.Rules.{verdict_of}
use Rattle.range_partition.proofs.framed.permission.Goals as goal

pub returns : goal.returns
returns c =
    c.in_ok-permission.ensures.value
    ∙ ap (λ (acl : Option Acl). verdict_of (option_copied c.args.keys) acl c.args.asked.now.request.now.ask c.args.asked.now.moment) c.acl.ensures
