use Rattle.std.proofs.Common.{◌≡◌, true, false, refl}
use Rattle.policy_book.proofs.EntryLemmas.{allowed_under, refused_under}
use Rattle.policy_book.proofs.entry.way_under.Goals as goal

pub returns-in-Deny-clause-refused : goal.returns-in-Deny-clause-refused
returns-in-Deny-clause-refused c = (
  λ none. refused_under _ c.args.revision.now.keys _ c.args.revision.now.acl c.args.request.now.ask c.args.moment c.in_ok-verdict.field-0 c.in-Deny.field-0
      c.in_ok-verdict.ensures.value c.keys.ensures c.acl.ensures c.in-Deny.is,
  λ some. refl,
)

pub returns-in-Allow-clause-refused : goal.returns-in-Allow-clause-refused
returns-in-Allow-clause-refused c = (
  λ none. let f : true ≡ false = none in cc,
  λ some. (allowed_under _ c.args.revision.now.keys _ c.args.revision.now.acl c.args.request.now.ask c.args.moment c.in_ok-verdict.field-0 c.in-Allow.way
      c.in_ok-verdict.ensures.value c.keys.ensures c.acl.ensures c.in-Allow.is).0 some,
)

pub returns-in-Allow-clause-own : goal.returns-in-Allow-clause-own
returns-in-Allow-clause-own c =
    (allowed_under _ c.args.revision.now.keys _ c.args.revision.now.acl c.args.request.now.ask c.args.moment c.in_ok-verdict.field-0 c.in-Allow.way
    c.in_ok-verdict.ensures.value c.keys.ensures c.acl.ensures c.in-Allow.is).1
