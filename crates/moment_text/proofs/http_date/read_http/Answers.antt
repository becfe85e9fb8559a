use Rattle.std.proofs.Common.{◌≡◌, Err, sym, subst, rules}
use Rattle.moment_text.specs.declared.fault.TimeFault.TheVariants.{Form}
use Rattle.moment_text.specs.Http.{http_moment}
use Rattle.moment_text.proofs.HttpLemmas.{IsHttpMoment, http_moment_is}
use Rattle.moment_text.proofs.http_date.read_http.Goals as goal

pub returns-in_default : goal.returns-in_default
returns-in_default c =
    let text = c.args.text.now in
    let value : Err Form ≡ http_moment text = search rules in
    let facts = subst (IsHttpMoment text) (sym value) (http_moment_is text) in
    record { read = facts.read; complete = facts.complete; form = facts.form; no_other = facts.no_other; value = value }

pub returns : goal.returns
returns c =
    let text = c.args.text.now in
    let value : c.ok_or.result ≡ http_moment text = search rules in
    let facts = subst (IsHttpMoment text) (sym value) (http_moment_is text) in
    record { read = facts.read; complete = facts.complete; form = facts.form; no_other = facts.no_other; value = value }
