use Rattle.std.proofs.Common.{List, None, Option, ap, cond, sym, ◌∙◌, ℕ}
use Rattle.stamp_values.specs.Operations.{checks_md5}
use Rattle.request_form.specs.HeadForms.{line_args_of}
use Rattle.request_form.proofs.ValueLemmas.{no_bad_line}
use Rattle.request_form.proofs.rules.f7_values.good_args.Goals as goal

pub returns : goal.returns
unfolding line_args_of
returns c = (
  no_bad_line c.args.op c.args.fields.now (sym c.has_bad_twice.ensures ∙ c.if-has_bad_twice.false)
      c.in_ok-if_match.ensures.0 c.in_ok-if_none_match.ensures.0
      c.in_ok-md5_under.ensures.0 c.in_ok-blob_md5.ensures.0 c.in_ok-kept.ensures.0 c.in-Ok.ensures.0,
  λ i. record {
    if_match = c.in_ok-if_match.ensures.1 i;
    if_none_match = c.in_ok-if_none_match.ensures.1 i;
    content_md5 = (c.md5_by-content_md5.ensures ∙ ap (λ (md5 : Option (List ℕ)). cond (checks_md5 c.args.op) md5 None) c.in_ok-md5_under.ensures.1) i;
    range = c.range_by.ensures i;
    kept = c.in_ok-kept.ensures.1 i;
    metadata = c.empty.ensures i;
    level = c.in-Ok.ensures.1 i;
    page = None;
    block = None;
    kinds = None;
  },
)
