use Rattle.std.proofs.Common.{rules, tests, ◌==◌, bytes_eq, codes}
use Rattle.std.proofs.lemmas.Iterator.Search.{any_from_yields_List}
use Rattle.std.proofs.lemmas.Iterator.Splits.{YieldsList-from_slice_split}
use Rattle.stamp_values.specs.Fields.{trimmed}
use Rattle.request_form.specs.HeadForms.{has_close}
use Rattle.request_form.specs.Targets.{lowered}
use Rattle.request_form.proofs.parse.connection_fields.has_close.Goals as goal

pub returns : goal.returns
unfolding has_close
returns c =
    any_from_yields_List (λ option. bytes_eq (lowered (trimmed option)) (codes "close")) _ _ _ c.any.ensures.ran
    (YieldsList-from_slice_split {s = c.split.result} _ (λ b. b == 44) c.args.value.now (cc) (cc) (cc) (λ x b q k. search (rules, tests)))
    (λ x b q k. search (rules, tests))
