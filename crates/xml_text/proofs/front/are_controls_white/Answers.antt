use Rattle.std.proofs.Common.{◌∙◌, rules, tests}
use Rattle.std.proofs.lemmas.Iterator.Search.{all_from_yields_List}
use Rattle.std.proofs.lemmas.Iterator.Splits.{YieldsList-from_slice_split}
use Rattle.stamp_values.specs.Texts.{is_clean}
use Rattle.xml_text.specs.Markup.{is_white}
use Rattle.xml_text.proofs.CharacterLemmas.{clean_parts}
use Rattle.xml_text.proofs.front.are_controls_white.Goals as goal

pub returns : goal.returns
returns c =
    all_from_yields_List (λ part. is_clean part) _ _ _ c.all.ensures.ran
    (YieldsList-from_slice_split {s = c.split.result} _ (λ b. is_white b) c.args.body.now (cc) (cc) (cc) (λ x b q k. search (rules, tests)))
    (λ x b q k. search (rules, tests))
    ∙ clean_parts c.args.body.now
