use Rattle.core_run.proofs.PlaceLemmas.{cut, has_place, in_order, join}
use Rattle.core_run.proofs.laws.each_answer_has_its_place.Goals as goal

pub returns-clause-cut : goal.returns-clause-cut
returns-clause-cut c = λ s s' before after xs ys rs ss same run. cut xs ys rs ss s s' before after same run

pub returns-clause-join : goal.returns-clause-join
returns-clause-join c = λ s m s' before n after xs ys rs ss first then. join xs ys rs ss s m s' before n after first then

pub returns-clause-place : goal.returns-clause-place
returns-clause-place c = λ s m m' s' before n k after xs ys rs ss q t a o first serve then gives.
    has_place xs ys rs ss s m m' s' before n k after q t a o first serve then gives

pub returns-clause-order : goal.returns-clause-order
returns-clause-order c = λ s m m' n n' s' before a b d e after xs ys zs rs ss ts q q' t t' r r' o o' first serve gives between later gives' last.
    in_order s m m' n n' s' before a b d e after xs ys zs rs ss ts q q' t t' r r' o o' first serve gives between later gives' last
