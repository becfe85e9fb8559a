use Rattle.stamp_types.proofs.EffectLemmas.{blob_is_dated, etags_bounded}
use Rattle.stamp_types.proofs.effect_laws.a_change_is_counted_and_dated.Goals as goal

pub returns-clause-blob : goal.returns-clause-blob
returns-clause-blob g c = λ f a p name t named dated. blob_is_dated f p a name t named dated

pub returns-clause-bounded : goal.returns-clause-bounded
returns-clause-bounded g c = λ f a p row within. etags_bounded f p within a row
