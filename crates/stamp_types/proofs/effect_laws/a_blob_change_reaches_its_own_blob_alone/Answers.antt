use Rattle.stamp_types.proofs.EffectLemmas.{same_others}
use Rattle.stamp_types.proofs.effect_laws.a_blob_change_reaches_its_own_blob_alone.Goals as goal

pub returns-clause-others : goal.returns-clause-others
returns-clause-others g c = λ f a p name other named apart. same_others f p a name other named apart
