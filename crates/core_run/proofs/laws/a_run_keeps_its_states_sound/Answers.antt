use Rattle.core_run.proofs.SoundLemmas.{opening_etags, opening_sound, run_sound}
use Rattle.core_run.proofs.laws.a_run_keeps_its_states_sound.Goals as goal

pub returns-clause-opening : goal.returns-clause-opening
returns-clause-opening c = λ pairs numbered. opening_sound pairs numbered

pub returns-clause-etags : goal.returns-clause-etags
returns-clause-etags c = λ pairs key. opening_etags pairs key

pub returns-clause-run : goal.returns-clause-run
returns-clause-run c = λ s s' before after steps answers run sound. run_sound steps answers s s' before after run sound
