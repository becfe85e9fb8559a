use Rattle.std.proofs.Common.{arith}
use Rattle.std.proofs.lemmas.Grind.{common_steps}
use Rattle.replay_cases.specs.Texts.{text_bytes}
use Rattle.replay_cases.proofs.TextLemmas.{after_all}
use Rattle.replay_cases.proofs.texts.add_text.Goals as goal

pub returns-clause-added : goal.returns-clause-added
returns-clause-added c = after_all c.loop-left.bytes.items c.args.bytes.now.items c.loop-left.left.now (text_bytes c.args.text.now) (grind (arith, common_steps)) c.loop-left.invariant.whole
