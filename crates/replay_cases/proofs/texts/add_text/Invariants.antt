use Rattle.std.proofs.Common.{◌≡◌, length}
use Rattle.replay_cases.specs.Texts.{text_bytes}
use Rattle.replay_cases.proofs.TextLemmas.{after}
use Rattle.replay_cases.proofs.texts.add_text.Given as goal

-- what was added, and then what is left, is what was to be added
abbrev pub invariant-loop-left : goal.invariant-loop-left
invariant-loop-left l = record { whole : after l.bytes.items (text_bytes l.left) ≡ after l.fn.bytes.items (text_bytes l.text) }

abbrev pub decreases-loop-left : goal.decreases-loop-left
decreases-loop-left l = length l.left
