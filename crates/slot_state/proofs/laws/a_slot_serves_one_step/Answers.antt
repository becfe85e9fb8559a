use Rattle.std.proofs.Common.{ap, ◌∙◌, sym}
use Rattle.slot_state.specs.Slots.{SlotState, replayed_at}
use Rattle.slot_state.proofs.StepLemmas.{effect_replayed}
use Rattle.slot_state.proofs.laws.a_slot_serves_one_step.Goals as goal

pub returns : goal.returns
returns c = λ s after w q t bound r numbered agrees served. (
  served.reply w (λ key seen. agrees key),
  λ key. effect_replayed s w q t numbered (agrees q.ask.key) key (agrees key) ∙ ap (λ (x : SlotState). replayed_at x.pairs x.histories key) (sym served.after),
)
