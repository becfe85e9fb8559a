-- A service over the core of one account (Calder et al., SOSP 2011, section 5).
use Rattle.std.specs.Prelude.{◌≡◌, ℕ, List, [], ◌∷◌}
use Rattle.std.specs.List.{fold}
use Rattle.stamp_types.specs.declared.reply.Reply.{Reply}
use Rattle.stamp_types.specs.Requests.{Asked}
use Rattle.access_rules.specs.declared.keys.Keys.{Keys}
use Rattle.stamp_model.specs.Runs.{Timed}
use Rattle.slot_state.specs.Pairs.{first_pairs}
use Rattle.core_run.specs.Cores.{CoreState, StandsFor}
use Rattle.core_run.specs.States.{State, opening, reply_in, served}

-- in each state that the core stood for, the reply is the machine's, and the core then stands for the state after the request
abbrev pub AnswersAsMachine : CoreState → Asked → ℕ → Reply → CoreState → Type 0
AnswersAsMachine c q t r c' = (s : State) → StandsFor c s → (r ≡ reply_in s q t) × StandsFor c' (served s q t)

-- the first state of the machine if there is one account, which has this key pair
abbrev pub opening_of : Keys → State
opening_of keys = opening (first_pairs (keys ∷ []))

-- the state after these requests were served in turn, each at its moment
abbrev pub served_in_turn : State → List Timed → State
served_in_turn s rs = fold (λ s r. served s r.request r.moment) s rs
