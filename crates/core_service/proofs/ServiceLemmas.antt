-- The machine that has one account and one slot answers as the model by the account's key pair.
use Rattle.std.proofs.Common.{◌≡◌, ℕ, zero, suc, List, [], ◌∷◌, Option, None, Result, Ok, Err, IfOk, OnErr, refl, sym, ap, subst, ◌∙◌}
use Rattle.std.specs.Prelude.{slice_get, slice_index_or}
use Rattle.std.specs.Option.{option_and_then}
use Rattle.stamp_values.specs.declared.key.Key.{Key}
use Rattle.stamp_types.specs.declared.past.Past.{Past}
use Rattle.stamp_types.specs.declared.reply.Reply.{Reply}
use Rattle.stamp_types.specs.Requests.{Asked}
use Rattle.access_rules.specs.declared.keys.Keys.{Keys}
use Rattle.partition_map.specs.Spans.{bound_at}
use Rattle.stamp_model.specs.Runs.{timed, reply_to_one, world_after_one}
use Rattle.stamp_model.specs.SeenContainers.{routed}
use Rattle.slot_state.specs.Pairs.{Pairs, first_pairs}
use Rattle.core_run.specs.Cores.{CoreState, StandsFor, first_core, no_slot}
use Rattle.core_run.specs.States.{State, reply_in, served}
use Rattle.core_run.proofs.AccountLemmas.{one_reply, one_world}
use Rattle.core_run.proofs.SplitCores.{read-doubt}
use Rattle.stamp_core.specs.CoreSteps.{AnswersSteadily, IsCalm}
use Rattle.core_service.specs.Services.{AnswersAsMachine, opening_of}

-- the state has one slot, which is not in doubt, and this key pair is the only one
pub record IsOfAccount (keys : Keys) (s : State) : Type 0 where
  pub pairs : s.pairs ≡ first_pairs (keys ∷ [])
  pub points : s.points ≡ []
  pub doubts : s.doubts ≡ None ∷ []

pub of_opening : (keys : Keys) → IsOfAccount keys (opening_of keys)
of_opening keys = record { pairs = refl; points = refl; doubts = refl }

module _ (keys : Keys) (s : State) (q : Asked) (t : ℕ) (of : IsOfAccount keys s) where
  pub of_served : IsOfAccount keys (served s q t)
  of_served = record { pairs = of.pairs; points = of.points; doubts = of.doubts }

  pub reply_of : reply_in s q t ≡ reply_to_one s.world (timed keys q t)
  reply_of = one_reply keys s q t of.pairs ∙ ap (λ (points : List Key). reply_to_one s.world (record (timed keys q t) { bound = bound_at points (routed q) })) of.points

  pub world_of : (served s q t).world ≡ world_after_one s.world (timed keys q t)
  world_of = one_world keys s q t of.pairs

-- what the core of a service answers, the service answers
pub answered_as : {E : Type 0} (result : Result Reply E) (core c c' : CoreState) (q : Asked) (t : ℕ) → core ≡ c
    → IfOk result (λ reply. AnswersAsMachine core q t reply c') → IfOk result (λ reply. AnswersAsMachine c q t reply c')
answered_as result core c c' q t same answers = subst (λ (x : CoreState). IfOk result (λ reply. AnswersAsMachine x q t reply c')) same answers

-- ---- no doubt

none_there : (i : ℕ) → option_and_then (λ (o : Option Past). o) (slice_get (None ∷ []) i) ≡ None
none_there zero = refl
none_there (suc i) = refl

-- a core of one slot is not in doubt if its state is not
pub calm_of : (c : CoreState) (s : State) → StandsFor c s → s.doubts ≡ None ∷ [] → IsCalm c
calm_of c s stands doubts = λ i.
    sym (read-doubt c.slots i)
    ∙ ap (λ (ds : List (Option Past)). option_and_then (λ (o : Option Past). o) (slice_get ds i)) (sym stands.doubts ∙ doubts)
    ∙ none_there i

-- a new core is not in doubt
pub calm_first : (c : CoreState) (pairs : Pairs) → c ≡ first_core pairs → IsCalm c
calm_first c pairs is = subst IsCalm (sym is) (none_first pairs)
  where
    none_first : (ps : Pairs) (i : ℕ) → (slice_index_or (first_core ps).slots i no_slot).doubt ≡ None
    none_first ps zero = refl
    none_first ps (suc i) = refl

-- what a core without a doubt answers if no call fails
pub steady_answer : {E : Type 0} (r : Result Reply E) (c c' : CoreState) (q : Asked) (t : ℕ) → AnswersSteadily c q t r c' → IsCalm c → IfOk r (λ reply. AnswersAsMachine c q t reply c')
steady_answer (Ok reply) c c' q t so calm = (so calm).1
steady_answer (Err e) c c' q t so calm = tt

pub steady_calm : {E : Type 0} (r : Result Reply E) (c c' : CoreState) (q : Asked) (t : ℕ) → AnswersSteadily c q t r c' → IsCalm c → IsCalm c'
steady_calm (Ok reply) c c' q t so calm = (so calm).0
steady_calm (Err e) c c' q t so calm = subst IsCalm (sym (so calm)) calm

pub steady_same : {E : Type 0} (r : Result Reply E) (c c' : CoreState) (q : Asked) (t : ℕ) → AnswersSteadily c q t r c' → IsCalm c → OnErr r (c' ≡ c)
steady_same (Ok reply) c c' q t so calm = tt
steady_same (Err e) c c' q t so calm = so calm
