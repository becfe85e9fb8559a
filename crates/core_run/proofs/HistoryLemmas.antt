-- What steps and runs add to the history.
use Rattle.std.proofs.Common.{◌≡◌, inl, inr, ℕ, Bool, nat_lt, List, [], ◌∷◌, ◌++◌, Option, Some, None, refl, sym, ap, ◌∙◌, subst}
use Rattle.std.specs.Prelude.{⊤, IfSome}
use Rattle.std.proofs.lemmas.List.{append_assoc, append_cancel_left, map-append}
use Rattle.std.proofs.lemmas.List.Sums.{fold-append}
use Rattle.stamp_types.specs.declared.past.Past.{Past}
use Rattle.stamp_types.specs.declared.reply.Reply as replies
use Rattle.stamp_types.specs.World.{World}
use Rattle.stamp_model.specs.Runs.{reply_to_one, world_after_one, world_after_all}
use Rattle.core_run.specs.declared.step.Step.{Step}
use Rattle.core_run.specs.Machine.{Answer, IsRun, SettlesDoubtBy, Takes}
use Rattle.core_run.specs.States.{State, Turn, slot_doubt, doubted, reply_in, requests, timed_in}
use Rattle.core_run.proofs.StepLemmas.{by_changes}

-- each reply among the turns is the model's, after the turns before it
abbrev pub AreModels : World (List ℕ) → List Turn → Type 0
AreModels w [] = ⊤
AreModels w (u ∷ us) = IfSome u.reply (λ r. r ≡ reply_to_one w u.served) × AreModels (world_after_one w u.served) us

-- the turns lead from the first state to the second
pub record Leads (s : State) (us : List Turn) (s' : State) : Type 0 where
  pub history : s'.history ≡ s.history ++ us
  pub world : s'.world ≡ world_after_all s.world (requests us)
  pub replies : AreModels s.world us

pub requests-append : (us vs : List Turn) → requests (us ++ vs) ≡ requests us ++ requests vs
requests-append us vs = map-append (λ (u : Turn). u.served) us vs

pub world-append : (w : World (List ℕ)) (us vs : List Turn) → world_after_all w (requests (us ++ vs)) ≡ world_after_all (world_after_all w (requests us)) (requests vs)
world-append w us vs = ap (world_after_all w) (requests-append us vs) ∙ fold-append world_after_one w (requests us) (requests vs)

models-append : (w : World (List ℕ)) (us vs : List Turn) → AreModels w us → AreModels (world_after_all w (requests us)) vs → AreModels w (us ++ vs)
models-append w [] vs first then = then
models-append w (u ∷ us) vs first then = (first.0, models-append (world_after_one w u.served) us vs first.1 then)

-- the model's reply at a place
pub model_at : (w : World (List ℕ)) (front : List Turn) (u : Turn) (rest : List Turn) (r : replies.Reply) → AreModels w (front ++ u ∷ rest) → u.reply ≡ Some r → r ≡ reply_to_one (world_after_all w (requests front)) u.served
model_at w [] u rest r are is = subst (λ (o : Option replies.Reply). IfSome o (λ r. r ≡ reply_to_one w u.served)) is are.0
model_at w (v ∷ front) u rest r are is = model_at (world_after_one w v.served) front u rest r are.1 is

pub leads_same : (s : State) → Leads s [] s
leads_same s = record { history = ends s.history; world = refl; replies = tt }
  where
    ends : (us : List Turn) → us ≡ us ++ []
    ends [] = refl
    ends (u ∷ us) = ap (λ (vs : List Turn). u ∷ vs) (ends us)

pub leads_on : (s m s' : State) (us vs : List Turn) → Leads s us m → Leads m vs s' → Leads s (us ++ vs) s'
leads_on s m s' us vs first then = record {
  history = then.history ∙ ap (λ (h : List Turn). h ++ vs) first.history ∙ append_assoc s.history us vs;
  world = then.world ∙ ap (λ (w : World (List ℕ)). world_after_all w (requests vs)) first.world ∙ sym (world-append s.world us vs);
  replies = models-append s.world us vs first.replies (subst (λ (w : World (List ℕ)). AreModels w vs) first.world then.replies);
}

-- a step that leaves containers and history
silent : (s s' : State) → s'.history ≡ s.history → s'.world ≡ s.world → Leads s [] s'
silent s s' history world = record { history = history ∙ (leads_same s).history; world = world; replies = tt }

one : (s s' : State) (u : Turn) → s'.history ≡ s.history ++ u ∷ [] → s'.world ≡ world_after_one s.world u.served → IfSome u.reply (λ r. r ≡ reply_to_one s.world u.served) → Leads s (u ∷ []) s'
one s s' u history world reply = record { history = history; world = world; replies = (reply, tt) }

abbrev pub LedTo : State → State → Type 0
LedTo s s' = (us : List Turn) × Leads s us s'

led_on : (s m s' : State) → LedTo s m → LedTo m s' → LedTo s s'
led_on s m s' a b = (a.0 ++ b.0, leads_on s m s' a.0 b.0 a.1 b.1)

pub settle_leads : (o : Option Past) (s m : State) (i : ℕ) → SettlesDoubtBy o s i m → LedTo s m
settle_leads None s m i is = ([], silent s m (λ j. (is j).history) (λ j. (is j).world))
settle_leads (Some e) s m i (inl is) = (record { served = doubted s e; reply = None } ∷ [], one s m _ (λ j. (is j).history) (λ j. (is j).world) tt)
settle_leads (Some e) s m i (inr is) = ([], silent s m (λ j. (is j).history) (λ j. (is j).world))

pub step_leads : (x : Step) (s s' : State) (f : Bool) (r : Answer) → Takes s x f r s' → (us : List Turn) × Leads s us s'
step_leads x s s' f r takes =
    by_changes x r LedTo LedTo (λ s. ([], leads_same s)) (λ s s' led. led) (λ s m s' i on is led. led_on s m s' (settle_leads (slot_doubt s i) s m i is) led)
    (λ s q t is calm r. (record { served = timed_in s q t; reply = Some (reply_in s q t) } ∷ [], one s _ _ refl refl refl))
    (λ s q t is calm r. (record { served = timed_in s q t; reply = Some (reply_in s q t) } ∷ [], one s _ _ refl refl refl)) (λ s q t is calm some o r. ([], silent s _ refl refl))
    (λ s n o is there answers. ([], silent s _ refl refl)) (λ s i middle calm allowed r. ([], silent s _ refl refl)) (λ s account which key old is there r. ([], silent s _ refl refl)) s s' f takes

pub run_leads : (steps : List Step) (answers : List Answer) (s s' : State) (before after : ℕ) → IsRun s before steps answers s' after → (us : List Turn) × Leads s us s'
run_leads [] [] s s' before after run = ([], subst (Leads s []) (sym run.0) (leads_same s))
run_leads [] (r ∷ rs) s s' before after run = absurd run
run_leads (x ∷ xs) [] s s' before after run = absurd run
run_leads (x ∷ xs) (r ∷ rs) s s' before after run =
    let first = step_leads x s run.0 (nat_lt before run.1.0) r run.1.1.1.0 in
    let rest = run_leads xs rs run.0 s' run.1.0 after run.1.1.1.1 in
    (first.0 ++ rest.0, leads_on s run.0 s' first.0 rest.0 first.1 rest.1)

-- the turns of a run are what its history has beyond the history at first
pub leads_so : (steps : List Step) (answers : List Answer) (s s' : State) (before after : ℕ) (us : List Turn) → IsRun s before steps answers s' after → s'.history ≡ s.history ++ us → Leads s us s'
leads_so steps answers s s' before after us run is =
    let led = run_leads steps answers s s' before after run in
    subst (λ (vs : List Turn). Leads s vs s') (append_cancel_left s.history led.0 us (sym led.1.history ∙ is)) led.1
