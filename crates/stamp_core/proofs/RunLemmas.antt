-- Runs of steps.
use Rattle.std.proofs.Common.{◌≡◌, ◌≤◌, ℕ, nat_lt, List, [], ◌∷◌, ◌++◌, refl, sym, ap, ◌∙◌, subst, arith, length}
use Rattle.std.proofs.lemmas.List.{append-nil, append_assoc}
use Rattle.core_run.specs.Cores.{CoreState, StandsFor}
use Rattle.core_run.specs.Machine.{Answer, IsRun, Takes}
use Rattle.core_run.specs.States.{State}
use Rattle.core_run.specs.declared.step.Step.{Step}
use Rattle.core_run.proofs.PlaceLemmas.{join}

-- one step, as a run
one_step : (s s' : State) (x : Step) (r : Answer) (n m : ℕ) → n ≤ m → Takes s x (nat_lt n m) r s' → IsRun s n (x ∷ []) (r ∷ []) s' m
one_step s s' x r n m low takes = (s', (m, (low, (takes, (refl, refl)))))

-- what a run has made so far, from each state that the core stood for, while the wire counted up to a number
abbrev pub HasRun : CoreState → ℕ → List Step → List Answer → CoreState → ℕ → List Step → Type 0
HasRun c n steps answers c' k later =
    (s : State) → StandsFor c s → (made : List Step) × ((steps ≡ made ++ later) × ((m : State) × (IsRun s n made answers m k × StandsFor c' m)))

pub run_begins : (c : CoreState) (n : ℕ) (steps later : List Step) (answers : List Answer) → later ≡ steps → answers ≡ [] → HasRun c n steps answers c n later
run_begins c n steps later answers all none s stands = ([], (sym all, (s, (subst (λ (rs : List Answer). IsRun s n [] rs s n) (sym none) (refl, refl), stands))))

pub nothing_left : (later : List Step) (n : ℕ) → n ≡ length later → n ≡ 0 → later ≡ []
nothing_left [] n is none = refl
nothing_left (x ∷ later) n is none = absurd (omega (arith, is, none))

pub run_goes_on : (c d e : CoreState) (n k m : ℕ) (steps : List Step) (answers more : List Answer) (x : Step) (later : List Step) (r : Answer)
    → HasRun c n steps answers d k (x ∷ later) → k ≤ m
    → ((s : State) → StandsFor d s → (s' : State) × (Takes s x (nat_lt k m) r s' × StandsFor e s'))
    → more ≡ answers ++ r ∷ [] → HasRun c n steps more e m later
run_goes_on c d e n k m steps answers more x later r run low one pushed s stands =
    let so_far = run s stands in
    let next = one so_far.1.1.0 so_far.1.1.1.1 in (
      so_far.0 ++ x ∷ [],
      (
        so_far.1.0 ∙ sym (append_assoc so_far.0 (x ∷ []) later),
        (
          next.0,
          (
            subst (λ (rs : List Answer). IsRun s n (so_far.0 ++ x ∷ []) rs next.0 m) (sym pushed)
                (join so_far.0 (x ∷ []) answers (r ∷ []) s so_far.1.1.0 next.0 n k m so_far.1.1.1.0 (one_step so_far.1.1.0 next.0 x r k m low next.1.0)),
            next.1.1,
          ),
        ),
      ),
    )

pub run_ends : (c d : CoreState) (n k : ℕ) (steps : List Step) (answers : List Answer) (later : List Step) → later ≡ [] → HasRun c n steps answers d k later
    → (s : State) → StandsFor c s → (s' : State) × (IsRun s n steps answers s' k × StandsFor d s')
run_ends c d n k steps answers later none run s stands =
    let all = run s stands in
    let is : steps ≡ all.0 = all.1.0 ∙ ap (λ (xs : List Step). all.0 ++ xs) none ∙ append-nil all.0 in
    (all.1.1.0, (subst (λ (xs : List Step). IsRun s n xs answers all.1.1.0 k) (sym is) all.1.1.1.0, all.1.1.1.1))
