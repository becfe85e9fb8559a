-- Accepted changes that a caller was shown.
use Rattle.std.proofs.Common.{◌≡◌, List, [], ◌∷◌, ◌++◌, sym, subst}
use Rattle.stamp_values.specs.declared.key.Key.{Key}
use Rattle.stamp_types.specs.World.{no_part}
use Rattle.stamp_types.specs.declared.past.Past.{Past}
use Rattle.access_rules.specs.declared.keys.Keys.{Keys}
use Rattle.stamp_model.proofs.HistoryLemmas.{IsLegalFrom-nil}
use Rattle.slot_pass.specs.Passes.{IsShown}

no_more : {X : Type 0} (front : List X) (x : X) (rest : List X) → [] ≡ front ++ x ∷ rest → ⊥
no_more [] x rest h = cc
no_more (y ∷ front) x rest h = cc

-- a caller who was shown nothing
pub shown_nothing : (pairs : List Keys) (key : Key) (front : List Past) → front ≡ [] → IsShown pairs key front
shown_nothing pairs key front none = subst (λ (h : List Past). IsShown pairs key h) (sym none) (record {
  legal = IsLegalFrom-nil pairs key no_part;
  latest = λ front e comes. absurd (no_more front e comes.0 comes.1);
})
