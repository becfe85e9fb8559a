-- Walks from the first possible bound meet each entry.
use Rattle.std.proofs.Common.{◌≡◌, ◌∙◌, ℕ, Bool, true, cond, List, [], ◌∷◌, filter, refl, ap}
use Rattle.stamp_values.specs.Trees.{is_from, is_name_from}
use Rattle.stamp_values.specs.declared.key.Key.{Key}

-- all elements pass a test that each passes
all_pass : {X : Type 0} (test : X → Bool) → ((x : X) → test x ≡ true) → (xs : List X) → filter test xs ≡ xs
all_pass test each [] = refl
all_pass test each (x ∷ xs) = ap (λ b. cond b (x ∷ filter test xs) (filter test xs)) (each x) ∙ ap (λ l. x ∷ l) (all_pass test each xs)

-- each name is the empty name, or comes after it
from_empty : (name : List ℕ) → is_name_from [] name ≡ true
from_empty [] = refl
from_empty (b ∷ name) = refl

from_first : (account container : List ℕ) → is_from (record { account = []; container = [] }) (record { account = account; container = container }) ≡ true
from_first [] [] = refl
from_first [] (b ∷ t) = refl
from_first (b ∷ t) container = refl

pub all_names : {X : Type 0} (bound : List ℕ) (es : List (List ℕ × X)) → bound ≡ [] → filter (λ e. is_name_from bound e.0) es ≡ es
all_names bound es empty = ap (λ b. filter (λ (e : List ℕ × _). is_name_from b e.0) es) empty ∙ all_pass (λ (e : List ℕ × _). is_name_from [] e.0) (λ e. from_empty e.0) es

pub all_keys : {X : Type 0} (first : Key) (es : List (Key × X)) → first.account ≡ [] → first.container ≡ [] → filter (λ e. is_from first e.0) es ≡ es
all_keys first es account container =
    ap (λ (k : Key). filter (λ (e : Key × _). is_from k e.0) es) (λ i. record { account = account i; container = container i })
    ∙ all_pass (λ (e : Key × _). is_from (record { account = []; container = [] }) e.0) (λ e. from_first e.0.account e.0.container) es
