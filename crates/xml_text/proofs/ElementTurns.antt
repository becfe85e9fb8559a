-- One element of `elements_at`, for any name and any inner form.
use Rattle.std.proofs.Common.{◌≡◌, ℕ, zero, suc, ◌<◌, ◌≤◌, List, [], ◌∷◌, ◌++◌, length, Some, None, refl, sym, ap, ◌∙◌, arith, append_assoc}
use Rattle.std.specs.Prelude.{option_map}
use Rattle.xml_text.specs.Tokens.{Tag}
use Rattle.xml_text.specs.Reading.{Read, ◌>>=◌}
use Rattle.xml_text.specs.ElementReading.{next_at, listed, elements_at}

-- these elements before what was read
abbrev pub onto : {A : Type 0} → List A → Read (List A) → Read (List A)
onto done r = option_map (λ p. (done ++ p.0, p.1)) r

-- each number of turns that is enough for the whole gives these elements and leaves a number that is enough for what is left
abbrev pub Lists : {A : Type 0} → List ℕ → (Tag → List ℕ → Read A) → List ℕ → List ℕ → List A → Type 0
Lists name one whole left done =
    (n : ℕ) → length whole < n → (m : ℕ) × (length left < m) × (elements_at name one n whole ≡ onto done (elements_at name one m left))

onto-nil : {A : Type 0} (o : Read (List A)) → o ≡ onto [] o
onto-nil None = refl
onto-nil (Some p) = refl

pub start : {A : Type 0} (name : List ℕ) (one : Tag → List ℕ → Read A) (whole : List ℕ) → Lists name one whole whole []
start name one whole n h = (n, h, onto-nil (elements_at name one n whole))

stopped : {A : Type 0} (name : List ℕ) (one : Tag → List ℕ → Read A) (m : ℕ) (whole left : List ℕ) (done : List A) (n : ℕ) → length left < m
    → elements_at name one n whole ≡ onto done (elements_at name one m left) → next_at name one left ≡ None → elements_at name one n whole ≡ None
unfolding elements_at
stopped name one zero whole left done n room same is = absurd (omega arith)
stopped name one (suc m) whole left done n room same is = same ∙ ap (λ o. onto done (o >>= (λ r. listed (elements_at name one m) r.0 r.1))) is

pub no_more : {A : Type 0} (name : List ℕ) (one : Tag → List ℕ → Read A) (whole left : List ℕ) (done : List A) → Lists name one whole left done → next_at name one left ≡ None
    → (n : ℕ) → length whole < n → elements_at name one n whole ≡ None
no_more name one whole left done lists is n h = let (m, room, same) = lists n h in stopped name one m whole left done n room same is

append-nil : {A : Type 0} (xs : List A) → xs ++ [] ≡ xs
append-nil [] = refl
append-nil (x ∷ xs) = λ i. x ∷ append-nil xs i

ended : {A : Type 0} (name : List ℕ) (one : Tag → List ℕ → Read A) (m : ℕ) (whole left rest : List ℕ) (done : List A) (n : ℕ) → length left < m
    → elements_at name one n whole ≡ onto done (elements_at name one m left) → next_at name one left ≡ Some (None, rest) → elements_at name one n whole ≡ Some (done, rest)
unfolding elements_at
ended name one zero whole left rest done n room same is = absurd (omega arith)
ended name one (suc m) whole left rest done n room same is =
    same ∙ ap (λ o. onto done (o >>= (λ r. listed (elements_at name one m) r.0 r.1))) is ∙ (λ i. Some (append-nil done i, rest))

pub at_end : {A : Type 0} (name : List ℕ) (one : Tag → List ℕ → Read A) (whole left rest : List ℕ) (done : List A) → Lists name one whole left done
    → next_at name one left ≡ Some (None, rest) → (n : ℕ) → length whole < n → elements_at name one n whole ≡ Some (done, rest)
at_end name one whole left rest done lists is n h = let (m, room, same) = lists n h in ended name one m whole left rest done n room same is

onto_one : {A : Type 0} (done : List A) (a : A) (o : Read (List A)) → onto done (option_map (λ found. (a ∷ found.0, found.1)) o) ≡ onto (done ++ a ∷ []) o
onto_one done a None = refl
onto_one done a (Some p) = ap (λ l. Some (l, p.1)) (sym (append_assoc done (a ∷ []) p.0))

continued : {A : Type 0} (name : List ℕ) (one : Tag → List ℕ → Read A) (m : ℕ) (whole left rest : List ℕ) (done : List A) (a : A) (n : ℕ) → length left < m
    → elements_at name one n whole ≡ onto done (elements_at name one m left) → next_at name one left ≡ Some (Some a, rest)
    → (k : ℕ) × (length left ≤ k) × (elements_at name one n whole ≡ onto (done ++ a ∷ []) (elements_at name one k rest))
unfolding elements_at
continued name one zero whole left rest done a n room same is = absurd (omega arith)
continued name one (suc m) whole left rest done a n room same is =
    (m, omega arith, same ∙ ap (λ o. onto done (o >>= (λ r. listed (elements_at name one m) r.0 r.1))) is ∙ onto_one done a (elements_at name one m rest))

pub one_more : {A : Type 0} (name : List ℕ) (one : Tag → List ℕ → Read A) (whole left rest : List ℕ) (done : List A) (a : A) → Lists name one whole left done
    → next_at name one left ≡ Some (Some a, rest) → length rest < length left → Lists name one whole rest (done ++ a ∷ [])
one_more name one whole left rest done a lists is shorter n h =
    let (m, room, same) = lists n h in
    let (k, fits, more) = continued name one m whole left rest done a n room same is in (k, omega arith, more)
