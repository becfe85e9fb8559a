-- What is in a list of one value.
use Rattle.std.proofs.Common.{◌≡◌, List, [], ◌∷◌, length, ap}
use Rattle.http_front.specs.Befores.{only_one}

-- the first value, or another one if there is none
first_or : {A : Type 0} → A → List A → A
first_or other [] = other
first_or other (x ∷ xs) = x

pub only_one_is : {A : Type 0} → (xs : List A) → (one : length xs ≡ 1) → (x : A) → xs ≡ x ∷ [] → only_one xs one ≡ x
unfolding only_one first_or
only_one_is [] one x is = absurd (cc (one))
only_one_is (y ∷ ys) one x is = ap (first_or y) is
