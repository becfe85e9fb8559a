-- The text of pairs is the lines of their groups.
use Rattle.std.proofs.Common.{◌≡◌, ℕ, true, false, cond, List, [], ◌∷◌, ◌++◌, Some, None, refl, sym, ap, ◌∙◌}
use Rattle.std.proofs.lemmas.List.{append-nil, append_assoc}
use Rattle.std.specs.Str.{bytes_eq}
use Rattle.std.specs.List.{flat_map, join_with_byte}
use Rattle.shared_key.specs.Strings.{Pair, parameter_line}
use Rattle.shared_key.specs.Parameters.{text_before_value, pairs_text}

-- a name and its values
abbrev pub Group : Type 0
Group = List ℕ × List (List ℕ)

-- the groups with one pair more at the start: in the first group if that group has the name, else in a group of its own
abbrev pub onto_groups : Pair → List Group → List Group
onto_groups p [] = (p.0, p.1 ∷ []) ∷ []
onto_groups p (g ∷ gs) = cond (bytes_eq g.0 p.0) ((p.0, p.1 ∷ g.1) ∷ gs) ((p.0, p.1 ∷ []) ∷ g ∷ gs)

-- the groups of neighbours with the same name
abbrev pub grouped : List Pair → List Group
grouped [] = []
grouped (p ∷ ps) = onto_groups p (grouped ps)

-- the values of the first group if it has the name, and else no values
abbrev pub taken : List ℕ → List Group → List (List ℕ)
taken name [] = []
taken name (g ∷ gs) = cond (bytes_eq g.0 name) g.1 []

-- the groups without the first group if it has the name, and else all groups
abbrev pub left : List ℕ → List Group → List Group
left name [] = []
left name (g ∷ gs) = cond (bytes_eq g.0 name) gs (g ∷ gs)

-- the values, each with a comma before it
abbrev commas : List (List ℕ) → List ℕ
commas vs = flat_map (λ v. 44 ∷ v) vs

-- what follows a pair with the name: the values of its group, and then the lines of the other groups
abbrev following : List ℕ → List Group → List ℕ
following name gs = commas (taken name gs) ++ flat_map parameter_line (left name gs)

-- values joined by commas: the first value, and each other value with a comma before it
join-commas : (v : List ℕ) (vs : List (List ℕ)) → join_with_byte 44 (v ∷ vs) ≡ v ++ commas vs
join-commas v [] = sym (append-nil v)
join-commas v (w ∷ ws) = ap (λ r. v ++ (44 ∷ r)) (join-commas w ws)

-- the groups with one pair more at the start: a group of its name, and the groups that are left
pub onto_groups-first : (p : Pair) (gs : List Group) → onto_groups p gs ≡ (p.0, p.1 ∷ taken p.0 gs) ∷ left p.0 gs
onto_groups-first p [] = refl
onto_groups-first p (g ∷ gs) =
    elim (bytes_eq g.0 p.0) as (λ b. cond b ((p.0, p.1 ∷ g.1) ∷ gs) ((p.0, p.1 ∷ []) ∷ g ∷ gs) ≡ (p.0, p.1 ∷ cond b g.1 []) ∷ cond b gs (g ∷ gs)) [
      | true ↦ refl
      | false ↦ refl
    ]

regrouped : (a v c r : List ℕ) → ((a ++ 58 ∷ []) ++ v) ++ (c ++ r) ≡ (a ++ 58 ∷ (v ++ c)) ++ r
regrouped a v c r = simp append_assoc

-- a pair that begins a line
new_line : (name v : List ℕ) (vs : List (List ℕ)) (r : List ℕ) → ((10 ∷ name ++ 58 ∷ []) ++ v) ++ (commas vs ++ r) ≡ parameter_line (name, v ∷ vs) ++ r
new_line name v vs r = regrouped (10 ∷ name) v (commas vs) r ∙ ap (λ (j : List ℕ). (10 ∷ name ++ 58 ∷ j) ++ r) (sym (join-commas v vs))

-- the text of pairs after a pair with the name
pub pairs_text_after : (name : List ℕ) (ps : List Pair) → pairs_text (Some name) ps ≡ following name (grouped ps)
pairs_text_after name [] = refl
pairs_text_after name (p ∷ ps) =
    let gs = grouped ps in
    ap (λ r. (text_before_value (Some name) p.0 ++ p.1) ++ r) (pairs_text_after p.0 ps)
    ∙ elim (bytes_eq p.0 name) as (λ b. (cond b (44 ∷ []) (10 ∷ p.0 ++ 58 ∷ []) ++ p.1) ++ following p.0 gs ≡ commas (cond b (p.1 ∷ taken p.0 gs) []) ++ flat_map parameter_line (cond b (left p.0 gs) ((p.0, p.1 ∷ taken p.0 gs) ∷ left p.0 gs))) [
      | true ↦ simp append_assoc
      | false ↦ new_line p.0 p.1 (taken p.0 gs) (flat_map parameter_line (left p.0 gs))
    ]
    ∙ ap (following name) (sym (onto_groups-first p gs))

-- the text of pairs that no pair comes before
pub pairs_text_first : (ps : List Pair) → pairs_text None ps ≡ flat_map parameter_line (grouped ps)
pairs_text_first [] = refl
pairs_text_first (p ∷ ps) =
    let gs = grouped ps in
    ap (λ r. ((10 ∷ p.0 ++ 58 ∷ []) ++ p.1) ++ r) (pairs_text_after p.0 ps)
    ∙ new_line p.0 p.1 (taken p.0 gs) (flat_map parameter_line (left p.0 gs))
    ∙ ap (flat_map parameter_line) (sym (onto_groups-first p gs))
