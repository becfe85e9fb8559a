-- A history with one more entry.
use Rattle.std.proofs.Common.{◌≡◌, ℕ, ◌≤◌, ◌⊎◌, inl, inr, List, [], ◌∷◌, ◌++◌, refl, sym, ap, ◌∙◌, subst}
use Rattle.std.proofs.lemmas.List.{append_assoc}
use Rattle.std.proofs.lemmas.List.Sums.{fold-append}
use Rattle.stamp_values.specs.declared.key.Key.{Key}
use Rattle.stamp_types.specs.declared.past.Past.{Past}
use Rattle.stamp_types.specs.Pieces.{held}
use Rattle.stamp_types.specs.World.{Part, World, part_at}
use Rattle.access_rules.specs.declared.keys.Keys.{Keys}
use Rattle.range_rows.specs.SentContent.{byte_count}
use Rattle.stamp_model.specs.Effects.{effect}
use Rattle.stamp_model.specs.Histories.{pair_of, after_entry, replay_from, IsEntryAfter, NoneIsLater, IsAccepted, IsLegalFrom}
use Rattle.stamp_model.proofs.EffectLemmas.{part_at-effect}

no_more : {X : Type 0} (front : List X) (x : X) (rest : List X) → [] ≡ front ++ x ∷ rest → ⊥
no_more [] x rest h = cc
no_more (y ∷ front) x rest h = cc

-- an element of a list that has one more element at its end is that last element, or is an element of the shorter list
pub last_or_before : {X : Type 0} (xs : List X) (e x : X) (front rest : List X) → xs ++ e ∷ [] ≡ front ++ x ∷ rest → ((front ≡ xs) × (x ≡ e)) ⊎ ((left : List X) × (xs ≡ front ++ x ∷ left))
last_or_before [] e x [] rest h = inl (refl, cc)
last_or_before [] e x (y ∷ front) rest h = absurd (no_more front x rest cc)
last_or_before (y ∷ xs) e x [] rest h = let same : y ≡ x = cc in inr (xs, ap (λ z. z ∷ xs) same)
last_or_before {X} (y ∷ xs) e x (z ∷ front) rest h =
    let same : y ≡ z = cc in
    let less : xs ++ e ∷ [] ≡ front ++ x ∷ rest = cc in
    elim (last_or_before xs e x front rest less) [
      | inl p ↦ inl ((λ i. sym same i ∷ p.0 i), p.1)
      | inr p ↦ inr (p.0, λ i. same i ∷ p.1 i)
    ]

-- the container after one more entry
pub replay_from-append : (pairs : List Keys) (start : Part (List ℕ)) (history : List Past) (e : Past) → replay_from pairs start (history ++ e ∷ []) ≡ after_entry pairs (replay_from pairs start history) e
replay_from-append pairs start history e = fold-append (after_entry pairs) start history (e ∷ [])

-- the world after the entry's request
pub part_at-replayed : (pairs : List Keys) (w : World (List ℕ)) (start : Part (List ℕ)) (history : List Past) (e : Past) → part_at w e.request.ask.key ≡ replay_from pairs start history → part_at (effect (pair_of pairs e.epoch) w e.request e.moment) e.request.ask.key ≡ replay_from pairs start (history ++ e ∷ [])
part_at-replayed pairs w start history e same =
    part_at-effect byte_count held (pair_of pairs e.epoch) w e.request e.moment
    ∙ ap (λ (p : Part (List ℕ)). after_entry pairs p e) same
    ∙ sym (replay_from-append pairs start history e)

-- the world after an accepted entry's request, which names the container of the history
pub part_at-accepted : (pairs : List Keys) (key : Key) (w : World (List ℕ)) (start : Part (List ℕ)) (history : List Past) (e : Past) → IsAccepted pairs key (replay_from pairs start history) e → part_at w key ≡ replay_from pairs start history → part_at (effect (pair_of pairs e.epoch) w e.request e.moment) key ≡ replay_from pairs start (history ++ e ∷ [])
part_at-accepted pairs key w start history e new =
    subst (λ (k : Key). part_at w k ≡ replay_from pairs start history → part_at (effect (pair_of pairs e.epoch) w e.request e.moment) k ≡ replay_from pairs start (history ++ e ∷ [])) new.own
    (part_at-replayed pairs w start history e)

module _ (pairs : List Keys) (key : Key) (start : Part (List ℕ)) (history : List Past) (e : Past) where
  accepted_there : IsLegalFrom pairs key start history → IsAccepted pairs key (replay_from pairs start history) e → (front : List Past) (x : Past)
      → ((front ≡ history) × (x ≡ e)) ⊎ IsEntryAfter front x history → IsAccepted pairs key (replay_from pairs start front) x
  accepted_there legal new front x (inl p) =
      subst (λ (f : List Past). IsAccepted pairs key (replay_from pairs start f) x) (sym p.0)
      (subst (λ (y : Past). IsAccepted pairs key (replay_from pairs start history) y) (sym p.1) new)
  accepted_there legal new front x (inr came) = legal.accepted front x came

  rising : IsLegalFrom pairs key start history → NoneIsLater e.epoch history → (front between : List Past) (x later : Past)
      → ((front ++ x ∷ between ≡ history) × (later ≡ e)) ⊎ IsEntryAfter (front ++ x ∷ between) later history → x.epoch ≤ later.epoch
  rising legal none front between x later (inl p) =
      subst (λ (y : Past). x.epoch ≤ y.epoch) (sym p.1) (none front x (between, sym p.0))
  rising legal none front between x later (inr came) = legal.epochs front between x later came

  -- the longer history is legal
  pub IsLegalFrom-append : IsLegalFrom pairs key start history → NoneIsLater e.epoch history → IsAccepted pairs key (replay_from pairs start history) e → IsLegalFrom pairs key start (history ++ e ∷ [])
  IsLegalFrom-append legal none new = record {
    accepted = λ front x comes. accepted_there legal new front x (last_or_before history e x front comes.0 comes.1);
    epochs = λ front between x later comes. rising legal none front between x later (last_or_before history e later (front ++ x ∷ between) comes.0 comes.1);
  }

-- what is in a front part of a list is in the whole list, at the same position
still : {X : Type 0} (xs more front : List X) (x : X) → (rest : List X) × (xs ≡ front ++ x ∷ rest) → (rest : List X) × (xs ++ more ≡ front ++ x ∷ rest)
still {X} xs more front x comes =
    (comes.0 ++ more, ap (λ (ys : List X). ys ++ more) comes.1 ∙ append_assoc front (x ∷ comes.0) more)

module _ (pairs : List Keys) (key : Key) (start : Part (List ℕ)) where
  pub IsLegalFrom-nil : IsLegalFrom pairs key start []
  IsLegalFrom-nil = record {
    accepted = λ front e comes. absurd (no_more front e comes.0 comes.1);
    epochs = λ front between e later comes. absurd (no_more (front ++ e ∷ between) later comes.0 comes.1);
  }

  pub IsLegalFrom-front : (history more : List Past) → IsLegalFrom pairs key start (history ++ more) → IsLegalFrom pairs key start history
  IsLegalFrom-front history more legal = record {
    accepted = λ front e comes. legal.accepted front e (still history more front e comes);
    epochs = λ front between e later comes. legal.epochs front between e later (still history more (front ++ e ∷ between) later comes);
  }
