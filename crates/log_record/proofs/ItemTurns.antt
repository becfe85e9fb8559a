-- Items that a loop reads, each after the one before.
use Rattle.std.proofs.Common.{◌≡◌, ℕ, suc, ◌-◌, ◌+◌, ◌≤◌, ◌<◌, List, [], ◌∷◌, ◌++◌, Some, None, refl, sym, ap, ◌∙◌, append_assoc, arith}
use Rattle.std.proofs.lemmas.List.{append-nil}
use Rattle.log_record.specs.declared.record_fault.RecordFault.{RecordFault}
use Rattle.log_record.specs.declared.record_fault.RecordFault.TheVariants.{Form, Version, NoMemory}
use Rattle.log_record.specs.Outcomes.{Refuses}
use Rattle.log_record.specs.Reading.{Read, ◌>>=◌, each_at}

-- the items that were read before, and then the items that are still to be read
abbrev pub with_front : {A : Type 0} → List A → Read (List A) → Read (List A)
with_front front read = read >>= (λ x. Some (front ++ x.0, x.1))

regroup : {A : Type 0} (front : List A) (a : A) (read : Read (List A)) → with_front front (read >>= (λ x. Some (a ∷ x.0, x.1))) ≡ with_front (front ++ a ∷ []) read
regroup front a (Some x) = ap (λ items. Some (items, x.1)) (simp append_assoc)
regroup front a None = refl

module _ {A : Type 0} (at : List ℕ → Read A) (front : List A) (count i : ℕ) (t : List ℕ) (total : Read (List A)) where
  pub goes_on : (a : A) (after : List ℕ) → i < count → at t ≡ Some (a, after) → with_front front (each_at at (count - i) t) ≡ total
      → with_front (front ++ a ∷ []) (each_at at (count - (i + 1)) after) ≡ total
  unfolding each_at
  goes_on a after lt h so_far =
      let k : count - i ≡ suc (count - (i + 1)) = omega arith in
      let one : with_front front (each_at at (count - i) t) ≡ with_front (front ++ a ∷ []) (each_at at (count - (i + 1)) after) = rw (k, h) (regroup front a (each_at at (count - (i + 1)) after)) in
      sym one ∙ so_far

  pub ends : (fault : RecordFault) → i < count → Refuses fault (at t) → with_front front (each_at at (count - i) t) ≡ total → Refuses fault total
  unfolding each_at
  ends NoMemory lt h so_far = tt
  ends Version lt h so_far = h
  ends Form lt h so_far =
      let k : count - i ≡ suc (count - (i + 1)) = omega arith in
      let one : with_front front (each_at at (count - i) t) ≡ None = rw (k, h) refl in
      sym so_far ∙ one

  pub is_done : count ≤ i → with_front front (each_at at (count - i) t) ≡ total → total ≡ Some (front, t)
  unfolding each_at
  is_done le so_far =
      let k : count - i ≡ 0 = omega arith in
      let one : with_front front (each_at at (count - i) t) ≡ Some (front, t) = rw k (ap (λ items. Some (items, t)) (append-nil front)) in
      sym so_far ∙ one
