-- Tickets in a tree, as a list.
use Rattle.std.proofs.Common.{◌≡◌, ◌≤◌, ◌<◌, ◌+◌, ◌⊎◌, inl, inr, ℕ, zero, suc, false, List, [], ◌∷◌, ◌++◌, Option, Some, None, BTreeMap, Ok, Err, refl, sym, ap, ◌∙◌, subst, arith, length}
use Rattle.std.specs.Prelude.{slice_get, slice_set}
use Rattle.std.specs.BTreeMap.{IsUnchanged, Updates, is_at}
use Rattle.std.specs.Map.{lookup}
use Rattle.std.specs.Option.{option_and_then}
use Rattle.std.specs.Cmp.{ranked}
use Rattle.std.specs.Ordering.{is_eq, nat_cmp}
use Rattle.std.specs.declared.cmp.Ordering.{Ordering}
use Rattle.std.specs.declared.cmp.Ordering.TheVariants.{Less, Equal, Greater}
use Rattle.std.proofs.lemmas.List.{length-append}
use Rattle.stamp_core.specs.Tickets.{IsTicketFetched, at_number, held_reply, listed}
use Rattle.stamp_types.specs.declared.reply.Reply.{Reply}
use Rattle.core_run.specs.declared.step.StepFault.{StepFault}
use Rattle.core_run.specs.declared.step.StepFault.TheVariants as fault

-- ---- lists of what numbers have

low_or_last : (k n : ℕ) → k < suc n → (k < n) ⊎ (k ≡ n)
low_or_last zero zero low = inr refl
low_or_last zero (suc n) low = inl (omega arith)
low_or_last (suc k) zero low = absurd (omega (arith, low))
low_or_last (suc k) (suc n) low = elim (low_or_last k n (omega (arith, low))) [ inl less ↦ inl (omega (arith, less)) | inr same ↦ inr (ap suc same) ]

module _ {X : Type 0} where
  pub length-listed : (f : ℕ → Option X) (n : ℕ) → length (listed f n) ≡ n
  length-listed f zero = refl
  length-listed f (suc n) = length-append (listed f n) (f n ∷ []) ∙ omega (arith, length-listed f n)

  -- functions that agree on the first numbers have the same list
  pub listed_alike : (f g : ℕ → Option X) (n : ℕ) → ((k : ℕ) → k < n → f k ≡ g k) → listed f n ≡ listed g n
  listed_alike f g zero alike = refl
  listed_alike f g (suc n) alike = λ i. listed_alike f g n (λ k low. alike k (omega (arith, low))) i ++ alike n (omega arith) i ∷ []

  get-append : (xs : List (Option X)) (o : Option X) (k : ℕ) → k < length xs → slice_get (xs ++ o ∷ []) k ≡ slice_get xs k
  get-append [] o k low = absurd (omega (arith, low))
  get-append (x ∷ xs) o zero low = refl
  get-append (x ∷ xs) o (suc k) low = get-append xs o k (omega (arith, low))

  get-last : (xs : List (Option X)) (o : Option X) (k : ℕ) → k ≡ length xs → slice_get (xs ++ o ∷ []) k ≡ Some o
  get-last [] o zero at = refl
  get-last [] o (suc k) at = absurd (omega (arith, at))
  get-last (x ∷ xs) o zero at = absurd (omega (arith, at))
  get-last (x ∷ xs) o (suc k) at = get-last xs o k (omega (arith, at))

  set-append : (xs : List (Option X)) (o v : Option X) (k : ℕ) → k < length xs → slice_set (xs ++ o ∷ []) k v ≡ slice_set xs k v ++ o ∷ []
  set-append [] o v k low = absurd (omega (arith, low))
  set-append (x ∷ xs) o v zero low = refl
  set-append (x ∷ xs) o v (suc k) low = λ i. x ∷ set-append xs o v k (omega (arith, low)) i

  set-last : (xs : List (Option X)) (o v : Option X) (k : ℕ) → k ≡ length xs → slice_set (xs ++ o ∷ []) k v ≡ xs ++ v ∷ []
  set-last [] o v zero at = refl
  set-last [] o v (suc k) at = absurd (omega (arith, at))
  set-last (x ∷ xs) o v zero at = absurd (omega (arith, at))
  set-last (x ∷ xs) o v (suc k) at = λ i. x ∷ set-last xs o v k (omega (arith, at)) i

  -- what the list has at a number
  pub get-listed : (f : ℕ → Option X) (n k : ℕ) → k < n → slice_get (listed f n) k ≡ Some (f k)
  get-listed f zero k low = absurd (omega (arith, low))
  get-listed f (suc n) k low =
      elim (low_or_last k n low) [
        | inl less ↦ get-append (listed f n) (f n) k (omega (arith, less, length-listed f n)) ∙ get-listed f n k less
        | inr same ↦ get-last (listed f n) (f n) k (same ∙ sym (length-listed f n)) ∙ ap (λ (m : ℕ). Some (f m)) (sym same)
      ]

  -- the list of a function that has something else at one number
  pub set-listed : (f g : ℕ → Option X) (n k : ℕ) (v : Option X) → k < n → g k ≡ v → ((m : ℕ) → (m ≡ k → ⊥) → g m ≡ f m) → listed g n ≡ slice_set (listed f n) k v
  set-listed f g zero k v low own others = absurd (omega (arith, low))
  set-listed f g (suc n) k v low own others =
      elim (low_or_last k n low) [
        | inl less ↦
            (λ i. set-listed f g n k v less own others i ++ others n (λ same. omega (arith, less, same)) i ∷ [])
            ∙ sym (set-append (listed f n) (f n) v k (omega (arith, less, length-listed f n)))
        | inr same ↦
            (λ i. listed_alike g f n (λ m below. others m (λ at. omega (arith, below, at, same))) i ++ (ap g (sym same) ∙ own) i ∷ [])
            ∙ sym (set-last (listed f n) (f n) v k (same ∙ sym (length-listed f n)))
      ]

  -- a list that has nothing at a number is as it was if nothing is put there
  pub none_again : (xs : List (Option X)) (k : ℕ) → held_reply xs k ≡ None → slice_set xs k None ≡ xs
  none_again [] k none = refl
  none_again (x ∷ xs) zero none = λ i. sym none i ∷ xs
  none_again (x ∷ xs) (suc k) none = λ i. x ∷ none_again xs k none i

  past : (xs : List (Option X)) (k : ℕ) → length xs ≤ k → held_reply xs k ≡ None
  past [] k over = refl
  past (x ∷ xs) zero over = absurd (omega (arith, over))
  past (x ∷ xs) (suc k) over = past xs k (omega (arith, over))

-- ---- numbers that are compared

pub untied : (k m : ℕ) → (m ≡ k → ⊥) → is_at (nat_cmp k) m ≡ false
untied k m apart = by (nat_cmp k m) refl
  where
    by : (o : Ordering) → nat_cmp k m ≡ o → is_eq o ≡ false
    by Less e = refl
    by Equal e = absurd (apart (sym (ranked k m Equal (sym e))))
    by Greater e = refl

-- ---- trees of tickets

-- in each lemma t is the tree before, n how many tickets were given before, xs the list that both make, and u the tree after
module _ {X : Type 0} (t : BTreeMap ℕ (Option X)) (n : ℕ) (xs : List (Option X)) where
  pub count_of : listed (at_number t) n ≡ xs → n ≡ length xs
  count_of holds = sym (length-listed (at_number t) n) ∙ ap length holds

  -- one ticket more
  pub one_more : (u : BTreeMap ℕ (Option X)) (m : ℕ) (v : X) → listed (at_number t) n ≡ xs → Updates nat_cmp t u n (Some (Some v)) → m ≡ n + 1 → listed (at_number u) m ≡ xs ++ Some v ∷ []
  one_more u m v holds updates next =
      let is : m ≡ suc n = omega (arith, next) in
      ap (listed (at_number u)) is
      ∙ (λ i. listed_alike (at_number u) (at_number t) n (λ k low. ap (option_and_then (λ o. o)) (updates.2 k (untied n k (λ same. omega (arith, low, same))))) i ++ ap (option_and_then (λ o. o)) updates.1 i ∷ [])
      ∙ ap (λ (ys : List (Option X)). ys ++ Some v ∷ []) holds

  -- a tree that stayed as it was
  pub same_list : (u : BTreeMap ℕ (Option X)) → listed (at_number t) n ≡ xs → IsUnchanged t u → listed (at_number u) n ≡ xs
  same_list u holds same = listed_alike (at_number u) (at_number t) n (λ k low. ap (option_and_then (λ o. o)) (ap (lookup (is_at (nat_cmp k))) same)) ∙ holds

  -- what the list has at a number
  pub held_at : (k : ℕ) → listed (at_number t) n ≡ xs → k < n → held_reply xs k ≡ at_number t k
  held_at k holds low = ap (λ (ys : List (Option X)). held_reply ys k) (sym holds) ∙ ap (option_and_then (λ x. x)) (get-listed (at_number t) n k low)

  -- a place that changed
  pub changed_list : (u : BTreeMap ℕ (Option X)) (k : ℕ) (v : Option X) → listed (at_number t) n ≡ xs → k < n → at_number u k ≡ v → ((m : ℕ) → (m ≡ k → ⊥) → at_number u m ≡ at_number t m)
      → listed (at_number u) n ≡ slice_set xs k v
  changed_list u k v holds low own others = set-listed (at_number t) (at_number u) n k v low own others ∙ ap (λ (ys : List (Option X)). slice_set ys k v) holds

  pub none_past : (k : ℕ) → listed (at_number t) n ≡ xs → n ≤ k → held_reply xs k ≡ None
  none_past k holds over = past xs k (omega (arith, over, count_of holds))

-- ---- a fetch

set_held : {X : Type 0} (xs : List (Option X)) (k : ℕ) → slice_set xs k (held_reply xs k) ≡ xs
set_held [] k = refl
set_held (x ∷ xs) zero = refl
set_held (x ∷ xs) (suc k) = λ i. x ∷ set_held xs k i

-- a fetch that fails leaves what was held
not_taken : (old new : Option Reply) (F : Type 0) (f : StepFault) → IsTicketFetched old F (Err f) new → new ≡ old
not_taken old new F fault.NoSuchTicket is = is.1
not_taken old new F fault.Unreachable is = is.1.1
not_taken old new F fault.NoMemory is = is.1
not_taken old new F other is = absurd is

-- t is the tree before a fetch of a place, and u the tree after it
module _ (t u : BTreeMap ℕ (Option Reply)) (n k : ℕ) (xs : List (Option Reply)) (holds : listed (at_number t) n ≡ xs) (low : k < n) (others : (m : ℕ) → (m ≡ k → ⊥) → at_number u m ≡ at_number t m) (F : Type 0) where
  held_before : at_number t k ≡ held_reply xs k
  held_before = sym (held_at t n xs k holds low)

  module _ (f : StepFault) (is : IsTicketFetched (at_number t k) F (Err f) (at_number u k)) where
    pub failed_list : listed (at_number u) n ≡ xs
    failed_list =
        changed_list t n xs u k (held_reply xs k) holds low (not_taken (at_number t k) (at_number u k) F f is ∙ held_before) others ∙ set_held xs k

    pub failed_fetch : IsTicketFetched (held_reply xs k) F (Err f) (held_reply (listed (at_number u) n) k)
    failed_fetch =
        subst (λ (o : Option Reply). IsTicketFetched (held_reply xs k) F (Err f) o) (sym (held_at u n (listed (at_number u) n) k refl low))
        (subst (λ (o : Option Reply). IsTicketFetched o F (Err f) (at_number u k)) held_before is)

  -- v is the tree after the place went
  module _ (v : BTreeMap ℕ (Option Reply)) (r : Reply) (is : IsTicketFetched (at_number t k) F (Ok r) (at_number u k)) (gone : Updates nat_cmp u v k None) where
    pub ended_list : listed (at_number v) n ≡ slice_set xs k None
    ended_list =
        changed_list t n xs v k None holds low (ap (option_and_then (λ o. o)) gone.1)
        (λ m apart. ap (option_and_then (λ o. o)) (gone.2 m (untied k m apart)) ∙ others m apart)

    pub ended_fetch : IsTicketFetched (held_reply xs k) F (Ok r) (held_reply (listed (at_number v) n) k)
    ended_fetch = (sym held_before ∙ is.0, held_at v n (listed (at_number v) n) k refl low ∙ ap (option_and_then (λ o. o)) gone.1)
