-- Why a list of pairs is refused, by the pairs that are left and by those that were taken.
use Rattle.std.proofs.Common.{◌≡◌, ◌≢◌, ◌↔◌, ◌⊎◌, inl, inr, ℕ, zero, suc, nat_eq, Bool, true, false, cond, List, ◌∷◌, ◌++◌, [], Option, Some, None, is_some, Result, Ok, Err, refl, ap, ◌∙◌, sym, arith}
use Rattle.std.proofs.lemmas.Bool.Decides.{nat_tests}
use Rattle.std.specs.Prelude.{IsSome, ◌||◌}
use Rattle.std.specs.FinMap as finite
use Rattle.std.specs.Ordering.{eq_by_cmp}
use Rattle.list_pages.specs.Containers.{or_else}
use Rattle.stamp_values.specs.Order.{name_cmp, names_total}
use Rattle.access_rules.specs.declared.keys.Keys.{Keys}
use Rattle.slot_state.specs.Pairs.{Pairs, first_pairs, with_first}
use Rattle.slot_state.proofs.PairLemmas.{with_first_last}
use Rattle.slot_state.specs.PairFaults.{fault_if, has_pair, pairs_fault}
use Rattle.slot_state.specs.declared.pairs_fault.PairsFault.{PairsFault}
use Rattle.slot_state.specs.declared.pairs_fault.PairsFault.TheVariants.{NotFirst, Twice, NoMemory}

-- why the pair is refused beside these pairs of accounts
abbrev pub fault_at : Pairs → Keys → Option PairsFault
fault_at all k = fault_if (is_some (finite.get all k.account)) k

-- why the pairs are refused beside these pairs of accounts
abbrev pub fault_onto : List Keys → Pairs → Option PairsFault
fault_onto [] all = None
fault_onto (k ∷ ks) all = or_else (fault_onto ks all) (fault_at (with_first ks all) k)

or_else_assoc : {X : Type 0} (a b c : Option X) → or_else (or_else a b) c ≡ or_else a (or_else b c)
or_else_assoc None b c = refl
or_else_assoc (Some x) b c = refl

or_else_none : {X : Type 0} (a : Option X) → a ≡ or_else a None
or_else_none None = refl
or_else_none (Some x) = refl

has_by : (o : Option (List Keys)) (v : List Keys) (b found : Bool) → is_some o ≡ found → is_some (cond b (Some v) o) ≡ (b || found)
has_by o v true found h = refl
has_by o v false found h = h

-- an account has a pair after the pairs are put if one of them is of the account
has_first : (ks : List Keys) (account : List ℕ) → is_some (finite.get (first_pairs ks) account) ≡ has_pair ks account
has_first [] account = ap is_some (finite.get-empty name_cmp account)
has_first (k ∷ ks) account =
    ap is_some (finite.get-insert names_total (first_pairs ks) k.account (k ∷ []) account)
    ∙ has_by (finite.get (first_pairs ks) account) (k ∷ []) (eq_by_cmp name_cmp account k.account) (has_pair ks account) (has_first ks account)

onto_none : (ks : List Keys) → fault_onto ks finite.empty ≡ pairs_fault ks
onto_none [] = refl
onto_none (k ∷ ks) =
    ap (λ (o : Option PairsFault). or_else o (fault_at (first_pairs ks) k)) (onto_none ks)
    ∙ ap (λ (b : Bool). or_else (pairs_fault ks) (fault_if b k)) (has_first ks k.account)

-- the loop begins
pub fault_begins : (ks : List Keys) (all : Pairs) → all ≡ finite.empty → fault_onto ks all ≡ pairs_fault ks
fault_begins ks all is = ap (fault_onto ks) is ∙ onto_none ks

fault_last : (ks : List Keys) (k : Keys) (all : Pairs) → fault_onto (ks ++ k ∷ []) all ≡ or_else (fault_at all k) (fault_onto ks (finite.insert all k.account (k ∷ [])))
fault_last [] k all = or_else_none (fault_at all k)
fault_last (x ∷ ks) k all =
    ap (λ (o : Option PairsFault). or_else o (fault_at (with_first (ks ++ k ∷ []) all) x)) (fault_last ks k all)
    ∙ or_else_assoc (fault_at all k) (fault_onto ks (finite.insert all k.account (k ∷ []))) (fault_at (with_first (ks ++ k ∷ []) all) x)
    ∙ ap (λ (m : Pairs). or_else (fault_at all k) (or_else (fault_onto ks (finite.insert all k.account (k ∷ []))) (fault_at m x))) (with_first_last ks k all)

-- a pair that is taken leaves the fault to the pairs before it
pub fault_goes_on : (ks : List Keys) (k : Keys) (all : Pairs) → fault_at all k ≡ None → fault_onto (ks ++ k ∷ []) all ≡ fault_onto ks (finite.insert all k.account (k ∷ []))
fault_goes_on ks k all none = fault_last ks k all ∙ ap (λ (o : Option PairsFault). or_else o (fault_onto ks (finite.insert all k.account (k ∷ [])))) none

-- a pair that is refused is the fault
pub fault_found : (ks : List Keys) (k : Keys) (all : Pairs) (fault : PairsFault) → fault_at all k ≡ Some fault → fault_onto (ks ++ k ∷ []) all ≡ Some fault
fault_found ks k all fault found = fault_last ks k all ∙ ap (λ (o : Option PairsFault). or_else o (fault_onto ks (finite.insert all k.account (k ∷ [])))) found

-- ---- what the answer to one more pair says

abbrev NotFirstIff : Result (Unit {0}) PairsFault → Keys → Type 0
NotFirstIff r k = (r ≡ Err NotFirst) ↔ (k.epoch ≢ 0)

abbrev TwiceIff : Result (Unit {0}) PairsFault → Pairs → Keys → Type 0
TwiceIff r all k = (r ≡ Err Twice) ↔ ((k.epoch ≡ 0) × IsSome (finite.get all k.account))

ok_is_no_fault : {X : Type 0} (u : Unit {0}) (fault : PairsFault) → Ok u ≡ Err fault → X
ok_is_no_fault u fault h = cc

-- by the number of the epoch, and by whether the account has a pair
none_by : (u : Unit {0}) (n : ℕ) (taken : Bool) → ((n ≢ 0) → Ok u ≡ Err NotFirst) → ((n ≡ 0) × (taken ≡ true) → Ok u ≡ Err Twice) → cond (nat_eq n 0) (cond taken (Some Twice) None) (Some NotFirst) ≡ None
none_by u zero false first twice = refl
none_by u zero true first twice = ok_is_no_fault u Twice (twice (refl, refl))
none_by u (suc n) taken first twice = ok_is_no_fault u NotFirst (first (λ h. cc))

pub taken_has_none : (u : Unit {0}) (all : Pairs) (k : Keys) → NotFirstIff (Ok u) k → TwiceIff (Ok u) all k → fault_at all k ≡ None
taken_has_none u all k first twice = none_by u k.epoch (is_some (finite.get all k.account)) first.1 twice.1

twice_by : (n : ℕ) (taken : Bool) → n ≡ 0 → taken ≡ true → cond (nat_eq n 0) (cond taken (Some Twice) None) (Some NotFirst) ≡ Some Twice
twice_by zero true h is = refl
twice_by zero false h is = cc
twice_by (suc n) taken h is = cc

equal : (m n : ℕ) → nat_eq m n ≡ true → m ≡ n
equal m n h = grind (arith, nat_tests)

first_by : (n : ℕ) (taken b : Bool) → nat_eq n 0 ≡ b → n ≢ 0 → cond (nat_eq n 0) (cond taken (Some Twice) None) (Some NotFirst) ≡ Some NotFirst
first_by n taken true is h = absurd (h (equal n 0 is))
first_by n taken false is h = ap (λ (b : Bool). cond b (cond taken (Some Twice) None) (Some NotFirst)) is

pub refused_has_fault : (fault : PairsFault) (all : Pairs) (k : Keys) → NotFirstIff (Err fault) k → TwiceIff (Err fault) all k → (fault ≡ NoMemory) ⊎ (fault_at all k ≡ Some fault)
refused_has_fault NotFirst all k first twice = inr (first_by k.epoch (is_some (finite.get all k.account)) (nat_eq k.epoch 0) refl (first.0 refl))
refused_has_fault Twice all k first twice = let has = twice.0 refl in inr (twice_by k.epoch (is_some (finite.get all k.account)) has.0 has.1)
refused_has_fault NoMemory all k first twice = inl refl

-- ---- a step of the loop

abbrev IsBefore : List Keys → Pairs → Pairs → Option PairsFault → Type 0
IsBefore left all whole fault = (with_first left all ≡ whole) × (fault_onto left all ≡ fault)

pub step_taken : (left ks : List Keys) (k : Keys) (all more whole : Pairs) (o : Option PairsFault) (u : Unit {0}) → left ≡ ks ++ k ∷ [] → more ≡ finite.insert all k.account (k ∷ [])
    → NotFirstIff (Ok u) k → TwiceIff (Ok u) all k → IsBefore left all whole o → IsBefore ks more whole o
step_taken left ks k all more whole o u rest added first twice before = (
  ap (with_first ks) added ∙ sym (with_first_last ks k all) ∙ ap (λ (l : List Keys). with_first l all) (sym rest) ∙ before.0,
  ap (fault_onto ks) added ∙ sym (fault_goes_on ks k all (taken_has_none u all k first twice)) ∙ ap (λ (l : List Keys). fault_onto l all) (sym rest) ∙ before.1,
)

found_by : (left ks : List Keys) (k : Keys) (all : Pairs) (o : Option PairsFault) (fault : PairsFault) → left ≡ ks ++ k ∷ [] → fault_onto left all ≡ o
    → (fault ≡ NoMemory) ⊎ (fault_at all k ≡ Some fault) → (fault ≡ NoMemory) ⊎ (o ≡ Some fault)
found_by left ks k all o fault rest before (inl memory) = inl memory
found_by left ks k all o fault rest before (inr found) = inr (sym before ∙ ap (λ (l : List Keys). fault_onto l all) rest ∙ fault_found ks k all fault found)

pub step_refused : (left ks : List Keys) (k : Keys) (all : Pairs) (o : Option PairsFault) (fault : PairsFault) → left ≡ ks ++ k ∷ [] → fault_onto left all ≡ o
    → NotFirstIff (Err fault) k → TwiceIff (Err fault) all k → (fault ≡ NoMemory) ⊎ (o ≡ Some fault)
step_refused left ks k all o fault rest before first twice = found_by left ks k all o fault rest before (refused_has_fault fault all k first twice)
