-- Key pairs of accounts that get later pairs, and histories by these pairs.
use Rattle.std.proofs.Common.{◌≡◌, ◌≤◌, ◌-◌, ◌+◌, inl, inr, ℕ, suc, Bool, true, false, cond, List, [], ◌∷◌, ◌++◌, length, slice_get, get_or, arith, Option, Some, None, IsSome, is_some, unwrap_or, refl, sym, ap, subst, ◌∙◌}
use Rattle.std.specs.Cmp.{Equal-is}
use Rattle.std.specs.FinMap as finite
use Rattle.std.specs.Ordering.{eq_by_cmp}
use Rattle.std.proofs.lemmas.List.{append_assoc, length-append}
use Rattle.std.proofs.lemmas.Option.{slice_get-get_or}
use Rattle.stamp_values.specs.Order.{name_cmp, names_exact, names_total}
use Rattle.stamp_values.specs.declared.key.Key.{Key}
use Rattle.stamp_types.specs.declared.past.Past.{Past}
use Rattle.stamp_types.specs.World.{Part, no_part}
use Rattle.access_rules.specs.declared.keys.Keys.{Keys}
use Rattle.access_rules.specs.Rotation.{are_numbered}
use Rattle.access_rules.proofs.RotationLemmas.{epoch-place, numbered_more}
use Rattle.stamp_model.specs.Histories.{IsLegal, IsLegalFrom, NoneIsLater, pair_of, replay_from}
use Rattle.stamp_model.specs.KeyPairs.{HaveTheirPairs}
use Rattle.stamp_model.proofs.KeyPairLemmas.{IsLegalFrom-more, IsSome-pair_of, pair_of-more, replay_from-more}
use Rattle.slot_state.specs.HistoryMaps.{Histories, history_at}
use Rattle.slot_state.specs.NextPairs.{AreFront, IsFront, IsNext, with_next}
use Rattle.slot_state.specs.Pairs.{AreNumbered, Pairs, current_at, epoch_of, in_force, pairs_at}
use Rattle.slot_state.specs.Slots.{replayed_at}

-- ---- the pairs of one account

some_same : (x y : Keys) → Some x ≡ Some y → x ≡ y
some_same x y h = cc

last_of : (ks : List Keys) (l : Keys) → in_force ks ≡ Some l → (front : List Keys) × (ks ≡ front ++ l ∷ [])
last_of [] l is = absurd cc
last_of (k ∷ []) l is = ([], ap (λ (x : Keys). x ∷ []) (some_same k l is))
last_of (k ∷ m ∷ ks) l is =
    let at : suc (suc (length ks)) - 1 ≡ suc (suc (length ks) - 1) = omega arith in
    let rest = last_of (m ∷ ks) l (sym (ap (slice_get (k ∷ m ∷ ks)) at) ∙ is) in
    (k ∷ rest.0, ap (λ (xs : List Keys). k ∷ xs) rest.1)

some_last : (k : Keys) (ks : List Keys) → in_force (k ∷ ks) ≡ None → ⊥
some_last k ks none =
    let there : slice_get (k ∷ ks) (length (k ∷ ks) - 1) ≡ Some (get_or (k ∷ ks) (length (k ∷ ks) - 1) k) = slice_get-get_or (k ∷ ks) (length (k ∷ ks) - 1) k (omega arith) in
    let never : None ≡ Some (get_or (k ∷ ks) (length (k ∷ ks) - 1) k) = sym none ∙ there in
    cc

-- the epoch of the pair in force is one less than there are pairs
epoch_by : (ks : List Keys) (o : Option Keys) → in_force ks ≡ o → are_numbered ks ≡ true → epoch_of o ≡ length ks - 1
epoch_by ks (Some k) is numbered = epoch-place ks k (length ks - 1) numbered is
epoch_by [] None is numbered = omega arith
epoch_by (k ∷ ks) None is numbered = absurd (some_last k ks is)

-- each epoch up to that of the pair in force has a pair
has_pair : (ks : List Keys) (o : Option Keys) → in_force ks ≡ o → IsSome o → are_numbered ks ≡ true → (epoch : ℕ) → epoch ≤ epoch_of o → IsSome (pair_of ks epoch)
has_pair ks None is some numbered epoch low = absurd cc
has_pair ks (Some l) is some numbered epoch low =
    let ends = last_of ks l is in
    subst (λ (xs : List Keys). IsSome (pair_of xs epoch)) (sym ends.1) (IsSome-pair_of ends.0 l (subst (λ (xs : List Keys). are_numbered xs ≡ true) ends.1 numbered) epoch low)

-- with the next pair they are numbered
next_numbered : (ks : List Keys) (next : Keys) → IsNext ks next → are_numbered ks ≡ true → are_numbered (ks ++ next ∷ []) ≡ true
next_numbered ks next is numbered =
    let ends = last_of ks is.0 is.1.0 in
    subst (λ (xs : List Keys). are_numbered (xs ++ next ∷ []) ≡ true) (sym ends.1)
    (subst (λ (xs : List Keys). are_numbered xs ≡ true) (sym (append_assoc ends.0 (is.0 ∷ []) (next ∷ [])))
    (numbered_more 0 ends.0 is.0 next (subst (λ (xs : List Keys). are_numbered xs ≡ true) ends.1 numbered) is.1.1))

module _ (ks ls : List Keys) (first : are_numbered ks ≡ true) (all : are_numbered ls ≡ true) where
  epoch_grows : IsFront ks ls → epoch_of (in_force ks) ≤ epoch_of (in_force ls)
  epoch_grows (inl same) = omega (arith, ap (λ (xs : List Keys). epoch_of (in_force xs)) same)
  epoch_grows (inr p) = omega (arith, epoch_by ks (in_force ks) refl first, epoch_by ls (in_force ls) refl all, ap length p.1.1, length-append ks p.1.0)

  same_pair : (epoch : ℕ) → epoch ≤ epoch_of (in_force ks) → IsFront ks ls → pair_of ls epoch ≡ pair_of ks epoch
  same_pair epoch low (inl same) = ap (λ (xs : List Keys). pair_of xs epoch) same
  same_pair epoch low (inr p) = ap (λ (xs : List Keys). pair_of xs epoch) p.1.1 ∙ pair_of-more ks p.1.0 epoch (has_pair ks (in_force ks) refl p.0 first epoch low)

  module _ (history : List Past) (latest : NoneIsLater (epoch_of (in_force ks)) history) where
    have_pairs : IsSome (in_force ks) → HaveTheirPairs ks history
    have_pairs some front e comes = has_pair ks (in_force ks) refl some first e.epoch (latest front e comes)

    same_replay : (start : Part (List ℕ)) → IsFront ks ls → replay_from ls start history ≡ replay_from ks start history
    same_replay start (inl same) = ap (λ (xs : List Keys). replay_from xs start history) same
    same_replay start (inr p) = ap (λ (xs : List Keys). replay_from xs start history) p.1.1 ∙ replay_from-more ks p.1.0 start history (have_pairs p.0)

    still_legal : (key : Key) (start : Part (List ℕ)) → IsFront ks ls → IsLegalFrom ks key start history → IsLegalFrom ls key start history
    still_legal key start (inl same) legal = subst (λ (xs : List Keys). IsLegalFrom xs key start history) (sym same) legal
    still_legal key start (inr p) legal = subst (λ (xs : List Keys). IsLegalFrom xs key start history) (sym p.1.1) (IsLegalFrom-more ks p.1.0 key start history (have_pairs p.0) legal)

    still_latest : IsFront ks ls → NoneIsLater (epoch_of (in_force ls)) history
    still_latest front some e comes = omega (arith, latest some e comes, epoch_grows front)

-- ---- the pairs of all accounts

pairs_at-insert : (pairs : Pairs) (account : List ℕ) (v : List Keys) (a : List ℕ) → pairs_at (finite.insert pairs account v) a ≡ cond (eq_by_cmp name_cmp a account) v (pairs_at pairs a)
pairs_at-insert pairs account v a = ap (λ (o : Option (List Keys)). unwrap_or o []) (finite.get-insert names_total pairs account v a) ∙ by (eq_by_cmp name_cmp a account)
  where
    by : (b : Bool) → unwrap_or (cond b (Some v) (finite.get pairs a)) [] ≡ cond b v (unwrap_or (finite.get pairs a) [])
    by true = refl
    by false = refl

tied : (a b : List ℕ) → eq_by_cmp name_cmp a b ≡ true → a ≡ b
tied a b tie = names_exact a b ((Equal-is (name_cmp a b)).0 tie)

module _ (pairs : Pairs) (account : List ℕ) (next : Keys) (is : IsNext (pairs_at pairs account) next) where
  abbrev longer_list : List Keys
  longer_list = pairs_at pairs account ++ next ∷ []

  numbered_by : AreNumbered pairs → (a : List ℕ) (b : Bool) → are_numbered (cond b longer_list (pairs_at pairs a)) ≡ true
  numbered_by numbered a true = next_numbered (pairs_at pairs account) next is (numbered account)
  numbered_by numbered a false = numbered a

  -- with the next pair the pairs of each account are numbered
  pub next_are_numbered : AreNumbered pairs → AreNumbered (with_next pairs account next)
  next_are_numbered numbered a = ap are_numbered (pairs_at-insert pairs account longer_list a) ∙ numbered_by numbered a (eq_by_cmp name_cmp a account)

  front_by : (a : List ℕ) (b : Bool) → eq_by_cmp name_cmp a account ≡ b → IsFront (pairs_at pairs a) (cond b longer_list (pairs_at pairs a))
  front_by a true tie =
      subst (λ (x : List ℕ). IsFront (pairs_at pairs x) longer_list) (sym (tied a account tie)) (inr (ap (λ (o : Option Keys). is_some o) is.1.0, (next ∷ [], refl)))
  front_by a false tie = inl refl

  -- and the pairs of each account are those that it had, and perhaps the next one
  pub next_are_longer : AreFront pairs (with_next pairs account next)
  next_are_longer a = subst (λ (xs : List Keys). IsFront (pairs_at pairs a) xs) (sym (pairs_at-insert pairs account longer_list a)) (front_by a (eq_by_cmp name_cmp a account) refl)

-- a list under the name of its account
pub numbered_longer : (pairs copy longer : Pairs) (account name : List ℕ) (ks : List Keys) (next : Keys) → AreNumbered pairs → IsNext (pairs_at pairs account) next → copy ≡ pairs → name ≡ account
    → ks ≡ pairs_at pairs account ++ next ∷ [] → longer ≡ finite.insert copy name ks → AreNumbered longer
numbered_longer pairs copy longer account name ks next numbered is same own all put =
    subst AreNumbered (sym (put ∙ (λ i. finite.insert (same i) (own i) (all i)))) (next_are_numbered pairs account next is numbered)

-- histories by the pairs, and by the pairs and later ones
module _ (pairs longer : Pairs) (first : AreNumbered pairs) (all : AreNumbered longer) (front : AreFront pairs longer) where
  pub epoch_longer : (account : List ℕ) → epoch_of (current_at pairs account) ≤ epoch_of (current_at longer account)
  epoch_longer account = epoch_grows (pairs_at pairs account) (pairs_at longer account) (first account) (all account) (front account)

  pub pair_longer : (account : List ℕ) (epoch : ℕ) → epoch ≤ epoch_of (current_at pairs account) → pair_of (pairs_at longer account) epoch ≡ pair_of (pairs_at pairs account) epoch
  pair_longer account epoch low = same_pair (pairs_at pairs account) (pairs_at longer account) (first account) (all account) epoch low (front account)

  module _ (h : Histories) (latest : (key : Key) → NoneIsLater (epoch_of (current_at pairs key.account)) (history_at h key)) (key : Key) where
    pub replayed_longer : replayed_at longer h key ≡ replayed_at pairs h key
    replayed_longer = same_replay (pairs_at pairs key.account) (pairs_at longer key.account) (first key.account) (all key.account) (history_at h key) (latest key) no_part (front key.account)

    pub legal_longer : IsLegal (pairs_at pairs key.account) key (history_at h key) → IsLegal (pairs_at longer key.account) key (history_at h key)
    legal_longer = still_legal (pairs_at pairs key.account) (pairs_at longer key.account) (first key.account) (all key.account) (history_at h key) (latest key) key no_part (front key.account)

    pub latest_longer : NoneIsLater (epoch_of (current_at longer key.account)) (history_at h key)
    latest_longer = still_latest (pairs_at pairs key.account) (pairs_at longer key.account) (first key.account) (all key.account) (history_at h key) (latest key) (front key.account)
