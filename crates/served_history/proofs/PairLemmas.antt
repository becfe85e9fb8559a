-- The key pairs by which slots judge, along the entries of a history.
use Rattle.std.proofs.Common.{◌≡◌, ◌≤◌, ◌-◌, ◌+◌, ℕ, suc, Bool, true, false, cond, nat_eq, List, [], ◌∷◌, ◌++◌, All, length, slice_get, get_or, Option, Some, None, inl, inr, unwrap_or, refl, sym, ap, ◌∙◌, subst, arith}
use Rattle.std.specs.Cmp.{Equal-is}
use Rattle.std.specs.FinMap as finite
use Rattle.std.specs.List.{fold}
use Rattle.std.specs.Ordering.{eq_by_cmp}
use Rattle.std.proofs.Math.Seq.{get_or-append_seam}
use Rattle.std.proofs.lemmas.List.{append-nil, append_assoc, length-append}
use Rattle.std.proofs.lemmas.Option.{slice_get-get_or}
use Rattle.stamp_values.specs.Order.{name_cmp, names_exact, names_total}
use Rattle.stamp_values.specs.declared.key.Key.{Key}
use Rattle.access_rules.specs.declared.keys.Keys.{Keys}
use Rattle.access_rules.specs.declared.rotation.Which.{Which}
use Rattle.access_rules.specs.declared.rotation.Which.TheVariants as which
use Rattle.access_rules.specs.Rotation.{epoch_after, rotated}
use Rattle.access_rules.proofs.RotationLemmas.{epoch-rotated}
use Rattle.slot_state.specs.Pairs.{Pairs, current_at, epoch_of, in_force, pairs_at}
use Rattle.served_history.specs.declared.entry.Entry.{Entry}
use Rattle.served_history.specs.declared.entry.Entry.TheVariants.{Opened, Rotated, Served, Split}
use Rattle.served_history.specs.Histories.{next_from, next_pairs, owner, owner_after, pair_for, pairs_after, pairs_along, pairs_for, IsAfter, IsHistory, IsOpened, IsOwn}
use Rattle.served_history.specs.Rotations.{GivesKey, HasKey}
use Rattle.served_history.proofs.RowLemmas.{opened-append}

-- ---- one more entry

pairs_along-one : (key : Key) (slot : ℕ) (pairs : Pairs) (front : List Entry) (e : Entry)
    → pairs_along key slot pairs (front ++ e ∷ []) ≡ pairs_after (fold (owner_after key) slot front) (pairs_along key slot pairs front) e
pairs_along-one key slot pairs [] e = refl
pairs_along-one key slot pairs (x ∷ front) e = pairs_along-one key (owner_after key slot x) (pairs_after slot pairs x) front e

-- the key pairs after one more entry
pub pairs-one : (front : List Entry) (e : Entry) (key : Key) → pairs_for (front ++ e ∷ []) key ≡ pairs_after (owner front key) (pairs_for front key) e
pairs-one front e key = pairs_along-one key 0 finite.empty front e

-- ---- the pairs of an account, one of which is in force

pairs_at-insert : (pairs : Pairs) (account : List ℕ) (v : List Keys) (a : List ℕ) → pairs_at (finite.insert pairs account v) a ≡ cond (eq_by_cmp name_cmp a account) v (pairs_at pairs a)
pairs_at-insert pairs account v a = ap (λ (o : Option (List Keys)). unwrap_or o []) (finite.get-insert names_total pairs account v a) ∙ by (eq_by_cmp name_cmp a account)
  where
    by : (b : Bool) → unwrap_or (cond b (Some v) (finite.get pairs a)) [] ≡ cond b v (unwrap_or (finite.get pairs a) [])
    by true = refl
    by false = refl

tied : (a b : List ℕ) → eq_by_cmp name_cmp a b ≡ true → a ≡ b
tied a b tie = names_exact a b ((Equal-is (name_cmp a b)).0 tie)

-- of pairs of which one came last, the last one is in force
in_force-last : (ks : List Keys) (k : Keys) → in_force (ks ++ k ∷ []) ≡ Some k
in_force-last ks k =
    let place : length (ks ++ k ∷ []) - 1 ≡ length ks = omega (arith, length-append ks (k ∷ [])) in
    ap (slice_get (ks ++ k ∷ [])) place
    ∙ slice_get-get_or (ks ++ k ∷ []) (length ks) k (omega (arith, length-append ks (k ∷ [])))
    ∙ ap (λ (x : Keys). Some x) (get_or-append_seam ks k [] k)

-- the pair after a pair in force, with one of its keys replaced
abbrev pub pair_next : Option Keys → Which → List ℕ → Option Keys
pair_next None which key = None
pair_next (Some old) which key = Some (rotated old which key (epoch_after old.epoch))

module _ (pairs : Pairs) (named : List ℕ) (which : Which) (key : List ℕ) (account : List ℕ) where
  current_from : (o : Option Keys) → current_at pairs named ≡ o → (b : Bool) → eq_by_cmp name_cmp account named ≡ b
      → current_at (next_from pairs named which key o) account ≡ cond b (pair_next (current_at pairs account) which key) (current_at pairs account)
  current_from None there true tie =
      let none : current_at pairs account ≡ None = ap (current_at pairs) (tied account named tie) ∙ there in
      none ∙ sym (ap (λ (o : Option Keys). pair_next o which key) none)
  current_from None there false tie = refl
  current_from (Some old) there true tie =
      let next = rotated old which key (epoch_after old.epoch) in
      let longer = pairs_at pairs named ++ next ∷ [] in
      let same : current_at pairs account ≡ Some old = ap (current_at pairs) (tied account named tie) ∙ there in
      ap in_force (pairs_at-insert pairs named longer account)
      ∙ ap (λ (b : Bool). in_force (cond b longer (pairs_at pairs account))) tie
      ∙ in_force-last (pairs_at pairs named) next
      ∙ sym (ap (λ (o : Option Keys). pair_next o which key) same)
  current_from (Some old) there false tie =
      let longer = pairs_at pairs named ++ rotated old which key (epoch_after old.epoch) ∷ [] in
      ap in_force (pairs_at-insert pairs named longer account)
      ∙ ap (λ (b : Bool). in_force (cond b longer (pairs_at pairs account))) tie

  -- the pair in force of an account, after a key of an account was replaced
  pub current_next : current_at (next_pairs pairs named which key) account ≡ cond (eq_by_cmp name_cmp account named) (pair_next (current_at pairs account) which key) (current_at pairs account)
  current_next = current_from (current_at pairs named) refl (eq_by_cmp name_cmp account named) refl

-- ---- what stays of a pair in force, along a history

no_opening : (front : List Entry) → front ≡ [] → IsOpened front → ⊥
no_opening front none opened = subst IsOpened none opened

first_of : (Q : Entry → Type 0) (e : Entry) (es : List Entry) → All Q (e ∷ es) → Q e
first_of Q e es all = all 0 e (omega arith)

rest_of : (Q : Entry → Type 0) (e : Entry) (es : List Entry) → All Q (e ∷ es) → All Q es
rest_of Q e es all = λ k d less. all (suc k) d (omega (arith, less))

-- what holds of a pair in force, and of the pair after a rotation that comes, holds of the pair in force after the entries
module _ (P : Option Keys → Type 0) (Q : Entry → Type 0) (account : List ℕ)
    (turns : (slot : ℕ) (which : Which) (key : List ℕ) (o : Option Keys) → Q (Rotated slot account which key) → P o → P (pair_next o which key)) where
  after_rotation : (pairs : Pairs) (maker : ℕ) (named : List ℕ) (which : Which) (key : List ℕ) → Q (Rotated maker named which key) → P (current_at pairs account) → P (current_at (next_pairs pairs named which key) account)
  after_rotation pairs maker named which key q is = subst P (sym (current_next pairs named which key account)) (by (eq_by_cmp name_cmp account named) refl)
    where
      by : (b : Bool) → eq_by_cmp name_cmp account named ≡ b → P (cond b (pair_next (current_at pairs account) which key) (current_at pairs account))
      by true tie = turns maker which key (current_at pairs account) (subst (λ (a : List ℕ). Q (Rotated maker a which key)) (sym (tied account named tie)) q) is
      by false tie = is

  after_entry : (front : List Entry) (slot : ℕ) (pairs : Pairs) (e : Entry) → IsOpened front → IsOwn front e → Q e → P (current_at pairs account) → P (current_at (pairs_after slot pairs e) account)
  after_entry front slot pairs (Opened first) opened own q is = absurd (no_opening front own opened)
  after_entry front slot pairs (Served maker r) opened own q is = is
  after_entry front slot pairs (Split maker middle upper) opened own q is = is
  after_entry front slot pairs (Rotated maker named which key) opened own q is = by (nat_eq maker slot)
    where
      by : (b : Bool) → P (current_at (cond b (next_pairs pairs named which key) pairs) account)
      by true = after_rotation pairs maker named which key q is
      by false = is

  along : (k : Key) (front rest : List Entry) → IsOpened front → ((f : List Entry) (e : Entry) → IsAfter f e (front ++ rest) → IsOwn f e) → All Q rest
      → P (pair_for front k account) → P (pair_for (front ++ rest) k account)
  along k front [] opened own all is = subst (λ (l : List Entry). P (pair_for l k account)) (sym (append-nil front)) is
  along k front (e ∷ rest) opened own all is =
      let joined : (front ++ e ∷ []) ++ rest ≡ front ++ e ∷ rest = append_assoc front (e ∷ []) rest in
      let here : P (current_at (pairs_after (owner front k) (pairs_for front k) e) account) =
      after_entry front (owner front k) (pairs_for front k) e opened (own front e (rest, refl)) (first_of Q e rest all) is in
      let next : P (pair_for (front ++ e ∷ []) k account) = subst (λ (p : Pairs). P (current_at p account)) (sym (pairs-one front e k)) here in
      subst (λ (l : List Entry). P (pair_for l k account)) joined
      (along k (front ++ e ∷ []) rest (opened-append front e opened) (λ f x comes. own f x (subst (λ (l : List Entry). IsAfter f x l) joined comes)) (rest_of Q e rest all) next)

-- any entry
abbrev Any : Entry → Type 0
Any e = Unit {0}

-- a rotation makes the epoch of a pair in force higher
not_lower : (n : ℕ) (slot : ℕ) (account : List ℕ) (which : Which) (key : List ℕ) (o : Option Keys) → Any (Rotated slot account which key) → n ≤ epoch_of o → n ≤ epoch_of (pair_next o which key)
not_lower n slot account which key None any low = low
not_lower n slot account which key (Some old) any low = omega (arith, low, epoch-rotated old which key (epoch_after old.epoch))

module _ (k : Key) (account : List ℕ) (front rest : List Entry) (first : IsHistory front) (own : (f : List Entry) (e : Entry) → IsAfter f e (front ++ rest) → IsOwn f e) where
  -- the epoch of a pair in force never falls
  pub epoch_kept : epoch_of (pair_for front k account) ≤ epoch_of (pair_for (front ++ rest) k account)
  epoch_kept =
      let n = epoch_of (pair_for front k account) in
      along (λ o. n ≤ epoch_of o) Any account (λ slot which key o any low. not_lower n slot account which key o any low) k front rest first.opened own (λ i d less. tt) (omega arith)

  -- a key that is not of the pair in force, and that no entry gives, is not of the pair in force after the entries
  pub key_stays_out : (key : List ℕ) → All (λ e. ¬ GivesKey account key e) rest → ¬ HasKey (pair_for front k account) key → ¬ HasKey (pair_for (front ++ rest) k account) key
  key_stays_out key none apart = along (λ o. ¬ HasKey o key) (λ e. ¬ GivesKey account key e) account turns k front rest first.opened own none apart
    where
      turns : (slot : ℕ) (which : Which) (new : List ℕ) (o : Option Keys) → ¬ GivesKey account key (Rotated slot account which new) → ¬ HasKey o key → ¬ HasKey (pair_next o which new) key
      turns slot which new None other apart = apart
      turns slot which.First new (Some old) other apart = λ has. by has
        where
          by : HasKey (pair_next (Some old) which.First new) key → ⊥
          by (inl is) = other (refl, is)
          by (inr is) = apart (inr is)
      turns slot which.Second new (Some old) other apart = λ has. by has
        where
          by : HasKey (pair_next (Some old) which.Second new) key → ⊥
          by (inl is) = apart (inl is)
          by (inr is) = other (refl, is)
