-- What a rotation leaves of the keys by which a slot judges, and what whoever knows it is answered by.
use Rattle.std.proofs.Common.{◌≡◌, ◌≢◌, ℕ, Bool, true, false, cond, nat_eq, List, [], ◌∷◌, ◌++◌, All, Option, Some, refl, sym, ap, ◌∙◌, subst}
use Rattle.std.specs.Cmp.{Equal-is, eq_by_cmp_equiv}
use Rattle.std.specs.Ordering.{eq_by_cmp}
use Rattle.std.proofs.lemmas.List.{append_assoc}
use Rattle.stamp_values.specs.Order.{name_cmp, names_exact, names_total}
use Rattle.stamp_values.specs.declared.key.Key.{Key}
use Rattle.stamp_types.specs.declared.reply.Reply.{Reply}
use Rattle.stamp_types.specs.Requests.{Asked}
use Rattle.access_rules.specs.declared.keys.Keys.{Keys}
use Rattle.access_rules.specs.declared.rotation.Which.{Which}
use Rattle.access_rules.specs.Rotation.{epoch_after, rotated}
use Rattle.slot_state.specs.Pairs.{Pairs, current_at}
use Rattle.served_history.specs.declared.entry.Entry.{Entry}
use Rattle.served_history.specs.declared.entry.Entry.TheVariants.{Rotated}
use Rattle.served_history.specs.Growth.{IsEntered}
use Rattle.served_history.specs.Histories.{entry_after, next_pairs, owner, pair_for, pairs_for, IsAfter, IsHistory, IsOpened, IsOwn, IsServed}
use Rattle.served_history.specs.Rotations.{GivesKey, HasKey}
use Rattle.served_history.proofs.AfterLemmas.{entry_follows}
use Rattle.served_history.proofs.KeyLemmas.{by_false, by_true}
use Rattle.served_history.proofs.PairLemmas.{current_next, key_stays_out, pair_next, pairs-one}
use Rattle.served_history.proofs.SlotLemmas.{made_it}

-- ---- after a rotation

module _ (slot : ℕ) (front known : List Entry) (account : List ℕ) (which : Which) (new : List ℕ) (known' : List Entry) (key : Key)
    (entered : IsEntered slot front known (Rotated slot account which new) known') (has : owner front key ≡ slot) where
  -- the pairs of the slot's keys are those before with one key replaced
  pub pairs_rotated : pairs_for known' key ≡ next_pairs (pairs_for front key) account which new
  pairs_rotated =
      (entry_follows slot front known (Rotated slot account which new) known' key entered has).pairs
      ∙ pairs-one front (Rotated slot account which new) key
      ∙ by_true (nat_eq slot (owner front key)) (next_pairs (pairs_for front key) account which new) (pairs_for front key)
      (ap (λ (n : ℕ). nat_eq slot n) has ∙ made_it slot)

  pair_is : (a : List ℕ) → pair_for known' key a ≡ cond (eq_by_cmp name_cmp a account) (pair_next (pair_for front key a) which new) (pair_for front key a)
  pair_is a = ap (λ (p : Pairs). current_at p a) pairs_rotated ∙ current_next (pairs_for front key) account which new a

  pub pair_rotated : (old : Keys) → pair_for front key account ≡ Some old → pair_for known' key account ≡ Some (rotated old which new (epoch_after old.epoch))
  pair_rotated old there =
      pair_is account
      ∙ by_true (eq_by_cmp name_cmp account account) (pair_next (pair_for front key account) which new) (pair_for front key account) ((eq_by_cmp_equiv names_total).refl account)
      ∙ ap (λ (o : Option Keys). pair_next o which new) there

  pub pair_of_others : (other : List ℕ) → other ≢ account → pair_for known' key other ≡ pair_for front key other
  pair_of_others other apart =
      pair_is other
      ∙ by_false (eq_by_cmp name_cmp other account) (pair_next (pair_for front key other) which new) (pair_for front key other) (differs (eq_by_cmp name_cmp other account) refl)
    where
      differs : (b : Bool) → eq_by_cmp name_cmp other account ≡ b → b ≡ false
      differs true tie = absurd (apart (names_exact other account ((Equal-is (name_cmp other account)).0 tie)))
      differs false tie = refl

-- ---- entries after a rotation

opened_first : (front : List Entry) (e : Entry) (rest : List Entry) → IsOpened (front ++ e ∷ rest) → IsOpened (front ++ e ∷ [])
opened_first [] e rest is = is
opened_first (x ∷ front) e rest is = is

module _ (front rest : List Entry) (e : Entry) (all : IsHistory (front ++ e ∷ rest)) where
  joined : (front ++ e ∷ []) ++ rest ≡ front ++ e ∷ rest
  joined = append_assoc front (e ∷ []) rest

  own_all : (f : List Entry) (x : Entry) → IsAfter f x ((front ++ e ∷ []) ++ rest) → IsOwn f x
  own_all f x comes = all.own f x (comes.0, sym joined ∙ comes.1)

  begun : IsHistory (front ++ e ∷ [])
  begun = record {
    opened = opened_first front e rest all.opened;
    own = λ f x comes. own_all f x (comes.0 ++ rest, ap (λ (l : List Entry). l ++ rest) comes.1 ∙ append_assoc f (x ∷ comes.0) rest);
  }

-- A key that is not of the pair after a rotation of the slot that has this key of a container is not of the pair in force there, until an entry
-- gives it
pub replaced_by : (known front rest : List Entry) (slot : ℕ) (account : List ℕ) (which : Which) (new : List ℕ) (place : Key) (old : Keys) (key : List ℕ) → IsHistory known
    → known ≡ front ++ Rotated slot account which new ∷ rest → owner front place ≡ slot → pair_for front place account ≡ Some old
    → ¬ HasKey (Some (rotated old which new (epoch_after old.epoch))) key → All (λ e. ¬ GivesKey account key e) rest → ¬ HasKey (pair_for known place account) key
replaced_by known front rest slot account which new place old key all is has there apart none =
    let e = Rotated slot account which new in
    let whole : IsHistory (front ++ e ∷ rest) = subst IsHistory is all in
    let after : pair_for (front ++ e ∷ []) place account ≡ Some (rotated old which new (epoch_after old.epoch)) = pair_then front slot account which new place old has there in
    let out : ¬ HasKey (pair_for (front ++ e ∷ []) place account) key = subst (λ (o : Option Keys). ¬ HasKey o key) (sym after) apart in
    subst (λ (l : List Entry). ¬ HasKey (pair_for l place account) key) (joined front rest e whole ∙ sym is)
    (key_stays_out place account (front ++ e ∷ []) rest (begun front rest e whole) (own_all front rest e whole) key none out)
  where
    pair_then : (front : List Entry) (slot : ℕ) (account : List ℕ) (which : Which) (new : List ℕ) (place : Key) (old : Keys) → owner front place ≡ slot → pair_for front place account ≡ Some old
        → pair_for (front ++ Rotated slot account which new ∷ []) place account ≡ Some (rotated old which new (epoch_after old.epoch))
    pair_then front slot account which new place old has there =
        ap (λ (p : Pairs). current_at p account)
        (pairs-one front (Rotated slot account which new) place
        ∙ by_true (nat_eq slot (owner front place)) (next_pairs (pairs_for front place) account which new) (pairs_for front place)
        (ap (λ (n : ℕ). nat_eq slot n) has ∙ made_it slot))
        ∙ current_next (pairs_for front place) account which new account
        ∙ by_true (eq_by_cmp name_cmp account account) (pair_next (pair_for front place account) which new) (pair_for front place account) ((eq_by_cmp_equiv names_total).refl account)
        ∙ ap (λ (o : Option Keys). pair_next o which new) there

-- ---- a request after what its connection knew

-- the entries before a request of a connection may come one after the other
pub own_before : (known known' : List Entry) (q : Asked) (t : ℕ) (reply : Reply) (turn : IsServed known q t reply known') → IsHistory known'
    → (f : List Entry) (e : Entry) → IsAfter f e (known ++ turn.others) → IsOwn f e
own_before known known' q t reply turn history f e comes =
    let last = entry_after (known ++ turn.others) q t in
    history.own f e (comes.0 ++ last ∷ [], turn.enters ∙ ap (λ (l : List Entry). l ++ last ∷ []) comes.1 ∙ append_assoc f (e ∷ comes.0) (last ∷ []))
