-- Histories under pairs of keys, and under the same pairs with more pairs after them.
use Rattle.std.proofs.Common.{◌≡◌, ◌≤◌, ◌<◌, ◌+◌, arith, ℕ, zero, suc, nat_eq, Bool, true, false, cond, List, [], ◌∷◌, ◌++◌, length, slice_get, Option, Some, IsSome, is_some, refl, sym, ap, subst, ◌∙◌}
use Rattle.std.proofs.lemmas.Bool.{and_parts}
use Rattle.std.proofs.lemmas.Bool.Decides.{nat_tests}
use Rattle.std.proofs.lemmas.List.{append_assoc, length-append}
use Rattle.std.proofs.lemmas.Option.{slice_get-get_or}
use Rattle.stamp_values.specs.declared.key.Key.{Key}
use Rattle.stamp_types.specs.declared.past.Past.{Past}
use Rattle.stamp_types.specs.World.{Part}
use Rattle.access_rules.specs.declared.keys.Keys.{Keys}
use Rattle.access_rules.specs.Rotation.{are_numbered_from}
use Rattle.access_rules.proofs.RotationLemmas.{epoch-place}
use Rattle.range_rows.specs.SentContent.{sizes}
use Rattle.stamp_model.specs.Effects.{change}
use Rattle.stamp_model.specs.Histories.{IsAccepted, IsEntryAfter, IsLegalFrom, NoneIsLater, after_entry, pair_of, replay_from}
use Rattle.stamp_model.specs.KeyPairs.{HaveTheirPairs}
use Rattle.stamp_model.specs.Refusals.{refusal}

-- ---- more pairs

-- the pair of an epoch that has a pair is the same among more pairs
pub pair_of-more : (pairs more : List Keys) (epoch : ℕ) → IsSome (pair_of pairs epoch) → pair_of (pairs ++ more) epoch ≡ pair_of pairs epoch
pair_of-more [] more epoch some = absurd cc
pair_of-more (pair ∷ pairs) more epoch some = by (nat_eq pair.epoch epoch) some (pair_of-more pairs more epoch)
  where
    by : (b : Bool) → IsSome (cond b (Some pair) (pair_of pairs epoch)) → (IsSome (pair_of pairs epoch) → pair_of (pairs ++ more) epoch ≡ pair_of pairs epoch)
        → cond b (Some pair) (pair_of (pairs ++ more) epoch) ≡ cond b (Some pair) (pair_of pairs epoch)
    by true some others = refl
    by false some others = others some

module _ (pairs more : List Keys) where
  HaveTheirPairs-rest : (e : Past) (history : List Past) → HaveTheirPairs pairs (e ∷ history) → HaveTheirPairs pairs history
  HaveTheirPairs-rest e history have front x comes = have (e ∷ front) x (comes.0, ap (λ (h : List Past). e ∷ h) comes.1)

  -- entries in turn, each judged by the pair of its epoch
  pub replay_from-more : (start : Part (List ℕ)) (history : List Past) → HaveTheirPairs pairs history → replay_from (pairs ++ more) start history ≡ replay_from pairs start history
  replay_from-more start [] have = refl
  replay_from-more start (e ∷ history) have =
      ap (λ (k : Option Keys). replay_from (pairs ++ more) (change k start e.request e.moment) history) (pair_of-more pairs more e.epoch (have [] e (history, refl)))
      ∙ replay_from-more (after_entry pairs start e) history (HaveTheirPairs-rest e history have)

  -- an entry is judged by the pair of its epoch
  pub IsAccepted-more : (key : Key) (p : Part (List ℕ)) (e : Past) → IsSome (pair_of pairs e.epoch) → IsAccepted pairs key p e → IsAccepted (pairs ++ more) key p e
  IsAccepted-more key p e some new = record {
    own = new.own;
    writes = new.writes;
    allowed = ap (λ (k : Option Keys). refusal k (sizes p) e.request e.moment) (pair_of-more pairs more e.epoch some) ∙ new.allowed;
  }

  pub IsAccepted-fewer : (key : Key) (p : Part (List ℕ)) (e : Past) → IsSome (pair_of pairs e.epoch) → IsAccepted (pairs ++ more) key p e → IsAccepted pairs key p e
  IsAccepted-fewer key p e some new = record {
    own = new.own;
    writes = new.writes;
    allowed = ap (λ (k : Option Keys). refusal k (sizes p) e.request e.moment) (sym (pair_of-more pairs more e.epoch some)) ∙ new.allowed;
  }

  -- the entries before an entry of the history
  have_before : (history front : List Past) (e : Past) → IsEntryAfter front e history → HaveTheirPairs pairs history → HaveTheirPairs pairs front
  have_before history front e comes have other x before =
      have other x (before.0 ++ e ∷ comes.0, comes.1 ∙ ap (λ (h : List Past). h ++ e ∷ comes.0) before.1 ∙ append_assoc other (x ∷ before.0) (e ∷ comes.0))

  module _ (key : Key) (start : Part (List ℕ)) (history : List Past) (have : HaveTheirPairs pairs history) where
    same_before : (front : List Past) (e : Past) → IsEntryAfter front e history → replay_from (pairs ++ more) start front ≡ replay_from pairs start front
    same_before front e comes = replay_from-more start front (have_before history front e comes have)

    pub IsLegalFrom-more : IsLegalFrom pairs key start history → IsLegalFrom (pairs ++ more) key start history
    IsLegalFrom-more legal = record {
      accepted = λ front e comes.
          subst (λ (p : Part (List ℕ)). IsAccepted (pairs ++ more) key p e) (sym (same_before front e comes))
          (IsAccepted-more key (replay_from pairs start front) e (have front e comes) (legal.accepted front e comes));
      epochs = legal.epochs;
    }

    pub IsLegalFrom-fewer : IsLegalFrom (pairs ++ more) key start history → IsLegalFrom pairs key start history
    IsLegalFrom-fewer legal = record {
      accepted = λ front e comes.
          subst (λ (p : Part (List ℕ)). IsAccepted pairs key p e) (same_before front e comes)
          (IsAccepted-fewer key (replay_from (pairs ++ more) start front) e (have front e comes) (legal.accepted front e comes));
      epochs = legal.epochs;
    }

-- ---- numbered pairs

equal : (m n : ℕ) → nat_eq m n ≡ true → m ≡ n
equal m n h = grind (arith, nat_tests)

same_number : (m n : ℕ) → m ≡ n → nat_eq m n ≡ true
same_number m n h = grind (arith, nat_tests)

other_number : (m n : ℕ) → m < n → nat_eq m n ≡ false
other_number m n h = grind (arith, nat_tests)

-- the pair of an epoch is at its place, counted from the first epoch
pair_of-numbered : (n : ℕ) (pairs : List Keys) (place : ℕ) → are_numbered_from n pairs ≡ true → pair_of pairs (n + place) ≡ slice_get pairs place
pair_of-numbered n [] place h = refl
pair_of-numbered n (pair ∷ pairs) zero h =
    let parts = and_parts (nat_eq pair.epoch n) (are_numbered_from (n + 1) pairs) h in
    let same : pair.epoch ≡ n + 0 = omega (arith, equal pair.epoch n parts.0) in
    ap (λ (b : Bool). cond b (Some pair) (pair_of pairs (n + 0))) (same_number pair.epoch (n + 0) same)
pair_of-numbered n (pair ∷ pairs) (suc place) h =
    let parts = and_parts (nat_eq pair.epoch n) (are_numbered_from (n + 1) pairs) h in
    let earlier : pair.epoch < n + suc place = omega (arith, equal pair.epoch n parts.0) in
    let shifted : n + suc place ≡ (n + 1) + place = omega arith in
    ap (λ (b : Bool). cond b (Some pair) (pair_of pairs (n + suc place))) (other_number pair.epoch (n + suc place) earlier)
    ∙ ap (λ (m : ℕ). pair_of pairs m) shifted
    ∙ pair_of-numbered (n + 1) pairs place parts.1

-- the same, counted from 0
pub pair_of-place : (pairs : List Keys) (epoch : ℕ) → are_numbered_from 0 pairs ≡ true → pair_of pairs epoch ≡ slice_get pairs epoch
pair_of-place pairs epoch h =
    let same : epoch ≡ 0 + epoch = omega arith in
    ap (λ (m : ℕ). pair_of pairs m) same ∙ pair_of-numbered 0 pairs epoch h

slice_get-last : (pairs : List Keys) (last : Keys) → slice_get (pairs ++ last ∷ []) (length pairs) ≡ Some last
slice_get-last [] last = refl
slice_get-last (pair ∷ pairs) last = slice_get-last pairs last

module _ (pairs : List Keys) (last : Keys) (numbered : are_numbered_from 0 (pairs ++ last ∷ []) ≡ true) where
  epoch-last : last.epoch ≡ length pairs
  epoch-last = epoch-place (pairs ++ last ∷ []) last (length pairs) numbered (slice_get-last pairs last)

  -- the last pair is the pair of its epoch
  pub pair_of-last : pair_of (pairs ++ last ∷ []) last.epoch ≡ Some last
  pair_of-last = pair_of-place (pairs ++ last ∷ []) last.epoch numbered ∙ ap (λ (m : ℕ). slice_get (pairs ++ last ∷ []) m) epoch-last ∙ slice_get-last pairs last

  -- no epoch up to that of the last pair is without a pair
  pub IsSome-pair_of : (epoch : ℕ) → epoch ≤ last.epoch → IsSome (pair_of (pairs ++ last ∷ []) epoch)
  IsSome-pair_of epoch h =
      let within : epoch < length (pairs ++ last ∷ []) = omega (arith, h, epoch-last, length-append pairs (last ∷ [])) in
      ap (λ (o : Option Keys). is_some o) (pair_of-place (pairs ++ last ∷ []) epoch numbered ∙ slice_get-get_or (pairs ++ last ∷ []) epoch last within)

  pub HaveTheirPairs-numbered : (history : List Past) → NoneIsLater last.epoch history → HaveTheirPairs (pairs ++ last ∷ []) history
  HaveTheirPairs-numbered history none front e comes = IsSome-pair_of e.epoch (none front e comes)
