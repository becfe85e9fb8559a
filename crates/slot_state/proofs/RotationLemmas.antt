-- Key pairs of which one key is replaced.
use Rattle.std.proofs.Common.{◌≡◌, ◌<◌, ◌-◌, ℕ, arith, List, Option, Some, sym, ap, ◌∙◌, subst}
use Rattle.std.specs.Prelude.{IsSome, is_some}
use Rattle.access_rules.specs.declared.keys.Keys.{Keys}
use Rattle.access_rules.specs.declared.rotation.Which.{Which}
use Rattle.access_rules.specs.declared.rotation.Which.TheVariants as side
use Rattle.access_rules.specs.Rotation.{epoch_after, rotated}
use Rattle.access_rules.proofs.RotationLemmas.{epoch-rotated}
use Rattle.slot_state.specs.NextPairs.{HasNewKey, HasNextPair, IsNext, with_next}
use Rattle.slot_state.specs.Pairs.{Pairs, current_at, pairs_at}

-- the next pair comes after the pair in force
pub next_is : (pairs : Pairs) (account : List ℕ) (which : Which) (key : List ℕ) (old : Keys) → current_at pairs account ≡ Some old → IsNext (pairs_at pairs account) (rotated old which key (epoch_after old.epoch))
next_is pairs account which key old there = (old, (there, epoch-rotated old which key (epoch_after old.epoch)))

-- a pair with the account of the old pair, the epoch after its epoch, and the keys
pub pair_is : (pair old : Keys) (which : Which) (key : List ℕ) → pair.account ≡ old.account → old.epoch < pair.epoch → pair.epoch - old.epoch ≡ 1 → HasNewKey pair old which key → pair ≡ rotated old which key (epoch_after old.epoch)
pair_is pair old which key same later next has = by which has
  where
    epoch : pair.epoch ≡ epoch_after old.epoch
    epoch = omega (arith, later, next)

    by : (w : Which) → HasNewKey pair old w key → pair ≡ rotated old w key (epoch_after old.epoch)
    by side.First has = λ i. record { account = same i; first = has.0 i; second = has.1 i; epoch = epoch i }
    by side.Second has = λ i. record { account = same i; first = has.0 i; second = has.1 i; epoch = epoch i }

module _ (pairs : Pairs) (account : List ℕ) (old : Keys) (there : Some old ≡ current_at pairs account) where
  -- a pair that was made is the next one
  pub made_next : (which : Which) (key : List ℕ) (pair : Keys) → pair ≡ rotated old which key (epoch_after old.epoch) → IsNext (pairs_at pairs account) pair
  made_next which key pair is = subst (IsNext (pairs_at pairs account)) (sym is) (next_is pairs account which key old (sym there))

  -- the pairs of all accounts with it
  pub made_longer : (which : Which) (key : List ℕ) (pair : Keys) (longer : Pairs) (n : ℕ) → pair ≡ rotated old which key (epoch_after old.epoch) → n ≡ pair.epoch → longer ≡ with_next pairs account pair
      → HasNextPair pairs account which key n longer
  made_longer which key pair longer n is epoch put =
      (old, (sym there, (epoch ∙ ap (λ (k : Keys). k.epoch) is ∙ epoch-rotated old which key (epoch_after old.epoch), put ∙ ap (with_next pairs account) is)))

  -- the account has a pair in force
  pub some_current : IsSome (current_at pairs account)
  some_current = ap (λ (o : Option Keys). is_some o) (sym there)
