-- Keys that are in force.
use Rattle.std.proofs.Common.{◌≡◌, inl, inr, ℕ, suc, ◌+◌, ◌-◌, Bool, true, false, cond, List, [], ◌∷◌, ◌++◌, length, Option, Some, None, refl, sym, ap, ◌∙◌, arith, Ok, Err}
use Rattle.std.specs.Prelude.{slice_get}
use Rattle.std.specs.Cmp.{eq_by_cmp_equiv}
use Rattle.std.specs.Ordering.{eq_by_cmp}
use Rattle.stamp_values.specs.Order.{name_cmp, names_total}
use Rattle.access_rules.specs.declared.keys.Keys.{Keys}
use Rattle.access_rules.specs.declared.rotation.Which.{Which}
use Rattle.access_rules.specs.Rotation.{epoch_after, rotated}
use Rattle.slot_state.specs.Pairs.{current_at, in_force, pairs_at}
use Rattle.core_run.specs.declared.step.Outcome.TheVariants.{Epoch}
use Rattle.core_run.specs.declared.step.StepFault.{StepFault}
use Rattle.core_run.specs.declared.step.StepFault.TheVariants as fault
use Rattle.core_run.specs.Machine.{Answer, RotatesBy}
use Rattle.core_run.specs.States.{State}
use Rattle.core_run.proofs.SoundLemmas.{pairs_at-insert}
use Rattle.core_run.proofs.Values.{true_false}

pub last_is : (ks : List Keys) (k : Keys) → slice_get (ks ++ k ∷ []) (length (ks ++ k ∷ []) - 1) ≡ Some k
last_is [] k = refl
last_is (l ∷ []) k = refl
last_is (l ∷ m ∷ ks) k =
    let at : suc (suc (length (ks ++ k ∷ []))) - 1 ≡ suc (suc (length (ks ++ k ∷ [])) - 1) = omega arith in
    ap (slice_get (l ∷ m ∷ (ks ++ k ∷ []))) at ∙ last_is (m ∷ ks) k

pub same_name : (a : List ℕ) → eq_by_cmp name_cmp a a ≡ true
same_name a = (eq_by_cmp_equiv names_total).refl a

abbrev is_epoch : Answer → Bool
is_epoch (Ok (Epoch n)) = true
is_epoch other = false

abbrev epoch_in : Answer → ℕ
epoch_in (Ok (Epoch n)) = n
epoch_in other = 0

not_epoch : (a : Answer) (n : ℕ) (e : StepFault) → a ≡ Ok (Epoch n) → a ≡ Err e → ⊥
not_epoch a n e is other = true_false (sym (ap is_epoch is) ∙ ap is_epoch other)

-- after a Rotate that was made the pair in force is the old one with the new key, after the pairs that the account had
pub rotates : (o : Option Keys) (s s' : State) (account : List ℕ) (which : Which) (key : List ℕ) (n : ℕ) → current_at s.pairs account ≡ o → RotatesBy o s account which key (Ok (Epoch n)) s'
    → (old : Keys) × ((current_at s.pairs account ≡ Some old) × ((n ≡ old.epoch + 1) × ((current_at s'.pairs account ≡ Some (rotated old which key n))
    × (pairs_at s'.pairs account ≡ pairs_at s.pairs account ++ rotated old which key n ∷ []))))
rotates None s s' account which key n there p = absurd (not_epoch (Ok (Epoch n)) n fault.NoAccount refl p.0)
rotates (Some old) s s' account which key n there (inl p) =
    let epoch : n ≡ old.epoch + 1 = ap epoch_in p.0 in
    let next : Keys = rotated old which key (epoch_after old.epoch) in
    let all : pairs_at s'.pairs account ≡ pairs_at s.pairs account ++ rotated old which key n ∷ [] =
    (λ i. pairs_at (p.1 i).pairs account) ∙ pairs_at-insert s.pairs account (pairs_at s.pairs account ++ next ∷ []) account
    ∙ ap (λ (b : Bool). cond b (pairs_at s.pairs account ++ next ∷ []) (pairs_at s.pairs account)) (same_name account)
    ∙ ap (λ (k : ℕ). pairs_at s.pairs account ++ rotated old which key k ∷ []) (sym epoch) in
    (old, (there, (epoch, (ap in_force all ∙ last_is (pairs_at s.pairs account) (rotated old which key n), all))))
rotates (Some old) s s' account which key n there (inr (inl p)) = absurd (not_epoch (Ok (Epoch n)) n fault.Last refl p.1.0)
rotates (Some old) s s' account which key n there (inr (inr p)) = absurd (not_epoch (Ok (Epoch n)) n fault.NoMemory refl p.0)
