-- A text in Base64 has bytes of the alphabet alone.
use Rattle.std.proofs.Common.{◌≡◌, ℕ, zero, suc, Bool, true, false, ◌||◌, List, [], ◌∷◌, replicate, slice_index, Some, None, refl, sym, ap, ◌∙◌}
use Rattle.std.specs.List.{list_any}
use Rattle.std.specs.Result.{result_ok}
use Rattle.std.specs.declared.result.Result.{Result}
use Rattle.std.specs.declared.result.Result.TheVariants.{Ok, Err}
use Rattle.std.proofs.lemmas.Option.{same_Some}
use Rattle.std.proofs.lemmas.List.Folds.{list_any-append}
use Rattle.base64.specs.Rfc4648.{encode_group, encode_symbols}
use Rattle.base64.specs.GeneralPurpose.{decode_of, engine_symbols}
use Rattle.base64.proofs.EngineFacts.{decode_of_strict}
use Rattle.base64_text.specs.Base64.{standard, encode_of, decoded_of, IsBytes}
use Rattle.base64_text.proofs.DecodingLemmas.{decoded_is}

neither : (a b : Bool) → (a || b) ≡ false → (a ≡ false) × (b ≡ false)
neither true b h = (cc, cc)
neither false b h = (refl, h)

both_false : (a b : Bool) → a ≡ false → b ≡ false → (a || b) ≡ false
both_false a b h k = rw (h, k) refl

symbol_fails : (p : ℕ → Bool) (t : List ℕ) (i : ℕ) → list_any p t ≡ false → p 0 ≡ false → p (slice_index t i) ≡ false
symbol_fails p [] i none z = z
symbol_fails p (c ∷ cs) zero none z = (neither (p c) (list_any p cs) none).0
symbol_fails p (c ∷ cs) (suc i) none z = symbol_fails p cs i (neither (p c) (list_any p cs) none).1 z

symbols_fail : (p : ℕ → Bool) (t m : List ℕ) → list_any p t ≡ false → p 0 ≡ false → list_any p (encode_symbols t m) ≡ false
unfolding encode_symbols
symbols_fail p t [] none z = refl
symbols_fail p t (a ∷ []) none z =
    let fails = λ (i : ℕ). symbol_fails p t i none z in both_false _ _ (fails _) (both_false _ _ (fails _) refl)
symbols_fail p t (a ∷ b ∷ []) none z =
    let fails = λ (i : ℕ). symbol_fails p t i none z in
    both_false _ _ (fails _) (both_false _ _ (fails _) (both_false _ _ (fails _) refl))
symbols_fail p t (a ∷ b ∷ c ∷ rest) none z =
    let fails = λ (i : ℕ). symbol_fails p t i none z in
    list_any-append p (encode_group t a b c) (encode_symbols t rest)
    ∙ both_false _ _ (both_false _ _ (fails _) (both_false _ _ (fails _) (both_false _ _ (fails _) (both_false _ _ (fails _) refl)))) (symbols_fail p t rest none z)

padding_fails : (p : ℕ → Bool) (n pad : ℕ) → p pad ≡ false → list_any p (replicate n pad) ≡ false
padding_fails p zero pad h = refl
padding_fails p (suc n) pad h = both_false (p pad) _ h (padding_fails p n pad h)

-- a byte that passes is in no text in Base64, if no symbol passes
pub list_any-encode_of : (p : ℕ → Bool) (m : List ℕ) → list_any p (engine_symbols standard) ≡ false → p 0 ≡ false → p 61 ≡ false
    → list_any p (encode_of standard m) ≡ false
list_any-encode_of p m none z pad =
    list_any-append p (encode_symbols (engine_symbols standard) m) _
    ∙ both_false _ _ (symbols_fail p (engine_symbols standard) m none z) (padding_fails p _ 61 pad)

ok_of_some : {T E : Type 0} (r : Result T E) (v : T) → result_ok r ≡ Some v → r ≡ Ok v
ok_of_some (Ok x) v h = ap Ok (same_Some x v h)
ok_of_some (Err e) v h = cc

-- what is decoded is the Base64 of its bytes
pub encode_of-decoded : (text bytes : List ℕ) → IsBytes text → decoded_of standard text ≡ Some bytes → text ≡ encode_of standard bytes
encode_of-decoded text bytes below h =
    decode_of_strict standard text bytes (refl, refl) below (ok_of_some (decode_of standard text) bytes (sym (decoded_is standard text) ∙ h))

-- a text with a byte that passes is not decoded, if no symbol passes
pub decoded_of-other : (p : ℕ → Bool) (text : List ℕ) → list_any p (engine_symbols standard) ≡ false → p 0 ≡ false → p 61 ≡ false
    → IsBytes text → list_any p text ≡ true → decoded_of standard text ≡ None
decoded_of-other p text none z pad below some =
    elim (decoded_of standard text) as (λ o. decoded_of standard text ≡ o → o ≡ None) [
      | Some bytes ↦ λ h.
          let fails = list_any-encode_of p bytes none z pad in
          let same = ap (list_any p) (encode_of-decoded text bytes below h) in cc
      | None ↦ λ _. refl
    ] refl
