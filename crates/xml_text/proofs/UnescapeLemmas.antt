-- A text that is read byte by byte, with the bytes of references left out.
use Rattle.std.proofs.Common.{◌≡◌, ℕ, zero, suc, ◌-◌, ◌==◌, false, List, [], ◌∷◌, refl, sym, ap, arith}
use Rattle.xml_text.specs.ElementReading.{unescaped, value_of}

-- a byte of a reference is left out
pub in_reference_next : (n c : ℕ) (cs : List ℕ) → (n == 0) ≡ false → unescaped n (c ∷ cs) ≡ unescaped (n - 1) cs
unfolding unescaped
in_reference_next zero c cs h = cc
in_reference_next (suc n) c cs h =
    let less : suc n - 1 ≡ n = omega arith in
    ap (λ k. unescaped k cs) (sym less)

-- no text has no value
pub no_value : value_of [] ≡ []
unfolding value_of unescaped
no_value = refl
