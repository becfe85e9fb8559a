-- Lemmas on digits.
use Rattle.std.proofs.Common.{◌≡◌, ℕ, suc, zero, ◌-◌, ◌^◌, ◌≤◌, drop, replicate, arith}
use Rattle.std.proofs.lemmas.List.{drop-replicate}

-- at most seven digits write a number below ten millions
pub ten_pow : (k : ℕ) → k ≤ 7 → 10 ^ k ≤ 10_000_000
ten_pow zero h = omega arith
ten_pow (suc zero) h = omega arith
ten_pow (suc (suc zero)) h = omega arith
ten_pow (suc (suc (suc zero))) h = omega arith
ten_pow (suc (suc (suc (suc zero)))) h = omega arith
ten_pow (suc (suc (suc (suc (suc zero))))) h = omega arith
ten_pow (suc (suc (suc (suc (suc (suc zero)))))) h = omega arith
ten_pow (suc (suc (suc (suc (suc (suc (suc zero))))))) h = omega arith
ten_pow (suc (suc (suc (suc (suc (suc (suc (suc k)))))))) h = absurd (omega arith)

-- seven zeros without the first n
pub zeros_left : (n : ℕ) → drop {A = ℕ} n (replicate 7 48) ≡ replicate (7 - n) 48
zeros_left n = drop-replicate {X = ℕ} n 7 48
