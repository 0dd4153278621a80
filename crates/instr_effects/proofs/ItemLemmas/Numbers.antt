-- Numbers in a row.
use Rattle.std.proofs.Common.{◌≡◌, ℕ, suc, ◌+◌, ◌-◌, ◌<◌, ◌∷◌, refl, arith}
use Rattle.mir_meaning.specs.Registers.{numbers}

pub numbers_step : (k n : ℕ) → k < n → numbers k (n - k) ≡ (k ∷ numbers (k + 1) (n - (k + 1)))
numbers_step k n h =
    let e : n - k ≡ suc (n - (k + 1)) = omega arith in
    let f : suc k ≡ k + 1 = omega arith in
    rw e (rw f refl)
