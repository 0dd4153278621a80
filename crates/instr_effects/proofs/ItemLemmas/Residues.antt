-- Signed numbers modulo a power of two.
use Rattle.std.proofs.Common.{◌≡◌, ℕ, ◌-◌, ◌<◌, ◌≤◌, ◌^◌, ◌%◌, refl, arith}
use Rattle.std.specs.Prelude.{ℤ, pos, negsuc, nat_abs}
use Rattle.std.proofs.lemmas.Int.{ints}
use Rattle.std.proofs.Math.Nat.{mod-eq_of_lt}
use Rattle.std.proofs.Math.Pow.{pow_mono}
use lib.Signed.{◌<ℤ◌, ◌≤ℤ◌}
use Rattle.meaning.specs.Environment.{residue}

pub whole : (n w : ℕ) → n < 2 ^ 128 → 128 ≤ w → n % 2 ^ w ≡ n
whole n w h g =
    let p : 2 ^ 128 ≤ 2 ^ w = pow_mono g in
    let q : n < 2 ^ w = omega arith in
    mod-eq_of_lt q

pub residue_of_pos : (z : ℤ) (w : ℕ) → pos 0 ≤ℤ z → residue z w ≡ nat_abs z % 2 ^ w
residue_of_pos (pos n) w h = refl
residue_of_pos (negsuc n) w h = absurd (omega (arith, ints))

pub residue_of_neg : (z : ℤ) (w : ℕ) → z <ℤ pos 0 → residue z w ≡ 2 ^ w - 1 - (nat_abs z - 1) % 2 ^ w
residue_of_neg (pos n) w h = absurd (omega (arith, ints))
residue_of_neg (negsuc n) w h =
    let e : nat_abs (negsuc n) - 1 ≡ n = omega arith in
    rw e refl
