-- Numbers modulo powers of two, where sums and products are taken modulo 2^128 on the way.
use Rattle.std.proofs.Common.{◌≡◌, ℕ, suc, zero, ◌+◌, ◌-◌, ◌*◌, ◌/◌, ◌%◌, ◌^◌, ◌<◌, ◌≤◌, refl, arith, sym, ap, ◌∙◌, subst, false}
use Rattle.std.specs.Prelude.{nat_lt}
use Rattle.meaning.specs.Perform.{shifted_signed}
use Rattle.std.proofs.Math.Nat.{mod-add-mod, add-mod-mod, mul-add-mod_self_right, add-mul-mod_self_right, add-mul-div_left, div-eq_of_lt, zero-add, mul-le-mul_left}
use Rattle.std.proofs.Math.Pow.{pow_mono}
use Rattle.std.proofs.lemmas.Bool.{le-ltb}
use Rattle.std.proofs.lemmas.Nat.{mod-pow-add, pow-add, pow_pos}

mod_mod : (n m : ℕ) → n % m % m ≡ n % m
mod_mod n m = let e = add-mod-mod 0 n m in simp zero-add at e

wrap_at : (x j k : ℕ) → x % 2 ^ (j + k) % 2 ^ k ≡ x % 2 ^ k
wrap_at x j k =
    ap (λ n. n % 2 ^ k) (mod-pow-add x j k) ∙ (mul-add-mod_self_right (x / 2 ^ k % 2 ^ j) (2 ^ k) (x % 2 ^ k) ∙ mod_mod x (2 ^ k))

-- the bits from 128 on tell nothing of the lower ones
pub wrap : (x k : ℕ) → k ≤ 128 → x % 2 ^ 128 % 2 ^ k ≡ x % 2 ^ k
wrap x k h =
    let e : (128 - k) + k ≡ 128 = omega arith in
    subst (λ n. x % 2 ^ n % 2 ^ k ≡ x % 2 ^ k) e (wrap_at x (128 - k) k)

pub wrap_then_add : (x y k : ℕ) → k ≤ 128 → (x % 2 ^ 128 + y) % 2 ^ k ≡ (x + y) % 2 ^ k
wrap_then_add x y k h =
    sym (mod-add-mod (x % 2 ^ 128) (2 ^ k) y) ∙ (ap (λ n. (n + y) % 2 ^ k) (wrap x k h) ∙ mod-add-mod x (2 ^ k) y)

pub power_within : (k : ℕ) → k ≤ 128 → 2 ^ k ≤ 2 ^ 128
power_within k h = pow_mono h

-- a number above the ones of k bits leaves nothing of 2 ^ k
pub nothing_left : (k b : ℕ) → 2 ^ k - 1 < b → 2 ^ k - b ≡ 0
nothing_left k b h = omega arith

pub left_over : (a k b : ℕ) → b ≤ 2 ^ k - 1 → a + (2 ^ k - 1 - b) + 1 ≡ a + (2 ^ k - b)
left_over a k b h = let p : 0 < 2 ^ k = pow_pos k in omega arith

pub nothing_beyond : (n s : ℕ) → n < 2 ^ 128 → 128 ≤ s → n / 2 ^ s ≡ 0
nothing_beyond n s h g =
    let p : 2 ^ 128 ≤ 2 ^ s = pow_mono g in
    let q : n < 2 ^ s = omega arith in
    div-eq_of_lt q

times : (r x q y : ℕ) → x + q ≡ y → r * x + r * q ≡ r * y
times r x q y h = let e : r * (x + q) ≡ r * y = ap (λ t. r * t) h in omega (arith, e)

raised : (a p q r x : ℕ) → 0 < r → p ≡ q * r → x + q ≡ q * p → (a + (p * p - p)) / r ≡ a / r + x
raised a p q r x h e f =
    let y : r * x + r * q ≡ r * (q * p) = times r x q (q * p) f in
    let w : (q * r) * p ≡ p * p = ap (λ t. t * p) (sym e) in
    let g : p * p - p ≡ r * x = omega (arith, y, w, e) in
    ap (λ t. (a + t) / r) g ∙ add-mul-div_left a x h

filled : (a p q x : ℕ) → 0 < q → q ≤ p → x + q ≡ q * p → (a + x) % p ≡ (a + (p - q)) % p
filled a p zero x h g f = absurd (omega arith)
filled a p (suc k) x h g f =
    let e : a + x ≡ (a + (p - suc k)) + k * p = omega (arith, f) in
    ap (λ t. t % p) e ∙ add-mul-mod_self_right (a + (p - suc k)) k p

-- shifted right with the top bits filled: 2 ^ w - 2 ^ (w - s) fills them, modulo 2 ^ w
pub sar_high : (w a s : ℕ) → s ≤ w → 2 ^ (w - 1) ≤ a → (a / 2 ^ s + ((2 ^ w - 1) - (2 ^ (w - s) - 1))) % 2 ^ w ≡ shifted_signed w a s % 2 ^ w
sar_high w a s h g =
    let k : (w - s) + s ≡ w = omega arith in
    let le : w - s ≤ w = omega arith in
    let e : 2 ^ w ≡ 2 ^ (w - s) * 2 ^ s = subst (λ n. 2 ^ n ≡ 2 ^ (w - s) * 2 ^ s) k (pow-add 2 (w - s) s) in
    let some : 0 < 2 ^ (w - s) = pow_pos (w - s) in
    let most : 2 ^ (w - s) ≤ 2 ^ w = pow_mono le in
    let one : 1 ≤ 2 ^ w = pow_pos w in
    let grown = mul-le-mul_left (2 ^ (w - s)) one in
    let x : (2 ^ (w - s) * 2 ^ w - 2 ^ (w - s)) + 2 ^ (w - s) ≡ 2 ^ (w - s) * 2 ^ w = omega (arith, grown) in
    let test : nat_lt a (2 ^ (w - 1)) ≡ false = le-ltb _ _ g in
    let high : shifted_signed w a s ≡ (a + (2 ^ (w + w) - 2 ^ w)) / 2 ^ s = rw test refl in
    let square : (a + (2 ^ (w + w) - 2 ^ w)) / 2 ^ s ≡ (a + (2 ^ w * 2 ^ w - 2 ^ w)) / 2 ^ s = ap (λ t. (a + (t - 2 ^ w)) / 2 ^ s) (pow-add 2 w w) in
    let up = raised a (2 ^ w) (2 ^ (w - s)) (2 ^ s) (2 ^ (w - s) * 2 ^ w - 2 ^ (w - s)) (pow_pos s) e x in
    let fills = filled (a / 2 ^ s) (2 ^ w) (2 ^ (w - s)) (2 ^ (w - s) * 2 ^ w - 2 ^ (w - s)) some most x in
    let less : (2 ^ w - 1) - (2 ^ (w - s) - 1) ≡ 2 ^ w - 2 ^ (w - s) = omega arith in
    ap (λ t. (a / 2 ^ s + t) % 2 ^ w) less ∙ (sym fills ∙ (ap (λ t. t % 2 ^ w) (sym (high ∙ (square ∙ up)))))
