-- Numbers that digits spell.
use Rattle.std.proofs.Common.{◌≡◌, ℕ, ◌<◌, ◌≤◌, ◌+◌, ◌*◌, List, [], ◌∷◌, length, drop, Some, None, Bool, true, false, refl, ap, arith, get_or, mul-le-mul}
use Rattle.std.specs.Prelude.{◌&&◌, nat_le, if◌then◌else◌}
use Rattle.std.specs.List.{list_all}
use Rattle.std.proofs.lemmas.List.{drop_more}
use Rattle.std.proofs.lemmas.Grind.{common_steps}
use Rattle.mir_lines.specs.declared.lexer.Sort.{Sort}
use Rattle.mir_lines.specs.Bytes.{is_of}
use Rattle.mir_lines.specs.Numbers.{digit_value, value_from, is_filled, numeral}

pub product_fits : (n base most : ℕ) → n ≤ most → most ≤ 18446744073709551616 → base ≤ 16 → n * base ≤ 18446744073709551616 * 16
product_fits n base most a b c = mul-le-mul {n₁ = n} {m₁ = base} {n₂ = 18446744073709551616} {m₂ = 16} (omega arith) c

grows_by : (n base : ℕ) → 1 ≤ base → n ≤ n * base
grows_by n base h = let e : n * 1 ≤ n * base = mul-le-mul {n₁ = n} {m₁ = 1} {n₂ = n} {m₂ = base} (omega arith) h in omega (arith, e)

-- digits that follow make a number no smaller
pub value_grows : (base n : ℕ) (bs : List ℕ) → 1 ≤ base → n ≤ value_from base n bs
value_grows base n [] h = omega arith
value_grows base n (b ∷ bs) h =
    let e = value_grows base (n * base + digit_value b) bs h in
    let f = grows_by n base h in
    omega (arith, e, f)

pub value_step : (base n i : ℕ) (text : List ℕ) → i < length text → value_from base n (drop i text) ≡ value_from base (n * base + digit_value (get_or text i 0)) (drop (i + 1) text)
value_step base n i text h = ap (value_from base n) (drop_more text i 0 h)

-- a number that has grown past the bound
pub value_past : (base n v i most : ℕ) (text : List ℕ) → 1 ≤ base → value_from base 0 text ≡ value_from base n (drop i text) → i < length text → v ≡ n * base + digit_value (get_or text i 0) → most < v → most < value_from base 0 text
value_past base n v i most text one same h e past =
    let grows = value_grows base (n * base + digit_value (get_or text i 0)) (drop (i + 1) text) one in
    rw (same, value_step base n i text h) (omega (arith, grows, e, past))

past_none : (on : Bool) (v most : ℕ) → most < v → None ≡ (if on && nat_le v most then Some v else None)
past_none true v most h = grind (arith, common_steps)
past_none false v most h = refl

pub numeral_past : (sort : Sort) (base most : ℕ) (text : List ℕ) → most < value_from base 0 text → None ≡ numeral sort base most text
unfolding numeral
numeral_past sort base most text h = past_none (is_filled text && list_all (is_of sort) text) (value_from base 0 text) most h
