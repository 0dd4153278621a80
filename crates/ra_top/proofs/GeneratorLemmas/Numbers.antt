-- The source of numbers.
use Rattle.std.proofs.Common.{◌≡◌, ℕ, ◌+◌, ◌*◌, ◌%◌, ap, sym, ◌∙◌}
use Rattle.std.proofs.Math.Nat.{mod-add-mod}
use Rattle.std.proofs.lemmas.Nat.{mul-mod_first}
use Rattle.ra_top.specs.Generator.Text.{next}

reduced : (x a b m : ℕ) → (x % m * a + b) % m ≡ (x * a + b) % m
reduced x a b m =
    sym (mod-add-mod (x % m * a) m b) ∙ (ap (λ (y : ℕ). (y + b) % m) (mul-mod_first x a m) ∙ mod-add-mod (x * a) m b)

pub next_is : (x : ℕ) → (x % 2147483648 * 1103515245 + 12345) % 2147483648 ≡ next x
unfolding next
next_is x = reduced x 1103515245 12345 2147483648
