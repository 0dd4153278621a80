-- Of a number only the bits that are taken count.
use Rattle.std.proofs.Common.{◌≡◌, ◌+◌, ◌/◌, ◌%◌, ◌^◌, ◌<◌, ◌∙◌, ℕ, Some, refl, ap, subst}
use Rattle.std.proofs.Math.Nat.{mod-eq_of_lt, mod-lt, div-lt_iff_lt-mul, div-one}
use Rattle.std.proofs.lemmas.Nat.{pow_pos, pow-add}
use native.Mathlib.Omega.{arith}
use Rattle.meaning.specs.declared.types.Constant.TheVariants.{Immediate, StackAddress, FixedStackAddress, SymbolAddress}
use Rattle.laws.specs.Constants.{SourcesHaveTheirBits}

swapped : (m n : ℕ) → m + n ≡ n + m
swapped m n = omega arith

taken-below : (n low width : ℕ) → n % 2 ^ (low + width) / 2 ^ low < 2 ^ width
taken-below n low width =
    (div-lt_iff_lt-mul (pow_pos low)).1 (subst (λ p. n % 2 ^ (low + width) < p) (ap (λ k. 2 ^ k) (swapped low width) ∙ pow-add 2 width low) (mod-lt n (pow_pos (low + width))))

zero-plus : (n : ℕ) → 0 + n ≡ n
zero-plus n = omega arith

taken-again : (q width : ℕ) → q < 2 ^ width → q % 2 ^ (0 + width) / 2 ^ 0 ≡ q
taken-again q width h = ap (λ k. q % 2 ^ k / 1) (zero-plus width) ∙ ap (λ x. x / 1) (mod-eq_of_lt h) ∙ div-one q

pub sources_have_their_bits : SourcesHaveTheirBits
sources_have_their_bits env state (Immediate n) low width = ap Some (taken-again (n % 2 ^ (low + width) / 2 ^ low) width (taken-below n low width))
sources_have_their_bits env state (StackAddress n) low width = refl
sources_have_their_bits env state (FixedStackAddress n) low width = refl
sources_have_their_bits env state (SymbolAddress name) low width = refl
