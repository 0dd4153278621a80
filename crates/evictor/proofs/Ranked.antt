-- Stages and cascades as the code finds them.
use Rattle.std.proofs.Common.{◌≡◌, ◌∙◌, ◌<◌, ◌+◌, ℕ, Bool, true, false, cond, refl, sym, ap, eqb, arith}
use Rattle.std.specs.Prelude.{◌==◌}
use Rattle.std.proofs.lemmas.Bool.Decides.{nat_tests}
use Rattle.evictor.specs.Cheapest.{Ranking, cascade, number}

pub number_new : (k : Ranking) (v own next : ℕ) → own ≡ cascade k v → own ≡ 0 → next ≡ k.greatest + 1 → next ≡ number k v
number_new k v own next is zero more = more ∙ sym (ap (λ n. cond (n == 0) (k.greatest + 1) n) (sym is ∙ zero))

pub number_own : (k : Ranking) (v own : ℕ) → own ≡ cascade k v → 0 < own → own ≡ number k v
number_own k v own is more = is ∙ sym (ap (λ b. cond b (k.greatest + 1) (cascade k v)) not_zero)
  where
    not_zero : (cascade k v == 0) ≡ false
    not_zero = let h : 0 < cascade k v = omega (arith, is) in grind (arith, nat_tests)

pub ruleset number_is = (number_new, number_own)
