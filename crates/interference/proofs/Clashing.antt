-- The ranges that are marked are those in the way.
use Rattle.std.proofs.Common.{◌≡◌, ◌<◌, ◌≤◌, ◌⊎◌, ℕ, ◌*◌, true, false, cond, length, List, inl, inr, sym, ap, ◌∙◌, arith}
use Rattle.std.specs.Prelude.{filter}
use Rattle.std.proofs.lemmas.Bool.{cases_lt}
use Rattle.target_base.specs.declared.types.Reg.{Reg}
use Rattle.mir_meaning.specs.Registers.{numbers}
use Rattle.interference.specs.declared.matrix.Clash.TheVariants as clashes
use Rattle.interference.specs.declared.matrix.Matrix.{Matrix}
use Rattle.interference.specs.Clashes.{IsOrdered, is_fixed, is_in_way, ranges_of, clash_at}
use Rattle.interference.specs.Marked.{is_marked}
use Rattle.interference.proofs.Marked.{filter-same, past-none}
use Rattle.interference.proofs.Points.{known-way}

pub clash-is : (m : Matrix) (v : ℕ) (p : Reg) (ws ns : List ℕ) → IsOrdered m → length m.registers.items ≤ length ws * 64 → false ≡ is_fixed m v p
    → ((w : ℕ) → w < length ws * 64 → is_marked ws w ≡ is_in_way m v p w) → ((n : ℕ) → ((w : ℕ) → is_marked ws w ≡ true → w < n) → ns ≡ filter (is_marked ws) (numbers 0 n)) → clashes.Ranges ns ≡ clash_at m v p
clash-is m v p ws ns ordered room fixed marked given =
    ap clashes.Ranges (given (length m.registers.items) (λ w e. small w e (cases_lt w (length ws * 64))) ∙ filter-same (is_marked ws) (is_in_way m v p) 0 (length m.registers.items) (λ w lo hi. marked w (omega arith)))
    ∙ ap (λ b. cond b clashes.Fixed (clashes.Ranges (filter (is_in_way m v p) (ranges_of m)))) fixed
  where
    small : (w : ℕ) → is_marked ws w ≡ true → (w < length ws * 64) ⊎ (length ws * 64 ≤ w) → w < length m.registers.items
    small w e (inl lt) = known-way m v ordered p w (sym (marked w lt) ∙ e)
    small w e (inr le) = absurd (let z = past-none ws w le in cc)
