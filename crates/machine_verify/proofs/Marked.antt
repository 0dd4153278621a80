-- Going over units and blocks, by what a table of live lanes says at their starts.
use Rattle.std.proofs.Common.{◌≡◌, ◌∙◌, ℕ, ◌+◌, ◌-◌, ◌<◌, ◌≤◌, List, [], ◌∷◌, ◌++◌, Bool, true, false, cond, sym, ap, arith, length, map, drop, get_or, append_assoc}
use Rattle.std.specs.Prelude.{Option, Some, None}
use Rattle.std.proofs.lemmas.List.{drop_all}
use Rattle.std.proofs.Math.Seq.{drop-cons}
use Rattle.target_base.specs.declared.types.Target.{Target}
use Rattle.target_base.proofs.Sound.{units_count}
use Rattle.mir_func.specs.Value.{Function}
use Rattle.mir_func.specs.declared.func.Block.{Block}
use Rattle.mir_meaning.specs.declared.Form.{Form}
use Rattle.mir_meaning.specs.Registers.{numbers}
use Rattle.mir_meaning.specs.Valid.{Fault, fault_at}
use Rattle.live_lanes.specs.declared.table.Table.{Table}
use Rattle.machine_verify.specs.Lives.{unit_lives, flags_of, block_fits, starts_fit, later_fault, first_late}
use Rattle.machine_verify.proofs.Lived.{numbers_step}

pub few_units : (t : Target) → length t.units ≤ 512
few_units t = units_count t.name t.version t.units t.regs t.reserved t.indexes t.classes t.masks t.opcodes t.sound

-- one more unit is asked
pub flags_step : (t : Target) (x : Table) (n : ℕ) (made more : List Bool) (u : ℕ) → u < length t.units → more ≡ made ++ unit_lives x n u ∷ [] → made ++ map (unit_lives x n) (numbers u (length t.units - u)) ≡ flags_of t x n → more ++ map (unit_lives x n) (numbers (u + 1) (length t.units - (u + 1))) ≡ flags_of t x n
flags_step t x n made more u h e q =
    let rest = map (unit_lives x n) (numbers (u + 1) (length t.units - (u + 1))) in
    ap (λ xs. xs ++ rest) e
    ∙ (append_assoc made (unit_lives x n u ∷ []) rest
    ∙ (ap (λ us. made ++ map (unit_lives x n) us) (sym (numbers_step u (length t.units) h)) ∙ q))

module _ (t : Target) (form : Form) (x : Table) where
  pub late_step : (k : ℕ) (bs : List Block) (b : Block) → k < length bs → get_or bs k b ≡ b → later_fault t form x k (drop k bs) ≡ cond (block_fits t form x k b) (later_fault t form x (k + 1) (drop (k + 1) bs)) (Some (fault_at b 0 13))
  late_step k bs b h e = rw (drop-cons bs k b h, e) (grind arith)

  pub late_end : (k : ℕ) (bs : List Block) → length bs ≤ k → later_fault t form x k (drop k bs) ≡ None
  late_end k bs h = ap (later_fault t form x k) (drop_all k bs h)

  late_here : (k : ℕ) (bs : List Block) (b : Block) (v : Bool) (total : Option Fault) → k < length bs → get_or bs k b ≡ b → v ≡ block_fits t form x k b → total ≡ later_fault t form x k (drop k bs) → total ≡ cond v (later_fault t form x (k + 1) (drop (k + 1) bs)) (Some (fault_at b 0 13))
  late_here k bs b v total h e g q = q ∙ (late_step k bs b h e ∙ ap (λ a. cond a (later_fault t form x (k + 1) (drop (k + 1) bs)) (Some (fault_at b 0 13))) (sym g))

  -- block k fails, or doesn't
  pub late_found : (k : ℕ) (bs : List Block) (b : Block) (v : Bool) (total : Option Fault) (y : Fault) → k < length bs → get_or bs k b ≡ b → v ≡ block_fits t form x k b → total ≡ later_fault t form x k (drop k bs) → v ≡ false → y ≡ fault_at b 0 13 → Some y ≡ total
  late_found k bs b v total y h e g q w z = ap Some z ∙ sym (late_here k bs b v total h e g q ∙ ap (λ a. cond a (later_fault t form x (k + 1) (drop (k + 1) bs)) (Some (fault_at b 0 13))) w)

  pub late_passed : (k : ℕ) (bs : List Block) (b : Block) (v : Bool) (total : Option Fault) → k < length bs → get_or bs k b ≡ b → v ≡ block_fits t form x k b → total ≡ later_fault t form x k (drop k bs) → v ≡ true → total ≡ later_fault t form x (k + 1) (drop (k + 1) bs)
  late_passed k bs b v total h e g q w = late_here k bs b v total h e g q ∙ ap (λ a. cond a (later_fault t form x (k + 1) (drop (k + 1) bs)) (Some (fault_at b 0 13))) w

  -- the first block
  pub first_is : (f : Function) (bs : List Block) (b : Block) → 0 < length bs → get_or bs 0 b ≡ b → first_late t form f x bs ≡ cond (block_fits t form x 0 b) (cond (starts_fit t form f x b.number) (later_fault t form x 1 (drop 1 bs)) (Some (fault_at b 0 14))) (Some (fault_at b 0 13))
  first_is f [] b h e = absurd (omega arith)
  first_is f (c ∷ bs) b h e = ap (λ (a : Block). cond (block_fits t form x 0 a) (cond (starts_fit t form f x a.number) (later_fault t form x 1 bs) (Some (fault_at a 0 14))) (Some (fault_at a 0 13))) e
