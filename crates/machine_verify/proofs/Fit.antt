-- Operands against roles, one by one and in pairs.
use Rattle.std.proofs.Common.{◌≡◌, ◌∙◌, sym, ap, cond, List, [], ◌∷◌, Bool, true, false, refl, arith}
use Rattle.std.specs.Prelude.{◌&&◌, not}
use Rattle.std.specs.List.{list_all}
use Rattle.target_base.specs.declared.types.Effect.{Effect}
use Rattle.target_base.specs.declared.types.Role.{Role}
use Rattle.mir_func.specs.declared.func.Operand.{Operand}
use Rattle.mir_func.specs.declared.func.Operand.TheVariants as operands
use Rattle.mir_func.specs.Binding.{after_first, first_role, takes_many, is_implicit_operand, explicit_operands}
use Rattle.mir_meaning.specs.Rules.{explicit_fit, phi_pairs, index_pairs}
use Rattle.std.specs.Prelude.{Option, Some, None}
use Rattle.target_base.specs.declared.types.Target.{Target}
use Rattle.mir_func.specs.declared.func.RegOp.{RegOp}
use Rattle.mir_func.specs.Value.{Function}
use Rattle.mir_meaning.specs.Rules.{parts_fit}
use Rattle.machine_verify.specs.Operands.{fits_next, reads_virtual, is_block, is_index, part_fits}

pub explicit_step : (t : Target) (e : Effect) (rs : List Role) (o : Operand) (os : List Operand) → explicit_fit t e rs (o ∷ os) ≡ (fits_next t e (first_role rs) o && explicit_fit t e (after_first rs) os)
explicit_step t e [] o os = refl
explicit_step t e (r ∷ rs) o os = refl

pub explicit_end : (t : Target) (e : Effect) (rs : List Role) → explicit_fit t e rs [] ≡ list_all takes_many rs
explicit_end t e [] = refl
explicit_end t e (r ∷ rs) = refl

pub explicit_stop : (t : Target) (e : Effect) (rs : List Role) (r : Option Role) (o : Operand) (os : List Operand) → r ≡ first_role rs → is_implicit_operand o ≡ false → fits_next t e r o ≡ false → explicit_fit t e rs (explicit_operands (o ∷ os)) ≡ false
explicit_stop t e rs r o os first explicit h =
    ap (λ b. explicit_fit t e rs (cond (not b) (o ∷ explicit_operands os) (explicit_operands os))) explicit
    ∙ (explicit_step t e rs o (explicit_operands os)
    ∙ ap (λ b. b && explicit_fit t e (after_first rs) (explicit_operands os)) (ap (λ q. fits_next t e q o) (sym first) ∙ h))

pub phi_pair : (a b : Operand) (os : List Operand) → phi_pairs (a ∷ b ∷ os) ≡ (reads_virtual a && is_block b && phi_pairs os)
phi_pair (operands.Reg s) (operands.Block n) os = grind arith
phi_pair (operands.Reg s) (operands.Reg r) os = grind arith
phi_pair (operands.Reg s) (operands.Imm z) os = grind arith
phi_pair (operands.Reg s) (operands.Stack n) os = grind arith
phi_pair (operands.Reg s) (operands.FixedStack n) os = grind arith
phi_pair (operands.Reg s) (operands.Symbol w) os = grind arith
phi_pair (operands.Reg s) (operands.Index x) os = grind arith
phi_pair (operands.Reg s) (operands.Mask m) os = grind arith
phi_pair (operands.Imm z) b os = refl
phi_pair (operands.Block n) b os = refl
phi_pair (operands.Stack n) b os = refl
phi_pair (operands.FixedStack n) b os = refl
phi_pair (operands.Symbol w) b os = refl
phi_pair (operands.Index x) b os = refl
phi_pair (operands.Mask m) b os = refl

pub phi_lone : (a : Operand) → phi_pairs (a ∷ []) ≡ false
phi_lone (operands.Reg s) = refl
phi_lone (operands.Imm z) = refl
phi_lone (operands.Block n) = refl
phi_lone (operands.Stack n) = refl
phi_lone (operands.FixedStack n) = refl
phi_lone (operands.Symbol w) = refl
phi_lone (operands.Index x) = refl
phi_lone (operands.Mask m) = refl

pub index_pair : (a b : Operand) (os : List Operand) → index_pairs (a ∷ b ∷ os) ≡ (reads_virtual a && is_index b && index_pairs os)
index_pair (operands.Reg s) (operands.Index x) os = grind arith
index_pair (operands.Reg s) (operands.Reg r) os = grind arith
index_pair (operands.Reg s) (operands.Imm z) os = grind arith
index_pair (operands.Reg s) (operands.Stack n) os = grind arith
index_pair (operands.Reg s) (operands.FixedStack n) os = grind arith
index_pair (operands.Reg s) (operands.Symbol w) os = grind arith
index_pair (operands.Reg s) (operands.Block n) os = grind arith
index_pair (operands.Reg s) (operands.Mask m) os = grind arith
index_pair (operands.Imm z) b os = refl
index_pair (operands.Block n) b os = refl
index_pair (operands.Stack n) b os = refl
index_pair (operands.FixedStack n) b os = refl
index_pair (operands.Symbol w) b os = refl
index_pair (operands.Index x) b os = refl
index_pair (operands.Mask m) b os = refl

pub index_lone : (a : Operand) → index_pairs (a ∷ []) ≡ false
index_lone (operands.Reg s) = refl
index_lone (operands.Imm z) = refl
index_lone (operands.Block n) = refl
index_lone (operands.Stack n) = refl
index_lone (operands.FixedStack n) = refl
index_lone (operands.Symbol w) = refl
index_lone (operands.Index x) = refl
index_lone (operands.Mask m) = refl

-- what a part that was asked leaves
abbrev pub after_part : Option Bool → Bool → Bool
after_part None rest = true
after_part (Some fits) rest = fits && rest

pub parts_pair : (t : Target) (f : Function) (d : RegOp) (a b : Operand) (os : List Operand) → parts_fit t f d (a ∷ b ∷ os) ≡ after_part (part_fits t f d a b) (parts_fit t f d os)
parts_pair t f d (operands.Reg s) (operands.Imm z) os = refl
parts_pair t f d (operands.Reg s) (operands.Block n) os = refl
parts_pair t f d (operands.Reg s) (operands.Stack n) os = refl
parts_pair t f d (operands.Reg s) (operands.FixedStack n) os = refl
parts_pair t f d (operands.Reg s) (operands.Symbol w) os = refl
parts_pair t f d (operands.Reg s) (operands.Index x) os = refl
parts_pair t f d (operands.Reg s) (operands.Mask m) os = refl
parts_pair t f d (operands.Reg s) (operands.Reg r) os = refl
parts_pair t f d (operands.Imm z) b os = refl
parts_pair t f d (operands.Block n) b os = refl
parts_pair t f d (operands.Stack n) b os = refl
parts_pair t f d (operands.FixedStack n) b os = refl
parts_pair t f d (operands.Symbol w) b os = refl
parts_pair t f d (operands.Index x) b os = refl
parts_pair t f d (operands.Mask m) b os = refl

pub parts_lone : (t : Target) (f : Function) (d : RegOp) (a : Operand) → parts_fit t f d (a ∷ []) ≡ true
parts_lone t f d (operands.Reg s) = refl
parts_lone t f d (operands.Imm z) = refl
parts_lone t f d (operands.Block n) = refl
parts_lone t f d (operands.Stack n) = refl
parts_lone t f d (operands.FixedStack n) = refl
parts_lone t f d (operands.Symbol w) = refl
parts_lone t f d (operands.Index x) = refl
parts_lone t f d (operands.Mask m) = refl
