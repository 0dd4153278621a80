-- Operands in physical form, and the roles that they take.
use Rattle.std.proofs.Common.{◌≡◌, ◌∷◌, ◌++◌, ◌∙◌, not, true, cond, List, [], Option, Some, None, map, filter, refl, sym, ap}
use Rattle.target_base.specs.declared.types.Reg.{Reg}
use Rattle.target_base.specs.declared.types.Role.{Role}
use Rattle.target_base.specs.declared.types.Target.{Target}
use Rattle.meaning.specs.Live.{Among as Member, here as first, there as later}
use Rattle.mir_func.specs.declared.func.Loc.{Loc}
use Rattle.mir_func.specs.declared.func.Loc.TheVariants.{Fixed, Virtual}
use Rattle.mir_func.specs.declared.func.RegOp.{RegOp}
use Rattle.mir_func.specs.declared.func.Operand.{Operand}
use Rattle.mir_func.specs.declared.func.Operand.TheVariants as operands
use Rattle.mir_func.specs.declared.func.Instr.{Instr}
use Rattle.mir_func.specs.Binding.{Bound, bound, explicit_bound, explicit_operands, explicit_roles, immediate_of, implicit_bound, implicit_registers, implicit_roles, is_implicit_operand, registers, roles_of, takes_many}
use Rattle.mir_meaning.specs.Renaming.{IsFixed}
use Rattle.instr_effects.proofs.Members.{filter-of}
use Rattle.join_laws.proofs.Rules.{filter-map}
use Rattle.rewriter.specs.Physical.{Assignment, in_register, part_of, physical, physical_at, physical_instr, register_of}

pub map-append : {A B : Type 0} (h : A → B) (xs ys : List A) → map h (xs ++ ys) ≡ map h xs ++ map h ys
map-append h [] ys = refl
map-append h (x ∷ xs) ys = ap (λ zs. h x ∷ zs) (map-append h xs ys)

module _ (t : Target) (rs : Assignment) where
  -- a register operand in physical form
  abbrev pub moved : RegOp → RegOp
  moved o = physical_at t rs o o.loc

  abbrev pub moves : List Operand → List Operand
  moves os = map (physical t rs) os

  -- what doesn't see the register is as it was
  pub field : {X : Type 0} (P : RegOp → X) (o : RegOp) → ((q : Reg) → P (record o { loc = Fixed q; index = None; renamable = true; tie = None }) ≡ P o) → P (moved o) ≡ P o
  field P o h = go o.loc
    where
      part : (q : Option Reg) → P (in_register o q) ≡ P o
      part None = refl
      part (Some q) = h q

      go : (l : Loc) → P (physical_at t rs o l) ≡ P o
      go (Virtual v) = part (part_of t (register_of rs v) o.index)
      go (Fixed q) = refl

  -- a physical register stays
  pub stays : (o : RegOp) → IsFixed o.loc → moved o ≡ o
  stays o h = go o.loc h
    where
      go : (l : Loc) → IsFixed l → physical_at t rs o l ≡ o
      go (Virtual v) h = absurd h
      go (Fixed q) h = refl

  pub regs : (os : List Operand) → registers (moves os) ≡ map moved (registers os)
  regs [] = refl
  regs (operands.Reg o ∷ os) = ap (λ ps. moved o ∷ ps) (regs os)
  regs (operands.Imm z ∷ os) = regs os
  regs (operands.Block z ∷ os) = regs os
  regs (operands.Stack z ∷ os) = regs os
  regs (operands.FixedStack z ∷ os) = regs os
  regs (operands.Symbol z ∷ os) = regs os
  regs (operands.Index z ∷ os) = regs os
  regs (operands.Mask z ∷ os) = regs os

  pub implicit-same : (o : Operand) → is_implicit_operand (physical t rs o) ≡ is_implicit_operand o
  implicit-same (operands.Reg o) = field (λ (p : RegOp). p.implicit) o (λ q. refl)
  implicit-same o = refl

  pub explicits : (os : List Operand) → explicit_operands (moves os) ≡ moves (explicit_operands os)
  explicits os = filter-map (λ o. not (is_implicit_operand o)) (λ o. not (is_implicit_operand o)) (physical t rs) (λ o. ap not (implicit-same o)) os

  implicits-moved : (os : List Operand) → implicit_registers (moves os) ≡ map moved (implicit_registers os)
  implicits-moved os =
      ap (filter (λ (o : RegOp). o.implicit)) (regs os)
      ∙ filter-map (λ (o : RegOp). o.implicit) (λ (o : RegOp). o.implicit) moved (λ o. field (λ (p : RegOp). p.implicit) o (λ q. refl)) (registers os)

  pub defs : (os : List Operand) → filter (λ (o : RegOp). o.def) (registers (moves os)) ≡ map moved (filter (λ (o : RegOp). o.def) (registers os))
  defs os =
      ap (filter (λ (o : RegOp). o.def)) (regs os)
      ∙ filter-map (λ (o : RegOp). o.def) (λ (o : RegOp). o.def) moved (λ o. field (λ (p : RegOp). p.def) o (λ q. refl)) (registers os)

  all-stay : (os : List RegOp) → ((o : RegOp) → Member o os → IsFixed o.loc) → map moved os ≡ os
  all-stay [] h = refl
  all-stay (o ∷ os) h = λ k. stays o (h o first) k ∷ all-stay os (λ p m. h p (later m)) k

  -- implicit operands are physical
  abbrev pub ImplicitFixed : List Operand → Type 0
  ImplicitFixed os = (o : RegOp) → Member o (registers os) → o.implicit ≡ true → IsFixed o.loc

  pub implicits : (os : List Operand) → ImplicitFixed os → implicit_registers (moves os) ≡ implicit_registers os
  implicits os h =
      implicits-moved os
      ∙ all-stay (implicit_registers os) (λ o m. let z = filter-of (λ (p : RegOp). p.implicit) o (registers os) m in h o z.0 z.1)

  pub immediates : (os : List Operand) → immediate_of (moves os) ≡ immediate_of os
  immediates [] = refl
  immediates (operands.Imm z ∷ os) = refl
  immediates (operands.Reg o ∷ os) = immediates os
  immediates (operands.Block z ∷ os) = immediates os
  immediates (operands.Stack z ∷ os) = immediates os
  immediates (operands.FixedStack z ∷ os) = immediates os
  immediates (operands.Symbol z ∷ os) = immediates os
  immediates (operands.Index z ∷ os) = immediates os
  immediates (operands.Mask z ∷ os) = immediates os

  -- operands with their roles

  abbrev pub move-bound : Bound → Bound
  move-bound b = (b.0, physical t rs b.1)

  bound-explicit : (qs : List Role) (os : List Operand) → explicit_bound qs (moves os) ≡ map move-bound (explicit_bound qs os)
  bound-explicit qs [] = refl
  bound-explicit [] (o ∷ os) = ap (λ bs. (None, physical t rs o) ∷ bs) (bound-explicit [] os)
  bound-explicit (q ∷ qs) (o ∷ os) = ap (λ bs. (Some q, physical t rs o) ∷ bs) (bound-explicit (cond (takes_many q) (q ∷ qs) qs) os)

  bound-implicit : (qs : List Role) (os : List RegOp) → ((o : RegOp) → Member o os → IsFixed o.loc) → map (implicit_bound qs) os ≡ map move-bound (map (implicit_bound qs) os)
  bound-implicit qs [] h = refl
  bound-implicit qs (o ∷ os) h = λ k. ((implicit_bound qs o).0, operands.Reg (sym (stays o (h o first)) k)) ∷ bound-implicit qs os (λ p m. h p (later m)) k

  pub bound-same : (i : Instr) → ImplicitFixed i.operands → bound t (physical_instr t rs i) ≡ map move-bound (bound t i)
  bound-same i h =
      let es = explicit_roles (roles_of t i) in
      let is = implicit_roles (roles_of t i) in
      (λ k. (ap (explicit_bound es) (explicits i.operands) ∙ bound-explicit es (explicit_operands i.operands)) k
      ++ (ap (map (implicit_bound is)) (implicits i.operands h) ∙ bound-implicit is (implicit_registers i.operands) (λ o m. let z = filter-of (λ (p : RegOp). p.implicit) o (registers i.operands) m in h o z.0 z.1)) k)
      ∙ sym (map-append move-bound (explicit_bound es (explicit_operands i.operands)) (map (implicit_bound is) (implicit_registers i.operands)))
