-- Operands in physical form fit their opcodes.
use Rattle.std.proofs.Common.{◌≡◌, ◌∷◌, ◌∙◌, ◌&&◌, ◌||◌, not, ℕ, Bool, true, false, cond, List, [], Option, Some, None, length, refl, sym, ap, subst}
use Rattle.std.specs.Prelude.{◌==◌, option_map, IsSome}
use Rattle.std.specs.List.{list_all}
use Rattle.target_base.specs.declared.types.ClassId.{ClassId}
use Rattle.target_base.specs.declared.types.Effect.{Effect}
use Rattle.target_base.specs.declared.types.Effect.TheVariants as effects
use Rattle.target_base.specs.declared.types.OpcodeDesc.{OpcodeDesc}
use Rattle.target_base.specs.declared.types.Reg.{Reg}
use Rattle.target_base.specs.declared.types.Role.{Role}
use Rattle.target_base.specs.declared.types.Role.TheVariants as roles
use Rattle.target_base.specs.declared.types.Target.{Target}
use Rattle.target_base.specs.Registers.{fits, lanes_of}
use Rattle.target_base.proofs.Tests.{first_of_both, second_of_both}
use Rattle.meaning.specs.Live.{Among as Member, here as first}
use Rattle.mir_func.specs.declared.func.Loc.{Loc}
use Rattle.mir_func.specs.declared.func.Loc.TheVariants.{Fixed, Virtual}
use Rattle.mir_func.specs.declared.func.RegOp.{RegOp}
use Rattle.mir_func.specs.declared.func.Operand.{Operand}
use Rattle.mir_func.specs.declared.func.Operand.TheVariants as operands
use Rattle.mir_func.specs.declared.func.Instr.{Instr}
use Rattle.mir_func.specs.declared.func.Block.{Block}
use Rattle.mir_func.specs.Value.{Function}
use Rattle.mir_func.specs.Binding.{class_of, does, explicit_operands, explicit_roles, implicit_registers, is_definition, is_implicit_operand, is_lowered_away, is_use, is_virtual, known_opcode, passes, registers, takes_many}
use Rattle.mir_meaning.specs.Registers.{operand_widths}
use Rattle.mir_meaning.specs.Renaming.{IsFixed}
use Rattle.mir_meaning.specs.Rules.{V1, copy_fits, explicit_fit, fits_at, fits_opaque, fits_role, has_lanes, has_lanes_at, implicit_def_fits, implicit_fit, implicit_last, index_fits, is_condition, is_opaque, is_reserved_register, is_value, lanes_fit, operands_fit, values_fit}
use Rattle.live_laws.specs.Effects.Shaped.{IsShaped}
use Rattle.join_laws.proofs.Named.{known}
use Rattle.rewriter.specs.Physical.{Assignment, physical, physical_form, physical_instr, register_of}
use Rattle.rewrite_laws.specs.Laws.{IsClear}
use Rattle.rewrite_laws.proofs.Named.{named}
use Rattle.rewrite_laws.proofs.Operands.{IsNamed, renames, stands}
use Rattle.valid_laws.specs.Rules.{PhysicalOperands, StandsClear}
use Rattle.valid_laws.proofs.Forms.{instr-of}
use Rattle.valid_laws.proofs.Moved.{ImplicitFixed, explicits, field, immediates, implicit-same, implicits, moved, moves, stays}

pub or-elim : (a b c : Bool) → (a ≡ true → c ≡ true) → (b ≡ true → c ≡ true) → (a || b) ≡ true → c ≡ true
or-elim true b c f g e = f refl
or-elim false b c f g e = g e

pub or-left : (a b : Bool) → a ≡ true → (a || b) ≡ true
or-left true b e = refl
or-left false b e = absurd (cc)

pub or-right : (a b : Bool) → b ≡ true → (a || b) ≡ true
or-right true b e = refl
or-right false b e = e

-- where both change, one after the other
pub and-map : (a b c d : Bool) → (a ≡ true → c ≡ true) → (b ≡ true → d ≡ true) → (a && b) ≡ true → (c && d) ≡ true
and-map a b c d f g e = λ k. f (first_of_both a b e) k && g (second_of_both a b e) k

-- a reserved register is physical
pub reserved-fixed : (t : Target) (l : Loc) → is_reserved_register t l ≡ true → IsFixed l
reserved-fixed t (Virtual v) e = absurd (cc)
reserved-fixed t (Fixed r) e = tt

pub real-fixed : (l : Loc) → not (is_virtual l) ≡ true → IsFixed l
real-fixed (Virtual v) e = absurd (cc)
real-fixed (Fixed r) e = tt

module _ (t : Target) (f g : Function) (rs : Assignment) (clear : IsClear t f rs) where
  abbrev r : RegOp → RegOp
  r = moved t rs

  abbrev mv : Operand → Operand
  mv = physical t rs

  abbrev pub AreNamed : List Operand → Type 0
  AreNamed os = (o : RegOp) → Member o (registers os) → IsNamed t f rs o

  pub implicit-fixed : (os : List Operand) → AreNamed os → ImplicitFixed t rs os
  implicit-fixed os n o m e = (n o m).fixed e

  -- the lanes of an operand are known, before and after

  pub lanes-after : (o : RegOp) → IsNamed t f rs o → has_lanes t g (r o) ≡ true
  lanes-after o n = let z = stands t f rs clear o n in ap (λ l. has_lanes_at t g l (r o).index) z.1

  class-of : (v : ℕ) → IsSome (register_of rs v) → (c : ClassId) × (class_of f v ≡ Some c)
  class-of v s = go (register_of rs v) refl s
    where
      go : (q : Option Reg) → register_of rs v ≡ q → IsSome q → (c : ClassId) × (class_of f v ≡ Some c)
      go None e s = absurd (cc)
      go (Some p) e s = let z = clear.classes v p e in (z.0, ap (λ q. elim q as (λ q. Option ClassId) [ None ↦ None | Some c ↦ c ]) z.1)

  pub lanes-before : (o : RegOp) → IsNamed t f rs o → has_lanes t f o ≡ true
  lanes-before o n = go o.loc refl n.index
    where
      go : (l : Loc) → o.loc ≡ l → index_fits t f l o.index ≡ true → has_lanes_at t f l o.index ≡ true
      go (Fixed q) e h = refl
      go (Virtual v) e h =
          let z = class-of v (n.assigned v e) in
          let fit : fits t z.0 o.index ≡ true = sym (ap (λ q. elim q as (λ q. Bool) [ None ↦ true | Some c ↦ fits t c o.index ]) z.1) ∙ h in
          ap (passes (λ c. fits t c o.index)) z.1 ∙ fit

  -- explicit operands

  value : (o : Operand) → is_value t o ≡ true → is_value t (mv o) ≡ true
  value (operands.Reg o) e = ap (λ p. is_value t (operands.Reg p)) (stays t rs o (reserved-fixed t o.loc (second_of_both (is_use o) (is_reserved_register t o.loc) e))) ∙ e
  value (operands.Imm z) e = e
  value (operands.Block z) e = e
  value (operands.Stack z) e = e
  value (operands.FixedStack z) e = e
  value (operands.Symbol z) e = e
  value (operands.Index z) e = e
  value (operands.Mask z) e = e

  fit-opaque : (q : Role) (o : Operand) → fits_opaque t q o ≡ true → fits_opaque t q (mv o) ≡ true
  fit-opaque (roles.Value None) o e = value o e
  fit-opaque (roles.Value (Some k)) (operands.Reg o) e = field t rs is_use o (λ q. refl) ∙ e
  fit-opaque (roles.Value (Some k)) (operands.Imm z) e = e
  fit-opaque (roles.Value (Some k)) (operands.Block z) e = e
  fit-opaque (roles.Value (Some k)) (operands.Stack z) e = e
  fit-opaque (roles.Value (Some k)) (operands.FixedStack z) e = e
  fit-opaque (roles.Value (Some k)) (operands.Symbol z) e = e
  fit-opaque (roles.Value (Some k)) (operands.Index z) e = e
  fit-opaque (roles.Value (Some k)) (operands.Mask z) e = e
  fit-opaque roles.Any o e = value o e
  fit-opaque q o e = absurd (cc)

  fit-role : (q : Role) (o : Operand) → fits_role q o ≡ true → fits_role q (mv o) ≡ true
  fit-role roles.Rest (operands.Reg o) e = ap (λ p. fits_role roles.Rest (operands.Reg p)) (stays t rs o (real-fixed o.loc (second_of_both (is_use o) (not (is_virtual o.loc)) e))) ∙ e
  fit-role q (operands.Reg o) e = field t rs (λ p. fits_role q (operands.Reg p)) o (λ q. refl) ∙ e
  fit-role q (operands.Imm z) e = e
  fit-role q (operands.Block z) e = e
  fit-role q (operands.Stack z) e = e
  fit-role q (operands.FixedStack z) e = e
  fit-role q (operands.Symbol z) e = e
  fit-role q (operands.Index z) e = e
  fit-role q (operands.Mask z) e = e

  fit-at : (e : Effect) (q : Role) (o : Operand) → fits_at t e q o ≡ true → fits_at t e q (mv o) ≡ true
  fit-at e q o h =
      or-elim (fits_role q o) (is_opaque e && fits_opaque t q o) (fits_at t e q (mv o))
      (λ a. or-left (fits_role q (mv o)) (is_opaque e && fits_opaque t q (mv o)) (fit-role q o a))
      (λ b. or-right (fits_role q (mv o)) (is_opaque e && fits_opaque t q (mv o)) (and-map (is_opaque e) (fits_opaque t q o) (is_opaque e) (fits_opaque t q (mv o)) (λ a. a) (fit-opaque q o) b)) h

  fit-explicit : (e : Effect) (qs : List Role) (os : List Operand) → explicit_fit t e qs os ≡ true → explicit_fit t e qs (moves t rs os) ≡ true
  fit-explicit e qs [] h = h
  fit-explicit e [] (o ∷ os) h = absurd (cc)
  fit-explicit e (q ∷ qs) (o ∷ os) h =
      let rest = cond (takes_many q) (q ∷ qs) qs in
      and-map (fits_at t e q o) (explicit_fit t e rest os) (fits_at t e q (mv o)) (explicit_fit t e rest (moves t rs os)) (fit-at e q o) (fit-explicit e rest os) h

  all-implicit : (os : List Operand) → list_all is_implicit_operand (moves t rs os) ≡ list_all is_implicit_operand os
  all-implicit [] = refl
  all-implicit (o ∷ os) = λ k. implicit-same t rs o k && all-implicit os k

  last : (os : List Operand) → implicit_last (moves t rs os) ≡ implicit_last os
  last [] = refl
  last (o ∷ os) = λ k. cond (implicit-same t rs o k) (all-implicit os k) (last os k)

  -- values

  slot-lanes : (os : List Operand) → AreNamed os → lanes_fit t f os ≡ true → lanes_fit t g (moves t rs os) ≡ true
  slot-lanes (operands.Reg o ∷ s ∷ operands.Imm z ∷ os) n e = e
  slot-lanes (operands.Reg o ∷ s ∷ operands.Index x ∷ os) n e =
      let z = n o first in
      (λ k. not (lanes-after o z k) || length (lanes_of t x) == length ((renames t f rs clear g o z).widths k))
      ∙ (sym (λ k. not (lanes-before o z k) || length (lanes_of t x) == length (operand_widths t f o)) ∙ e)
  slot-lanes os n e = e

  fit-values : (e : Effect) (os : List Operand) → AreNamed os → values_fit t f e os ≡ true → values_fit t g e (moves t rs os) ≡ true
  fit-values effects.Jcc os n h = ap is_condition (immediates t rs os) ∙ h
  fit-values effects.Spill os n h = slot-lanes os n h
  fit-values effects.Reload os n h = slot-lanes os n h
  fit-values e os n h = h

  -- all operands

  copies : (os : List Operand) → copy_fits (moves t rs os) ≡ copy_fits os
  copies (operands.Reg d ∷ operands.Reg s ∷ []) = λ k. field t rs is_definition d (λ q. refl) k && field t rs is_use s (λ q. refl) k
  copies os = refl

  undefined : (os : List Operand) → implicit_def_fits (moves t rs os) ≡ implicit_def_fits os
  undefined (operands.Reg d ∷ []) = field t rs is_definition d (λ q. refl)
  undefined os = refl

  general : (d : OpcodeDesc) (os : List Operand) (e : Effect) → AreNamed os
      → (implicit_last os && explicit_fit t e (explicit_roles d.roles) (explicit_operands os) && implicit_fit d (implicit_registers os) && values_fit t f e os) ≡ true
      → (implicit_last (moves t rs os) && explicit_fit t e (explicit_roles d.roles) (explicit_operands (moves t rs os)) && implicit_fit d (implicit_registers (moves t rs os)) && values_fit t g e (moves t rs os)) ≡ true
  general d os e n h =
      let a = implicit_last os in
      let b = explicit_fit t e (explicit_roles d.roles) (explicit_operands os) in
      let c = implicit_fit d (implicit_registers os) in
      let v = values_fit t f e os in
      let abc = first_of_both (a && b && c) v h in
      let ab = first_of_both (a && b) c abc in
      λ k. (last os ∙ first_of_both a b ab) k
      && (ap (explicit_fit t e (explicit_roles d.roles)) (explicits t rs os) ∙ fit-explicit e (explicit_roles d.roles) (explicit_operands os) (second_of_both a b ab)) k
      && (ap (implicit_fit d) (implicits t rs os (implicit-fixed os n)) ∙ second_of_both (a && b) c abc) k
      && fit-values e os n (second_of_both (a && b && c) v h) k

  fit : (d : OpcodeDesc) (os : List Operand) (e : Effect) → AreNamed os → is_lowered_away e ≡ false → operands_fit t f d os e ≡ true → operands_fit t g d (moves t rs os) e ≡ true
  fit d os effects.Copy n l h = copies os ∙ h
  fit d os effects.ImplicitDef n l h = undefined os ∙ h
  fit d os effects.Phi n l h = absurd (cc)
  fit d os effects.RegSequence n l h = absurd (cc)
  fit d os effects.InsertSubreg n l h = absurd (cc)
  fit d os e n l h = general d os e n h

  module _ (i : Instr) (names : AreNamed i.operands) (lowered : does is_lowered_away t i ≡ false) (shaped : IsShaped t f i) (n : ℕ) where
    pub one : V1 t g (record (physical_instr t rs i) { id = n }) ≡ true
    unfolding V1
    one = by (known_opcode t i.op) lowered shaped.operands
      where
        by : (q : Option OpcodeDesc) → passes is_lowered_away (option_map (λ d. d.effect) q) ≡ false
            → elim q as (λ q. Bool) [ None ↦ true | Some d ↦ operands_fit t f d i.operands d.effect ] ≡ true
            → elim q as (λ q. Bool) [ None ↦ true | Some d ↦ operands_fit t g d (moves t rs i.operands) d.effect ] ≡ true
        by None l e = refl
        by (Some d) l e = fit d i.operands d.effect names l e

module _ (t : Target) (f : Function) (rs : Assignment) (stand : StandsClear t f rs) where
  pub each-named : (b : Block) (i : Instr) → Member b f.blocks → Member i b.instrs → AreNamed t f f rs stand.clear i.operands
  each-named b i mb mi o m = named t f rs stand.clear stand.lowered stand.plain b i mb mi o m

  pub not-away : (b : Block) (i : Instr) → Member b f.blocks → Member i b.instrs → does is_lowered_away t i ≡ false
  not-away b i mb mi = (known t i (stand.lowered.lowered b i mb mi)).1

pub physical-operands : PhysicalOperands
physical-operands t f rs slots live stand c x mc mx =
    let g = physical_form t rs slots live f in
    let z = instr-of t rs slots live f c x mc mx in
    let i = z.2.instr in
    subst (λ y. V1 t g y ≡ true) (sym z.2.is)
    (one t f g rs stand.clear i (each-named t f rs stand z.0 i z.1 z.2.inside) (not-away t f rs stand z.0 i z.1 z.2.inside) (stand.lowered.rules.shaped z.0 i z.1 z.2.inside) z.2.id)
