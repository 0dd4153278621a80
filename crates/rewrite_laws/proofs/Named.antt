-- What the rules say of the operands of a function in lowered form whose ranges have registers.
use Rattle.std.proofs.Common.{◌≡◌, not, ◌&&◌, ◌∙◌, Bool, true, false, List, [], ◌∷◌, refl, sym, ap, eq-eqb}
use Rattle.target_base.specs.declared.types.Effect.{Effect}
use Rattle.target_base.specs.declared.types.Effect.TheVariants as effects
use Rattle.target_base.specs.declared.types.OpcodeDesc.{OpcodeDesc}
use Rattle.target_base.specs.declared.types.Target.{Target}
use Rattle.target_base.specs.Roles.{is_silent}
use Rattle.target_base.proofs.Tests.{first_of_both, second_of_both}
use Rattle.meaning.specs.Live.{Among as Member, here as first, there as later}
use Rattle.mir_func.specs.declared.func.Loc.{Loc}
use Rattle.mir_func.specs.declared.func.Loc.TheVariants.{Fixed, Virtual}
use Rattle.mir_func.specs.declared.func.RegOp.{RegOp}
use Rattle.mir_func.specs.declared.func.Operand.{Operand}
use Rattle.mir_func.specs.declared.func.Operand.TheVariants as operands
use Rattle.mir_func.specs.declared.func.Instr.{Instr}
use Rattle.mir_func.specs.declared.func.Block.{Block}
use Rattle.mir_func.specs.Value.{Function}
use Rattle.mir_func.specs.Binding.{implicit_registers, is_definition, is_lowered_away, is_use, is_virtual, passes, registers}
use Rattle.mir_meaning.specs.Points.{is_range}
use Rattle.mir_meaning.specs.Renaming.{IsFixed, RenamesAll}
use Rattle.mir_meaning.specs.Rules.{copy_fits, implicit_def_fits, operands_fit}
use Rattle.instr_effects.proofs.Members.{filter-in, member-elim, member-none}
use Rattle.live_laws.specs.Effects.Shaped.{IsShaped}
use Rattle.live_laws.proofs.Effects.Lists.{all-of, any-in}
use Rattle.live_laws.proofs.Effects.Shapes.{index-there}
use Rattle.live_laws.proofs.Touch.Roles.{Fit, fit-by, met}
use Rattle.lowering_laws.specs.Form.{is_undef_definition}
use Rattle.lowering_laws.specs.Shapes.{IsLowered}
use Rattle.join_laws.specs.Laws.{HasPlainUndefs}
use Rattle.join_laws.proofs.Named.{known, none-is}
use Rattle.rewriter.specs.Physical.{Assignment, physical_at}
use Rattle.rewrite_laws.specs.Laws.{IsClear}
use Rattle.rewrite_laws.proofs.Operands.{IsNamed, image, renames}

-- implicit operands are physical

implicit-false : (o : RegOp) → (b : Bool) → (b && not o.implicit) ≡ true → o.implicit ≡ true → ⊥
implicit-false o b e i = go b o.implicit e i
  where
    go : (b c : Bool) → (b && not c) ≡ true → c ≡ true → ⊥
    go true true h k = absurd (cc)
    go true false h k = absurd (cc)
    go false c h k = absurd (cc)

abbrev AreFixed : List Operand → Type 0
AreFixed os = (o : RegOp) → Member o (registers os) → o.implicit ≡ true → IsFixed o.loc

none-fixed : AreFixed []
none-fixed o m i = absurd (member-none o m)

more-fixed : (d : RegOp) (os : List Operand) → (d.implicit ≡ true → ⊥) → AreFixed os → AreFixed (operands.Reg d ∷ os)
more-fixed d os n h o m i = member-elim o d (registers os) (λ e. absurd (n (ap (λ (p : RegOp). p.implicit) (sym e) ∙ i))) (λ k. h o k i) m

copy-fixed : (os : List Operand) → copy_fits os ≡ true → AreFixed os
copy-fixed (operands.Reg d ∷ operands.Reg s ∷ []) e =
    more-fixed d (operands.Reg s ∷ []) (implicit-false d d.def (first_of_both (is_definition d) (is_use s) e))
    (more-fixed s [] (implicit-false s (not s.def) (second_of_both (is_definition d) (is_use s) e)) none-fixed)
copy-fixed _ e = absurd (cc)

undef-fixed : (os : List Operand) → implicit_def_fits os ≡ true → AreFixed os
undef-fixed (operands.Reg d ∷ []) e = more-fixed d [] (implicit-false d d.def e) none-fixed
undef-fixed _ e = absurd (cc)

fixed-loc : (l : Loc) → not (is_virtual l) ≡ true → IsFixed l
fixed-loc (Virtual v) e = absurd (cc)
fixed-loc (Fixed r) e = tt

module _ (t : Target) (f : Function) where
  by-fit : (d : OpcodeDesc) (os : List Operand) (e : Effect) → Fit t f d os e → AreFixed os
  by-fit d os e z o m i = fixed-loc o.loc (first_of_both _ _ (all-of (λ (p : RegOp). not (is_virtual p.loc) && not (is_silent d.effect)) o (implicit_registers os) (filter-in (λ (p : RegOp). p.implicit) o (registers os) m i) z.implicit))

  by-effect : (d : OpcodeDesc) (os : List Operand) (e : Effect) → is_lowered_away e ≡ false → operands_fit t f d os e ≡ true → AreFixed os
  by-effect d os effects.Copy l h = copy-fixed os h
  by-effect d os effects.ImplicitDef l h = undef-fixed os h
  by-effect d os effects.Phi l h = absurd (cc)
  by-effect d os effects.RegSequence l h = absurd (cc)
  by-effect d os effects.InsertSubreg l h = absurd (cc)
  by-effect d os e l h = by-fit d os e (fit-by t f d os e refl h)

module _ (t : Target) (f : Function) (rs : Assignment) (clear : IsClear t f rs) (low : IsLowered t f) (plain : HasPlainUndefs t f) where
  module _ (b : Block) (i : Instr) (mb : Member b f.blocks) (mi : Member i b.instrs) where
    shaped : IsShaped t f i
    shaped = low.rules.shaped b i mb mi

    are-fixed : AreFixed i.operands
    are-fixed =
        let e = known t i (low.lowered b i mb mi) in
        let z = met t f i e.0.0 e.0.1 shaped.operands in
        by-effect t f z.0 i.operands e.0.0 (sym (ap (passes is_lowered_away) e.0.1) ∙ e.1) z.3

    pub named : (o : RegOp) → Member o (registers i.operands) → IsNamed t f rs o
    named o m = record {
      index = index-there t f i shaped o m;
      fixed = are-fixed o m;
      plain = none-is is_undef_definition o (registers i.operands) (plain b i mb mi).0 m;
      assigned = λ v e. clear.named b i v mb mi (any-in (λ (p : RegOp). is_range v p.loc) o (registers i.operands) m (ap (is_range v) e ∙ eq-eqb v v refl));
    }

    module _ (g : Function) where
      renames-by : (os : List Operand) → ((o : RegOp) → Member o (registers os) → IsNamed t f rs o) → RenamesAll t f g (image t rs) (λ o. physical_at t rs o o.loc) os
      renames-by [] n = tt
      renames-by (operands.Reg o ∷ os) n = (renames t f rs clear g o (n o first), renames-by os (λ p m. n p (later m)))
      renames-by (operands.Imm z ∷ os) n = renames-by os n
      renames-by (operands.Block z ∷ os) n = renames-by os n
      renames-by (operands.Stack z ∷ os) n = renames-by os n
      renames-by (operands.FixedStack z ∷ os) n = renames-by os n
      renames-by (operands.Symbol z ∷ os) n = renames-by os n
      renames-by (operands.Index z ∷ os) n = renames-by os n
      renames-by (operands.Mask z ∷ os) n = renames-by os n

      pub renames-all : RenamesAll t f g (image t rs) (λ o. physical_at t rs o o.loc) i.operands
      renames-all = renames-by i.operands named
