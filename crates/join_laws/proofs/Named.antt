-- What the rules say of the operands of a function in lowered form.
use Rattle.std.proofs.Common.{◌≡◌, not, ◌&&◌, ◌||◌, ◌∙◌, Bool, true, false, cond, List, [], ◌∷◌, Option, Some, None, refl, sym, ap}
use Rattle.std.specs.Prelude.{filter_map}
use Rattle.std.specs.List.{list_any}
use Rattle.std.proofs.lemmas.Bool.{not-true}
use Rattle.target_base.specs.declared.types.Effect.{Effect}
use Rattle.target_base.specs.declared.types.Effect.TheVariants as effects
use Rattle.target_base.specs.declared.types.IndexId.{IndexId}
use Rattle.target_base.specs.declared.types.OpcodeDesc.{OpcodeDesc}
use Rattle.target_base.specs.declared.types.Target.{Target}
use Rattle.target_base.specs.Roles.{is_silent}
use Rattle.target_base.specs.Rules.{is_phi}
use Rattle.target_base.proofs.Tests.{first_of_both, second_of_both}
use Rattle.meaning.specs.Live.{Among as Member, here as first, there as later}
use Rattle.mir_func.specs.declared.func.Loc.{Loc}
use Rattle.mir_func.specs.declared.func.Loc.TheVariants.{Fixed, Virtual}
use Rattle.mir_func.specs.declared.func.RegOp.{RegOp}
use Rattle.mir_func.specs.declared.func.Operand.{Operand}
use Rattle.mir_func.specs.declared.func.Operand.TheVariants as operands
use Rattle.mir_func.specs.declared.func.Instr.{Instr}
use Rattle.mir_func.specs.declared.func.Block.{Block}
use Rattle.mir_func.specs.Value.{Function}
use Rattle.mir_func.specs.Binding.{does, effect_of, implicit_registers, is_definition, is_lowered_away, is_use, is_virtual, passes, puts_together, registers}
use Rattle.mir_meaning.specs.Points.{is_range}
use Rattle.mir_meaning.specs.Renaming.{IsFixed, RenamesAll}
use Rattle.mir_meaning.specs.Rules.{copy_fits, implicit_def_fits, operands_fit}
use Rattle.instr_effects.proofs.Members.{filter-in, flat-in, member-elim, member-none}
use Rattle.live_laws.specs.Effects.Shaped.{IsShaped}
use Rattle.live_laws.proofs.Effects.Blocks.{filtered-in}
use Rattle.live_laws.proofs.Effects.Lists.{all-of, any-in}
use Rattle.live_laws.proofs.Effects.Shapes.{class-there, index-there}
use Rattle.live_laws.proofs.Touch.Roles.{Fit, fit-by, met}
use Rattle.lowering_laws.specs.Form.{is_undef_definition}
use Rattle.lowering_laws.specs.Shapes.{IsLowered}
use Rattle.live_edits.specs.declared.fold.Join.{Join}
use Rattle.live_edits.specs.Folded.{all_instrs, composed, folded, image, joined_operand}
use Rattle.live_edits.proofs.JoiningMembers.{instr-member}
use Rattle.join_laws.specs.Joined.{fits_range, index_on, indexes_on}
use Rattle.join_laws.specs.Laws.{HasPlainUndefs}
use Rattle.join_laws.proofs.Asked.{IsAsked}
use Rattle.join_laws.proofs.Operands.{IsNamed, renames}

-- implicit operands are physical

implicit-false : (o : RegOp) → (b : Bool) → (b && not o.implicit) ≡ true → o.implicit ≡ true → ⊥
implicit-false o b e i = go b o.implicit e i
  where
    go : (b c : Bool) → (b && not c) ≡ true → c ≡ true → ⊥
    go true true h k = absurd (cc)
    go true false h k = absurd (cc)
    go false c h k = absurd (cc)

abbrev AreFixed : List Operand → Type 0
AreFixed os = (o : RegOp) → Member o (registers os) → o.implicit ≡ true → IsFixed o.loc

none-fixed : AreFixed []
none-fixed o m i = absurd (member-none o m)

more-fixed : (d : RegOp) (os : List Operand) → (d.implicit ≡ true → ⊥) → AreFixed os → AreFixed (operands.Reg d ∷ os)
more-fixed d os n h o m i = member-elim o d (registers os) (λ e. absurd (n (ap (λ (p : RegOp). p.implicit) (sym e) ∙ i))) (λ k. h o k i) m

copy-fixed : (os : List Operand) → copy_fits os ≡ true → AreFixed os
copy-fixed (operands.Reg d ∷ operands.Reg s ∷ []) e =
    more-fixed d (operands.Reg s ∷ []) (implicit-false d d.def (first_of_both (is_definition d) (is_use s) e))
    (more-fixed s [] (implicit-false s (not s.def) (second_of_both (is_definition d) (is_use s) e)) none-fixed)
copy-fixed _ e = absurd (cc)

undef-fixed : (os : List Operand) → implicit_def_fits os ≡ true → AreFixed os
undef-fixed (operands.Reg d ∷ []) e = more-fixed d [] (implicit-false d d.def e) none-fixed
undef-fixed _ e = absurd (cc)

fixed-loc : (l : Loc) → not (is_virtual l) ≡ true → IsFixed l
fixed-loc (Virtual v) e = absurd (cc)
fixed-loc (Fixed r) e = tt

module _ (t : Target) (f : Function) where
  by-fit : (d : OpcodeDesc) (os : List Operand) (e : Effect) → Fit t f d os e → AreFixed os
  by-fit d os e z o m i = fixed-loc o.loc (first_of_both _ _ (all-of (λ (p : RegOp). not (is_virtual p.loc) && not (is_silent d.effect)) o (implicit_registers os) (filter-in (λ (p : RegOp). p.implicit) o (registers os) m i) z.implicit))

  by-effect : (d : OpcodeDesc) (os : List Operand) (e : Effect) → is_lowered_away e ≡ false → operands_fit t f d os e ≡ true → AreFixed os
  by-effect d os effects.Copy l h = copy-fixed os h
  by-effect d os effects.ImplicitDef l h = undef-fixed os h
  by-effect d os effects.Phi l h = absurd (cc)
  by-effect d os effects.RegSequence l h = absurd (cc)
  by-effect d os effects.InsertSubreg l h = absurd (cc)
  by-effect d os e l h = by-fit d os e (fit-by t f d os e refl h)

-- what isn't any of a list

pub none-is : {X : Type 0} (p : X → Bool) (x : X) (xs : List X) → list_any p xs ≡ false → Member x xs → p x ≡ false
none-is p x xs e m = go (p x) refl
  where
    go : (u : Bool) → p x ≡ u → u ≡ false
    go true h = absurd (let z : true ≡ false = sym (any-in p x xs m h) ∙ e in cc)
    go false h = refl

-- the opcode is known, and none that is lowered away
pub known : (t : Target) (i : Instr) → does (λ e. not (is_lowered_away e)) t i ≡ true → ((e : Effect) × (effect_of t i ≡ Some e)) × (does is_lowered_away t i ≡ false)
known t i h = go (effect_of t i) refl h
  where
    go : (q : Option Effect) → effect_of t i ≡ q → passes (λ e. not (is_lowered_away e)) q ≡ true → ((e : Effect) × (effect_of t i ≡ Some e)) × (does is_lowered_away t i ≡ false)
    go None e k = absurd (cc)
    go (Some x) e k = ((x, e), ap (passes is_lowered_away) e ∙ not-true (is_lowered_away x) k)

pub not-phi : (t : Target) (i : Instr) → does is_lowered_away t i ≡ false → (does is_phi t i ≡ false) × (does puts_together t i ≡ false)
not-phi t i e = go (effect_of t i) e
  where
    by : (a b : Bool) → (a || b) ≡ false → (a ≡ false) × (b ≡ false)
    by true b h = absurd (cc)
    by false b h = (refl, h)

    go : (q : Option Effect) → passes is_lowered_away q ≡ false → (passes is_phi q ≡ false) × (passes puts_together q ≡ false)
    go None h = (refl, refl)
    go (Some x) h = by (is_phi x) (puts_together x) h

module _ (t : Target) (f : Function) (j : Join) (a : IsAsked t f j) (low : IsLowered t f) (plain : HasPlainUndefs t f) where
  module _ (b : Block) (i : Instr) (mb : Member b f.blocks) (mi : Member i b.instrs) where
    shaped : IsShaped t f i
    shaped = low.rules.shaped b i mb mi

    effect : ((e : Effect) × (effect_of t i ≡ Some e)) × (does is_lowered_away t i ≡ false)
    effect = known t i (low.lowered b i mb mi)

    are-fixed : AreFixed i.operands
    are-fixed =
        let e = effect.0 in
        let z = met t f i e.0 e.1 shaped.operands in
        by-effect t f z.0 i.operands e.0 (sym (ap (passes is_lowered_away) e.1) ∙ effect.1) z.3

    on-range : (o : RegOp) → Member o (registers i.operands) → is_range j.gone o.loc ≡ true → (z : IndexId) → o.index ≡ Some z → Member z (indexes_on f j.gone)
    on-range o m e z h =
        flat-in (λ (i : Instr). filter_map (index_on j.gone) (registers i.operands)) z i (all_instrs f) (instr-member b i f.blocks mb mi)
        (filtered-in (index_on j.gone) o z (registers i.operands) m (ap (λ u. cond u o.index None) e ∙ h))

    pub named : (o : RegOp) → Member o (registers i.operands) → IsNamed t f j o
    named o m = record {
      class = class-there t f i shaped o m;
      index = index-there t f i shaped o m;
      fixed = are-fixed o m;
      plain = none-is is_undef_definition o (registers i.operands) (plain b i mb mi).0 m;
      within = λ e x z h k. all-of (λ y. fits_range t f j.keep (composed t x y)) z (indexes_on f j.gone) (on-range o m e z k) (a.part x h).indexes;
    }

    renames-by : (os : List Operand) → ((o : RegOp) → Member o (registers os) → IsNamed t f j o) → RenamesAll t f (folded t j f) (image t j) (joined_operand t j) os
    renames-by [] n = tt
    renames-by (operands.Reg o ∷ os) n = (renames t f j a o (n o first), renames-by os (λ p m. n p (later m)))
    renames-by (operands.Imm z ∷ os) n = renames-by os n
    renames-by (operands.Block z ∷ os) n = renames-by os n
    renames-by (operands.Stack z ∷ os) n = renames-by os n
    renames-by (operands.FixedStack z ∷ os) n = renames-by os n
    renames-by (operands.Symbol z ∷ os) n = renames-by os n
    renames-by (operands.Index z ∷ os) n = renames-by os n
    renames-by (operands.Mask z ∷ os) n = renames-by os n

    pub renames-all : RenamesAll t f (folded t j f) (image t j) (joined_operand t j) i.operands
    renames-all = renames-by i.operands named
