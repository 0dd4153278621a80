-- Behind lowering a valid source keeps the rules on which liveness rests, and is in the form in which ranges are split.
use Rattle.std.proofs.Common.{◌≡◌, ◌||◌, not, ℕ, Bool, true, false, Option, Some, None, refl}
use Rattle.target_base.specs.declared.types.Effect.{Effect}
use Rattle.target_base.specs.declared.types.Target.{Target}
use Rattle.target_base.specs.Rules.{is_phi}
use Rattle.mir_func.specs.declared.func.Block.{Block}
use Rattle.mir_func.specs.declared.func.Instr.{Instr}
use Rattle.mir_func.specs.Value.{Function}
use Rattle.mir_func.specs.Binding.{does, effect_of, is_lowered_away, passes, puts_together}
use Rattle.mir_meaning.specs.declared.Form.TheVariants as forms
use Rattle.mir_meaning.specs.Rules.{V7, phi_stands}
use Rattle.two_address.specs.Lowered.{lowered}
use Rattle.live_laws.proofs.Effects.Blocks.{slice-member}
use Rattle.lowering_laws.specs.Shapes.{LoweredIsSplittable, LoweredKeepsRules, LoweredShapes}
use Rattle.lowering_laws.proofs.Ids.{ids_are_distinct}
use Rattle.lowering_laws.proofs.Names.{lowered_names}
use Rattle.lowering_laws.proofs.ShapesBehind.{lowered_definitions, lowered_operands, lowered_widths}
use Rattle.lowering_laws.proofs.TieBlocks.{lowered_keep_block_rules, lowered_opcodes}
use Rattle.lowering_laws.proofs.TieClasses.{lowered_classes}

pub lowered_shapes : LoweredShapes
lowered_shapes t f valid classes b i mb mi =
    let names = lowered_names t f valid classes b i mb mi in
    record {
      operands = lowered_operands t f valid classes b i mb mi;
      widths = lowered_widths t f valid classes b i mb mi;
      classes = names.0;
      indexes = names.1;
      definitions = lowered_definitions t f valid classes b i mb mi;
    }

no-phi : (t : Target) (i : Instr) → does (λ e. not (is_lowered_away e)) t i ≡ true → does is_phi t i ≡ false
no-phi t i w = go (effect_of t i) w
  where
    by : (a b : Bool) → not (a || b) ≡ true → a ≡ false
    by true b e = absurd (cc)
    by false b e = refl

    go : (q : Option Effect) → passes (λ e. not (is_lowered_away e)) q ≡ true → passes is_phi q ≡ false
    go None w = absurd (cc)
    go (Some e) w = by (is_phi e) (puts_together e) w

-- rule 7 asks nothing of an instruction that is no phi
seven : (t : Target) (g : Function) (k : ℕ) (b : Block) (j : ℕ) (i : Instr) → does is_phi t i ≡ false → V7 t forms.Source g k b j i ≡ true
unfolding V7
seven t g k b j i e = λ s. not (e s) || phi_stands t g k b j i

pub lowered_keeps_rules : LoweredKeepsRules
lowered_keeps_rules t f valid classes = record {
  classes = lowered_classes t f classes;
  shaped = λ b i mb mi. lowered_shapes t f valid classes b i mb mi;
  blocks = λ k b e. (lowered_keep_block_rules t f valid classes).five k b e;
  phis = λ k b j i e g. seven t (lowered t f) k b j i (no-phi t i (lowered_opcodes t f valid classes b i (slice-member (lowered t f).blocks k b e) (slice-member b.instrs j i g)));
}

pub lowered_is_splittable : LoweredIsSplittable
lowered_is_splittable t f valid classes some =
    let blocks = lowered_keep_block_rules t f valid classes in
    record {
      function = ids_are_distinct t f some;
      rules = lowered_keeps_rules t f valid classes;
      lowered = λ b i mb mi. lowered_opcodes t f valid classes b i mb mi;
      terminators = λ b j i mb e. blocks.eight b j i mb e;
      successors = λ k b e. blocks.nine k b e;
    }
