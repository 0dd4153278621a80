-- Behind lowering the rules on operands, widths and definitions hold of each instruction.
use Rattle.std.proofs.Common.{◌≡◌, true}
use Rattle.target_base.specs.declared.types.Target.{Target}
use Rattle.meaning.specs.Live.{Among}
use Rattle.mir_func.specs.declared.func.Block.{Block}
use Rattle.mir_func.specs.declared.func.Instr.{Instr}
use Rattle.mir_func.specs.Value.{Function}
use Rattle.mir_meaning.specs.declared.Form.TheVariants as forms
use Rattle.mir_meaning.specs.Points.{has_no_phis}
use Rattle.mir_meaning.specs.Rules.{V1, V2, V12}
use Rattle.phi_elim.specs.Phis.{phis_lowered}
use Rattle.two_address.specs.Lowered.{ties_lowered}
use Rattle.live_laws.specs.Effects.Shaped.{AreClasses}
use Rattle.lowering_laws.specs.Shapes.{LoweredDefinitions, LoweredOperands, LoweredWidths}
use Rattle.lowering_laws.proofs.Blocks.{phis_are_gone}
use Rattle.lowering_laws.proofs.CopyShapes.{copying-one, copying-twelve, copying-two, undefining-one, undefining-twelve, undefining-two}
use Rattle.lowering_laws.proofs.EachBehind.{Holds, each-holds}
use Rattle.lowering_laws.proofs.Eliminated.{eliminated-classes, eliminated-rules}
use Rattle.lowering_laws.proofs.Replaced.{h}
use Rattle.lowering_laws.proofs.Ruled.{EachRules, all-rules, each-rules}
use Rattle.lowering_laws.proofs.TiedDefinitions.{tied-twelve}
use Rattle.lowering_laws.proofs.TiedOperands.{tied-one}
use Rattle.lowering_laws.proofs.TiedWidths.{tied-two}

module _ (t : Target) (f : Function) (plain : has_no_phis t f.blocks ≡ true) (classes : AreClasses t f) (rules : EachRules t f) where
  keeps-one : Holds t f (λ x. V1 t (h t f) x ≡ true)
  unfolding V1
  keeps-one = record {
    numbers = λ n x e. e;
    texts = λ i x e. e;
    undefines = λ x z. undefining-one t (h t f) x z;
    copies = λ x z. copying-one t (h t f) x z;
    ties = λ z. tied-one t f z;
  }

  one : (d : Block) (x : Instr) → Among d (ties_lowered t f).blocks → Among x d.instrs → V1 t (ties_lowered t f) x ≡ true
  unfolding V1 ties_lowered
  one d x md mx = each-holds t f (λ y. V1 t (h t f) y ≡ true) keeps-one plain classes rules d x md mx

  keeps-two : Holds t f (λ x. V2 t (h t f) x ≡ true)
  unfolding V2
  keeps-two = record {
    numbers = λ n x e. e;
    texts = λ i x e. e;
    undefines = λ x z. undefining-two t (h t f) x z;
    copies = λ x z. copying-two t (h t f) x z;
    ties = λ z. tied-two t f z;
  }

  two : (d : Block) (x : Instr) → Among d (ties_lowered t f).blocks → Among x d.instrs → V2 t (ties_lowered t f) x ≡ true
  unfolding V2 ties_lowered
  two d x md mx = each-holds t f (λ y. V2 t (h t f) y ≡ true) keeps-two plain classes rules d x md mx

  keeps-twelve : Holds t f (λ x. V12 t forms.Source (h t f) x ≡ true)
  unfolding V12
  keeps-twelve = record {
    numbers = λ n x e. e;
    texts = λ i x e. e;
    undefines = λ x z. undefining-twelve t (h t f) x z;
    copies = λ x z. copying-twelve t (h t f) x z;
    ties = λ z. tied-twelve t f z;
  }

  twelve : (d : Block) (x : Instr) → Among d (ties_lowered t f).blocks → Among x d.instrs → V12 t forms.Source (ties_lowered t f) x ≡ true
  unfolding V12 ties_lowered
  twelve d x md mx = each-holds t f (λ y. V12 t forms.Source (h t f) y ≡ true) keeps-twelve plain classes rules d x md mx

pub lowered_operands : LoweredOperands
lowered_operands t f valid classes b i mb mi = one t (phis_lowered t f) (phis_are_gone t f) (eliminated-classes t f classes) (eliminated-rules t f (each-rules t f (all-rules t f valid.shape))) b i mb mi

pub lowered_widths : LoweredWidths
lowered_widths t f valid classes b i mb mi = two t (phis_lowered t f) (phis_are_gone t f) (eliminated-classes t f classes) (eliminated-rules t f (each-rules t f (all-rules t f valid.shape))) b i mb mi

pub lowered_definitions : LoweredDefinitions
lowered_definitions t f valid classes b i mb mi = twelve t (phis_lowered t f) (phis_are_gone t f) (eliminated-classes t f classes) (eliminated-rules t f (each-rules t f (all-rules t f valid.shape))) b i mb mi
