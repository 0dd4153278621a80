-- A function after a spill is in the form in which ranges are spilled.
use Rattle.std.proofs.Common.{◌≡◌, ℕ, true, List, subst, sym}
use Rattle.meaning.specs.Live.{Among as Member}
use Rattle.mir_func.specs.declared.func.Instr.{Instr}
use Rattle.mir_func.specs.declared.func.Block.{Block}
use Rattle.mir_func.specs.Value.{Function, IsFunction}
use Rattle.std.specs.Prelude.{is_some}
use Rattle.mir_func.specs.Binding.{class_of}
use Rattle.live_laws.specs.Effects.Shaped.{AreClasses}
use Rattle.mir_meaning.specs.Rules.{V1, V8}
use Rattle.lowering_laws.specs.Blocks.{KeepsBlockRules}
use Rattle.lowering_laws.specs.Shapes.{IsLowered}
use Rattle.lowering_laws.proofs.BlockRules.{ordered, rules-carried}
use Rattle.spiller.specs.Setting.{Spilling}
use Rattle.spiller.specs.Rematerialised.{places_of}
use Rattle.spiller.specs.Spilled.{change, setting_of, spilled}
use Rattle.spill_laws.specs.Laws.{SpillKeepsBlockRules, SpillKeepsClasses, SpillKeepsIds}
use Rattle.spill_laws.proofs.Outcomes.{Outcome, ordered-by, place-outcome}
use Rattle.spill_laws.proofs.Blocks.{all-carried}
use Rattle.spill_laws.proofs.Ranges.{classes-known, classes-stay}
use Rattle.spill_laws.proofs.Ids.{spilled-function}

module _ (s : Spilling) (low : IsLowered s.target s.func) where
  pub in-order : (b : Block) → Member b s.func.blocks → ordered s.target b.instrs ≡ true
  unfolding V8
  in-order b mb = ordered-by s.target b.instrs (λ j i e. low.terminators b j i mb e)

  pub orderly : (b : Block) → Member b s.func.blocks → (p : List Instr) → Member p (places_of s.target b) → (n c : ℕ) → Outcome s n c p (change s n c p)
  orderly b mb = place-outcome s b.instrs (λ i m. (low.rules.shaped b i mb m).operands) (λ i m. low.lowered b i mb m) (in-order b mb)

  pub ids-kept : IsFunction (spilled s).blocks (spilled s).next_id
  ids-kept = spilled-function s orderly low.function

module _ (s : Spilling) (low : IsLowered s.target s.func) where
  pub blocks-kept : KeepsBlockRules s.target (spilled s)
  blocks-kept =
      let ones : (b : Block) (i : Instr) → Member b s.func.blocks → Member i b.instrs → V1 s.target s.func i ≡ true = λ b i mb mi. (low.rules.shaped b i mb mi).operands in
      rules-carried s.target s.func (spilled s) (all-carried s ones (in-order s low) (orderly s low)) (record { five = low.rules.blocks; eight = low.terminators; nine = low.successors }) ones

pub spill_keeps_block_rules : SpillKeepsBlockRules
spill_keeps_block_rules t f g slots new v made low z = subst (KeepsBlockRules t) (sym z.func) (blocks-kept (setting_of t f slots v z.facts) low)

pub spill_keeps_classes : SpillKeepsClasses
spill_keeps_classes t f g slots new v made low z =
    let s = setting_of t f slots v z.facts in
    subst (λ h. ((w : ℕ) → is_some (class_of f w) ≡ true → class_of h w ≡ class_of f w) × AreClasses t h) (sym z.func) (classes-stay s, classes-known s low.rules.classes (orderly s low))

pub spill_keeps_ids : SpillKeepsIds
spill_keeps_ids t f g slots new v made low z = subst (λ (h : Function). IsFunction h.blocks h.next_id) (sym z.func) (ids-kept (setting_of t f slots v z.facts) low)
