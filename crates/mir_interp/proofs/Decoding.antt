-- Instructions and blocks as steps.
use Rattle.std.proofs.Common.{◌≡◌, [], Some, None, ap}
use Rattle.target_base.specs.declared.types.Effect.{Effect}
use Rattle.target_base.specs.declared.types.Target.{Target}
use Rattle.mir_func.specs.declared.func.Instr.{Instr}
use Rattle.mir_func.specs.declared.func.Block.{Block}
use Rattle.mir_func.specs.Value.{Function}
use Rattle.meaning.specs.Code.{Silent}
use Rattle.mir_func.specs.Binding.{effect_of}
use Rattle.mir_meaning.specs.Codes.{item_of, effect_item}

pub item_none : (t : Target) (f : Function) (b : Block) (i : Instr) → effect_of t i ≡ None → item_of t f b i ≡ Silent [] []
unfolding item_of
item_none t f b i h = ap (λ x. elim x [ None ↦ Silent [] [] | Some e ↦ effect_item t f b i e ]) h

pub item_some : (t : Target) (f : Function) (b : Block) (i : Instr) (e : Effect) → effect_of t i ≡ Some e → item_of t f b i ≡ effect_item t f b i e
unfolding item_of
item_some t f b i e h = ap (λ x. elim x [ None ↦ Silent [] [] | Some e' ↦ effect_item t f b i e' ]) h
