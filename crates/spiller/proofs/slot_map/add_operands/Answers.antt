use Rattle.std.proofs.Common.{[], ◌∷◌, arith}
use Rattle.std.specs.Prelude.{flat_map, filter_map}
use Rattle.mir_func.specs.declared.func.Operand.{Operand}
use Rattle.mir_func.specs.Binding.{as_slot}
use Rattle.spiller.proofs.NumbersTaken.{adds-more, adds-all, adds-same, one-by-one}
use Rattle.spiller.proofs.slot_map.add_operands.Goals as goal

pub operands-preserved : goal.operands-preserved
operands-preserved c =
    adds-more (λ (o : Operand). filter_map as_slot (o ∷ [])) c.args.operands.now c.operands.operand-index c.operand-item.result c.args.taken.now.keys c.operands.taken.keys c.add_operand.new.taken.keys c.operands-test.true c.operand-item.is c.operands.invariant c.in_ok-add_operand.ensures

pub returns : goal.returns
returns c =
    let xs = c.args.operands.now in
    let f = λ (o : Operand). filter_map as_slot (o ∷ []) in
    adds-same (flat_map f xs) (filter_map as_slot xs) c.args.taken.now.keys c.operands.taken.keys (one-by-one as_slot xs)
    (adds-all f xs c.operands.operand-index c.args.taken.now.keys c.operands.taken.keys (omega arith) c.operands.invariant)
