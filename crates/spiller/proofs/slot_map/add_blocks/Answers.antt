use Rattle.std.proofs.Common.{ap, arith}
use Rattle.std.specs.Prelude.{List, flat_map, filter_map}
use Rattle.mir_func.specs.declared.func.Block.{Block}
use Rattle.mir_func.specs.declared.func.Instr.{Instr}
use Rattle.mir_func.specs.Binding.{as_slot}
use Rattle.spiller.proofs.NumbersTaken.{adds-more, adds-all, adds-same}
use Rattle.spiller.proofs.slot_map.add_blocks.Goals as goal

pub each-preserved : goal.each-preserved
each-preserved c =
    let named = λ (is : List Instr). flat_map (λ (i : Instr). filter_map as_slot i.operands) is in
    adds-more (λ (b : Block). named b.instrs) c.args.blocks.now c.each.block-index c.block-item.result c.args.taken.now.keys c.each.taken.keys c.add_instrs.new.taken.keys c.each-test.true c.block-item.is c.each.invariant
    (adds-same (named c.as_slice.result.now) (named c.block-item.result.instrs) c.each.taken.keys c.add_instrs.new.taken.keys (ap named c.as_slice.ensures) c.in_ok-add_instrs.ensures)

pub returns : goal.returns
returns c =
    adds-all (λ (b : Block). flat_map (λ (i : Instr). filter_map as_slot i.operands) b.instrs) c.args.blocks.now c.each.block-index c.args.taken.now.keys c.each.taken.keys (omega arith) c.each.invariant
