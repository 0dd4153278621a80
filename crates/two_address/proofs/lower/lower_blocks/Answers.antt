use Rattle.std.proofs.Common.{arith, length, ◌+◌, length-set}
use Rattle.two_address.proofs.Steps.{block_more, block_class_more, block_small, instr_count_left, operand_count_left}
use Rattle.two_address.proofs.lower.lower_blocks.Goals as goal

pub layout-preserved : goal.layout-preserved
layout-preserved c =
    let t = c.args.target.now in
    let cs = c.args.classes.now in
    let x = c.get_mut.result.now in
    let y = c.lower_block.new.block in
    let e = c.in_ok-lower_block.ensures.classes in
    let n = instr_count_left c.layout.k c.layout.blocks x y (omega arith) c.get_mut.ensures.value in
    let m = operand_count_left c.layout.k c.layout.blocks x y (omega arith) c.get_mut.ensures.value in (
      block_more t cs (length cs) c.layout.k c.layout.blocks _ x y c.layout.made.items c.lower_block.new.made.items (omega arith) c.get_mut.ensures.value c.in_ok-lower_block.ensures.block e c.layout.invariant.0,
      block_class_more t cs (length cs) c.layout.k c.layout.blocks x y c.layout.made.items c.lower_block.new.made.items _ (omega arith) c.get_mut.ensures.value e c.layout.invariant.1,
      omega (arith, n, m, block_small t cs (length cs + length c.layout.made.items) x.instrs c.layout.made.items c.lower_block.new.made.items e, c.layout.invariant.2),
      rw length-set c.layout.invariant.3,
    )
