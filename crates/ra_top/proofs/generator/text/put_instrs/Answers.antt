use Rattle.std.proofs.Common.{◌≡◌, arith}
use Rattle.ra_top.proofs.GeneratorLemmas.Rows.{no_instrs, one_instr}
use Rattle.ra_top.proofs.generator.text.put_instrs.Goals as goal

pub instrs-init : goal.instrs-init
instrs-init c = no_instrs c.args.source.now.x c.args.out.now

pub instrs-preserved : goal.instrs-preserved
instrs-preserved c = one_instr c.instrs._k c.args.source.now.x c.instrs.source.x _ c.instr.result c.args.out.now c.instrs.out _ c.instrs.invariant c.instr.ensures c.in_ok-put_instr.ensures

pub returns : goal.returns
returns c =
    let all : c.instrs._k ≡ 12 = omega arith in
    rw all at c.instrs.invariant
