use Rattle.std.proofs.Common.{◌≡◌, arith}
use Rattle.ra_top.proofs.GeneratorLemmas.Rows.{no_registers, one_register}
use Rattle.ra_top.proofs.generator.text.put_registers.Goals as goal

pub registers-init : goal.registers-init
registers-init c = no_registers c.args.source.now.x c.args.out.now

pub registers-preserved : goal.registers-preserved
registers-preserved c = one_register c.registers.v c.draw.result c.args.source.now.x c.registers.source.x _ c.args.out.now c.registers.out _ c.registers.invariant c.draw.ensures c.in_ok-put_register.ensures

pub returns : goal.returns
returns c =
    let all : c.registers.v ≡ 24 = omega arith in
    rw all at c.registers.invariant
