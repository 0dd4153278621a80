use Rattle.std.proofs.Common.{codes}
use Rattle.std.specs.Fmt.{decimal}
use Rattle.ra_top.proofs.GeneratorLemmas.Joined.{three_numbers}
use Rattle.ra_top.proofs.generator.lines.put_jump.Goals as goal

pub returns : goal.returns
returns c =
    three_numbers c.put.result c.args.out.now c.put_numbered.new.out c.put_numbered-2.new.out c.put_numbered-3.new.out c.put.new.out (codes "    CMP32rr %") (decimal c.args.of.a) (codes ", %") (decimal c.args.of.c) (codes ", implicit-def $eflags\n    JCC %bb.") (decimal c.args.of.to) (codes ", 5, implicit $eflags\n")
    c.in_ok-put_numbered.ensures c.in_ok-put_numbered-2.ensures c.in_ok-put_numbered-3.ensures c.put.ensures
