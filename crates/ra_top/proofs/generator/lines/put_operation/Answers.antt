use Rattle.std.proofs.Common.{codes}
use Rattle.std.specs.Fmt.{decimal}
use Rattle.ra_top.proofs.GeneratorLemmas.Joined.{texts_between}
use Rattle.ra_top.proofs.generator.lines.put_operation.Goals as goal

pub returns : goal.returns
returns c =
    texts_between c.put-3.result c.args.out.now c.put_numbered.new.out c.put.new.out c.put-2.new.out c.put_numbered-2.new.out c.put_numbered-3.new.out c.put-3.new.out (codes "    %") (decimal c.args.d) (codes " = ") c.args.name.now (codes " %") (decimal c.args.a) (codes ", %") (decimal c.args.c) (codes ", implicit-def $eflags\n")
    c.in_ok-put_numbered.ensures c.in_ok-put.ensures c.in_ok-put-2.ensures c.in_ok-put_numbered-2.ensures c.in_ok-put_numbered-3.ensures c.put-3.ensures
