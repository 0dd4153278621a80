use Rattle.std.proofs.Common.{codes}
use Rattle.std.specs.Fmt.{decimal}
use Rattle.ra_top.proofs.GeneratorLemmas.Joined.{two_numbers}
use Rattle.ra_top.proofs.generator.lines.put_store.Goals as goal

pub returns : goal.returns
returns c =
    two_numbers c.put.result c.args.out.now c.put_numbered.new.out c.put_numbered-2.new.out c.put.new.out (codes "    STORE32mr %") (decimal c.args.a) (codes ", 0, %") (decimal c.args.c) (codes "\n") c.in_ok-put_numbered.ensures c.in_ok-put_numbered-2.ensures c.put.ensures
