use Rattle.std.proofs.Common.{codes}
use Rattle.std.specs.Fmt.{decimal}
use Rattle.ra_top.proofs.GeneratorLemmas.Joined.{text_between}
use Rattle.ra_top.proofs.generator.lines.put_move.Goals as goal

pub returns : goal.returns
returns c =
    text_between c.put-2.result c.args.out.now c.put_numbered.new.out c.put.new.out c.put_numbered-2.new.out c.put-2.new.out (codes "    %") (decimal c.args.d) (codes " = ") c.args.name.now (decimal c.args.a) (codes "\n") c.in_ok-put_numbered.ensures c.in_ok-put.ensures c.in_ok-put_numbered-2.ensures c.put-2.ensures
