use Rattle.ra_top.proofs.GeneratorLemmas.Rows.{block_of_parts}
use Rattle.ra_top.proofs.generator.text.put_block.Goals as goal

pub returns : goal.returns
returns c =
    block_of_parts c.put_jump.result c.args.b c.args.source.now.x c.put_instrs.new.source.x c.jump.new.self.x c.jump.result c.args.out.now c.put_numbered.new.out c.put.new.out c.put_instrs.new.out c.put_jump.new.out c.in_ok-put_numbered.ensures c.in_ok-put.ensures c.in_ok-put_instrs.ensures c.jump.ensures c.put_jump.ensures
