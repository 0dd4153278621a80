use Rattle.ra_top.proofs.GeneratorLemmas.Rows.{text_of_parts}
use Rattle.ra_top.proofs.GeneratorLemmas.Short.{is_short}
use Rattle.ra_top.proofs.generator.text.generated_text.Goals as goal

pub returns-clause-text : goal.returns-clause-text
returns-clause-text c =
    text_of_parts c.args.seed c.put_registers.new.source.x c.new-out.result c.put.new.out c.put_registers.new.out c.put_blocks.new.out c.put-2.new.out c.new-out.ensures c.in_ok-put.ensures c.in_ok-put_registers.ensures c.in_ok-put_blocks.ensures c.in_ok-put-2.ensures

pub returns-clause-short : goal.returns-clause-short
returns-clause-short c =
    is_short c.args.seed c.put-2.new.out
    (text_of_parts c.args.seed c.put_registers.new.source.x c.new-out.result c.put.new.out c.put_registers.new.out c.put_blocks.new.out c.put-2.new.out c.new-out.ensures c.in_ok-put.ensures c.in_ok-put_registers.ensures c.in_ok-put_blocks.ensures c.in_ok-put-2.ensures)
