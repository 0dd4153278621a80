use Rattle.target_desc.proofs.Cut.{parts_first}
use Rattle.target_desc.proofs.text.next_part.Goals as goal

pub returns-clause-whole : goal.returns-clause-whole
returns-clause-whole c = rw (c.cut.ensures.front, c.cut.ensures.back) (parts_first c.args.end c.args.text.now c.requires)
