use Rattle.std.proofs.Common.{sym, ◌∙◌, arith}
use Rattle.source_text.proofs.Short.{objects_short}
use Rattle.source_text.proofs.frames.new_objects.Goals as goal

pub returns-in-empty : goal.returns-in-empty
returns-in-empty c = sym (objects_short c.args.objects.now c.objects.o-index c.objects.left.now (omega arith) (omega arith)) ∙ c.objects.invariant
