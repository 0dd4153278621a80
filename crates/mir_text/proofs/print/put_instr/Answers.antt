use Rattle.mir_text.specs.Print.{print_instr}
use Rattle.mir_text.proofs.Shown.{left_behind_parts}
use Rattle.mir_text.proofs.print.put_instr.Goals as goal

pub returns-clause-text : goal.returns-clause-text
unfolding print_instr
returns-clause-text c =
    rw (c.split_at.ensures.front, c.split_at.ensures.back, c.def_count.ensures.value, c.as_slice-operands.ensures) at c.put_parts.ensures.text

pub returns-clause-left : goal.returns-clause-left
returns-clause-left c =
    rw (c.split_at.ensures.front, c.split_at.ensures.back, c.as_slice-operands.ensures, left_behind_parts) at c.put_parts.ensures.left
