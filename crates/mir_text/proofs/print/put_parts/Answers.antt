use Rattle.std.proofs.Common.{append_assoc}
use Rattle.mir_text.specs.Print.{print_parts}
use Rattle.mir_text.proofs.print.put_parts.Goals as goal

pub returns-clause-text : goal.returns-clause-text
unfolding print_parts
returns-clause-text c =
    rw (c.in_ok-put_tail.ensures, c.as_slice-3.ensures, c.in_ok-put_operands-2.ensures.text, c.in_ok-put_operands.ensures.left, c.in_ok-put_if-3.ensures, c.is_empty-3.ensures, c.in_ok-extend-2.ensures.ok, c.op_name.ensures, c.in_ok-put_if-2.ensures, c.is_empty-2.ensures, c.as_slice-2.ensures, c.in_ok-extend.ensures.ok, c.as_slice.ensures, c.in_ok-put_if.ensures, c.is_empty.ensures, c.in_ok-put_operands.ensures.text, c.roles_of.ensures) (simp append_assoc)
