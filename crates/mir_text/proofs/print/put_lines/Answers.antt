use Rattle.std.proofs.Common.{append_assoc}
use Rattle.mir_text.specs.Print.{print_lines}
use Rattle.mir_text.proofs.print.put_lines.Goals as goal

pub returns : goal.returns
unfolding print_lines
returns c =
    rw (c.in_ok-put-2.ensures, c.in_ok-put_blocks.ensures, c.in_ok-extend.ensures.ok, c.in_ok-put.ensures) (simp append_assoc)
