use Rattle.std.proofs.Common.{append_assoc}
use Rattle.mir_text.specs.Print.{print_block}
use Rattle.mir_text.proofs.print.put_block.Goals as goal

pub returns-clause-text : goal.returns-clause-text
unfolding print_block
returns-clause-text c =
    rw (c.in_ok-put_instrs.ensures.text, c.as_slice-2.ensures, c.in_ok-put_liveins.ensures, c.as_slice.ensures, c.in_ok-put_successors.ensures, c.in_ok-put_header.ensures) (simp append_assoc)
