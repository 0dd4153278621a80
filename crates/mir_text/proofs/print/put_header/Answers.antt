use Rattle.std.proofs.Common.{append_assoc}
use Rattle.mir_text.specs.Print.{print_header}
use Rattle.mir_text.proofs.print.put_header.Goals as goal

pub returns : goal.returns
unfolding print_header
returns c =
    rw (c.in_ok-put.ensures, c.in_ok-put_attributes.ensures, c.as_slice-2.ensures, c.in_ok-put_block_name.ensures, c.as_slice.ensures, c.in_ok-put_numbered.ensures) (simp append_assoc)
