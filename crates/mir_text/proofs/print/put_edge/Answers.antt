use Rattle.std.proofs.Common.{append_assoc}
use Rattle.mir_text.specs.Print.{print_edge}
use Rattle.mir_text.proofs.print.put_edge.Goals as goal

pub returns : goal.returns
unfolding print_edge
returns c =
    rw (c.in_ok-put-2.ensures, c.in_ok-put_hex.ensures, c.in_ok-put.ensures, c.in_ok-put_numbered.ensures) (simp append_assoc)
