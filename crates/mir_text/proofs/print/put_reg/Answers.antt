use Rattle.std.proofs.Common.{append_assoc}
use Rattle.mir_text.specs.Print.{print_reg}
use Rattle.mir_text.proofs.print.put_reg.Goals as goal

pub returns : goal.returns
unfolding print_reg
returns c =
    rw (c.in_ok-put_loc.ensures, c.in_ok-put_if-3.ensures, c.in_ok-put_if-2.ensures, c.shows_early.ensures, c.in_ok-put_if.ensures, c.in_ok-put_implicit.ensures) (simp append_assoc)
