use Rattle.std.proofs.Common.{append_assoc}
use Rattle.mir_text.proofs.print.put_regs.Goals as goal

pub returns : goal.returns
returns c =
    rw (c.in_ok-put-2.ensures, c.in_ok-put_more_liveins.ensures, c.in_ok-put_named.ensures, c.reg_name.ensures, c.in_ok-put.ensures) (simp append_assoc)
