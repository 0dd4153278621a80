use Rattle.std.proofs.lemmas.Bool.{lt-ltb}
use Rattle.target_desc.specs.Standing.{stands_in}
use Rattle.target_desc.proofs.Grown.{two}
use Rattle.target_desc.proofs.rules.stands_in.Goals as goal

pub returns-then-len-lt1024 : goal.returns-then-len-lt1024
unfolding stands_in
returns-then-len-lt1024 c =
    rw c.in-Opcode.is (two _ _ c.is_opcode_desc.result (lt-ltb _ _ (rw c.len-in-Opcode.ensures at c.if-len-lt1024.true)) (rw (c.as_slice-units.ensures, c.as_slice-regs.ensures, c.as_slice-then-len-lt1024.ensures) at c.is_opcode_desc.ensures))
