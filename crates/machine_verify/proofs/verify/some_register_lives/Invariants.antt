use Rattle.std.proofs.Common.{◌≡◌, ◌-◌, length}
use Rattle.std.specs.List.{list_any}
use Rattle.mir_meaning.specs.Registers.{numbers}
use Rattle.machine_verify.specs.Lives.{register_lives, some_register_lives}
use Rattle.machine_verify.proofs.verify.some_register_lives.Given as goal

abbrev pub invariant-registers : goal.invariant-registers
invariant-registers l = some_register_lives l.q.target.now l.q.f.now l.live.table l.block ≡ list_any (register_lives l.q.target.now l.q.f.now l.live.table l.block) (numbers l.v (length l.q.f.now.classes - l.v))
