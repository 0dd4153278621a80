use Rattle.std.proofs.Common.{◌≡◌, ◌++◌, ◌-◌, length, map}
use Rattle.mir_meaning.specs.Registers.{numbers}
use Rattle.machine_verify.specs.Lives.{unit_lives, flags_of}
use Rattle.machine_verify.proofs.verify.live_units.Given as goal

abbrev pub invariant-units : goal.invariant-units
invariant-units l = l.flags.items ++ map (unit_lives l.live.table l.block) (numbers l.u (length l.target.units - l.u)) ≡ flags_of l.target l.live.table l.block
