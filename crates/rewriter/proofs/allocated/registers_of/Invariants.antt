use Rattle.std.proofs.Common.{◌≡◌, ◌++◌, ◌-◌, length, map, min}
use Rattle.mir_meaning.specs.Registers.{numbers}
use Rattle.interference.specs.Clashes.{register_in}
use Rattle.rewriter.specs.Rewritten.{registers_of}
use Rattle.rewriter.proofs.allocated.registers_of.Given as goal

abbrev pub invariant-each : goal.invariant-each
invariant-each l = l.made.items ++ map (register_in l.m.registers.items) (numbers l.v (min (length l.m.live.func.classes) 4294967296 - l.v)) ≡ registers_of l.m
