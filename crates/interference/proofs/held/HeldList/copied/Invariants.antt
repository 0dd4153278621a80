use Rattle.std.proofs.Common.{◌≡◌, take}
use Rattle.std.specs.Prelude.{map}
use Rattle.interference.specs.Clashes.{part_of}
use Rattle.interference.proofs.held.HeldList.copied.Given as goal

-- the parts that are gone through are copied
abbrev pub invariant-parts : goal.invariant-parts
invariant-parts l = map part_of l.parts.items ≡ take l.part-index (map part_of l.self.parts.items)
