use Rattle.std.proofs.Common.{◌≡◌}
use Rattle.interference.specs.Clashes.{held_of, AreApart, AreFilled, is_taken}
use Rattle.interference.specs.Parts.{parts_of, before}
use Rattle.interference.proofs.held.HeldList.other.Given as goal

-- what is left holds some of the points where all of it does
abbrev pub invariant-parts : goal.invariant-parts
invariant-parts l = AreFilled l.self → AreApart l.slots 0 (held_of l.self) → is_taken l.slots (before (parts_of l.self) l.gap l.part) l.but l.at ≡ is_taken l.slots (held_of l.self) l.but l.at
