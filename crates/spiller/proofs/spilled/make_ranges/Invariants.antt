use Rattle.std.proofs.Common.{take}
use Rattle.interference.specs.Listed.{KeepsLists}
use Rattle.spiller.specs.Growing.{HasGrown, MayGrow}
use Rattle.spiller.specs.SlotMaps.{slots_of}
use Rattle.spiller.proofs.spilled.make_ranges.Given as goal

abbrev pub invariant-classes : goal.invariant-classes
invariant-classes l = MayGrow l.fn.m.live (slots_of l.fn.slots) l.classes → HasGrown l.fn.m.live (slots_of l.fn.slots) (take l.class-index l.classes) l.m.live (slots_of l.slots) × (KeepsLists l.fn.m → KeepsLists l.m)
