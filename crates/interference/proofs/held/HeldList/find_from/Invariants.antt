use Rattle.std.proofs.Common.{◌≡◌}
use Rattle.std.specs.List.{list_any}
use Rattle.interference.specs.Clashes.{held_of, AreApart, AreFilled}
use Rattle.interference.specs.Parts.{parts_of, before, IsBehind}
use Rattle.interference.specs.Changes.{is_piece, high_rank}
use Rattle.interference.proofs.held.HeldList.find_from.Given as goal

-- there is one in what is left where there is one in all of it
abbrev pub invariant-parts : goal.invariant-parts
invariant-parts l = IsBehind l.slots (high_rank l.slots l.start) l.self l.gap → AreFilled l.self → AreApart l.slots 0 (held_of l.self) → list_any (is_piece l.range l.start) (before (parts_of l.self) l.gap l.part) ≡ list_any (is_piece l.range l.start) (held_of l.self)
