use Rattle.std.proofs.Common.{◌≡◌, take}
use Rattle.std.specs.List.{filter}
use Rattle.alloc_check.specs.Marks.{is_marked}
use Rattle.alloc_check.proofs.written.marked_units.Given as goal

abbrev pub invariant-loop-u : goal.invariant-loop-u
invariant-loop-u l = l.made ≡ filter (λ u. is_marked l.marks u.0) (take l.u-index l.units)
