use Rattle.std.proofs.Common.{◌≡◌, take}
use Rattle.target_base.specs.Registers.{units_of}
use Rattle.interference.specs.Listed.{range_lots, Thins}
use Rattle.interference.proofs.unit_table.UnitTable.remove_range.Given as goal

-- what the lanes that are gone through have is taken out
abbrev pub invariant-units : goal.invariant-units
invariant-units l = record {
  place : l.k ≡ l.u-index;
  gone : Thins l.live.table.order.slots l.v (range_lots l.live.table l.v 0 (take l.u-index (units_of l.live.target l.fn.p))) l.fn.self l.self;
}
