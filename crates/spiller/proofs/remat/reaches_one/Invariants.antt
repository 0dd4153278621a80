use Rattle.std.proofs.Common.{◌≡◌, ℕ, drop}
use Rattle.spiller.specs.Reaching.{Facts}
use Rattle.spiller.specs.Readings.{reached_by}
use Rattle.spiller.specs.Setting.{own_lanes}
use Rattle.spiller.specs.Views.{spilling_of}
use Rattle.spiller.proofs.remat.reaches_one.Given as goal

-- those that are left decide
abbrev pub invariant-instrs : goal.invariant-instrs
invariant-instrs l = (slot : ℕ) (facts : Facts) → reached_by l.by (own_lanes (spilling_of l.view slot facts) l.index) l.definition ≡ reached_by (drop l.id-index l.by) (own_lanes (spilling_of l.view slot facts) l.index) l.definition
