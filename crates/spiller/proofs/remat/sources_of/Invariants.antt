use Rattle.std.proofs.Common.{◌≡◌, ℕ, flat_map, take}
use Rattle.spiller.specs.Listed.{told_sources}
use Rattle.spiller.specs.Readings.{placed_at, sources_at}
use Rattle.spiller.proofs.remat.sources_of.Given as goal

abbrev pub invariant-readings : goal.invariant-readings
invariant-readings l = (n : ℕ) → sources_at l.sources n ≡ placed_at n (flat_map told_sources (take l.reading-index l.readings))
