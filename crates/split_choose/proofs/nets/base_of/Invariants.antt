use Rattle.std.proofs.Common.{◌≡◌, take}
use Rattle.split_choose.specs.Regions.{capped}
use Rattle.split_choose.specs.Nets.{base_of}
use Rattle.split_choose.proofs.nets.base_of.Given as goal

abbrev pub invariant-rows : goal.invariant-rows
invariant-rows l = l.base ≡ capped (base_of (take l.row-index l.rows))
