use Rattle.std.proofs.Common.{◌≡◌, take}
use Rattle.basic_alloc.specs.Basic.{stages_of}
use Rattle.basic_alloc.proofs.tinies.stages_of.Given as goal

abbrev pub invariant-tinies : goal.invariant-tinies
invariant-tinies l = l.stages.items ≡ stages_of l.count (take l.v-index l.tinies)
