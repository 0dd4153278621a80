use Rattle.std.proofs.Common.{take}
use Rattle.split_choose.specs.Parts.{IsReady}
use Rattle.split_choose.proofs.Choosing.{Picks}
use Rattle.split_choose.proofs.regions.best_of.Given as goal

abbrev pub invariant-registers : goal.invariant-registers
invariant-registers l = IsReady l.view.m.now l.view.bundles.now.parents.items l.view.spans.now
    → Picks l.view.m.now l.view.v l.view.bundles.now.parents.items l.view.spans.now (take l.register-index l.registers) l.bound l.best
