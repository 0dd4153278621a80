use Rattle.std.proofs.Common.{take}
use Rattle.split_choose.specs.Regions.{capped, uses_of}
use Rattle.split_choose.specs.Choices.{IsWithin}
use Rattle.split_choose.proofs.Taking.{Picks}
use Rattle.split_choose.proofs.cuts.best_of.Given as goal

abbrev pub invariant-registers : goal.invariant-registers
invariant-registers l =
    let m = l.view.m.now in
    let parents = l.view.bundles.now.parents.items in
    let spans = l.view.spans.now in
    IsWithin m l.view.v parents spans → Picks m l.view.v parents spans (capped (uses_of spans)) l.bound (take l.register-index l.registers) l.best
