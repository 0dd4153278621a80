use Rattle.std.proofs.Common.{◌≡◌, length}
use Rattle.mir_meaning.specs.Registers.{numbers}
use Rattle.split_kit.specs.MaySplit.{HasNew, MayGrow}
use Rattle.split_kit.proofs.children.fresh_all.Given as goal

abbrev pub invariant-labels : goal.invariant-labels
invariant-labels l = MayGrow l.fn.m.live l.class l.count → HasNew l.fn.m.live l.class l.k l.m.live × (l.parts ≡ numbers (length l.fn.m.live.func.classes) l.k)
