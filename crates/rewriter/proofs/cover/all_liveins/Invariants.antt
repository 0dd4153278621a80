use Rattle.std.proofs.Common.{◌≡◌, ◌++◌, ◌-◌, length, map}
use Rattle.mir_meaning.specs.Registers.{numbers}
use Rattle.mir_meaning.specs.Valid.{cover}
use Rattle.rewriter.specs.LiveUnits.{live_into}
use Rattle.rewriter.specs.Physical.{physical_liveins}
use Rattle.rewriter.proofs.cover.all_liveins.Given as goal

abbrev pub invariant-layout : goal.invariant-layout
invariant-layout l = l.made.items ++ map (λ p. cover l.target (live_into l.live p)) (numbers l.k (length l.blocks - l.k)) ≡ physical_liveins l.target (live_into l.live) l.blocks
