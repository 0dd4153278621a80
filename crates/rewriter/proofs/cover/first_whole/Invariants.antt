use Rattle.std.proofs.Common.{◌≡◌, drop}
use Rattle.machine_verify.specs.Liveins.{is_set}
use Rattle.rewriter.specs.Holders.{first_whole}
use Rattle.rewriter.proofs.cover.first_whole.Given as goal

abbrev pub invariant-loop-r : goal.invariant-loop-r
invariant-loop-r l = first_whole l.target (is_set l.live) l.rs ≡ first_whole l.target (is_set l.live) (drop l.r-index l.rs)
