use Rattle.std.proofs.Common.{◌≡◌, drop}
use Rattle.target_base.specs.Storage.{same_numbers}
use Rattle.machine_verify.specs.Liveins.{standing, register_numbers}
use Rattle.machine_verify.proofs.liveins.lists_cover.Given as goal

abbrev pub invariant-loop-r : goal.invariant-loop-r
invariant-loop-r l =
    same_numbers (register_numbers l.liveins) (register_numbers (standing l.wanted l.rs))
    ≡ same_numbers (register_numbers l.rest) (register_numbers (standing l.wanted (drop l.r-index l.rs)))
