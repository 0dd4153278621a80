use Rattle.std.proofs.Common.{◌≡◌, true, take}
use Rattle.std.specs.List.{list_all}
use Rattle.coalescer.specs.Asked.{is_quiet_in}
use Rattle.coalescer.specs.Coalescing.{MayCoalesce}
use Rattle.coalescer.proofs.quiet.are_quiet_in.Given as goal

abbrev pub invariant-cells : goal.invariant-cells
invariant-cells l = MayCoalesce l.target l.live → list_all (λ c. is_quiet_in l.target l.live l.pair.own l.pair.own_number l.pair.other l.pair.other_number c.block) (take l.i l.cells) ≡ true
