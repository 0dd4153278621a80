use Rattle.std.proofs.Common.{List, drop}
use Rattle.target_base.specs.declared.types.Reg.{Reg}
use Rattle.rewriter.specs.Holders.{IsPut}
use Rattle.rewriter.proofs.HolderLists.{holds}
use Rattle.rewriter.proofs.holders.add_holder.Given as goal

abbrev pub invariant-units : goal.invariant-units
invariant-units l =
    (z : List (List Reg)) → IsPut (holds (drop l.k l.units)) l.r l.holders z → IsPut (holds l.units) l.r l.initial.holders z
