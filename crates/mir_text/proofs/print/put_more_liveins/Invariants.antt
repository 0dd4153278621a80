use Rattle.std.proofs.Common.{◌≡◌, ◌++◌, drop, codes}
use Rattle.std.specs.List.{flat_map}
use Rattle.mir_text.specs.Print.{print_livein}
use Rattle.mir_text.proofs.print.put_more_liveins.Given as goal

-- what is written, and what is left to write, are the whole
abbrev pub invariant-loop-r : goal.invariant-loop-r
invariant-loop-r l = l.out ++ flat_map (λ r. codes ", " ++ print_livein l.target r) (drop l.r-index l.regs) ≡ l.fn.out ++ flat_map (λ r. codes ", " ++ print_livein l.target r) l.regs
