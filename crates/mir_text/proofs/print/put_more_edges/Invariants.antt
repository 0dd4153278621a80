use Rattle.std.proofs.Common.{◌≡◌, ◌++◌, drop, codes}
use Rattle.std.specs.List.{flat_map}
use Rattle.mir_text.specs.Print.{print_edge}
use Rattle.mir_text.proofs.print.put_more_edges.Given as goal

-- what is written, and what is left to write, are the whole
abbrev pub invariant-loop-e : goal.invariant-loop-e
invariant-loop-e l = l.out ++ flat_map (λ e. codes ", " ++ print_edge e) (drop l.e-index l.edges) ≡ l.fn.out ++ flat_map (λ e. codes ", " ++ print_edge e) l.edges
