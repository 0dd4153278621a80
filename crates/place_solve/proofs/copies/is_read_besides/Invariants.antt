use Rattle.std.proofs.Common.{◌≡◌, drop}
use Rattle.std.specs.List.{list_any}
use Rattle.bound_operands.specs.Seen.{seen_all}
use Rattle.place_solve.specs.Copies.{reads_besides}
use Rattle.place_solve.proofs.copies.is_read_besides.Given as goal

abbrev pub invariant-loop-b : goal.invariant-loop-b
invariant-loop-b l = list_any (reads_besides l.number l.loc) (seen_all l.bound) ≡ list_any (reads_besides l.number l.loc) (seen_all (drop l.b-index l.bound))
