use Rattle.std.proofs.Common.{◌≡◌, [], drop, map}
use Rattle.std.specs.List.{flat_map}
use Rattle.mir_meaning.specs.Places.{instr_variables}
use Rattle.place_solve.specs.Choice.{need_of}
use Rattle.place_solve.specs.Once.{all_once}
use Rattle.place_solve.proofs.variables.variables_of.Given as goal

abbrev pub invariant-each : goal.invariant-each
invariant-each l = all_once (map need_of l.variables.items) (flat_map (instr_variables l.target l.f) (drop l.i-index l.instrs)) ≡ all_once [] (flat_map (instr_variables l.target l.f) l.instrs)
