use Rattle.std.proofs.Common.{◌≡◌, true, take}
use Rattle.std.specs.List.{list_all}
use Rattle.coalescer.specs.Coalescing.{MayCoalesce, fits_instr, instr_of}
use Rattle.coalescer.proofs.joins.are_fitting.Given as goal

abbrev pub invariant-ids : goal.invariant-ids
invariant-ids l = MayCoalesce l.target l.live → list_all (λ id. fits_instr l.target l.live.func l.part.keep l.part.index l.part.gone (instr_of l.live.func id)) (take l.id-index l.ids) ≡ true
