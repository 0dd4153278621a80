use Rattle.std.proofs.Common.{[], ◌∷◌, flat_map, take}
use Rattle.spiller.specs.Listed.{Lists, keyed_way}
use Rattle.spiller.specs.Placing.{IsPlainForm}
use Rattle.spiller.specs.Views.{way_of}
use Rattle.spiller.proofs.remat.add_instr_ways.Given as goal

abbrev pub invariant-ways : goal.invariant-ways
invariant-ways l = IsPlainForm l.instr → Lists l.view l.definitions (λ s. flat_map (λ w. keyed_way s (l.instr ∷ []) (way_of l.view.v w) ∷ []) (take l.way-index l.ways)) l.fn.readings.items l.readings.items
