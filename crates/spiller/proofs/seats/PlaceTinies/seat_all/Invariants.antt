use Rattle.std.proofs.Common.{◌≡◌, flat_map, take}
use Rattle.spiller.specs.Views.{own_setting, planned}
use Rattle.spiller.specs.Additions.{edited, with_addition}
use Rattle.spiller.specs.Seating.{placed_edits}
use Rattle.spiller.proofs.seats.PlaceTinies.seat_all.Given as goal

-- the edits of the instructions so far
abbrev pub invariant-instrs : goal.invariant-instrs
invariant-instrs l = planned l.plan ≡ with_addition (edited (flat_map (placed_edits (own_setting l.view) l.self.reads.items l.self.definitions.items) (take l.instr-index l.instrs))) (planned l.fn.plan)
