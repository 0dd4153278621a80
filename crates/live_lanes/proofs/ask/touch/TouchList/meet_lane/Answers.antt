use Rattle.std.proofs.Common.{Bor, ◌∷◌, [], map, refl}
use Rattle.std.proofs.lemmas.Iterator.Adapters.{YieldsList-from_rev_slice}
use Rattle.std.proofs.lemmas.Iterator.Consumers.{YieldsList-end}
use Rattle.std.proofs.lemmas.List.{map-append}
use Rattle.live_lanes.specs.declared.row.Cell.{Cell}
use Rattle.live_lanes.specs.Touching.{names_cell}
use Rattle.live_lanes.proofs.Touching.{meets-reset, meets-pushed, meets-reversed}
use Rattle.live_lanes.proofs.ask.touch.TouchList.meet_lane.Goals as goal

pub cells-init : goal.cells-init
cells-init c = meets-reset c.args.slots.now c.args.self.now _ _ refl refl (λ x. refl)

pub cells-preserved : goal.cells-preserved
cells-preserved c = meets-pushed c.args.slots.now c.args.self.now c.cells.self c.meet_cell.new.self names_cell (map (λ (y : Bor Cell). y.now) c.cells.yielded) _ c.in-Some.cell.now (map-append (λ (y : Bor Cell). y.now) c.cells.yielded (c.in-Some.cell ∷ [])) c.cells.invariant c.in_ok-meet_cell.ensures

pub returns : goal.returns
returns c =
    let all = YieldsList-end (YieldsList-from_rev_slice c.args.cells.now cc) c.cells.yielded _ c.cells.yielded_by _ _ c.in-None.is c.next.ensures.steps in
    meets-reversed c.args.slots.now c.args.self.now c.cells.self names_cell c.args.cells.now (map (λ (y : Bor Cell). y.now) c.cells.yielded) all.0 c.cells.invariant
