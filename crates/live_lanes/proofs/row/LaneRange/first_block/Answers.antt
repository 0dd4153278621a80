use Rattle.std.proofs.Common.{◌≡◌, Option, sym, subst, true}
use Rattle.std.specs.Prelude.{option_map}
use Rattle.live_lanes.specs.declared.row.Cell.{Cell}
use Rattle.live_lanes.specs.Spread.{IsFirst, has_points}
use Rattle.live_lanes.proofs.Spread.{first-points}
use Rattle.live_lanes.proofs.row.LaneRange.first_block.Goals as goal

pub returns-in-Some : goal.returns-in-Some
returns-in-Some c =
    let cells = c.args.self.now.cells.items in
    subst (λ (q : Option Cell). IsFirst (λ b. has_points cells b ≡ true) (option_map (λ c. c.block) q)) (sym c.in-Some.ensures) (first-points cells c.args.self.now.sorted)

pub returns-in-None : goal.returns-in-None
returns-in-None c =
    let cells = c.args.self.now.cells.items in
    subst (λ (q : Option Cell). IsFirst (λ b. has_points cells b ≡ true) (option_map (λ c. c.block) q)) (sym c.in-None.ensures) (first-points cells c.args.self.now.sorted)
