use Rattle.std.proofs.Common.{◌≡◌, List, [], map, take}
use Rattle.std.specs.Prelude.{fold}
use Rattle.live_lanes.specs.Touching.{FindsInstrs}
use Rattle.split_choose.specs.Places.{joined, place_at, Site, AreSites, site_id}
use Rattle.split_choose.proofs.places.places_of.Given as goal

-- the places of the instructions so far
abbrev pub invariant-touched : goal.invariant-touched
invariant-touched l = FindsInstrs l.live.table l.live.func.blocks → (ss : List Site) → AreSites l.live.target l.live.func.blocks ss → map site_id ss ≡ l.touched
    → l.places.items ≡ fold joined [] (map (place_at l.live.target) (take l.id-index ss))
