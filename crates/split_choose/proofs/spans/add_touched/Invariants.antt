use Rattle.std.proofs.Common.{◌≡◌, List, map, take}
use Rattle.std.specs.Prelude.{fold}
use Rattle.live_lanes.specs.Touching.{FindsInstrs}
use Rattle.split_choose.specs.Places.{Site, AreSites, site_id}
use Rattle.split_choose.specs.Built.{Rise, told, used}
use Rattle.split_choose.proofs.spans.add_touched.Given as goal

-- those of the instructions so far
abbrev pub invariant-touched : goal.invariant-touched
invariant-touched l = FindsInstrs l.live.table l.live.func.blocks → (ss : List Site) → AreSites l.live.target l.live.func.blocks ss → map site_id ss ≡ l.touched → Rise l.initial.spans
    → map told l.spans ≡ fold (λ ts s. map (used l.live.target l.v s) ts) (map told l.initial.spans) (take l.id-index ss)
