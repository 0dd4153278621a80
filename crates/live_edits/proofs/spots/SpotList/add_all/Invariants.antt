use Rattle.std.proofs.Common.{◌++◌, take}
use Rattle.live_edits.specs.Pieces.{HasAll}
use Rattle.live_edits.proofs.spots.SpotList.add_all.Given as goal

abbrev pub invariant-spots : goal.invariant-spots
invariant-spots l = record {
  has : HasAll l.self.spots.items (l.fn.self.spots.items ++ take l.spot-index l.spots);
  only : HasAll (l.fn.self.spots.items ++ take l.spot-index l.spots) l.self.spots.items;
}
