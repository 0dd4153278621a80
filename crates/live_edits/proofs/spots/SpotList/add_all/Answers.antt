use Rattle.std.proofs.Common.{◌≡◌, ◌+◌, ◌++◌, ◌∷◌, [], List, take, get_or, sym, subst, refl, append-nil}
use Rattle.live_edits.specs.declared.pieces.PieceSpot.{PieceSpot}
use Rattle.live_edits.specs.Pieces.{HasAll}
use Rattle.live_edits.proofs.RiseSteps.{first-at}
use Rattle.live_edits.proofs.SpotLists.{has-equal, has-first, has-both, only-both}
use Rattle.live_edits.proofs.spots.SpotList.add_all.Goals as goal

pub spots-init : goal.spots-init
spots-init c =
    let all = c.args.self.now.spots.items in
    record { has = has-first all; only = has-equal (all ++ []) all (append-nil all) }

pub spots-preserved : goal.spots-preserved
spots-preserved c =
    let none : PieceSpot = record { lane = 0; block = 0; index = 0; near = 0 } in
    let pieces = c.args.spots.now in
    let k = c.spots.spot-index in
    let x = get_or pieces k none in
    let from = c.args.self.now.spots.items in
    let mid = c.spots.self.spots.items in
    let to = c.add.new.self.spots.items in
    let more : take (k + 1) pieces ≡ take k pieces ++ x ∷ [] = first-at pieces k x none c.spots-test.true refl in
    let added = c.in_ok-add.ensures in
    record {
      has = subst (λ (ys : List PieceSpot). HasAll to (from ++ ys)) (sym more) (has-both from mid to (take k pieces) (x ∷ []) c.spots.invariant.has added.has);
      only = subst (λ (ys : List PieceSpot). HasAll (from ++ ys) to) (sym more) (only-both from mid to (take k pieces) (x ∷ []) c.spots.invariant.only added.only);
    }
