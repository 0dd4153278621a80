use Rattle.std.proofs.Common.{◌<◌, length, sym, ◌∙◌, arith}
use Rattle.live_edits.proofs.SpotLists.{same-among}
use Rattle.live_edits.proofs.spots.SpotList.is_listed.Goals as goal

pub returns : goal.returns
returns c = λ e.
    let spots = c.args.self.now.spots in
    let x = c.index.result.now in
    let s = c.args.spot in
    let within : c.match-get.place < length spots.items = omega (arith, spots.ok.0, c.len.ensures, c.if-place-len.false) in
    same-among spots.items c.match-get.place x s x within c.index.ensures (sym c.is_same.ensures ∙ e)
