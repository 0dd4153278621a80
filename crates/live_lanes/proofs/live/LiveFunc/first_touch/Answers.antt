use Rattle.std.proofs.Common.{◌≡◌, ◌∙◌, ap, subst, true, ℕ, List}
use Rattle.mir_meaning.specs.Paths.{has}
use Rattle.live_lanes.specs.Spread.{number_of_first}
use Rattle.live_lanes.specs.Tells.{touching_ids}
use Rattle.live_lanes.proofs.LayoutNumbers.{touching-known}
use Rattle.live_lanes.proofs.live.LiveFunc.first_touch.Goals as goal

pub returns : goal.returns
returns c = λ tells few.
    let f = c.args.self.now.func in
    let same : c.as_slice.result.now ≡ touching_ids f c.args.v = c.as_slice.ensures.value ∙ tells.touched c.args.v c.in_ok-touched.touched.items c.in_ok-touched.ensures in
    c.number_of_first.ensures tells.finds (λ id h. touching-known f c.args.v id (subst (λ (ids : List ℕ). has id ids ≡ true) same h)) few
    ∙ ap (number_of_first f.blocks) same
