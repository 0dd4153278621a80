use Rattle.std.proofs.Common.{◌≡◌, ◌∙◌, ap}
use Rattle.std.proofs.lemmas.Result.{IfOk-weaker}
use Rattle.place_solve.specs.Tinies.{tiny_choice}
use Rattle.place_solve.proofs.tinies.solve_from.Goals as goal

pub returns : goal.returns
returns c = IfOk-weaker c.solve_at.result _ _ (λ q h o finds p j b i e f g. h o ∙ ap (tiny_choice c.args.live.now.target c.args.live.now.func c.args.live.now.table c.args.tinies.now c.args.first) (c.place_at.ensures finds p j b i e f g)) c.solve_at.ensures
