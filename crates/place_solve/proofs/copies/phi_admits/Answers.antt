use Rattle.std.proofs.lemmas.Result.{IfOk-weaker}
use Rattle.place_solve.proofs.Copying.{phi_lost, phi_more}
use Rattle.place_solve.proofs.copies.phi_admits.Goals as goal

pub returns-then-not-branch : goal.returns-then-not-branch
returns-then-not-branch c = λ ordered. phi_lost c.args.live.now.target c.args.live.now.func c.args.live.now.table c.args.id c.args.d c.args.uses.now c.in_ok-pairs_admit.field-0 (c.in_ok-pairs_admit.ensures ordered) c.if-not-branch.true

pub returns : goal.returns
returns c = IfOk-weaker c.admits.result _ _ (λ b h ordered. phi_more c.args.live.now.target c.args.live.now.func c.args.live.now.table c.args.id c.args.d c.args.uses.now c.in_ok-pairs_admit.field-0 b (c.in_ok-pairs_admit.ensures ordered) c.if-not-branch.false (h ordered)) c.admits.ensures
