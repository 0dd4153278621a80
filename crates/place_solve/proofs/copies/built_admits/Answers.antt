use Rattle.std.proofs.Common.{◌∙◌, sym}
use Rattle.std.proofs.lemmas.Result.{IfOk-weaker}
use Rattle.place_solve.proofs.Copying.{built_lost, built_kept, built_more}
use Rattle.place_solve.proofs.copies.built_admits.Goals as goal

pub returns-then-not-branch : goal.returns-then-not-branch
returns-then-not-branch c = λ ordered. built_lost c.args.live.now.target c.args.live.now.func c.args.live.now.table c.args.id c.args.d c.args.inputs.now c.args.overwritten.now c.in_ok-inputs_admit.field-0 (c.in_ok-inputs_admit.ensures ordered) c.if-not-branch.true

pub returns-then-not-is_named : goal.returns-then-not-is_named
returns-then-not-is_named c = λ ordered. built_kept c.args.live.now.target c.args.live.now.func c.args.live.now.table c.args.id c.args.d c.args.inputs.now c.args.overwritten.now c.in_ok-inputs_admit.field-0 (c.in_ok-inputs_admit.ensures ordered) c.if-not-branch.false (sym c.is_named.ensures ∙ c.if-not-is_named.true)

pub returns : goal.returns
returns c = IfOk-weaker c.admits.result _ _ (λ b h ordered. built_more c.args.live.now.target c.args.live.now.func c.args.live.now.table c.args.id c.args.d c.args.inputs.now c.args.overwritten.now c.in_ok-inputs_admit.field-0 (c.in_ok-inputs_admit.ensures ordered) b c.if-not-branch.false (sym c.is_named.ensures ∙ c.if-not-is_named.false) (h ordered)) c.admits.ensures
