use Rattle.std.proofs.Common.{◌∙◌, ◌++◌, ◌∷◌, cond, [], sym, ap}
use Rattle.live_edits.proofs.edit_run.EditRun.add_own.Goals as goal

pub returns-in_ok-push : goal.returns-in_ok-push
returns-in_ok-push c = c.in_ok-push.ensures.items ∙ sym (ap (λ u. cond u c.args.own.now.items (c.args.own.now.items ++ c.args.act ∷ [])) (sym c.is_aside.ensures ∙ c.if-not-is_aside.true))

pub returns-else-not-is_aside : goal.returns-else-not-is_aside
returns-else-not-is_aside c = sym (ap (λ u. cond u c.args.own.now.items (c.args.own.now.items ++ c.args.act ∷ [])) (sym c.is_aside.ensures ∙ c.if-not-is_aside.false))
