use Rattle.std.proofs.Common.{◌≡◌, ◌++◌, ◌∷◌, [], ap, sym, ◌∙◌}
use Rattle.live_edits.proofs.TakenBack.{last-there, leads-further}
use Rattle.live_edits.proofs.log.LoggedRows.take_back.Goals as goal

pub changes-preserved : goal.changes-preserved
changes-preserved c = λ h.
    let old = c.args.self.now in
    let now = c.changes.self in
    let new = c.take_one_back.new.self in
    let e = c.in-Some.former in
    let left : now.log.items ≡ new.log.items ++ e ∷ [] = c.in-Some.ensures.items ∙ ap (λ log. log.items ++ e ∷ []) (sym c.take_one_back.ensures.log) in
    let so_far = c.changes.invariant h in
    leads-further old.rows.rows.items now.rows.rows.items new.rows.rows.items old.log.items now.log.items new.log.items e left so_far (c.take_one_back.ensures.back (last-there old.rows.rows.items now.rows.rows.items old.log.items now.log.items new.log.items e left so_far))
