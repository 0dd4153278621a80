use Rattle.std.proofs.Common.{◌≡◌, ◌<◌, ◌-◌, ℕ, suc, Bool, true, None, length, drop, get_or, sym, ap, ◌∙◌, arith}
use Rattle.live_lanes.specs.Entered.{shape}
use Rattle.live_lanes.specs.Table.{seen_cell}
use Rattle.live_lanes.specs.Lasting.{exit_end, last_with, leaves_in}
use Rattle.live_lanes.proofs.Lasting.{last-here}
use Rattle.live_lanes.proofs.compute.ends.last_exit.Goals as goal

pub returns-then-leaves_in : goal.returns-then-leaves_in
returns-then-leaves_in c = λ r.
    let ids = c.args.terminators.now in
    let test : ℕ → Bool = leaves_in c.args.slots.now (shape (seen_cell c.args.cell.now)) c.args.index in
    let within : c.terminators.k - 1 < length ids = omega arith in
    let next : suc (c.terminators.k - 1) ≡ c.terminators.k = omega arith in
    let none : last_with test (drop (suc (c.terminators.k - 1)) ids) ≡ None = ap (λ k. last_with test (drop k ids)) next ∙ c.terminators.invariant r in
    let passes : test (get_or ids (c.terminators.k - 1) 0) ≡ true = sym (c.leaves_in.ensures r) ∙ c.if-leaves_in.true in
    sym (ap exit_end (last-here test ids (c.terminators.k - 1) 0 within passes none))
