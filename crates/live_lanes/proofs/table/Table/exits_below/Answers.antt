use Rattle.std.proofs.Common.{◌≡◌, ◌<◌, ◌≤◌, ◌-◌, ◌∙◌, suc, sym, ap, subst, arith, get_or}
use Rattle.mir_func.specs.declared.func.Instr.{Instr}
use Rattle.live_lanes.specs.Table.{exit_rank}
use Rattle.live_lanes.proofs.Tallied.{exits-none, exits-all, exits-less}
use Rattle.live_lanes.proofs.table.Table.exits_below.Goals as goal

pub returns-then-entries-eq0-clause-exits : goal.returns-then-entries-eq0-clause-exits
returns-then-entries-eq0-clause-exits c = λ r e. exits-none c.args.self.now.order.slots c.args.at c.args.instrs.now (sym c.if-entries-eq0.true ∙ e)

pub returns-then-exit_rank-at-clause-exits : goal.returns-then-exit_rank-at-clause-exits
returns-then-exit_rank-at-clause-exits c = λ r e.
    let slots = c.args.self.now.order.slots in
    let is = c.args.instrs.now in
    let k = c.args.entries - 1 in
    let back : suc k ≡ c.args.entries = omega (arith, c.if-entries-eq0.false) in
    let d = c.index-instrs-last.result in
    let there : c.exit_rank.result ≡ exit_rank slots (get_or is k d).id = c.exit_rank.ensures ∙ ap (λ (i : Instr). exit_rank slots i.id) (c.get.ensures ∙ c.index-instrs-last.is) in
    let low = subst (λ n. n < c.args.at) there c.if-exit_rank-at.true in
    sym back ∙ exits-all slots c.args.at 0 k is d r (back ∙ e) low

pub returns-else-exit_rank-at-clause-exits : goal.returns-else-exit_rank-at-clause-exits
returns-else-exit_rank-at-clause-exits c = λ r e.
    let slots = c.args.self.now.order.slots in
    let is = c.args.instrs.now in
    let k = c.args.entries - 1 in
    let back : suc k ≡ c.args.entries = omega (arith, c.if-entries-eq0.false) in
    let d = c.index-instrs-last.result in
    let there : c.exit_rank.result ≡ exit_rank slots (get_or is k d).id = c.exit_rank.ensures ∙ ap (λ (i : Instr). exit_rank slots i.id) (c.get.ensures ∙ c.index-instrs-last.is) in
    let high = subst (λ n. c.args.at ≤ n) there c.if-exit_rank-at.false in
    exits-less slots c.args.at 0 k is d r (back ∙ e) high
