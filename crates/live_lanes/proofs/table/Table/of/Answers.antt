use Rattle.std.proofs.Common.{◌≡◌, ◌<◌, ℕ, length, subst}
use Rattle.live_lanes.specs.Growth.{GrowsAll}
use Rattle.std.specs.Ordering.{nat_cmp}
use Rattle.std.specs.BTreeMap.{get}
use Rattle.instr_effects.specs.Numbered.{number_in}
use Rattle.live_lanes.specs.Lasting.{AllRise, Lasts}
use Rattle.live_lanes.proofs.Computed.{computed, is-computed}
use Rattle.live_lanes.proofs.table.Table.of.Goals as goal

pub returns : goal.returns
returns c =
    let order = c.in_ok-order.order in
    let flow = c.in_ok-flow.flow.items in
    let grown = c.grow.new.self.rows.items in
    let ended = c.end_all.new.self.rows.items in
    is-computed c.args.target.now c.args.func.now (record { lanes = c.in_ok-lanes.lanes; order = order; flow = c.in_ok-flow.flow; rows = c.end_all.new.self }) c.in_ok-lanes.ensures c.in_ok-order.ensures.positions c.in_ok-order.ensures.homes c.in_ok-flow.ensures c.in_ok-order.ensures.ids c.in_ok-order.ensures.numbered c.in_ok-order.ensures.short c.in_ok-order.ensures.few (λ matched.
    computed c.args.target.now c.args.func.now (number_in c.in_ok-lanes.lanes) (get nat_cmp order.positions) order.slots flow c.in_ok-rows.rows.rows.items grown ended
    c.in_ok-order.ensures.positions c.in_ok-order.ensures.ids c.in_ok-order.ensures.single c.in_ok-order.ensures.numbered c.in_ok-order.ensures.small c.in_ok-flow.ensures c.in_ok-rows.ensures.few (c.in_ok-rows.ensures.seen c.in_ok-lanes.ensures.table) (subst (λ xs. GrowsAll order.slots xs c.in_ok-rows.rows.rows.items grown) c.as_slice.ensures.value c.in_ok-grow.ensures) c.end_all.ensures.keeps
    (subst (λ xs. AllRise order.slots grown → length grown < 4294967296 → (l b n : ℕ) → Lasts order.slots xs grown ended l b n) c.as_slice-2.ensures.value c.end_all.ensures.ended) matched)
