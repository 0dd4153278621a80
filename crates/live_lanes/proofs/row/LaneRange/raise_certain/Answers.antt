use Rattle.std.proofs.Common.{arith, ◌<◌, ◌≡◌, length, ap, sym, subst, set, ◌∙◌, true, false}
use Rattle.live_lanes.specs.Graph.{is_live}
use Rattle.live_lanes.specs.Table.{seen_cell, cause_in, certain_cause, with_cause}
use Rattle.live_lanes.specs.Certain.{RaisesCertain}
use Rattle.live_lanes.proofs.Cells.{set-descends}
use Rattle.live_lanes.proofs.Certain.{cell-is, block-is, keeps-live, keeps-uncertain, raises, same-cell, not-true, not-false, set-blocks}
use Rattle.live_lanes.proofs.row.LaneRange.raise_certain.Goals as goal

pub returns-then-is_live-clause-raised : goal.returns-then-is_live-clause-raised
returns-then-is_live-clause-raised c =
    let cells = c.args.self.now.cells in
    let within : c.args.place < length cells.items = omega (arith, cells.ok.0, c.len.ensures, c.if-place-len.false) in
    keeps-live cells.items c.args.place c.args.index c.index-2.result.now c.args.self.now.sorted within c.index-2.ensures (sym c.is_live.ensures ∙ c.if-is_live.true)

pub returns-then-is_none-clause-raised : goal.returns-then-is_none-clause-raised
returns-then-is_none-clause-raised c =
    let cells = c.args.self.now.cells in
    let within : c.args.place < length cells.items = omega (arith, cells.ok.0, c.len.ensures, c.if-place-len.false) in
    let none = not-true (is_live c.certain_cause-cause.result) (sym c.is_none.ensures ∙ c.if-is_none.true) in
    keeps-uncertain cells.items c.args.place c.args.index c.index-3.result.now c.args.self.now.sorted within c.index-3.ensures (ap is_live (sym c.certain_cause-cause.ensures) ∙ none)

pub invariant_of-self : goal.invariant_of-self
invariant_of-self c =
    let cells = c.args.self.now.cells in
    let within : c.args.place < length cells.items = omega (arith, cells.ok.0, c.len.ensures, c.if-place-len.false) in
    let x = c.index_mut.result.now in
    record { sorted = set-descends cells.items c.args.place x c.set_cause.new.self c.args.self.now.sorted (cell-is cells.items c.args.place c.args.index x c.args.self.now.sorted within c.index_mut.ensures.value) c.set_cause.ensures.block }

pub returns-clause-blocks : goal.returns-clause-blocks
returns-clause-blocks c =
    let cells = c.args.self.now.cells in
    let within : c.args.place < length cells.items = omega (arith, cells.ok.0, c.len.ensures, c.if-place-len.false) in
    let x = c.index_mut.result.now in
    set-blocks cells.items c.args.place x c.set_cause.new.self (cell-is cells.items c.args.place c.args.index x c.args.self.now.sorted within c.index_mut.ensures.value) c.set_cause.ensures.block

pub returns-clause-raised : goal.returns-clause-raised
returns-clause-raised c =
    let cells = c.args.self.now.cells in
    let within : c.args.place < length cells.items = omega (arith, cells.ok.0, c.len.ensures, c.if-place-len.false) in
    let x = c.index_mut.result.now in
    let one = same-cell cells.items c.args.place c.index.result.now x within c.index.ensures c.index_mut.ensures.value in
    let two = same-cell cells.items c.args.place c.index-2.result.now x within c.index-2.ensures c.index_mut.ensures.value in
    let three = same-cell cells.items c.args.place c.index-3.result.now x within c.index-3.ensures c.index_mut.ensures.value in
    let cause : c.certain_cause-cause.result ≡ certain_cause (seen_cell x) c.args.index = c.certain_cause-cause.ensures ∙ ap (λ y. certain_cause (seen_cell y) c.args.index) three in
    let dead : is_live (cause_in (seen_cell x) c.args.index) ≡ false = ap (λ y. is_live (cause_in (seen_cell y) c.args.index)) (sym two) ∙ sym c.is_live.ensures ∙ c.if-is_live.false in
    let live : is_live (certain_cause (seen_cell x) c.args.index) ≡ true = ap is_live (sym cause) ∙ not-false (is_live c.certain_cause-cause.result) (sym c.is_none.ensures ∙ c.if-is_none.false) in
    let changed : seen_cell c.set_cause.new.self ≡ with_cause (seen_cell x) c.args.index (certain_cause (seen_cell x) c.args.index) = c.set_cause.ensures.changed ∙ ap (with_cause (seen_cell x) c.args.index) cause in (
      block-is cells.items c.args.place c.args.index c.index.result.now c.args.self.now.sorted within c.index.ensures,
      subst (λ y. RaisesCertain cells.items (set cells.items c.args.place c.set_cause.new.self) y.block c.args.index) (sym one) (raises cells.items c.args.place c.args.index x c.args.self.now.sorted within c.index_mut.ensures.value c.set_cause.new.self c.set_cause.ensures.block dead live changed),
    )
