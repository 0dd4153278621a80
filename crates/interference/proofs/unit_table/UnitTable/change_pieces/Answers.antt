use Rattle.std.proofs.Common.{◌≡◌, ◌∙◌, List, [], ap, sym, subst}
use Rattle.std.specs.Prelude.{is_some, true}
use Rattle.std.proofs.lemmas.Result.{on_ok_weaker}
use Rattle.live_lanes.specs.declared.live.LiveFunc.{LiveFunc}
use Rattle.live_lanes.specs.Table.{Numbers}
use Rattle.interference.specs.declared.saved_lists.AssignedPiece.{AssignedPiece}
use Rattle.interference.specs.declared.unit_table.UnitTable.{UnitTable}
use Rattle.interference.specs.Clashes.{list_in}
use Rattle.interference.specs.EditedPieces.{any_piece, stays, stays_or_comes, whole_by, HoldThose, MayHoldAll}
use Rattle.interference.proofs.ChangedWhole.{all-come, none-changed, now-stays}
use Rattle.interference.proofs.EditedPieces.{all-begin-apart}
use Rattle.interference.proofs.unit_table.UnitTable.change_pieces.Goals as goal

pub returns-clause-ok : goal.returns-clause-ok
returns-clause-ok c = λ m before changed same held may pieces.
    let live : LiveFunc = c.args.live.now in
    let ps : List AssignedPiece = c.args.pieces.now in
    let slots-are : c.slots.result.now ≡ m.live.table.order.slots = c.slots.ensures ∙ ap (λ (y : LiveFunc). y.table.order.slots) (sym same) in
    let mid : UnitTable = c.release_pieces.new.self in
    let first : HoldThose c.slots.result.now (whole_by m before) (stays []) c.args.self.now =
    subst (λ (s : Numbers). HoldThose s (whole_by m before) (stays []) c.args.self.now) (sym slots-are)
    (subst (λ (a : UnitTable). HoldThose m.live.table.order.slots (whole_by m before) (stays []) a) held (none-changed m before changed may ps pieces)) in
    let taken : HoldThose m.live.table.order.slots (whole_by m before) (stays ps) mid =
    subst (λ (s : Numbers). HoldThose s (whole_by m before) (stays ps) mid) slots-are (c.in_ok-release_pieces.ensures.ok (whole_by m before) (all-begin-apart m before may.ordered) first) in
    let rest : HoldThose live.table.order.slots (whole_by m live.table) (stays_or_comes ps []) mid =
    subst (λ (y : LiveFunc). HoldThose y.table.order.slots (whole_by m y.table) (stays_or_comes ps []) mid) same (now-stays m before changed may ps pieces mid taken) in
    let may-hold : MayHoldAll m mid = record {
      order = may.all.order;
      separate = may.all.separate;
      there = λ u b v e a. c.in_ok-release_pieces.ensures.there u b ∙ subst (λ (t : UnitTable). is_some (list_in t u b) ≡ true) held (may.all.there u b v e a);
    } in
    let last : UnitTable = c.hold_pieces.new.self in
    on_ok_weaker c.hold_pieces.result
    (λ put. subst (λ (y : LiveFunc). HoldThose y.table.order.slots (whole_by m y.table) any_piece last) same
    (all-come m before changed may ps pieces last (subst (λ (y : LiveFunc). HoldThose y.table.order.slots (whole_by m y.table) (stays_or_comes ps ps) last) (sym same) put)))
    (c.hold_pieces.ensures.ok m same may-hold pieces.held rest)
