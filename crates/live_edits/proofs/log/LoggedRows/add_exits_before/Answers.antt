use Rattle.std.proofs.Common.{ℕ, ◌++◌, List, arith, get_or, refl, ◌∙◌, subst}
use Rattle.std.specs.List.{flat_map}
use Rattle.std.proofs.lemmas.List.{take_all}
use Rattle.live_lanes.specs.Ways.{terminators}
use Rattle.edit_laws.specs.Update.{Request}
use Rattle.live_edits.specs.Leading.{AreAlike, exit_needs}
use Rattle.live_edits.specs.Pieces.{requests_of}
use Rattle.live_edits.proofs.AlikeLists.{alike-more}
use Rattle.live_edits.proofs.log.LoggedRows.add_exits_before.Goals as goal

pub predecessors-preserved : goal.predecessors-preserved
predecessors-preserved c = λ rise.
    let slots = c.args.order.now.slots in
    let rows = c.args.self.now.rows.rows.items in
    let s = c.args.spot in
    let bs = c.predecessors-before-items.result.now in
    let k = c.predecessors.before-index in
    let b = get_or bs k 0 in
    let exits : ℕ → List Request = λ y. exit_needs slots rows s.lane s.block y (terminators c.args.flow.now y) in
    alike-more exits (requests_of c.args.needs.now.items) (requests_of c.predecessors.needs.items) (requests_of c.add_exits.new.needs.items) bs k b 0 (omega arith) refl (c.predecessors.invariant rise)
    (subst (λ ids. AreAlike (requests_of c.add_exits.new.needs.items) (requests_of c.predecessors.needs.items ++ exit_needs slots rows s.lane s.block b ids)) c.terminators-ids.ensures (c.in_ok-add_exits.ensures rise))

pub returns : goal.returns
returns c = λ rise.
    let slots = c.args.order.now.slots in
    let rows = c.args.self.now.rows.rows.items in
    let s = c.args.spot in
    let bs = c.predecessors-before-items.result.now in
    let exits : ℕ → List Request = λ y. exit_needs slots rows s.lane s.block y (terminators c.args.flow.now y) in
    subst (λ ys. AreAlike (requests_of c.predecessors.needs.items) (requests_of c.args.needs.now.items ++ flat_map exits ys)) (take_all c.predecessors.before-index bs c.predecessors-test.false ∙ c.predecessors-before-items.ensures) (c.predecessors.invariant rise)
