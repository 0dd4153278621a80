use Rattle.std.proofs.Common.{◌≡◌, ◌-◌, Some, None, arith, ap, sym, ◌∙◌, take}
use Rattle.mir_func.specs.At.{instrs_at, instr_at}
use Rattle.live_lanes.specs.Ordered.{all_ids, last_id}
use Rattle.live_edits.proofs.DraftPlaces.{last-taken, before-first, none-past}
use Rattle.live_edits.proofs.draft.id_before.Goals as goal

pub returns-then-place-eq0-clause-id : goal.returns-then-place-eq0-clause-id
returns-then-place-eq0-clause-id c = λ within.
    let viewed = ap (λ f. f.blocks) c.func.view_is in
    let sliced = c.as_slice.ensures in
    let same : c.as_slice.result.now ≡ c.args.func.now.blocks = cc in
    c.last_id_before.ensures ∙ (ap (λ bs. last_id (all_ids (take c.args.position bs))) same ∙ before-first c.args.func.now.blocks c.args.position c.args.place (omega arith))

pub returns-in-Some-clause-id : goal.returns-in-Some-clause-id
returns-in-Some-clause-id c = λ within.
    let some = c.if-place-eq0.false in
    let at : instr_at c.args.func.now.blocks c.args.position (c.args.place - 1) ≡ Some c.in-Some.instr.now = sym c.in-Some.ensures in
    last-taken c.args.func.now.blocks c.args.position c.args.place (c.args.place - 1) c.in-Some.instr.now (omega (arith, some)) at

pub returns-in-None-clause-id : goal.returns-in-None-clause-id
returns-in-None-clause-id c = λ within.
    let some = c.if-place-eq0.false in
    let at : instr_at c.args.func.now.blocks c.args.position (c.args.place - 1) ≡ None = sym c.in-None.ensures in
    let past = none-past (instrs_at c.args.func.now.blocks c.args.position) (c.args.place - 1) at in
    absurd (omega (arith, some, past, within))
