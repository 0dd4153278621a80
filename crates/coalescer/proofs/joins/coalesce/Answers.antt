use Rattle.std.proofs.Common.{◌≡◌, ◌∙◌, ℕ, List, [], map, take, sym, ap, subst, arith}
use Rattle.std.proofs.lemmas.List.{take_all}
use Rattle.live_edits.specs.declared.fold.Join.{Join}
use Rattle.join_laws.specs.Joined.{Tried, copies_in_order, done}
use Rattle.join_laws.proofs.Trying.{joined_refines}
use Rattle.coalescer.proofs.Turns.{tried-next}
use Rattle.coalescer.proofs.joins.coalesce.Goals as goal

pub copies-init : goal.copies-init
copies-init c = λ may. (may, subst (λ (js : List Join). Tried c.args.target.now [] c.args.f.func js c.args.f.func) (sym c.new-joins.ensures) done)

pub copies-preserved : goal.copies-preserved
copies-preserved c = λ may.
    let z = c.copies.invariant may in
    let y = c.in_ok-made.ensures z.0 in
    (y.kept, tried-next c.args.target.now c.as_slice-copy-items.result.now c.copies.copy-index (0, 0) c.args.f.func c.copies.live.func c.try_copy.new.live.func c.copies.joins c.push_made.new.joins c.in_ok-made.made (omega arith) z.1 y.tried c.in_ok-push_made.ensures)

pub returns-clause-joined : goal.returns-clause-joined
returns-clause-joined c = λ may.
    let t = c.args.target.now in
    let items = c.as_slice-copy-items.result.now in
    let all : map (λ (p : ℕ × ℕ). p.1) (take c.copies.copy-index items) ≡ copies_in_order t c.args.freqs.now c.args.f.func.blocks =
    ap (map (λ (p : ℕ × ℕ). p.1)) (take_all c.copies.copy-index items (omega arith))
    ∙ ap (map (λ (p : ℕ × ℕ). p.1)) c.as_slice-copy-items.ensures.value
    ∙ c.in_ok-copies.ensures
    ∙ ap (λ (fs : List ℕ). copies_in_order t fs c.args.f.func.blocks) c.as_slice.ensures in
    subst (λ (ids : List ℕ). Tried t ids c.args.f.func c.copies.joins c.copies.live.func) all (c.copies.invariant may).1

pub returns-clause-kept : goal.returns-clause-kept
returns-clause-kept c = λ may. (c.copies.invariant may).0

pub returns-clause-refines : goal.returns-clause-refines
returns-clause-refines c = λ may. (joined_refines c.args.target.now c.args.freqs.now c.args.f.func c.copies.live.func c.copies.joins may.lowered may.plain (returns-clause-joined c may)).0
