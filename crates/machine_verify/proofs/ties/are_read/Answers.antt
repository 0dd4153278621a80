use Rattle.std.proofs.Common.{◌∙◌, ap, sym, arith, ◌+◌, drop, ◌∷◌, ◌<◌, length}
use Rattle.std.specs.Prelude.{◌||◌}
use Rattle.std.specs.List.{list_any}
use Rattle.std.proofs.lemmas.List.{drop_more}
use Rattle.mir_func.specs.declared.func.RegOp.{RegOp}
use Rattle.mir_meaning.specs.Rules.{share_a_lane, clashing_lanes, readings_besides}
use Rattle.bound_operands.specs.Seen.{seen, seen_all}
use Rattle.machine_verify.proofs.Apart.{besides_any}
use Rattle.machine_verify.proofs.ties.are_read.Goals as goal

pub loop-b-preserved : goal.loop-b-preserved
loop-b-preserved c =
    let bound = c.args.bound.now in
    let i = c.loop-b.b-index in
    let p = λ (u : RegOp). share_a_lane c.args.lanes.now (clashing_lanes c.args.target.now c.args.f.now u) in
    let below : i < length bound = omega arith in
    c.loop-b.invariant
    ∙ (ap (λ bs. list_any p (readings_besides c.args.number (seen_all bs))) (drop_more bound i c.b-item.result below ∙ ap (λ x. x ∷ drop (i + 1) bound) (sym c.b-item.is))
    ∙ (besides_any p c.args.number (seen c.b-item.result) (seen_all (drop (i + 1) bound))
    ∙ ap (λ x. x || list_any p (readings_besides c.args.number (seen_all (drop (i + 1) bound)))) (sym c.in_ok-reads_one.ensures ∙ c.if-branch.false)))
