use Rattle.std.proofs.Common.{◌<◌, ◌≤◌, ◌∙◌, length, refl, sym, subst, arith}
use Rattle.interference.proofs.Parts.{part-there}
use Rattle.interference.proofs.PutBack.{part-written}
use Rattle.interference.proofs.Placed.{set-same}
use Rattle.interference.specs.Parts.{parts_of}
use Rattle.std.specs.List.{insert}
use Rattle.interference.proofs.Written.{filled-written, held-same, held-put}
use Rattle.interference.proofs.Refused.{on-err}
use Rattle.interference.proofs.held.HeldList.insert.Goals as goal

pub returns-in_err-put-clause-filled : goal.returns-in_err-put-clause-filled
returns-in_err-put-clause-filled c = λ full.
    let vs = c.args.self.now.parts.items in
    let lt : c.args.gap.part < length vs = omega arith in
    filled-written vs c.args.gap.part c.index_mut.result.now c.put.new.part lt c.index_mut.ensures.value c.in_err-put.ensures.some full

pub returns-in_err-put-clause-err : goal.returns-in_err-put-clause-err
returns-in_err-put-clause-err c =
    let vs = c.args.self.now.parts.items in
    let lt : c.args.gap.part < length vs = omega arith in
    on-err c.from_residual.result (held-same vs c.args.gap.part c.index_mut.result.now c.put.new.part lt c.index_mut.ensures.value c.in_err-put.ensures.err)

pub returns-clause-filled : goal.returns-clause-filled
returns-clause-filled c = λ full.
    let vs = c.args.self.now.parts.items in
    let lt : c.args.gap.part < length vs = omega arith in
    filled-written vs c.args.gap.part c.index_mut.result.now c.put.new.part lt c.index_mut.ensures.value c.in_ok-put.ensures.some full

pub returns-clause-ok : goal.returns-clause-ok
returns-clause-ok c = λ low within.
    let vs = c.args.self.now.parts.items in
    let there = part-there vs c.args.gap.part c.index_mut.result.now low c.index_mut.ensures.value in
    held-put vs c.args.gap.part c.index_mut.result.now c.put.new.part low c.index_mut.ensures.value c.args.gap c.args.held refl (c.in_ok-put.ensures.ok (subst (λ p. c.args.gap.count ≤ length p) (sym there) within))

pub returns-in_err-put-clause-same : goal.returns-in_err-put-clause-same
returns-in_err-put-clause-same c =
    let vs = c.args.self.now.parts.items in
    let k = c.args.gap.part in
    let lt : k < length vs = omega arith in
    on-err c.from_residual.result (part-written vs k c.index_mut.result.now c.put.new.part (λ xs. xs) lt c.index_mut.ensures.value c.in_err-put.ensures.err ∙ set-same (parts_of c.args.self.now) k)

pub returns-clause-put : goal.returns-clause-put
returns-clause-put c = λ low within.
    let vs = c.args.self.now.parts.items in
    let k = c.args.gap.part in
    let there = part-there vs k c.index_mut.result.now low c.index_mut.ensures.value in
    part-written vs k c.index_mut.result.now c.put.new.part (λ xs. insert xs c.args.gap.count c.args.held) low c.index_mut.ensures.value (c.in_ok-put.ensures.ok (subst (λ p. c.args.gap.count ≤ length p) (sym there) within))
