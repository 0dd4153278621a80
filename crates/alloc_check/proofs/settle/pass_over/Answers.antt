use Rattle.std.proofs.Common.{◌≡◌, ◌+◌, ◌-◌, ◌<◌, true, false, sym, subst, drop, length, ltb, arith}
use Rattle.alloc_check.specs.Asking.{asking, asked_to}
use Rattle.alloc_check.specs.Families.{IsPassed, MeetsRow}
use Rattle.alloc_check.proofs.Asked.{asked-at, asked-end, asked-length}
use Rattle.alloc_check.proofs.Passing.{passed-more, passed-never}
use Rattle.alloc_check.proofs.settle.pass_over.Goals as goal

pub loop-k-init : goal.loop-k-init
loop-k-init c =
    let family = c.args.family.now in
    (omega arith, subst (λ rows. IsPassed family family rows c.in_ok-pass.pass) (sym (asked-end c.args.asking c.args.rows.now _ (omega arith))) (c.in_ok-pass.ensures family))

pub loop-k-preserved : goal.loop-k-preserved
loop-k-preserved c =
    let n = c.args.asking in
    let all = c.args.rows.now in
    let rows = asked_to n all in
    let first = c.args.family.now in
    let family = c.loop-k.family in
    let pass = c.loop-k.pass in
    let j = c.loop-k.k - 1 in
    let next : c.loop-k.k ≡ j + 1 = omega arith in
    let row = asking (ltb j n) c.index-rows-k.result in
    let lt : j < length all = omega arith in
    let before : IsPassed first family (drop (j + 1) rows) pass = subst (λ m. IsPassed first family (drop m rows) pass) next c.loop-k.invariant.1 in
    let step : MeetsRow family row pass true c.pass_row.new.family c.pass_row.new.pass =
    subst (λ b. MeetsRow family row pass b c.pass_row.new.family c.pass_row.new.pass) c.if-not-branch.false c.in_ok-pass_row.ensures in
    (omega arith, passed-more first rows j row (omega (arith, lt, asked-length n all)) (asked-at n all j c.index-rows-k.result lt c.index-rows-k.is) family c.pass_row.new.family pass c.pass_row.new.pass before step)

pub returns-then-not-branch : goal.returns-then-not-branch
returns-then-not-branch c =
    let n = c.args.asking in
    let all = c.args.rows.now in
    let rows = asked_to n all in
    let first = c.args.family.now in
    let family = c.loop-k.family in
    let pass = c.loop-k.pass in
    let j = c.loop-k.k - 1 in
    let next : c.loop-k.k ≡ j + 1 = omega arith in
    let row = asking (ltb j n) c.index-rows-k.result in
    let lt : j < length all = omega arith in
    let before : IsPassed first family (drop (j + 1) rows) pass = subst (λ m. IsPassed first family (drop m rows) pass) next c.loop-k.invariant.1 in
    let step : MeetsRow family row pass false c.pass_row.new.family c.pass_row.new.pass =
    subst (λ b. MeetsRow family row pass b c.pass_row.new.family c.pass_row.new.pass) c.if-not-branch.true c.in_ok-pass_row.ensures in
    passed-never first rows j row (omega (arith, lt, asked-length n all)) (asked-at n all j c.index-rows-k.result lt c.index-rows-k.is) family c.pass_row.new.family pass c.pass_row.new.pass before step
