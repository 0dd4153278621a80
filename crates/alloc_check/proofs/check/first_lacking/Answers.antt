use Rattle.std.proofs.Common.{◌≡◌, ◌+◌, ◌-◌, ◌/◌, ◌<◌, ◌≤◌, true, false, length, sym, subst, arith}
use Rattle.alloc_check.specs.Asking.{asked_to}
use Rattle.alloc_check.specs.Families.{Decides, HoldsWith}
use Rattle.alloc_check.proofs.Asked.{asked-all, none-asked, some-rows}
use Rattle.alloc_check.proofs.check.first_lacking.Goals as goal

pub halves-init : goal.halves-init
halves-init c =
    let t = c.args.t.now in
    let f = c.args.f.now in
    let g = c.args.g.now in
    let rows = c.args.rows.now in
    let lt : 0 < length rows = some-rows t f g rows c.requires in (
      omega (arith, lt),
      omega arith,
      none-asked t f g rows,
      λ h. c.requires (subst (HoldsWith t f g) (asked-all rows) h),
    )

pub returns : goal.returns
returns c =
    let t = c.args.t.now in
    let f = c.args.f.now in
    let g = c.args.g.now in
    let rows = c.args.rows.now in
    let inv = c.halves.invariant in
    let next : c.halves.high ≡ c.halves.low + 1 = omega (arith, inv.0) in
    record {
      within = omega (arith, inv.0, inv.1);
      holds = inv.2;
      lacks = λ h. inv.3 (subst (λ n. HoldsWith t f g (asked_to n rows)) (sym next) h);
    }

pub halves-preserved-then-branch : goal.halves-preserved-then-branch
halves-preserved-then-branch c =
    let t = c.args.t.now in
    let f = c.args.f.now in
    let g = c.args.g.now in
    let rows = c.args.rows.now in
    let inv = c.halves.invariant in
    let middle = c.halves.low + (c.halves.high - c.halves.low) / 2 in
    let holds : HoldsWith t f g (asked_to middle rows) = subst (Decides t f g (asked_to middle rows)) c.if-branch.true c.in_ok-decide.ensures in
    (omega (arith, inv.0), inv.1, holds, inv.3)

pub halves-preserved : goal.halves-preserved
halves-preserved c =
    let t = c.args.t.now in
    let f = c.args.f.now in
    let g = c.args.g.now in
    let rows = c.args.rows.now in
    let inv = c.halves.invariant in
    let middle = c.halves.low + (c.halves.high - c.halves.low) / 2 in
    let lacks : HoldsWith t f g (asked_to middle rows) → ⊥ = subst (Decides t f g (asked_to middle rows)) c.if-branch.false c.in_ok-decide.ensures in
    (omega (arith, inv.0), omega (arith, inv.0, inv.1), inv.2, lacks)
