use Rattle.std.proofs.Common.{ℕ, ◌+◌, Option, sym, subst, take}
use Rattle.split_choose.specs.declared.cuts.RegionCut.{RegionCut}
use Rattle.split_choose.specs.Regions.{capped, uses_of}
use Rattle.split_choose.proofs.Taking.{Picks, pick_some, pick_none, pick_last}
use Rattle.split_choose.proofs.cuts.best_of.Goals as goal
use Rattle.split_choose.proofs.cuts.best_of.Goals.{in-Some, in_default}

pub registers-init : goal.registers-init
registers-init c = λ within. (c.all_uses-bound.ensures, tt)

pub registers-preserved : goal.registers-preserved
registers-preserved c = λ within.
    let m = c.args.view.m.now in
    let v = c.args.view.v in
    let parents = c.args.view.bundles.now.parents.items in
    let spans = c.args.view.spans.now in
    let most = capped (uses_of spans) in
    let rs = c.args.registers.now in
    let k = c.registers.register-index in
    let was = c.registers.invariant within in
    elim c.match-branch-2.branch [
      | in-Some w ↦
          let P : ℕ → Type 0 = λ n. Picks m v parents spans most n (take (k + 1) rs) c.match-branch-2.best in
          let Q : Option RegionCut → Type 0 = λ q. Picks m v parents spans most w.in-Some.choice.cost (take (k + 1) rs) q in
          subst P (sym w.bound-is) (subst Q (sym w.best-is) (pick_some m v parents spans most c.registers.bound rs k _ c.registers.best c.in_ok-choice.field-0 w.in-Some.choice c.registers-test.true w.in-Some.is (c.in_ok-choice.ensures within) was))
      | in_default w ↦
          let P : ℕ → Type 0 = λ n. Picks m v parents spans most n (take (k + 1) rs) c.match-branch-2.best in
          let Q : Option RegionCut → Type 0 = λ q. Picks m v parents spans most c.registers.bound (take (k + 1) rs) q in
          subst P (sym w.bound-is) (subst Q (sym w.best-is) (pick_none m v parents spans most c.registers.bound rs k _ c.registers.best c.in_ok-choice.field-0 c.registers-test.true w.in_default.is (c.in_ok-choice.ensures within) was))
    ]

pub returns : goal.returns
returns c = λ within. pick_last c.args.view.m.now c.args.view.v c.args.view.bundles.now.parents.items c.args.view.spans.now (capped (uses_of c.args.view.spans.now)) c.registers.bound c.args.registers.now c.registers.register-index c.registers.best c.registers-test.false (c.registers.invariant within)
