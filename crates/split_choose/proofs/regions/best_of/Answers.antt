use Rattle.std.proofs.Common.{ℕ, ◌+◌, Option, sym, subst, take}
use Rattle.split_choose.specs.declared.regions.RegionCandidate.{RegionCandidate}
use Rattle.split_choose.proofs.Choosing.{Picks, pick_first, pick_taken, pick_passed, pick_last}
use Rattle.split_choose.proofs.regions.best_of.Goals as goal
use Rattle.split_choose.proofs.regions.best_of.Goals.{then-offer-bound, else-offer-bound}

pub registers-init : goal.registers-init
registers-init c = λ ready. pick_first c.args.view.m.now c.args.view.v c.args.view.bundles.now.parents.items c.args.view.spans.now c.args.registers.now c.all_uses-bound.result c.all_uses-bound.ensures

pub registers-preserved : goal.registers-preserved
registers-preserved c = λ ready.
    let m = c.args.view.m.now in
    let v = c.args.view.v in
    let parents = c.args.view.bundles.now.parents.items in
    let spans = c.args.view.spans.now in
    let rs = c.args.registers.now in
    let k = c.registers.register-index in
    let o = c.in_ok-offer.offer in
    elim c.if-offer-bound.branch [
      | then-offer-bound w ↦
          let P : ℕ → Type 0 = λ n. Picks m v parents spans (take (k + 1) rs) n c.if-offer-bound.best in
          let Q : Option RegionCandidate → Type 0 = λ q. Picks m v parents spans (take (k + 1) rs) o.cost q in
          subst P (sym w.bound-is) (subst Q (sym w.best-is) (pick_taken m v parents spans rs k _ o c.registers.bound c.registers.best c.registers-test.true (c.in_ok-offer.ensures ready) (c.registers.invariant ready) w.if-offer-bound.true))
      | else-offer-bound w ↦
          let P : ℕ → Type 0 = λ n. Picks m v parents spans (take (k + 1) rs) n c.if-offer-bound.best in
          let Q : Option RegionCandidate → Type 0 = λ q. Picks m v parents spans (take (k + 1) rs) c.registers.bound q in
          subst P (sym w.bound-is) (subst Q (sym w.best-is) (pick_passed m v parents spans rs k _ o c.registers.bound c.registers.best c.registers-test.true (c.in_ok-offer.ensures ready) (c.registers.invariant ready) w.if-offer-bound.false))
    ]

pub returns : goal.returns
returns c = λ ready. pick_last c.args.view.m.now c.args.view.v c.args.view.bundles.now.parents.items c.args.view.spans.now c.args.registers.now c.registers.register-index c.registers.bound c.registers.best c.registers-test.false (c.registers.invariant ready)
