use Rattle.std.proofs.Common.{◌≡◌, ◌∙◌, ◌&&◌, ℕ, length, ap, arith, refl, subst}
use Rattle.std.specs.Prelude.{nat_lt}
use Rattle.target_base.specs.declared.types.Target.{Target}
use Rattle.rewriter.specs.LiveUnits.{Marks, unit_enters}
use Rattle.rewriter.proofs.Marked.{units_none, units_more}
use Rattle.rewriter.proofs.live_units.LiveUnits.mark_units.Goals as goal

pub units-init : goal.units-init
units-init c = units_none c.args.live.now.table _

pub units-preserved : goal.units-preserved
units-preserved c = units_more c.args.live.now.table c.units.k _ _ _ _ refl c.units.invariant c.mark_unit.ensures

pub returns : goal.returns
returns c =
    let n : c.len-k-end.result ≡ length c.args.live.now.target.units = c.len-k-end.ensures ∙ ap (λ (t : Target). length t.units) c.target.ensures in
    let e : c.units.k ≡ length c.args.live.now.target.units = omega (arith, n) in
    subst (λ (k : ℕ). Marks (λ p w. nat_lt w k && unit_enters c.args.live.now.table w p) c.args.self.now c.units.self) e c.units.invariant
