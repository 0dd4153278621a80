use Rattle.std.proofs.Common.{rules, ◌≡◌, ◌∙◌, None, Some, sym, subst}
use Rattle.instr_effects.specs.Numbered.{number_in}
use Rattle.instr_effects.specs.declared.owner.Owner.TheVariants as owners
use Rattle.interference.specs.HeldLanes.{IsHolder}
use Rattle.interference.proofs.HeldLanes.{option-differs, option-same, pair, held-by, held-by-none, same-lane, same-unit}
use Rattle.interference.proofs.matrix.Matrix.holder.Goals as goal

pub returns-in_err-v : goal.returns-in_err-v
returns-in_err-v c = λ table.
    let m = c.args.self.now in
    let none : c.from_residual.result ≡ None = search rules in
    subst (IsHolder m c.args.lane) (sym none) (held-by-none m c.args.lane c.range_of.result (c.range_of.ensures.numbered table) (λ v k u e n f. let z : None ≡ pair v k = sym c.in_err-v.was ∙ e in cc))

pub returns-then-ne : goal.returns-then-ne
returns-then-ne c = λ table.
    let m = c.args.self.now in
    held-by-none m c.args.lane c.range_of.result (c.range_of.ensures.numbered table)
    (λ v k u e n f.
    let is : c.lane_of.result ≡ Some c.args.lane = sym (same-lane m c.in_ok-v.v c.in_ok-v.k v k c.lane_of.result (sym c.in_ok-v.was ∙ e) c.lane_of.ensures) ∙ n in
    option-differs c.lane_of.result c.args.lane is (sym c.ne.ensures ∙ c.if-ne.true))

pub returns-in_err-unit : goal.returns-in_err-unit
returns-in_err-unit c = λ table.
    let m = c.args.self.now in
    let none : c.from_residual-in_err-unit.result ≡ None = search rules in
    subst (IsHolder m c.args.lane) (sym none)
    (held-by-none m c.args.lane c.range_of.result (c.range_of.ensures.numbered table)
    (λ v k u e n f. let z : None ≡ Some u = sym (same-unit m c.in_ok-v.v c.in_ok-v.k v k c.unit_of.result (sym c.in_ok-v.was ∙ e) c.unit_of.ensures ∙ c.in_err-unit.was) ∙ f in cc))

pub returns : goal.returns
returns c = λ table.
    let m = c.args.self.now in
    let number : number_in m.live.table.lanes (owners.Range c.in_ok-v.v c.in_ok-v.k) ≡ Some c.args.lane = sym c.lane_of.ensures ∙ option-same c.lane_of.result c.args.lane (sym c.ne.ensures ∙ c.if-ne.false) in
    held-by m c.args.lane c.range_of.result (c.range_of.ensures.numbered table) c.in_ok-v.v c.in_ok-v.k c.in_ok-unit.unit c.in_ok-v.was number (sym c.unit_of.ensures ∙ c.in_ok-unit.was)
