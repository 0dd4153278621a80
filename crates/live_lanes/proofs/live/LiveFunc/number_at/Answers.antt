use Rattle.std.proofs.Common.{◌≡◌, ◌<◌, ◌∙◌, ap, sym, length, Option, ℕ, Some, subst, arith}
use Rattle.live_lanes.specs.Ordered.{all_ids}
use Rattle.live_lanes.specs.Spread.{IsWithin, layout_number, number_at}
use Rattle.live_lanes.proofs.LayoutNumbers.{find-among, has-all, lead-below, number-there}
use Rattle.live_lanes.proofs.live.LiveFunc.number_at.Goals as goal

pub returns-in-None : goal.returns-in-None
returns-in-None c = λ finds few p e w. e ∙ ap (number_at c.args.self.now.func.blocks p) (sym c.in-None.is)

pub returns-in-Some : goal.returns-in-Some
returns-in-Some c = λ finds few p e w.
    let x = c.args.self.now.table in
    let bs = c.args.self.now.func.blocks in
    let id = c.in-Some.id in
    let within : IsWithin bs p (Some id) = subst (λ (q : Option ℕ). IsWithin bs p q) c.in-Some.is w in
    let z = find-among within.0.instrs id within.2 in
    let number = number-there x bs finds p within.0 id within.1 z within.2 in
    let index = c.place_of.ensures finds p z.index within.0 z.instr within.1 z.there z.own in
    let below : layout_number bs id < length (all_ids bs) = lead-below id (all_ids bs) (has-all bs p within.0 id within.1 within.2) in
    let sum : c.saturating_add.result ≡ layout_number bs id = omega (arith, c.saturating_add.ensures, e, index, number, below, few) in
    sum ∙ ap (number_at bs p) (sym c.in-Some.is)
