use Rattle.std.proofs.Common.{◌≡◌, [], Option, None, Some, sym, subst}
use Rattle.std.specs.List.{cons_option}
use Rattle.live_lanes.specs.declared.ask.extent.Extent.{Extent}
use Rattle.interference.specs.Listed.{IsThinned}
use Rattle.interference.proofs.Thinned.{thin-piece, thin-none}
use Rattle.interference.proofs.unit_table.remove_extent.Goals as goal

pub returns-in_default : goal.returns-in_default
returns-in_default c =
    let e : c.args.extent ≡ None = cc in
    subst (λ (q : Option Extent). IsThinned c.args.slots.now c.args.range (cons_option q []) c.args.list.now c.args.list.now) (sym e) (thin-none c.args.slots.now c.args.range c.args.list.now)

pub returns : goal.returns
returns c =
    let e : c.args.extent ≡ Some c.in-Some.extent = cc in
    subst (λ (q : Option Extent). IsThinned c.args.slots.now c.args.range (cons_option q []) c.args.list.now c.remove.new.self) (sym e)
    (thin-piece c.args.slots.now c.args.range c.in-Some.extent c.args.list.now c.remove.new.self c.remove.ensures.filled c.remove.ensures.held)
