use Rattle.std.proofs.Common.{◌≡◌, Option, None, Some, sym, subst}
use Rattle.live_lanes.specs.declared.ask.extent.Extent.{Extent}
use Rattle.interference.specs.Clashes.{held_of}
use Rattle.interference.specs.Listed.{IsClear}
use Rattle.interference.proofs.Filled.{Puts, put-piece, put-none}
use Rattle.interference.proofs.unit_table.add_extent.Goals as goal

pub returns-in_ok-add-clause-ok : goal.returns-in_ok-add-clause-ok
returns-in_ok-add-clause-ok c = λ full apart clear.
    let slots = c.args.slots.now in
    let is : c.args.extent ≡ Some c.in-Some.extent = cc in
    subst (λ (q : Option Extent). Puts slots c.args.range q c.args.list.now c.add.new.self) (sym is)
    (put-piece slots c.args.range c.in-Some.extent c.args.list.now c.add.new.self c.in_ok-add.ensures.filled (c.in_ok-add.ensures.ok full apart) full apart (subst (IsClear slots c.args.range (held_of c.args.list.now)) is clear))

pub returns-in_default-clause-ok : goal.returns-in_default-clause-ok
returns-in_default-clause-ok c = λ full apart clear.
    let slots = c.args.slots.now in
    let is : c.args.extent ≡ None = cc in
    subst (λ (q : Option Extent). Puts slots c.args.range q c.args.list.now c.args.list.now) (sym is) (put-none slots c.args.range c.args.list.now full apart)
