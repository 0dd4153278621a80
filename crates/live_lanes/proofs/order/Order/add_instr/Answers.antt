use Rattle.std.proofs.Common.{[], ◌∷◌, subst}
use Rattle.live_lanes.specs.Ordered.{Settles}
use Rattle.live_lanes.proofs.order.Order.add_instr.Goals as goal

pub returns-then-is_present-clause-homes : goal.returns-then-is_present-clause-homes
returns-then-is_present-clause-homes c = λ absent. absurd (absent (c.is_present.ensures.0 c.if-is_present.true))

pub returns-clause-homes : goal.returns-clause-homes
returns-clause-homes c = λ absent. subst (λ v. Settles v.items c.settle.new.self.block_of.items (c.args.id ∷ []) c.args.position) c.in_ok-put.ensures.homes c.settle.ensures.homes
