use Rattle.std.proofs.Common.{ap, sym, subst, ◌∙◌, ℕ, length, take}
use Rattle.instr_effects.specs.Numbered.{NumbersAll}
use Rattle.live_lanes.specs.declared.live.LiveFunc.{LiveFunc}
use Rattle.live_lanes.proofs.Further.{numbered-next, numbered-same}
use Rattle.live_lanes.proofs.live.LiveFunc.fresh.Goals as goal

pub returns-in-Ok-clause-numbers : goal.returns-in-Ok-clause-numbers
returns-in-Ok-clause-numbers c =
    let old = c.args.self.now in
    let new = c.make_fresh.new.self in
    λ all. subst (λ t. NumbersAll t new.func new.table.lanes) (sym c.make_fresh.ensures.target)
    (numbered-next old.target old.func new.func c.args.class old.table.lanes new.table.lanes all c.in-Ok.ensures.ok.1 c.make_fresh.ensures.adds c.in-Ok.ensures.numbered)

pub returns-in-Err-clause-numbers : goal.returns-in-Err-clause-numbers
returns-in-Err-clause-numbers c =
    let old = c.args.self.now in
    let new = c.make_fresh.new.self in
    let adds = c.make_fresh.ensures.adds in
    let owned = c.counts-owners.ensures.owners ∙ ap (λ (x : LiveFunc). length x.table.lanes.owners.items) c.self.view_is in
    let ranged = c.counts-owners.ensures.ranges ∙ ap (λ (x : LiveFunc). length x.table.lanes.ranges.items) c.self.view_is in
    λ all. subst (λ t. NumbersAll t new.func c.take_back.new.lanes) (sym c.make_fresh.ensures.target)
    (numbered-same old.target old.func new.func old.table.lanes c.take_back.new.lanes all c.in-Err.ensures.err (c.take_back.ensures.owners ∙ (ap (λ (n : ℕ). take n new.table.lanes.owners.items) owned ∙ adds.owners)) (c.take_back.ensures.ranges ∙ (ap (λ (n : ℕ). take n new.table.lanes.ranges.items) ranged ∙ adds.ranges)) (c.take_back.ensures.reserved ∙ adds.reserved) (c.take_back.ensures.slots ∙ adds.slots))
