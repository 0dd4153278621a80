use Rattle.std.proofs.Common.{arith}
use Rattle.slot_index.proofs.Kept.{removed_within, removed}
use Rattle.slot_index.proofs.Slots.remove.Goals as goal

pub index_mut-requires : goal.index_mut-requires
index_mut-requires c =
    omega (arith, removed_within _ _ c.args.self.now c.args.id c.self.invariant c.self.view_is c.requires, c.self.inside.number_by_id.ok.0)

pub invariant_of-self : goal.invariant_of-self
invariant_of-self c =
    let within = removed_within _ _ c.args.self.now c.args.id c.self.invariant c.self.view_is c.requires in
    (removed _ _ c.args.self.now _ c.number-number.result c.args.id c.self.invariant c.self.view_is c.requires c.number-number.ensures.value within c.remove.ensures.entries c.remove.ensures.ordered).1

pub returns-clause-removed : goal.returns-clause-removed
returns-clause-removed c =
    let within = removed_within _ _ c.args.self.now c.args.id c.self.invariant c.self.view_is c.requires in
    (removed _ _ c.args.self.now _ c.number-number.result c.args.id c.self.invariant c.self.view_is c.requires c.number-number.ensures.value within c.remove.ensures.entries c.remove.ensures.ordered).0

pub returns-clause-numbered : goal.returns-clause-numbered
returns-clause-numbered c =
    let within = removed_within _ _ c.args.self.now c.args.id c.self.invariant c.self.view_is c.requires in
    (removed _ _ c.args.self.now _ c.number-number.result c.args.id c.self.invariant c.self.view_is c.requires c.number-number.ensures.value within c.remove.ensures.entries c.remove.ensures.ordered).1.numbered
