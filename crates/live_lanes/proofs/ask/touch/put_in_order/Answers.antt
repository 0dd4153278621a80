use Rattle.std.proofs.Common.{◌∙◌, ap, rules}
use Rattle.std.proofs.lemmas.List.Filters.{dedup_is}
use Rattle.std.proofs.lemmas.List.Sorted.{IsNonDecreasingBy-from_sort_by_key}
use Rattle.mir_meaning.specs.Paths.{has}
use Rattle.live_lanes.specs.Touching.{layout_key}
use Rattle.live_lanes.proofs.Touching.{moved-has, dedup-has, dedup-line}
use Rattle.live_lanes.proofs.ask.touch.put_in_order.Goals as goal

pub returns-clause-named : goal.returns-clause-named
returns-clause-named c = λ x. ap (has x) (dedup_is _ _ _ c.dedup.ensures.filtered) ∙ dedup-has x c.sort_unstable_by_key.new.self.items ∙ moved-has x c.args.ids.now.items c.sort_unstable_by_key.new.self.items c.sort_unstable_by_key.ensures.permutation

pub returns-clause-order : goal.returns-clause-order
returns-clause-order c =
    let up = IsNonDecreasingBy-from_sort_by_key (layout_key c.args.slots.now) _ c.sort_unstable_by_key.ensures.sorted (λ a r q k. search rules) in
    dedup-line c.args.slots.now c.sort_unstable_by_key.new.self.items c.dedup.new.self.items up (dedup_is _ _ _ c.dedup.ensures.filtered) c.type_inv.ids
