use Rattle.std.proofs.Common.{◌≡◌, ◌∙◌, ◌<◌, ◌-◌, None, Some, length, sym, ap, rules}
use Rattle.std.specs.Prelude.{nat_lt, slice_get}
use Rattle.std.proofs.lemmas.Bool.{ltb-true}
use Rattle.live_lanes.specs.Touching.{layout_key}
use Rattle.live_lanes.proofs.Touching.{line-push, line-first}
use Rattle.live_lanes.proofs.ask.touch.TouchList.is_behind.Goals as goal

pub returns-in-Some : goal.returns-in-Some
returns-in-Some c = λ less up.
    let there : slice_get c.args.self.now.ids.items (length c.args.self.now.ids.items - 1) ≡ Some c.in-Some.last.now = search rules in
    let lt : layout_key c.args.slots.now c.in-Some.last.now < layout_key c.args.slots.now c.args.id = ltb-true _ _ (ap (λ n. nat_lt n (layout_key c.args.slots.now c.args.id)) (sym c.layout_key.ensures) ∙ ap (nat_lt c.layout_key.result) (sym c.layout_key-in-Some.ensures) ∙ less) in
    line-push c.args.slots.now c.args.self.now.ids.items c.args.id c.in-Some.last.now there lt up

pub returns-in-None : goal.returns-in-None
returns-in-None c = λ any up.
    let none : slice_get c.args.self.now.ids.items (length c.args.self.now.ids.items - 1) ≡ None = search rules in
    line-first c.args.slots.now c.args.self.now.ids.items c.args.id none
