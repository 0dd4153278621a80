use Rattle.std.proofs.Common.{◌≡◌, true, ◌∙◌, ap, sym}
use Rattle.std.specs.Prelude.{nat_eq}
use Rattle.std.specs.List.{list_any}
use Rattle.mir_meaning.specs.Paths.{has}
use Rattle.live_lanes.proofs.Flowing.{push-has, kept-has}
use Rattle.live_lanes.proofs.compute.flow.add_once.Goals as goal

pub returns-then-is_in : goal.returns-then-is_in
returns-then-is_in c =
    let there : list_any (λ y. nat_eq y c.args.x) c.args.list.now.items ≡ true = ap (λ xs. list_any (λ y. nat_eq y c.args.x) xs) (sym c.as_slice.ensures.value) ∙ sym c.is_in.ensures ∙ c.if-is_in.true in
    λ y. kept-has c.args.list.now.items c.args.x y there

pub returns : goal.returns
returns c = λ y. ap (has y) c.in_ok-push.ensures.items ∙ push-has c.args.list.now.items c.args.x y
