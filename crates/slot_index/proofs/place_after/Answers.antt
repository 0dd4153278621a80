use Rattle.std.proofs.Common.{◌≡◌, ◌+◌, refl, ap, ◌∙◌}
use Rattle.slot_index.specs.Order.{place}
use Rattle.slot_index.proofs.Room.{position_found}
use Rattle.slot_index.proofs.place_after.Goals as goal

pub unwrap-requires : goal.unwrap-requires
unwrap-requires c = rw (c.place_of.ensures ∙ position_found c.in-Some.before c.args.order.now (rw c.in-Some.is at c.requires)) refl

pub returns-in-Some : goal.returns-in-Some
returns-in-Some c =
    let found = c.place_of.ensures ∙ position_found c.in-Some.before c.args.order.now (rw c.in-Some.is at c.requires) in
    let same : c.unwrap.result ≡ place c.in-Some.before c.args.order.now = cc (found, c.unwrap.ensures) in
    rw c.in-Some.is (ap (λ k. k + 1) same)
