use Rattle.std.proofs.Common.{◌≡◌, IfOk, [], map, flat_map, subst, ◌∙◌}
use Rattle.meaning.specs.declared.types.Lane.TheVariants.{SlotLane}
use Rattle.instr_effects.proofs.items.silent.at_all_widths.Goals as goal

-- src/items/silent.rt:363:1
pub returns : goal.returns
returns c =
    subst
    (λ ws. IfOk c.at_widths.result (λ made. made ≡ flat_map (λ k. map (λ w. SlotLane c.args.s k w) ws) c.args.lanes.now))
    (c.as_slice.ensures ∙ c.in_ok-widths.ensures)
    c.at_widths.ensures
