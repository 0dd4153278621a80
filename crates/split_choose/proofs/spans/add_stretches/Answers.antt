use Rattle.std.proofs.Common.{◌≡◌, [], ◌∷◌, ◌∙◌, ap, slice_get, Vec, Global, Bool}
use Rattle.std.specs.Prelude.{◌||◌}
use Rattle.std.specs.List.{list_any}
use Rattle.live_lanes.specs.declared.ask.extent.Stretch.{Stretch}
use Rattle.live_lanes.specs.Table.{Numbers}
use Rattle.live_lanes.specs.Extents.{stretch_of}
use Rattle.live_lanes.specs.Entered.{cells_of}
use Rattle.split_choose.proofs.Building.{piece-added, piece-missing}
use Rattle.split_choose.proofs.spans.add_stretches.Goals.{in-Some+in_ok-join, in_default}
use Rattle.split_choose.proofs.spans.add_stretches.Goals as goal

pub pieces-preserved : goal.pieces-preserved
pieces-preserved c = λ (p : Stretch → Bool).
    let slots = c.args.live.now.table.order.slots in
    let cell = slice_get (cells_of c.args.live.now.table.rows.rows.items c.args.lane) c.args.place in
    elim c.match-extent.branch [
      | in-Some+in_ok-join w ↦
          let pushed : list_any p c.match-extent.stretches.items ≡ (list_any p c.pieces.stretches.items || list_any p (stretch_of slots w.in-Some.extent ∷ [])) =
          ap (λ (s : Vec Stretch Global). list_any p s.items) w.stretches-is
          ∙ (w.in_ok-join.ensures p ∙ ap (λ (s : Stretch). list_any p c.pieces.stretches.items || list_any p (s ∷ [])) (w.stretch.ensures ∙ ap (λ (r : Numbers). stretch_of r w.in-Some.extent) w.slots.ensures)) in
          pushed ∙ piece-added slots cell c.pieces.index p c.args.stretches.now.items (list_any p c.pieces.stretches.items) w.in-Some.extent w.in-Some.ensures (c.pieces.invariant p)
      | in_default w ↦ ap (λ (s : Vec Stretch Global). list_any p s.items) w.stretches-is ∙ piece-missing slots cell c.pieces.index p c.args.stretches.now.items (list_any p c.pieces.stretches.items) w.in_default.ensures (c.pieces.invariant p)
    ]
