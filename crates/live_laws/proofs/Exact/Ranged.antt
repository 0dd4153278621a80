-- A computed table tells of each range exactly at which points one of its lanes is live or occupied.
use Rattle.std.proofs.Common.{◌≡◌, ◌<◌, ℕ, ◌+◌, true, cond, Some, None, refl, ap, ◌∙◌}
use Rattle.std.specs.Prelude.{◌↔◌, slice_get}
use Rattle.std.proofs.lemmas.Bool.{lt-ltb}
use Rattle.target_base.specs.declared.types.Target.{Target}
use Rattle.meaning.specs.declared.types.Lane.TheVariants.{VirtualLane}
use Rattle.mir_func.specs.Value.{Function}
use Rattle.mir_meaning.specs.Points.{Point, Start, Entry, Exit, OccupiedAt}
use Rattle.instr_effects.specs.declared.row.LaneSpan.{LaneSpan}
use Rattle.instr_effects.specs.Numbers.{row_number_in}
use Rattle.instr_effects.specs.Numbered.{number_in}
use Rattle.instr_effects.specs.Stepping.{tag_of}
use Rattle.live_laws.specs.Effects.Shaped.{is_proper}
use Rattle.live_lanes.specs.declared.table.Table.{Table}
use Rattle.live_lanes.specs.Table.{entry_rank, exit_rank}
use Rattle.live_lanes.specs.Entered.{rows_seen}
use Rattle.live_lanes.specs.Held.{held_at, any_held}
use Rattle.live_laws.specs.Exact.Occupied.{TellsOccupied, LanePoint, TellsRangeLaw}
use Rattle.live_laws.proofs.Exact.Occupied.{occupied-law}
use Rattle.live_laws.proofs.Exact.Counted.{any-forth, any-back}

module _ (t : Target) (f : Function) (x : Table) (v : ℕ) (own : LaneSpan) (e : slice_get x.lanes.ranges.items v ≡ Some own) where
  -- the numbers of its lanes
  tagged : (j : ℕ) → j < own.count → tag_of (number_in x.lanes) (is_proper t) (VirtualLane v j) ≡ Some (own.first + j)
  tagged j lt = ap (λ q. row_number_in q j) e ∙ ap (λ u. cond u (Some (own.first + j)) None) (lt-ltb j own.count lt)

  told : (p : Point) (b at : ℕ) → ((j : ℕ) → j < own.count → (held_at x.order.slots (rows_seen x.rows.rows.items (own.first + j) b) at ≡ true) ↔ OccupiedAt t f p (VirtualLane v j)) → (any_held x.order.slots x.rows.rows.items own.first own.count b at ≡ true) ↔ LanePoint t f v own.count p
  told p b at h = (
    (λ g. let z = any-forth x.order.slots x.rows.rows.items own.first own.count b at g in (z.0, z.1, (h z.0 z.1).0 z.2)),
    (λ z. any-back x.order.slots x.rows.rows.items own.first own.count b at z.0 z.1 ((h z.0 z.1).1 z.2)),
  )

pub range-law : TellsRangeLaw
range-law t f x computed rules last v own e =
    let tells : TellsOccupied t f x = occupied-law t f x computed rules last in
    record {
      start = λ k b g. told t f x v own e (Start b.number) k 0 (λ j lt. tells.start (VirtualLane v j) (own.first + j) refl (tagged t f x v own e j lt) k b g);
      entry = λ id p k at. told t f x v own e (Entry id) p (entry_rank x.order.slots id) (λ j lt. tells.entry (VirtualLane v j) (own.first + j) refl (tagged t f x v own e j lt) id p k at);
      exit = λ id p k at. told t f x v own e (Exit id) p (exit_rank x.order.slots id) (λ j lt. tells.exit (VirtualLane v j) (own.first + j) refl (tagged t f x v own e j lt) id p k at);
    }
