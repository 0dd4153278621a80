-- No two ranges of a state of an allocation hold a unit at one point.
use Rattle.std.proofs.Common.{◌≡◌, ◌<◌, ◌≤◌, ◌⊎◌, inl, inr, ⊎_elim, ℕ, refl, arith}
use Rattle.std.specs.Prelude.{◌≢◌}
use Rattle.std.proofs.lemmas.Bool.{cases_lt}
use Rattle.meaning.specs.Live.{Among as Member}
use Rattle.mir_meaning.specs.Paths.{Among}
use Rattle.live_lanes.specs.declared.ask.extent.Extent.{Extent}
use Rattle.live_lanes.specs.Extents.{first_rank, last_rank}
use Rattle.live_lanes.specs.Looks.{InOrder}
use Rattle.live_lanes.specs.Table.{Numbers}
use Rattle.lowering_laws.specs.Shapes.{IsLowered}
use Rattle.interference.specs.declared.held.RangeExtent.{RangeExtent}
use Rattle.interference.specs.declared.matrix.Matrix.{Matrix}
use Rattle.interference.specs.EditedLists.{LieApart, whole_at}
use Rattle.interference.specs.EditedMatrix.{NoneClash}
use Rattle.interference.proofs.ComputedEnds.{computed-ends}
use Rattle.interference.proofs.NewRange.{in-order}
use Rattle.spiller.specs.Slots.{Slots}
use Rattle.alloc_laws.proofs.Clashes.Facts.{holders-clash}
use Rattle.alloc_laws.proofs.Clashes.Free.{listed}
use Rattle.alloc_laws.proofs.Clashes.Kept.{lies-in-turn, whole-holding}
use Rattle.state_laws.specs.Clear.{IsOfState, StateStandsClear}

module _ (m : Matrix) (s : Slots) (state : IsOfState m s) where
  abbrev slots : Numbers
  slots = m.live.table.order.slots

  low : IsLowered m.live.target m.live.func
  low = state.state.ready.run.lowered

  pub order : InOrder m.live.table
  order = in-order m.live.target m.live.func m.live.table state.computed low.rules low.terminators

  -- the extents of two ranges in one unit have no number in common
  none-common : (u b v w : ℕ) → v ≢ w → (e f : Extent) → Among e (whole_at m u b v) → Among f (whole_at m u b w) → first_rank slots f ≤ last_rank slots e → first_rank slots e ≤ last_rank slots f → ⊥
  none-common u b v w differ e f first second high low-end =
      let g = whole-holding m u b v e (listed e (whole_at m u b v) first) in
      let h = whole-holding m u b w f (listed f (whole_at m u b w) second) in
      state.state.registers.ranges v w g.1.0 h.1.0 differ g.1.1 h.1.1
      (holders-clash m state.computed low.rules low.terminators u b (record { range = v; extent = e }) (record { range = w; extent = f }) g h high low-end)

  pub none-clash : NoneClash m
  none-clash u b v w differ e f first second = go (cases_lt (last_rank slots e) (first_rank slots f)) (cases_lt (last_rank slots f) (first_rank slots e))
    where
      go : (last_rank slots e < first_rank slots f) ⊎ (first_rank slots f ≤ last_rank slots e) → (last_rank slots f < first_rank slots e) ⊎ (first_rank slots e ≤ last_rank slots f) → LieApart slots e f
      go (inl lt) c = inl lt
      go (inr le) (inl lt) = inr lt
      go (inr le) (inr ge) = absurd (none-common u b v w differ e f first second le ge)

pub state_stands_clear : StateStandsClear
state_stands_clear m s state =
    let low = state.state.ready.run.lowered in
    record {
      order = order m s state;
      lies = lies-in-turn m state.computed low.rules low.terminators (order m s state);
      clear = none-clash m s state;
      ends = computed-ends m.live.target m.live.func m.live.table state.computed low.rules low.terminators;
    }
