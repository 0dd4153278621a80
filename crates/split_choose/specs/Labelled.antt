-- The labels of a choice of nodes over the blocks of a range, and the region that it is.
use Rattle.std.specs.Prelude.{◌≡◌, ℕ, Bool, true, false, cond, ◌&&◌, List, [], ◌∷◌, ◌++◌, flat_map, Option, None, Some, option_map, slice_get}
use Rattle.target_base.specs.declared.types.Reg.{Reg}
use Rattle.target_base.specs.declared.types.Target.{Target}
use Rattle.mir_func.specs.declared.func.Block.{Block}
use Rattle.mir_func.specs.Value.{Function}
use Rattle.live_lanes.specs.declared.ask.labels.Mark.{Mark}
use Rattle.interference.specs.declared.matrix.Matrix.{Matrix}
use Rattle.cut_place.specs.Flows.{in_set}
use Rattle.split_choose.specs.declared.spans.Span.{Span}
use Rattle.split_choose.specs.declared.nets.BlockNodes.{BlockNodes}
use Rattle.split_choose.specs.declared.cuts.Sides.{Sides}
use Rattle.split_choose.specs.declared.cuts.RegionCut.{RegionCut}
use Rattle.split_choose.specs.declared.cuts.Region.{Region}
use Rattle.split_choose.specs.Offers.{View, first_id, at_start, before_terminators}
use Rattle.split_choose.specs.Cuts.{same_gap, change_at}
use Rattle.split_choose.specs.Choices.{IsBestBelow}

-- whether a node is in; without a node what else is
abbrev pub is_node_in : List Bool → Option ℕ → Bool → Bool
is_node_in inside None otherwise = otherwise
is_node_in inside (Some n) otherwise = in_set inside n

-- which parts of a block are in: where the range isn't live at a border, the inside reaches so far
abbrev pub sides_of : List Bool → BlockNodes → Sides
sides_of inside r = record {
  start = is_node_in inside r.entry (is_node_in inside r.inside false);
  inside = is_node_in inside r.inside false;
  end = is_node_in inside r.exit (is_node_in inside r.inside false);
}

-- the range is live at the block's exit
abbrev pub has_exit : BlockNodes → Bool
has_exit r = elim r.exit [ None ↦ false | Some n ↦ true ]

-- whether what is behind the first gap is in: the inside, which has no extent where it would begin at the gap before which it ends
abbrev pub behind_first : BlockNodes → Sides → Bool → Bool
behind_first r s is_one_gap = cond (has_exit r && is_one_gap) s.start s.inside

-- from a gap of a block on another label holds than before, if there is such a block
abbrev pub changes_in : Option Block → Option ℕ → (old new : Bool) → List Mark
changes_in None before old new = []
changes_in (Some b) before old new = change_at b.number before old new

module _ (t : Target) (f : Function) (v : ℕ) (view : View) where
  -- the marks of a block: from its start on, from its first gap on, and from the gap before its terminators on
  abbrev pub side_marks : (start middle end : Bool) → Block → List Mark
  side_marks start middle end b =
      cond start (at_start b.number 1 ∷ []) []
      ++ change_at b.number (first_id b.instrs) start middle
      ++ change_at b.number (before_terminators t f v view b) middle end

  -- those of the block of a row, of which these sides are in
  abbrev pub row_marks : BlockNodes → Sides → Option Block → List Mark
  row_marks r s None = []
  row_marks r s (Some b) = side_marks s.start (behind_first r s (same_gap (first_id b.instrs) (before_terminators t f v view b))) s.end b

  -- those of all rows, of which these nodes are in
  abbrev pub rows_marks : List Bool → List BlockNodes → List Mark
  rows_marks inside rows = flat_map (λ r. row_marks r (sides_of inside r) (slice_get f.blocks r.position)) rows

  -- the region of a choice
  abbrev pub region_of : RegionCut → Region
  region_of choice = record {
    reg = choice.register;
    labels = rows_marks choice.cut.inside choice.placing.rows.items;
    cut = choice.cut;
    base = choice.placing.base;
  }

  -- The region is that of the first of these registers whose least choice costs least, and less than so much; none where there is no such.
  pub record IsBestRegion (m : Matrix) (w : ℕ) (parents : List ℕ) (spans : List Span) (most : ℕ) (rs : List Reg) (region : Option Region) : Type 0 where
    pub choice : Option RegionCut
    pub best : IsBestBelow m w parents spans most rs choice
    pub same : region ≡ option_map region_of choice
