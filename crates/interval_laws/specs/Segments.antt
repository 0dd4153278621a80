-- The segments of a lane: where it is live or occupied, block by block. The list of each block's start and its instructions, in
-- layout, is numbered in steps of 16.
use Rattle.std.specs.Prelude.{ℕ, suc, ◌+◌, ◌*◌, Bool, cond, ◌&&◌, List, [], ◌∷◌, ◌++◌, length}
use Rattle.std.specs.List.{list_any}
use Rattle.target_base.specs.declared.types.Target.{Target}
use Rattle.meaning.specs.declared.types.Lane.{Lane}
use Rattle.meaning.specs.Lanes.{same_lane}
use Rattle.meaning.specs.Live.{writes_of}
use Rattle.mir_func.specs.declared.func.Instr.{Instr}
use Rattle.mir_func.specs.declared.func.Block.{Block}
use Rattle.mir_func.specs.Value.{Function}
use Rattle.mir_meaning.specs.Points.{Point, Start, Entry, Exit, point_item}

-- how an end of a segment is written: a number and a letter
abbrev pub Mark : Type 0
Mark = ℕ × ℕ

-- `B`: at the border of a block
abbrev pub at_border : ℕ → Mark
at_border n = (n, 66)

-- `r`: at an instruction that reads or writes the lane
abbrev pub at_instr : ℕ → Mark
at_instr n = (n, 114)

-- `e`: at an instruction that writes it by an early-clobber definition
abbrev pub at_early : ℕ → Mark
at_early n = (n, 101)

-- `d`: at the exit alone of the instruction that writes it
abbrev pub at_exit : ℕ → Mark
at_exit n = (n, 100)

-- from one point up to another
abbrev pub Segment : Type 0
Segment = Mark × Mark

-- at which points a lane is live, which instructions of a block write it, and which do by an early-clobber definition
pub record Facts : Type 0 where
  pub live : Point → Bool
  pub writes : Block → Instr → Bool
  pub early : Block → Instr → Bool

-- the mark of the last of these points at which the lane is live; where it is at none, this one
abbrev pub last_live : (Point → Bool) → Mark → List (Point × Mark) → Mark
last_live live m [] = m
last_live live m ((p, q) ∷ ps) = last_live live (cond (live p) q m) ps

-- the mark of an instruction's exit: behind the last one comes the block's end
abbrev pub exit_mark : ℕ → Mark → List Instr → Mark
exit_mark end m [] = at_border end
exit_mark end m (i ∷ is) = m

-- the points from these instructions on up to the next writing, with their marks; the first instruction has number n
abbrev pub points_until : (Instr → Bool) → ℕ → ℕ → List Instr → List (Point × Mark)
points_until writes end n [] = []
points_until writes end n (i ∷ is) =
    (Entry i.id, at_instr n) ∷ cond (writes i) [] ((Exit i.id, exit_mark end (at_instr n) is) ∷ points_until writes end (n + 16) is)

-- the segment that begins with a writing of an instruction of number n, behind which these follow
abbrev pub written_segment : (Point → Bool) → (Instr → Bool) → Bool → ℕ → ℕ → Instr → List Instr → Segment
written_segment live writes early end n i is =
    (cond early (at_early n) (at_instr n), last_live live (at_exit n) ((Exit i.id, exit_mark end (at_exit n) is) ∷ points_until writes end (n + 16) is))

-- the segments that begin with writings of these instructions
abbrev pub written_segments : (Point → Bool) → (Instr → Bool) → (Instr → Bool) → ℕ → ℕ → List Instr → List Segment
written_segments live writes early end n [] = []
written_segments live writes early end n (i ∷ is) =
    cond (writes i) (written_segment live writes (early i) end n i is ∷ []) [] ++ written_segments live writes early end (n + 16) is

-- the segment that begins with a block, where the lane is live at its start
abbrev pub started_segments : (Point → Bool) → (Instr → Bool) → ℕ → ℕ → Block → List Segment
started_segments live writes start end b =
    cond (live (Start b.number)) ((at_border start, last_live live (at_border end) (points_until writes end (start + 16) b.instrs)) ∷ []) []

-- the segments in a block that has this number, behind which comes `end`
abbrev pub block_segments : Facts → ℕ → ℕ → Block → List Segment
block_segments s start end b =
    started_segments s.live (s.writes b) start end b ++ written_segments s.live (s.writes b) (s.early b) end (start + 16) b.instrs

-- the number behind a block that has this number
abbrev pub behind : ℕ → Block → ℕ
behind n b = n + 16 * suc (length b.instrs)

-- the segments in these blocks, the first of which has this number
abbrev pub segments_from : Facts → ℕ → List Block → List Segment
segments_from s n [] = []
segments_from s n (b ∷ bs) = block_segments s n (behind n b) b ++ segments_from s (behind n b) bs

-- what an instruction of a block writes, by its item
abbrev pub facts_of : Target → Function → Lane → (Point → Bool) → Facts
facts_of t f l live = record {
  live = live;
  writes = λ b i. list_any (λ w. same_lane l w.lane) (writes_of (point_item t f b i));
  early = λ b i. list_any (λ w. same_lane l w.lane && w.early) (writes_of (point_item t f b i));
}

-- the segments of a lane of a function, where `live` tells at which points it is live
abbrev pub lane_segments : Target → Function → Lane → (Point → Bool) → List Segment
lane_segments t f l live = segments_from (facts_of t f l live) 0 f.blocks
