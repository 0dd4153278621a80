-- What a span tells of the block at a position of the layout, as offers ask it.
use Rattle.std.specs.Prelude.{◌≡◌, ◌*◌, ℕ, Bool, false, not, nat_eq, List, length, Some, slice_get, slice_index_or}
use Rattle.std.specs.List.{list_any}
use Rattle.target_base.specs.declared.types.Target.{Target}
use Rattle.meaning.specs.Live.{Among}
use Rattle.mir_func.specs.declared.func.Block.{Block}
use Rattle.mir_func.specs.Value.{Function}
use Rattle.mir_meaning.specs.Points.{Start, block_points}
use Rattle.split_choose.specs.declared.spans.Span.{Span}
use Rattle.split_choose.specs.Offers.{View, end_point, operands_in, terminators}
use Rattle.split_choose.specs.Regions.{capped}

-- one of the spans is that of the block
pub record IsTold (t : Target) (f : Function) (v : ℕ) (view : View) (freqs : List ℕ) (spans : List Span) (k : ℕ) (b : Block) (s : Span) : Type 0 where
  pub at : slice_get f.blocks k ≡ Some b
  pub among : Among s spans
  pub position : s.position ≡ k
  pub live_in : s.is_live_in ≡ view.live (Start b.number)
  pub live_out : s.is_live_out ≡ view.live (end_point b)
  pub points : nat_eq (length s.stretches.items) 0 ≡ not (list_any view.is_point (block_points b))
  pub frequency : s.frequency ≡ slice_index_or freqs k 0
  pub uses : s.uses ≡ capped (s.frequency * operands_in t f v view b.instrs)
  pub end_uses : s.end_uses ≡ capped (s.frequency * operands_in t f v view (terminators t f v view b))

-- the range has nothing in the block
pub record IsUntold (t : Target) (f : Function) (v : ℕ) (view : View) (k : ℕ) (b : Block) : Type 0 where
  pub at : slice_get f.blocks k ≡ Some b
  pub live_in : view.live (Start b.number) ≡ false
  pub live_out : view.live (end_point b) ≡ false
  pub points : list_any view.is_point (block_points b) ≡ false
  pub uses : operands_in t f v view b.instrs ≡ 0
