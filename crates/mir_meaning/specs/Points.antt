-- Live and occupied points of a function, what clashes there, and what a range touches.
use Rattle.std.specs.Prelude.{◌≡◌, Decides, ℕ, Bool, true, false, cond, not, ◌&&◌, ◌||◌, nat_eq, nat_lt, List, [], ◌∷◌, ◌++◌, map, flat_map, drop, length, count_by, Some, slice_get}
use Rattle.std.specs.List.{list_all, list_any}
use Rattle.target_base.specs.declared.types.Unit.{Unit as UnitNumber}
use Rattle.target_base.specs.declared.types.Reg.{Reg}
use Rattle.target_base.specs.declared.types.Target.{Target}
use Rattle.target_base.specs.Registers.{units_of}
use Rattle.target_base.specs.Rules.{is_phi}
use Rattle.meaning.specs.declared.types.Lane.{Lane}
use Rattle.meaning.specs.declared.types.Lane.TheVariants.{VirtualLane, UnitLane}
use Rattle.meaning.specs.Code.{Item, Silent, Code, found}
use Rattle.meaning.specs.Live.{Live, LiveAfter, OccupiedBefore, OccupiedAfter}
use Rattle.mir_func.specs.declared.func.Loc.{Loc}
use Rattle.mir_func.specs.declared.func.Loc.TheVariants.{Virtual, Fixed}
use Rattle.mir_func.specs.declared.func.RegOp.{RegOp}
use Rattle.mir_func.specs.declared.func.Instr.{Instr}
use Rattle.mir_func.specs.declared.func.Block.{Block}
use Rattle.mir_func.specs.Value.{Function}
use Rattle.mir_func.specs.Edits.{instr_place}
use Rattle.mir_func.specs.Binding.{does, registers}
use Rattle.mir_meaning.specs.Registers.{is_reserved}
use Rattle.mir_meaning.specs.Items.{defined_undef}
use Rattle.mir_meaning.specs.Codes.{item_of, block_end, blocks_code, code_of}

-- the start of the block of a number; the entry and the exit of the instruction of an id
pub data Point : Type 0 where
  Start Entry Exit : (number : ℕ) → Point

-- An instruction as liveness sees it. A phi reads its operands on the ways into its block, as in the code of
-- runs, but begins its result where it stands, not before the block's start.
unfoldable pub point_item : Target → Function → Block → Instr → Item
point_item t f b i = cond (does is_phi t i) (Silent [] (defined_undef t f i.operands)) (item_of t f b i)

-- the code whose live lanes are those of the function; without phis it is the code of runs
unfoldable pub points_of : Target → Function → Code
points_of t f = blocks_code (point_item t f) t f f.blocks

-- that code from the k-th instruction of a block on
abbrev pub block_rest : Target → Function → Block → List Block → ℕ → Code
block_rest t f b after k = map (point_item t f b) (drop k b.instrs) ++ (block_end t f b after ∷ blocks_code (point_item t f) t f after)

-- an instruction of the block has the id
abbrev pub has_instr : ℕ → Block → Bool
has_instr id b = nat_lt (instr_place id b.instrs) (length b.instrs)

-- that code from the instruction of an id on
abbrev pub from_instr : Target → Function → ℕ → List Block → Code
from_instr t f id [] = []
from_instr t f id (b ∷ after) = cond (has_instr id b) (block_rest t f b after (instr_place id b.instrs)) (from_instr t f id after)

-- what holds of the first item of a code and the rest
abbrev pub AtFirst : (Item → Code → Type 0) → Code → Type 0
AtFirst P [] = ⊥
AtFirst P (i ∷ p) = P i p

-- the lane is live at the point
abbrev pub LiveAt : Target → Function → Point → Lane → Type 0
LiveAt t f (Start n) l = Live (is_reserved t) (points_of t f) (found n (points_of t f)) l
LiveAt t f (Entry id) l = Live (is_reserved t) (points_of t f) (from_instr t f id f.blocks) l
LiveAt t f (Exit id) l = AtFirst (λ i p. LiveAfter (is_reserved t) (points_of t f) i p l) (from_instr t f id f.blocks)

-- the lane is live or occupied at the point: a written one at the exit, an early-clobber one at the entry too
abbrev pub OccupiedAt : Target → Function → Point → Lane → Type 0
OccupiedAt t f (Start n) l = LiveAt t f (Start n) l
OccupiedAt t f (Entry id) l = AtFirst (λ i p. OccupiedBefore (is_reserved t) (points_of t f) i p l) (from_instr t f id f.blocks)
OccupiedAt t f (Exit id) l = AtFirst (λ i p. OccupiedAfter (is_reserved t) (points_of t f) i p l) (from_instr t f id f.blocks)

-- the points of a range: those at which some lane of it is live or occupied
abbrev pub RangePoint : Target → Function → ℕ → Point → Type 0
RangePoint t f v p = (k : ℕ) × OccupiedAt t f p (VirtualLane v k)

-- lane k of the range is held in the unit at the point, where the range has the register
pub record HeldIn (t : Target) (f : Function) (v : ℕ) (r : Reg) (p : Point) (u : UnitNumber) : Type 0 where
  pub k : ℕ
  pub occupied : OccupiedAt t f p (VirtualLane v k)
  pub unit : slice_get (units_of t r) k ≡ Some u

-- two ranges with these registers clash: at one point lanes of both would be held in one unit
abbrev pub RangesClash : Target → Function → ℕ → Reg → ℕ → Reg → Type 0
RangesClash t f v r w q = (p : Point) × (u : UnitNumber) × HeldIn t f v r p u × HeldIn t f w q p u

-- a range with this register clashes with a unit that is live or written itself
abbrev pub UnitClash : Target → Function → ℕ → Reg → UnitNumber → Type 0
UnitClash t f v r u = (p : Point) × HeldIn t f v r p u × OccupiedAt t f p (UnitLane u.0)

-- the points of a function in layout
abbrev pub block_points : Block → List Point
block_points b = Start b.number ∷ flat_map (λ i. Entry i.id ∷ Exit i.id ∷ []) b.instrs

-- all points of a function in layout
abbrev pub all_points : Function → List Point
all_points f = flat_map block_points f.blocks

-- the test answers true just where the statement holds
abbrev pub Tests : {X : Type 0} → (X → Type 0) → (X → Bool) → Type 0
Tests {X} P test = (x : X) → Decides (test x) (P x)

-- so many points are points of the range
abbrev pub PointCount : Target → Function → ℕ → ℕ → Type 0
PointCount t f v n = (test : Point → Bool) × Tests (RangePoint t f v) test × (n ≡ count_by test (all_points f))

-- the location is that virtual register
abbrev pub is_range : ℕ → Loc → Bool
is_range v (Virtual w) = nat_eq v w
is_range v (Fixed r) = false

-- the operand counts as naming its register: all do but `undef` uses
abbrev pub counts : RegOp → Bool
counts o = o.def || not o.undef

-- the range touches the instruction
abbrev pub touches : ℕ → Instr → Bool
touches v i = list_any (λ o. is_range v o.loc && counts o) (registers i.operands)

-- no instruction of these blocks is a phi
abbrev pub has_no_phis : Target → List Block → Bool
has_no_phis t bs = list_all (λ b. list_all (λ i. not (does is_phi t i)) b.instrs) bs

-- without phis the code of live points is the code of runs
abbrev pub LawOfPoints : Type 0
LawOfPoints = (t : Target) (f : Function) → has_no_phis t f.blocks ≡ true → points_of t f ≡ code_of t f
