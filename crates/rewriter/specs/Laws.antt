-- What the units that are found live are.
use Rattle.std.specs.Prelude.{◌≡◌, ◌↔◌, ◌≤◌, ◌<◌, ℕ, true, false, length, Some, slice_get}
use Rattle.target_base.specs.declared.types.Reg.{Reg}
use Rattle.target_base.specs.declared.types.Target.{Target}
use Rattle.target_base.specs.Numbers.{unit_number}
use Rattle.target_base.specs.Registers.{units_of}
use Rattle.meaning.specs.declared.types.Lane.{Lane}
use Rattle.meaning.specs.declared.types.Lane.TheVariants.{VirtualLane, UnitLane}
use Rattle.meaning.specs.Live.{Among as Member, is_slot}
use Rattle.mir_func.specs.declared.func.Block.{Block}
use Rattle.mir_func.specs.declared.func.Instr.{Instr}
use Rattle.mir_func.specs.Value.{Function}
use Rattle.mir_meaning.specs.Points.{Start, LiveAt}
use Rattle.mir_meaning.specs.Rules.{V8}
use Rattle.instr_effects.specs.Numbered.{number_in}
use Rattle.instr_effects.specs.Stepping.{tag_of}
use Rattle.live_lanes.specs.declared.live.LiveFunc.{LiveFunc}
use Rattle.live_lanes.specs.declared.table.Table.{Table}
use Rattle.live_lanes.specs.Doing.{IsComputed, lane_code}
use Rattle.live_lanes.specs.Laws.{AllMatched}
use Rattle.live_lanes.specs.Marks.{marked_at}
use Rattle.live_laws.specs.Effects.Coded.{KeepsRules}
use Rattle.live_laws.specs.Effects.Shaped.{is_proper}
use Rattle.rewriter.specs.LiveUnits.{enters, some_enters, is_live_unit}
use Rattle.rewriter.specs.Physical.{Assignment, register_of}

-- in a computed table a lane has points that begin with a block exactly where it is marked live at the block's start
abbrev pub EntersLaw : Type 0
EntersLaw =
    (t : Target) (f : Function) (x : Table) → IsComputed t f x → AllMatched (lane_code t f (number_in x.lanes))
    → (n p : ℕ) → enters x n p ≡ marked_at x.rows.rows.items (Some n) (Some p)

-- the rules that the laws of live lanes ask for
pub record KeepsLiveRules (t : Target) (f : Function) : Type 0 where
  pub rules : KeepsRules t f
  pub last : (b : Block) (j : ℕ) (i : Instr) → Member b f.blocks → slice_get b.instrs j ≡ Some i → V8 t b j i ≡ true

-- where the function keeps these rules, a lane has such points exactly where it is live at the block's start
abbrev pub StartsLaw : Type 0
StartsLaw =
    (t : Target) (f : Function) (x : Table) → IsComputed t f x → KeepsLiveRules t f
    → (l : Lane) → is_slot l ≡ false → (k : ℕ) (b : Block) → slice_get f.blocks k ≡ Some b
    → (some_enters x (tag_of (number_in x.lanes) (is_proper t) l) k ≡ true) ↔ LiveAt t f (Start b.number) l

-- what a unit holds that is live at the start of block n: itself, or a lane of a range in whose register it stands there
pub data HoldsLive (t : Target) (f : Function) (rs : Assignment) (n u : ℕ) : Type 0 where
  itself : LiveAt t f (Start n) (UnitLane u) → HoldsLive t f rs n u
  lane : (v k : ℕ) (r : Reg) → register_of rs v ≡ Some r → slice_get (units_of t r) k ≡ Some (unit_number u) → LiveAt t f (Start n) (VirtualLane v k) → HoldsLive t f rs n u

-- the units that are found live at the start of a block are those that hold something live there
abbrev pub UnitsLaw : Type 0
UnitsLaw =
    (live : LiveFunc) (rs : Assignment) → IsComputed live.target live.func live.table → KeepsLiveRules live.target live.func → length rs ≤ 4294967296
    → (k : ℕ) (b : Block) → slice_get live.func.blocks k ≡ Some b → (u : ℕ) → u < length live.target.units
    → (is_live_unit live rs k u ≡ true) ↔ HoldsLive live.target live.func rs b.number u
