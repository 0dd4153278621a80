-- Registers of ranges without clashes, and changes that leave none.
use Rattle.std.specs.Prelude.{◌≡◌, ◌≢◌, ◌≤◌, ◌<◌, ℕ, true, length, IsSome, Option, None, Some, slice_get, slice_set}
use Rattle.target_base.specs.declared.types.ClassId.{ClassId}
use Rattle.target_base.specs.declared.types.Reg.{Reg}
use Rattle.target_base.specs.declared.types.Unit.{Unit as UnitNumber}
use Rattle.target_base.specs.declared.types.Target.{Target}
use Rattle.meaning.specs.Live.{Among as Member}
use Rattle.meaning.specs.declared.types.Lane.{Lane}
use Rattle.meaning.specs.declared.types.Lane.TheVariants.{VirtualLane, UnitLane, SlotLane}
use Rattle.mir_func.specs.declared.func.Instr.{Instr}
use Rattle.mir_func.specs.declared.func.Block.{Block}
use Rattle.mir_func.specs.Value.{Function}
use Rattle.mir_meaning.specs.Places.{domain}
use Rattle.mir_meaning.specs.Points.{OccupiedAt, Point, RangesClash, UnitClash}
use Rattle.live_edits.specs.Folded.{names_range}
use Rattle.rewriter.specs.Physical.{Assignment, register_of}
use Rattle.rewrite_laws.specs.Laws.{IsClear}

-- the register is an unreserved one of the range's class
abbrev pub SuitsRange : Target → Function → ℕ → Reg → Type 0
SuitsRange t f v r = (c : ClassId) × (slice_get f.classes v ≡ Some (Some c)) × Member r (domain t (Some c))

-- Each register that a range has is an unreserved one of its class; no two ranges clash, and none clashes with a unit that is
-- live or written itself.
pub record IsApart (t : Target) (f : Function) (rs : Assignment) : Type 0 where
  pub classes : (v : ℕ) (r : Reg) → register_of rs v ≡ Some r → SuitsRange t f v r
  pub ranges : (v w : ℕ) (r q : Reg) → v ≢ w → register_of rs v ≡ Some r → register_of rs w ≡ Some q → RangesClash t f v r w q → ⊥
  pub units : (v : ℕ) (r : Reg) (u : UnitNumber) → register_of rs v ≡ Some r → UnitClash t f v r u → ⊥

-- Where no range has a register, none clash.
abbrev pub NothingIsApart : Type 0
NothingIsApart = (t : Target) (f : Function) (rs : Assignment) → ((v : ℕ) → register_of rs v ≡ None) → IsApart t f rs

-- the range has this register then, or none, and all others have what they had
pub record ChangesOne (rs : Assignment) (v : ℕ) (r : Option Reg) (new : Assignment) : Type 0 where
  pub own : register_of new v ≡ r
  pub others : (w : ℕ) → w ≢ v → register_of new w ≡ register_of rs w

-- So does an assignment of one element of the list.
abbrev pub SetChangesOne : Type 0
SetChangesOne = (rs : Assignment) (v : ℕ) (r : Option Reg) → v < length rs → ChangesOne rs v r (slice_set rs v r)

-- A range gets a register that suits it, with which it clashes with no range that has one, and with no unit.
abbrev pub AssignKeepsApart : Type 0
AssignKeepsApart =
    (t : Target) (f : Function) (rs new : Assignment) (v : ℕ) (r : Reg) → IsApart t f rs → SuitsRange t f v r
    → ((w : ℕ) (q : Reg) → v ≢ w → register_of rs w ≡ Some q → RangesClash t f v r w q → ⊥) → ((u : UnitNumber) → UnitClash t f v r u → ⊥)
    → ChangesOne rs v (Some r) new → IsApart t f new

-- A range loses its register.
abbrev pub UnassignKeepsApart : Type 0
UnassignKeepsApart = (t : Target) (f : Function) (rs new : Assignment) (v : ℕ) → IsApart t f rs → ChangesOne rs v None new → IsApart t f new

-- a lane of a register of the function other than the range, or a unit
abbrev pub IsBeside : Function → ℕ → Lane → Type 0
IsBeside f v (VirtualLane w k) = (w < length f.classes) × (w ≡ v → ⊥)
IsBeside f v (UnitLane u) = Unit {0}
IsBeside f v (SlotLane s k w) = ⊥

-- At each point of g such lanes are live or occupied at most as at one point of f.
abbrev pub KeepsPoints : Target → Function → ℕ → Function → Type 0
KeepsPoints t f v g = (p : Point) → (q : Point) × ((l : Lane) → IsBeside f v l → OccupiedAt t g p l → OccupiedAt t f q l)

-- ranges of f have the same registers, and further ones have none
pub record Extends (f : Function) (rs new : Assignment) : Type 0 where
  pub same : (w : ℕ) → w < length f.classes → register_of new w ≡ register_of rs w
  pub further : (w : ℕ) → length f.classes ≤ w → register_of new w ≡ None

-- g is f behind an edit of a range without register: other ranges have their classes, and are occupied nowhere else.
abbrev pub PointsKeepApart : Type 0
PointsKeepApart =
    (t : Target) (f g : Function) (v : ℕ) (rs new : Assignment) → ((w : ℕ) → w < length f.classes → slice_get g.classes w ≡ slice_get f.classes w) → KeepsPoints t f v g
    → register_of rs v ≡ None → Extends f rs new → IsApart t f rs → IsApart t g new

-- Where each range that is named has a register too, rewriting by these registers keeps the meaning.
abbrev pub EndIsClear : Type 0
EndIsClear =
    (t : Target) (f : Function) (rs : Assignment) → IsApart t f rs
    → ((b : Block) (i : Instr) (v : ℕ) → Member b f.blocks → Member i b.instrs → names_range v i ≡ true → IsSome (register_of rs v)) → IsClear t f rs
