-- What splitting asks of a function with what is live in it.
use Rattle.std.specs.Prelude.{◌≡◌, ◌+◌, ◌<◌, ◌≤◌, ℕ, true, length, replicate, is_some, List, Option, Some}
use Rattle.target_base.specs.declared.types.ClassId.{ClassId}
use Rattle.target_base.specs.declared.types.Target.{Target}
use Rattle.target_base.specs.Registers.{IsClass}
use Rattle.mir_func.specs.Binding.{class_of}
use Rattle.mir_func.specs.Value.{Function, IsFunction}
use Rattle.mir_meaning.specs.Points.{has_no_phis}
use Rattle.live_lanes.specs.declared.ask.labels.Mark.{Mark}
use Rattle.live_lanes.specs.declared.live.LiveFunc.{LiveFunc}
use Rattle.live_lanes.specs.declared.table.Table.{Table}
use Rattle.live_lanes.specs.Doing.{IsComputed}
use Rattle.live_laws.specs.Effects.Coded.{KeepsRules}
use Rattle.live_laws.specs.Touch.{are_known}
use Rattle.edit_laws.specs.Further.{KeepsLast, with_classes}
use Rattle.live_edits.specs.Folded.{TouchesNamed}
use Rattle.live_edits.specs.LiveRuns.{IsExact}
use Rattle.split_kit.specs.PartEdits.{AreInTurn}
use Rattle.split_kit.specs.Split.{Split, greatest_label}

-- The table is computed for the function, which keeps the rules on which liveness rests and has no phis and no excluded opcodes; the
-- range is one of its, and no instruction names it in uses alone that are `undef`; its parts have numbers; and labels begin in layout order.
pub record MaySplit (t : Target) (f : Function) (x : Table) (v : ℕ) (ms : List Mark) : Type 0 where
  pub computed : IsComputed t f x
  pub rules : KeepsRules t f
  pub last : KeepsLast t f
  pub function : IsFunction f.blocks f.next_id
  pub blocks : length f.blocks < 4294967296
  pub phis : has_no_phis t f.blocks ≡ true
  pub known : are_known t f.blocks ≡ true
  pub class : is_some (class_of f v) ≡ true
  pub named : TouchesNamed f v
  pub few : length f.classes + greatest_label ms < 2147483648
  pub marks : AreInTurn f ms

abbrev pub MaySplitLive : LiveFunc → ℕ → List Mark → Type 0
MaySplitLive x v ms = MaySplit x.target x.func x.table v ms

-- the function is split, and the table is computed for it
abbrev pub IsSplit : LiveFunc → ℕ → List Mark → LiveFunc → Type 0
IsSplit old v ms new = Split old.target old.func v ms new.func × IsExact old.target new.func new

-- the function has further classes, and the table is computed for it
abbrev pub HasFurther : LiveFunc → List (Option ClassId) → LiveFunc → Type 0
HasFurther old cs new = IsExact old.target (with_classes old.func cs) new

-- what new ranges of a class ask
pub record MayGrow (x : LiveFunc) (class : ClassId) (count : ℕ) : Type 0 where
  pub computed : IsComputed x.target x.func x.table
  pub rules : KeepsRules x.target x.func
  pub last : KeepsLast x.target x.func
  pub there : IsClass x.target class
  pub few : length x.func.classes + count ≤ 2147483648

-- so many ranges of the class are new
pub record HasNew (old : LiveFunc) (class : ClassId) (count : ℕ) (new : LiveFunc) : Type 0 where
  pub target : new.target ≡ old.target
  pub further : HasFurther old (replicate count (Some class)) new
