-- What a run asks of its function; joins, splits and spills keep it, and ask no more.
use Rattle.std.specs.Prelude.{◌≡◌, ◌+◌, ◌<◌, ℕ, true, length, is_some, List, []}
use Rattle.target_base.specs.declared.types.Target.{Target}
use Rattle.mir_func.specs.Value.{Function, IsFunction}
use Rattle.mir_func.specs.Binding.{class_of}
use Rattle.mir_meaning.specs.Points.{has_no_phis}
use Rattle.live_lanes.specs.declared.ask.labels.Mark.{Mark}
use Rattle.live_lanes.specs.declared.table.Table.{Table}
use Rattle.live_lanes.specs.Doing.{IsComputed}
use Rattle.live_laws.specs.Effects.Coded.{KeepsRules}
use Rattle.live_laws.specs.Touch.{are_known}
use Rattle.edit_laws.specs.Deferred.{SpareGone}
use Rattle.edit_laws.specs.Edits.{Edit}
use Rattle.edit_laws.specs.Further.{KeepsLast}
use Rattle.lowering_laws.specs.Shapes.{IsLowered}
use Rattle.live_edits.specs.declared.fold.Join.{Join}
use Rattle.live_edits.specs.Folded.{folded}
use Rattle.live_edits.specs.Runs.{HavePlaces, MayBeEdited}
use Rattle.join_laws.specs.Joined.{Joined}
use Rattle.join_laws.specs.Laws.{HasPlainUndefs}
use Rattle.spill_laws.specs.Laws.{AreLowered}
use Rattle.spill_laws.specs.Named.{HasFixedUndefs}
use Rattle.split_kit.specs.MaySplit.{MaySplit}
use Rattle.split_kit.specs.PartEdits.{AreInTurn}
use Rattle.split_kit.specs.Split.{Split, greatest_label}
use Rattle.split_laws.specs.Turns.{TouchesAllNamed}

-- What a run asks of its function: it is in the form in which ranges are joined, split and spilled, with classes of the target;
-- each of its instructions is in lowered form; and each `undef` use is tied or a physical register.
pub record IsInRun (t : Target) (f : Function) : Type 0 where
  pub lowered : IsLowered t f
  pub instrs : AreLowered t f
  pub undefs : HasFixedUndefs t f

-- What edits, joins, splits and rewriting ask of the function alone: ids are distinct; the rules hold on which liveness rests; behind a
-- terminator stand terminators only; no instruction is a phi, and none has an excluded opcode; none has an `undef` definition or is a
-- copy of an `undef` source; and none names a range in `undef` uses alone.
pub record IsEditable (t : Target) (f : Function) : Type 0 where
  pub function : IsFunction f.blocks f.next_id
  pub rules : KeepsRules t f
  pub last : KeepsLast t f
  pub phis : has_no_phis t f.blocks ≡ true
  pub known : are_known t f.blocks ≡ true
  pub plain : HasPlainUndefs t f
  pub named : TouchesAllNamed f

-- the function of a run meets that
abbrev pub InRunIsEditable : Type 0
InRunIsEditable = (t : Target) (f : Function) → IsInRun t f → IsEditable t f

-- so it may be edited wherever a table is computed for it and the edits have their places,
abbrev pub InRunMayBeEdited : Type 0
InRunMayBeEdited =
    (t : Target) (f : Function) (x : Table) (es : List Edit) → IsInRun t f → IsComputed t f x → length f.blocks < 4294967296
    → HavePlaces t f es → SpareGone [] f es → MayBeEdited t f x es

-- and each of its ranges may be split by labels in layout order
abbrev pub InRunMaySplit : Type 0
InRunMaySplit =
    (t : Target) (f : Function) (x : Table) (v : ℕ) (ms : List Mark) → IsInRun t f → IsComputed t f x → length f.blocks < 4294967296
    → is_some (class_of f v) ≡ true → length f.classes + greatest_label ms < 2147483648 → AreInTurn f ms → MaySplit t f x v ms

-- A join keeps lowered form of instructions, and that each `undef` use is tied or a physical register.
abbrev pub JoinKeepsUndefs : Type 0
JoinKeepsUndefs = (t : Target) (f : Function) (j : Join) → AreLowered t f → HasFixedUndefs t f → AreLowered t (folded t j f) × HasFixedUndefs t (folded t j f)

-- So do all joins, one after the other,
abbrev pub JoinedKeepsUndefs : Type 0
JoinedKeepsUndefs = (t : Target) (freqs : List ℕ) (f g : Function) (js : List Join) → AreLowered t f → HasFixedUndefs t f → Joined t freqs f js g → AreLowered t g × HasFixedUndefs t g

-- and a split.
abbrev pub SplitKeepsUndefs : Type 0
SplitKeepsUndefs = (t : Target) (f g : Function) (v : ℕ) (ms : List Mark) → AreLowered t f → HasFixedUndefs t f → Split t f v ms g → AreLowered t g × HasFixedUndefs t g
