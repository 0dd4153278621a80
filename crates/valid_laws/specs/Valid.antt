-- A function whose ranges stand in registers without clashes is valid in physical form.
use Rattle.std.specs.Prelude.{◌≡◌, ◌≤◌, ℕ, Bool, true, length, List}
use Rattle.std.specs.List.{list_all}
use Rattle.target_base.specs.declared.types.ClassId.{ClassId}
use Rattle.target_base.specs.declared.types.Target.{Target}
use Rattle.mir_func.specs.Value.{Function}
use Rattle.mir_meaning.specs.declared.Form.TheVariants as forms
use Rattle.mir_meaning.specs.Valid.{IsValid}
use Rattle.live_lanes.specs.declared.live.LiveFunc.{LiveFunc}
use Rattle.live_lanes.specs.Doing.{IsComputed}
use Rattle.lowering_laws.specs.Form.{is_lowered}
use Rattle.lowering_laws.specs.Shapes.{IsLowered}
use Rattle.rewriter.specs.LiveUnits.{is_live_unit}
use Rattle.rewriter.specs.Physical.{Assignment, physical_form}
use Rattle.rewrite_laws.specs.Laws.{IsClear}
use Rattle.valid_laws.specs.Rules.{HasBlockRules, HasFlags, HasSlots, HasStart, HasTies, StandsClear, TellsUnits}

-- A function at the end of its allocation, with the slots that were made. Each instruction is in lowered form; blocks, flags and
-- frame objects keep the rules of a source; no range is live at the start of its first block, which lists the units that are.
pub record IsReady (t : Target) (f : Function) (rs : Assignment) (slots : List (ℕ × ClassId)) : Type 0 where
  pub lowered : IsLowered t f
  pub formed : list_all (λ b. list_all (is_lowered t) b.instrs) f.blocks ≡ true
  pub clear : IsClear t f rs
  pub blocks : HasBlockRules t f
  pub flags : HasFlags t f
  pub frames : HasSlots t f slots
  pub start : HasStart t f

-- its ranges stand in registers without clashes, and tied uses have their definitions' registers
abbrev pub ReadyStands : Type 0
ReadyStands = (t : Target) (f : Function) (rs : Assignment) (slots : List (ℕ × ClassId)) → IsReady t f rs slots → StandsClear t f rs × HasTies t f

-- in physical form it is valid as an allocated function, where the units are told that hold something live
abbrev pub RewriteIsValid : Type 0
RewriteIsValid =
    (t : Target) (f : Function) (rs : Assignment) (slots : List (ℕ × ClassId)) (live : ℕ → ℕ → Bool)
    → IsReady t f rs slots → TellsUnits t f rs live → IsValid t forms.Allocated (physical_form t rs slots live f)

-- so it is with the units that are found live by a computed table
abbrev pub RewrittenIsValid : Type 0
RewrittenIsValid =
    (live : LiveFunc) (rs : Assignment) (slots : List (ℕ × ClassId)) → IsComputed live.target live.func live.table → length rs ≤ 4294967296
    → IsReady live.target live.func rs slots → IsValid live.target forms.Allocated (physical_form live.target rs slots (is_live_unit live rs) live.func)
