-- When an item is a step over numbered lanes.
use Rattle.std.specs.Prelude.{◌≡◌, ℕ, Bool, true, false, cond, List, [], Some}
use Rattle.meaning.specs.declared.types.Lane.{Lane}
use Rattle.meaning.specs.Lanes.{Writes}
use Rattle.meaning.specs.Code.{Edge, Item}
use Rattle.meaning.specs.Live.{reads_of, exits_of, is_slot}
use Rattle.target_base.specs.declared.types.Effect.{Effect}
use Rattle.target_base.specs.declared.types.Target.{Target}
use Rattle.target_base.specs.Roles.{is_silent}
use Rattle.mir_func.specs.declared.func.Block.{Block}
use Rattle.mir_func.specs.declared.func.Instr.{Instr}
use Rattle.mir_func.specs.Value.{Function}
use Rattle.mir_func.specs.Binding.{effect_of}
use Rattle.mir_meaning.specs.Registers.{is_reserved}
use Rattle.mir_meaning.specs.Points.{point_item}
use Rattle.mir_meaning.specs.Stands.{Tags, IsTagging, IsStep}
use Rattle.instr_effects.specs.Acts.{entered_writes}
use Rattle.instr_effects.specs.Steps.{Numbering}
use Rattle.instr_effects.specs.Stepping.{tag_of, step_of, IsNumbering, NamesTagged, IsPlain}

-- an item whose moves are all of lanes that it reads in any case is the step that reads and writes these lanes
abbrev pub PlainLaw : Type 0
PlainLaw =
    (reserved : Lane → Bool) (num : Numbering) (proper : Lane → Bool) → IsNumbering reserved num → ((l : Lane) → is_slot l ≡ false → proper l ≡ true)
    → IsTagging reserved (tag_of num proper)
    × ((i : Item) (out : List Edge) (id : ℕ) (leaves : Bool) (ws : Writes) → exits_of i ≡ cond leaves out [] → IsPlain reserved (tag_of num proper) i ws → IsStep reserved (tag_of num proper) out i (step_of num id leaves (reads_of i) ws))

-- a counted instruction is such an item, as it is entered
abbrev pub CountedLaw : Type 0
CountedLaw =
    (t : Target) (f : Function) (tag : Tags) (b : Block) (i : Instr) (e : Effect) → effect_of t i ≡ Some e → is_silent e ≡ false → NamesTagged t f tag i
    → IsPlain (is_reserved t) tag (point_item t f b i) (entered_writes t f i)
