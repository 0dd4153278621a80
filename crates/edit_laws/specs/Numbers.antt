-- A table of live lanes in which more lanes get numbers.
use Rattle.std.specs.Prelude.{◌≡◌, ℕ, true, false, Some, slice_get}
use Rattle.target_base.specs.declared.types.Target.{Target}
use Rattle.meaning.specs.Live.{Among}
use Rattle.mir_func.specs.declared.func.Block.{Block}
use Rattle.mir_func.specs.declared.func.Instr.{Instr}
use Rattle.mir_func.specs.Value.{Function}
use Rattle.mir_meaning.specs.Rules.{V8}
use Rattle.instr_effects.specs.Numbered.{number_in}
use Rattle.live_lanes.specs.declared.table.Table.{Table}
use Rattle.live_lanes.specs.Doing.{doing_of, IsComputed}
use Rattle.live_laws.specs.Effects.Coded.{KeepsRules}
use Rattle.edit_laws.specs.Kept.{IsLaidOut, KeepRows}

-- the instructions do to lanes by the new numbers what they did by the old ones, as where lanes get numbers that none of them names
abbrev pub DoesSame : Target → Function → Table → Table → Type 0
DoesSame t f x y = (b : Block) (i : Instr) → Among b f.blocks → Among i b.instrs → doing_of t f (number_in x.lanes) i ≡ doing_of t f (number_in y.lanes) i

-- a table that was computed stays so where its rows stay and instructions do the same by the numbers of lanes
abbrev pub NumbersLaw : Type 0
NumbersLaw =
    (t : Target) (f : Function) (x y : Table) → IsComputed t f x → KeepsRules t f
    → ((b : Block) (j : ℕ) (i : Instr) → Among b f.blocks → slice_get b.instrs j ≡ Some i → V8 t b j i ≡ true)
    → DoesSame t f x y → IsLaidOut t f y → KeepRows (λ l. false) x y → IsComputed t f y
