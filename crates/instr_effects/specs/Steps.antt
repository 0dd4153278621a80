-- Instructions over lanes that go by numbers.
use Rattle.std.specs.Prelude.{ℕ, Bool, true, false, cond, List, filter_map, Option, Some, None, option_and_then}
use Rattle.instr_effects.specs.declared.owner.Owner.{Owner}
use Rattle.instr_effects.specs.declared.acts.Act.{Act}
use Rattle.mir_meaning.specs.declared.writing.LaneDef.{LaneDef}
use Rattle.instr_effects.specs.declared.effects.PhiRead.{PhiRead}
use Rattle.target_base.specs.declared.types.Target.{Target}
use Rattle.mir_func.specs.declared.func.RegOp.{RegOp}
use Rattle.mir_func.specs.Value.{Function}
use Rattle.instr_effects.specs.Acts.{use_owners}

-- the number of a lane, where it has one
abbrev pub Numbering : Type 0
Numbering = Owner → Option ℕ

-- a writing of the lane of that number
abbrev pub writing : Numbering → Act → ℕ → LaneDef
writing num a n = record { lane = n; from = option_and_then num a.from; early = a.early }

-- the writing of a lane that has a number
abbrev pub act_writing : Numbering → Act → Option LaneDef
act_writing num a = elim (num a.lane) [ None ↦ None | Some n ↦ Some (writing num a n) ]

abbrev pub act_writings : Numbering → List Act → List LaneDef
act_writings num acts = filter_map (act_writing num) acts

abbrev pub is_unnumbered : Option ℕ → Bool
is_unnumbered None = true
is_unnumbered (Some n) = false

-- what goes to a lane that takes no part is read in any case
abbrev pub act_reading : Numbering → Act → Option ℕ
act_reading num a = cond (is_unnumbered (num a.lane)) (option_and_then num a.from) None

abbrev pub act_readings : Numbering → List Act → List ℕ
act_readings num acts = filter_map (act_reading num) acts

-- the numbers of lanes that are read at the end of a block
abbrev pub EndRead : Type 0
EndRead = ℕ × List ℕ

abbrev pub seen_read : PhiRead → EndRead
seen_read r = (r.block, r.lanes.items)

-- what a use of a phi reads at the end of the block beside it
abbrev pub phi_read_of : Target → Function → Numbering → RegOp × ℕ → EndRead
phi_read_of t f num p = (p.1, filter_map num (use_owners t f p.0))
