-- What an instruction reads and writes as code enters it into the table of live lanes.
use Rattle.std.specs.Prelude.{ℕ, ℤ, Bool, true, false, cond, not, ◌&&◌, List, [], ◌∷◌, ◌++◌, map, filter, flat_map, find, length, nat_abs, Option, Some, None, slice_get, option_and_then}
use Rattle.std.specs.List.{list_any}
use Rattle.target_base.specs.declared.types.Effect.{Effect}
use Rattle.target_base.specs.declared.types.Effect.TheVariants as effects
use Rattle.target_base.specs.declared.types.OpaqueKind.TheVariants as kinds
use Rattle.target_base.specs.declared.types.MaskId.{MaskId}
use Rattle.target_base.specs.declared.types.Reg.{Reg}
use Rattle.target_base.specs.declared.types.Role.{Role}
use Rattle.target_base.specs.declared.types.Target.{Target}
use Rattle.target_base.specs.Registers.{lanes_of}
use Rattle.target_base.specs.Roles.{is_silent, is_implicit}
use Rattle.meaning.specs.declared.types.Lane.TheVariants.{UnitLane}
use Rattle.meaning.specs.declared.types.Write.{Write}
use Rattle.meaning.specs.Lanes.{Writes, Reads}
use Rattle.mir_func.specs.declared.func.RegOp.{RegOp}
use Rattle.mir_func.specs.declared.func.Operand.{Operand}
use Rattle.mir_func.specs.declared.func.Operand.TheVariants as operands
use Rattle.mir_func.specs.declared.func.Instr.{Instr}
use Rattle.mir_func.specs.Value.{Function}
use Rattle.mir_func.specs.Binding.{as_register, registers, implicit_registers, effect_of, roles_of, is_early_clobber, definitions, takes_role, immediate_of}
use Rattle.mir_meaning.specs.Registers.{numbers, operand_lanes, undefined_lanes, use_sources}
use Rattle.meaning.specs.Perform.{condition_lane}
use Rattle.mir_meaning.specs.Items.{moved, undefined, silent_reads, silent_writes, values, results, implicit_definitions, all_lanes, preserves, defined_undef, lanes_beside, pick}
use Rattle.instr_effects.specs.declared.acts.Act.{Act}
use Rattle.instr_effects.specs.declared.owner.Owner.{Owner}
use Rattle.instr_effects.specs.Owners.{owner_of, fill_owner, owners_read, operand_owners}

-- a write of a lane that gets nothing that another lane held
abbrev pub plain : Bool → Owner → Act
plain early o = record { lane = o; from = None; early = early }

-- each lane is given its source, as far as both lists go
abbrev pub moved_acts : Bool → List Owner → List (Option Owner) → List Act
moved_acts early [] ss = []
moved_acts early (o ∷ os) [] = []
moved_acts early (o ∷ os) (s ∷ ss) = record { lane = o; from = s; early = early } ∷ moved_acts early os ss

-- a write without its value
abbrev pub act_of : Write → Act
act_of w = record { lane = owner_of w.lane; from = fill_owner w.fill; early = w.early }

abbrev pub acts_of : Writes → List Act
acts_of ws = map act_of ws

-- the lanes that a register operand reads
abbrev pub use_owners : Target → Function → RegOp → List Owner
use_owners t f o = owners_read (use_sources t f o)

-- the lanes that are read, operand by operand
abbrev pub read_owners : Reads → List Owner
read_owners rs = flat_map owners_read rs

-- what a definition writes that is given sources
abbrev pub definition_acts : Target → Function → Bool → RegOp → List (Option Owner) → List Act
definition_acts t f early d ss = moved_acts early (operand_owners t f d) ss ++ map (plain early) (map owner_of (undefined_lanes t f d))

-- what an explicit definition writes whose value is computed
abbrev pub result_acts : Target → Function → Bool → RegOp → List Act
result_acts t f early d = map (plain early) (operand_owners t f d) ++ map (plain early) (map owner_of (undefined_lanes t f d))

-- the numbers of lanes of a slot that stand beside so many lanes of a register
abbrev pub slot_numbers : Target → ℕ → Operand → List ℕ
slot_numbers t n (operands.Index x) = lanes_of t x
slot_numbers t n _ = numbers 0 n

-- an immediate or an address
abbrev pub is_constant : Operand → Bool
is_constant (operands.Imm z) = true
is_constant (operands.Stack n) = true
is_constant (operands.FixedStack n) = true
is_constant (operands.Symbol name) = true
is_constant _ = false

-- the whole register of a definition, whose lanes get nothing that another lane held
abbrev pub filled_whole : Target → Function → List Operand → Writes
filled_whole t f (operands.Reg d ∷ os) = undefined false (operand_lanes t f d)
filled_whole t f _ = []

-- a store to a slot, whose lanes are one lane at all widths
abbrev pub stored : Target → Function → List Operand → Writes
stored t f (operands.Reg o ∷ operands.Stack s ∷ k ∷ os) = moved false (lanes_beside t f o s k) (use_sources t f o)
stored t f _ = []

-- the units outside the masks, which a call makes undefined
abbrev pub unpreserved : Target → List Operand → List ℕ
unpreserved t os = filter (λ u. not (list_any (preserves t u) os)) (numbers 0 (length t.units))

-- a call, an opaque one too
abbrev pub is_call : Effect → Bool
is_call effects.Call = true
is_call (effects.Opaque kinds.Call) = true
is_call _ = false

-- what a call writes besides its definitions
abbrev pub call_writes : Target → Effect → List Operand → Writes
call_writes t e os = cond (is_call e) (undefined false (map UnitLane (unpreserved t os))) []

-- a counted instruction gives its lanes nothing that another lane held
abbrev pub counted_acts : Target → Function → Effect → List Role → List Operand → Writes
counted_acts t f e rs os =
    results t f 0 (definitions rs os)
    ++ (undefined false (all_lanes t f (implicit_definitions os)) ++ call_writes t e os)

-- what is entered of a silent instruction
abbrev pub silent_acts : Target → Function → Effect → Bool → List Operand → Writes
silent_acts t f effects.Phi early os = defined_undef t f os
silent_acts t f effects.RegSequence early os = filled_whole t f os
silent_acts t f effects.InsertSubreg early os = filled_whole t f os
silent_acts t f effects.Spill early os = stored t f os
silent_acts t f e early os = silent_writes t f e early os

abbrev pub effect_acts : Target → Function → Effect → List Role → List Operand → Writes
effect_acts t f e rs os = cond (is_silent e) (silent_acts t f e (is_early_clobber rs) os) (counted_acts t f e rs os)

-- what is written, in order
unfoldable pub entered_writes : Target → Function → Instr → Writes
entered_writes t f i = elim (effect_of t i) [ None ↦ [] | Some e ↦ effect_acts t f e (roles_of t i) i.operands ]

abbrev pub effect_reads : Target → Function → Effect → Instr → Reads
effect_reads t f e i = cond (is_silent e) (silent_reads t f e i.operands) (map (λ v. v.0) (values t f e i))

-- what is read whatever is live behind the instruction, operand by operand
unfoldable pub entered_reads : Target → Function → Instr → Reads
entered_reads t f i = elim (effect_of t i) [ None ↦ [] | Some e ↦ effect_reads t f e i ]

-- the explicit uses
abbrev pub explicit_uses : List Operand → List RegOp
explicit_uses os = filter (λ o. not o.def && not o.implicit) (registers os)

-- the implicit uses
abbrev pub implicit_uses : List Operand → List RegOp
implicit_uses os = filter (λ o. not o.def) (implicit_registers os)

-- the operand is what the role names
abbrev pub takes_some : Option Role → RegOp → Bool
takes_some None o = false
takes_some (Some r) o = takes_role o r

-- a conditional jump, which tests flags
abbrev pub is_jcc : Effect → Bool
is_jcc effects.Jcc = true
is_jcc _ = false

-- the lanes of a tested register: the one at a place
abbrev pub flag_owners : Target → Function → ℕ → RegOp → List Owner
flag_owners t f k o = owners_read (pick k (use_sources t f o))

-- the role whose register a conditional jump tests
abbrev pub tested_role : Effect → List Role → Option Role
tested_role e rs = cond (is_jcc e) (find is_implicit rs) None

-- the lanes that implicit uses read, of flags that are tested that of the condition
abbrev pub implicit_owners : Target → Function → Option Role → ℕ → List RegOp → List Owner
implicit_owners t f role k os = flat_map (flag_owners t f k) (filter (takes_some role) os) ++ flat_map (use_owners t f) (filter (λ o. not (takes_some role o)) os)

-- the lanes that a counted instruction reads
abbrev pub counted_owners : Target → Function → Effect → List Role → List Operand → List Owner
counted_owners t f e rs os =
    flat_map (use_owners t f) (explicit_uses os)
    ++ implicit_owners t f (tested_role e rs) (condition_lane (nat_abs (immediate_of os))) (implicit_uses os)

-- the lanes that are read whatever is live behind the instruction
abbrev pub effect_owners : Target → Function → Effect → List Role → List Operand → List Owner
effect_owners t f e rs os = cond (is_silent e) (read_owners (silent_reads t f e os)) (counted_owners t f e rs os)
