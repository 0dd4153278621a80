-- Rematerialisation: the readings of a range that are given its value by repeating the instruction that made it.
use Rattle.std.specs.Prelude.{ℕ, Bool, true, false, cond, not, ◌&&◌, List, [], ◌∷◌, ◌++◌, map, filter, flat_map, drop, length, Option, Some, None, nat_lt, nat_eq}
use Rattle.std.specs.List.{list_all, list_any}
use Rattle.target_base.specs.declared.types.Reg.{Reg}
use Rattle.target_base.specs.declared.types.ClassId.{ClassId}
use Rattle.target_base.specs.declared.types.IndexId.{IndexId}
use Rattle.target_base.specs.declared.types.Effect.{Effect}
use Rattle.target_base.specs.declared.types.Effect.TheVariants as effects
use Rattle.target_base.specs.declared.types.Role.{Role}
use Rattle.target_base.specs.declared.types.Target.{Target}
use Rattle.target_base.specs.Registers.{regs_of}
use Rattle.target_base.specs.Roles.{role_class}
use Rattle.target_base.specs.Storage.{holds_reg, is_within}
use Rattle.mir_func.specs.declared.func.Loc.{Loc}
use Rattle.mir_func.specs.declared.func.Loc.TheVariants.{Virtual, Fixed}
use Rattle.mir_func.specs.declared.func.RegOp.{RegOp}
use Rattle.mir_func.specs.declared.func.Operand.{Operand}
use Rattle.mir_func.specs.declared.func.Operand.TheVariants as operands
use Rattle.mir_func.specs.declared.func.Instr.{Instr}
use Rattle.mir_func.specs.declared.func.Block.{Block}
use Rattle.mir_func.specs.Binding.{effect_of, does, is_terminator, roles_of, TiedPair, tied_pairs}
use Rattle.mir_meaning.specs.Places.{Variable, is_defining, same_use, each_once, operand_variables}
use Rattle.spiller.specs.Setting.{Spilling, is_own, own_lanes}

-- instructions as places: each one before the terminators by itself, and the terminators together
abbrev pub places_from : Target → List Instr → List (List Instr)
places_from t [] = []
places_from t (i ∷ is) = cond (does is_terminator t i) ((i ∷ is) ∷ []) ((i ∷ []) ∷ places_from t is)

-- the places of a block
abbrev pub places_of : Target → Block → List (List Instr)
places_of t b = places_from t b.instrs

-- the range's variables among the operands of an instruction: its readings, tied ones aside, and its definitions
abbrev pub own_variables : Spilling → Instr → List Variable
own_variables s i = filter (λ x. nat_eq x.range s.range) (operand_variables s.target s.func i)

-- the ways in which a place reads the range, each index and operand class once, tied uses aside
abbrev pub ways_read : Spilling → List Instr → List Variable
ways_read s is = filter (λ x. not (is_defining x.kind)) (each_once [] (flat_map (own_variables s) is))

-- the instruction's tied pairs whose uses read the range
abbrev pub tied_readings : Spilling → Instr → List TiedPair
tied_readings s i = filter (λ p. is_own s p.tied_use && not p.tied_use.undef) (tied_pairs s.target i)

-- what a reading asks of an instruction that is to be repeated for it: its class holds all of the reading's, or this
-- register; or nothing serves
pub data Wish : Type 0 where
  Never : Wish
  Within : Option ClassId → Wish
  Holding : Reg → Wish

-- a reading of the range: instructions that read these lanes at once
pub record Reading : Type 0 where
  pub by : List Instr
  pub lanes : List ℕ
  pub wish : Wish

-- of the lanes that an index picks
abbrev pub reading_of : Spilling → List Instr → Option IndexId → Wish → Reading
reading_of s is x wish = record { by = is; lanes = own_lanes s x; wish = wish }

-- a wish that only a reading without an index has
abbrev pub if_whole : Option IndexId → Wish → Wish
if_whole None wish = wish
if_whole (Some x) wish = Never

-- one way of reading at a place
abbrev pub way_reading : Spilling → List Instr → Variable → Reading
way_reading s is x = reading_of s (filter (λ i. list_any (same_use x) (own_variables s i)) is) x.index (if_whole x.index (Within x.class))

-- what a copy asks: one to a fixed register, that the class holds this
abbrev pub copy_wish : Loc → Wish
copy_wish (Virtual w) = Never
copy_wish (Fixed r) = Holding r

-- the reading by a copy of the range
abbrev pub copy_reading : Spilling → Instr → RegOp → RegOp → Reading
copy_reading s i d o = reading_of s (i ∷ []) o.index (if_whole o.index (copy_wish d.loc))

-- the readings by operands: each way of reading, and tied uses, for which nothing serves
abbrev pub operand_readings : Spilling → List Instr → List Reading
operand_readings s is =
    map (way_reading s is) (ways_read s is)
    ++ flat_map (λ i. map (λ p. reading_of s (i ∷ []) p.tied_use.index Never) (tied_readings s i)) is

-- the readings by an instruction; a copy and a store read what they move
abbrev pub effect_readings : Spilling → Instr → Option Effect → List Operand → List Reading
effect_readings s i (Some effects.Copy) (operands.Reg d ∷ operands.Reg o ∷ os) = cond (is_own s o) (copy_reading s i d o ∷ []) []
effect_readings s i (Some effects.Spill) (operands.Reg o ∷ os) = cond (is_own s o) (reading_of s (i ∷ []) o.index Never ∷ []) []
effect_readings s i e os = operand_readings s (i ∷ [])

-- the readings at a place
abbrev pub place_readings : Spilling → List Instr → List Reading
place_readings s (i ∷ []) = effect_readings s i (effect_of s.target i) i.operands
place_readings s is = operand_readings s is

-- all readings of the range
abbrev pub all_readings : Spilling → List Reading
all_readings s = flat_map (λ b. flat_map (place_readings s) (places_of s.target b)) s.func.blocks

-- the definition that an instruction is, of one of the lanes, reaches the reading
abbrev pub reaches : Spilling → Instr → Reading → Bool
reaches s d r = list_any (λ i. list_any (λ k. s.facts.reaches d.id k i.id) r.lanes) r.by

-- the definitions that reach the reading; one of any lane counts
abbrev pub reaching : Spilling → Reading → List Instr
reaching s r = filter (λ d. reaches s d r) (flat_map (λ b. b.instrs) s.func.blocks)

-- an instruction that loads a constant or an address
abbrev pub is_constant : Effect → Bool
is_constant effects.Const = true
is_constant effects.Addr = true
is_constant _ = false

-- the class of the definition, whose role is the first
abbrev pub definition_class : List Role → Option ClassId
definition_class [] = None
definition_class (r ∷ rs) = role_class r

-- the same, where it is of a whole register
abbrev pub whole_class : Target → Instr → List Operand → Option ClassId
whole_class t d (operands.Reg o ∷ os) = elim o.index [ None ↦ definition_class (roles_of t d) | Some x ↦ None ]
whole_class t d os = None

-- the class of an instruction that may be repeated: a constant or an address for a whole register
abbrev pub repeatable_class : Target → Instr → Option ClassId
repeatable_class t d = cond (does is_constant t d) (whole_class t d d.operands) None

-- an instruction that may be repeated for a class serves the reading
abbrev pub serves : Target → Wish → Option ClassId → Bool
serves t (Within (Some c)) (Some k) = is_within (regs_of t c) (regs_of t k)
serves t (Holding r) (Some k) = holds_reg (regs_of t k) r
serves t wish k = false

-- the one definition of these, where it serves
abbrev pub if_serves : Target → Wish → List Instr → Option Instr
if_serves t wish (d ∷ []) = cond (serves t wish (repeatable_class t d)) (Some d) None
if_serves t wish ds = None

-- the instruction that is repeated for a reading: the one definition that reaches it, where that serves
abbrev pub repeated_for : Spilling → Reading → Option Instr
repeated_for s r = if_serves s.target r.wish (reaching s r)

-- the instruction with another register to define; a repeated one has neither flags nor tail
abbrev pub repeated : Instr → RegOp → Instr
repeated d o = record d { id = 0; flags = []; operands = operands.Reg o ∷ drop 1 d.operands; tail = [] }

-- a reading is rematerialised
abbrev pub is_rematerialised : Spilling → Reading → Bool
is_rematerialised s r = elim (repeated_for s r) [ None ↦ false | Some d ↦ true ]

-- A constant or an address whose definition reaches readings, which are all rematerialised, isn't needed any more.
abbrev pub is_needless : Spilling → Instr → Bool
is_needless s d =
    let rs = filter (reaches s d) (all_readings s) in
    does is_constant s.target d && nat_lt 0 (length rs) && list_all (is_rematerialised s) rs
