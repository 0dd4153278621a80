-- What is added to a plan, step by step.
use Rattle.std.specs.Prelude.{ℕ, Bool, true, false, cond, not, ◌&&◌, ◌||◌, ◌+◌, List, [], ◌∷◌, ◌++◌, map, filter_map, flat_map, length, Option, Some, None}
use Rattle.std.specs.List.{list_any, zip}
use Rattle.target_base.specs.declared.types.ClassId.{ClassId}
use Rattle.target_base.specs.declared.types.Target.{Target}
use Rattle.target_base.specs.Roles.{is_tied}
use Rattle.mir_func.specs.declared.func.Gap.{Gap}
use Rattle.mir_func.specs.declared.func.Loc.TheVariants.{Virtual}
use Rattle.mir_func.specs.declared.func.RegOp.{RegOp}
use Rattle.mir_func.specs.declared.func.Operand.TheVariants as operands
use Rattle.mir_func.specs.declared.func.Instr.{Instr}
use Rattle.mir_func.specs.Value.{Function}
use Rattle.mir_func.specs.Binding.{Bound, explicit_bound, explicit_roles, operand_class, passes, roles_of, ties_to}
use Rattle.mir_meaning.specs.Points.{is_range}
use Rattle.mir_meaning.specs.Places.{Variable, Using, variable}
use Rattle.mir_meaning.specs.Registers.{numbers}
use Rattle.live_edits.specs.declared.edit.Edit.{Edit}
use Rattle.spiller.specs.Setting.{Spilling, in_own_slot, plain_definition, reload}
use Rattle.spiller.specs.Rematerialised.{repeated}
use Rattle.spiller.specs.Spilled.{Change, OwnDefinition, Seats, numbered_operands, own_definition, with_tinies}
use Rattle.spiller.specs.Views.{Planned}
use Rattle.spiller.specs.Planned.{put_all, own_edits, names_own_slot, names_slot_anew}

-- Edits in order; new ranges, each with its class and the instruction that names its place; whether an instruction names the
-- slot that none named before; and how many instructions are new.
pub record Addition : Type 0 where
  pub edits : List Edit
  pub tinies : List (Option ClassId × ℕ)
  pub uses_slot : Bool
  pub new : ℕ

-- one behind the other
abbrev pub both : Addition → Addition → Addition
both a b = record { edits = a.edits ++ b.edits; tinies = a.tinies ++ b.tinies; uses_slot = a.uses_slot || b.uses_slot; new = a.new + b.new }

-- a plan with an addition
abbrev pub with_addition : Addition → Planned → Planned
with_addition a p = record {
  edits = p.edits ++ a.edits;
  tinies = p.tinies ++ zip (numbers p.next_range (length a.tinies)) (map (λ k. k.1) a.tinies);
  classes = p.classes ++ map (λ k. k.0) a.tinies;
  uses_slot = p.uses_slot || a.uses_slot;
  next_range = p.next_range + length a.tinies;
  next_id = p.next_id + a.new;
}

-- edits of instructions that stand there
abbrev pub edited : List Edit → Addition
edited es = record { edits = es; tinies = []; uses_slot = false; new = 0 }

-- the slot is named
abbrev pub slot_named : Addition
slot_named = record (edited []) { uses_slot = true }

-- new ranges
abbrev pub ranges_made : List (Option ClassId × ℕ) → Addition
ranges_made ks = record (edited []) { tinies = ks }

-- new instructions in a gap
abbrev pub put_into : Spilling → Gap → List Instr → Addition
put_into s gap xs = record { edits = put_all gap xs; tinies = []; uses_slot = list_any (names_own_slot s) xs; new = length xs }

-- the instructions of a place become others
abbrev pub own_changed : Spilling → List Instr → List Instr → Addition
own_changed s is xs = record (edited (own_edits s is xs)) { uses_slot = names_slot_anew s is xs }

-- all of a change
abbrev pub change_added : Spilling → Gap → Gap → List Instr → Change → Addition
change_added s before behind is x = both (ranges_made x.tinies) (both (put_into s before x.before) (both (own_changed s is x.own) (put_into s behind x.behind)))

-- the operands of an instruction, each with the role that it takes where it is explicit
abbrev pub seated_operands : Target → Instr → List Bound
seated_operands t i = explicit_bound (explicit_roles (roles_of t i)) i.operands

-- the use of the range that an operand is, neither tied nor `undef`
abbrev pub own_use : Target → Function → ℕ → Bound → Option Variable
own_use t f v (r, operands.Reg o) = cond (is_range v o.loc && not (o.def || (o.undef || passes is_tied r))) (Some (variable Using v o.index (operand_class t f r o))) None
own_use t f v (r, o) = None

-- the uses of the range by an instruction
abbrev pub own_uses : Target → Function → ℕ → Instr → List Variable
own_uses t f v i = filter_map (own_use t f v) (seated_operands t i)

-- the definitions of the range by an instruction
abbrev pub own_definitions : Spilling → Instr → List OwnDefinition
own_definitions s i = filter_map (own_definition s i) (numbered_operands s.target i)

-- the use of the range that is tied to the definition of that number
abbrev pub tied_use : ℕ → ℕ → Bound → Option RegOp
tied_use v n (r, operands.Reg o) = cond (is_range v o.loc && (passes (ties_to n) r && not o.undef)) (Some o) None
tied_use v n (r, o) = None

-- the reload of a tied use into tiny c, which has that class
abbrev pub tied_reload_of : Spilling → ℕ → Option ClassId → RegOp → Instr
tied_reload_of s c k o = reload s.target k (plain_definition (Virtual c) None) (in_own_slot s o.index)

-- the reloads into the tiny of a definition of the uses that are tied to it
abbrev pub tied_reloads : Spilling → ℕ × OwnDefinition → List Instr
tied_reloads s p = map (tied_reload_of s p.0 p.1.class) (filter_map (tied_use s.range p.1.number) (seated_operands s.target p.1.by))

-- what gives a tiny the value that is read: an instruction that is repeated, where there is one, or a reload
abbrev pub given_from : Spilling → Option Instr → ℕ × Variable → Instr
given_from s None p = reload s.target p.1.class (plain_definition (Virtual p.0) None) (in_own_slot s p.1.index)
given_from s (Some d) p = repeated d (plain_definition (Virtual p.0) None)

-- tinies for ways of reading, with their values
abbrev pub ways_given : Spilling → Gap → ℕ → (Variable → Option Instr) → List (ℕ × Variable) → Addition
ways_given s gap at sources ps = both (ranges_made (map (λ p. (p.1.class, at)) ps)) (put_into s gap (map (λ p. given_from s (sources p.1) p) ps))

-- tinies for definitions, with the values of the uses that are tied to them
abbrev pub definitions_given : Spilling → Gap → ℕ → List (ℕ × OwnDefinition) → Addition
definitions_given s gap at ps = both (ranges_made (map (λ p. (p.1.class, at)) ps)) (put_into s gap (flat_map (tied_reloads s) ps))

-- an instruction with tinies stands in its place, where it names the range
abbrev pub seated_edits : Spilling → Seats → Instr → List Edit
seated_edits s x i = own_edits s (i ∷ []) (with_tinies s x i ∷ [])
