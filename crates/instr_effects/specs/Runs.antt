-- The numbers of lanes one after another, and what is entered of them.
use Rattle.std.specs.Prelude.{ℕ, Bool, cond, List, [], ◌∷◌, map, false, Option, Some, None}
use Rattle.target_base.specs.declared.types.Target.{Target}
use Rattle.mir_func.specs.declared.func.RegOp.{RegOp}
use Rattle.mir_func.specs.declared.func.Operand.{Operand}
use Rattle.mir_func.specs.Binding.{as_register}
use Rattle.mir_meaning.specs.Registers.{numbers}
use Rattle.mir_meaning.specs.declared.writing.LaneDef.{LaneDef}
use Rattle.instr_effects.specs.declared.run.LaneSequence.{LaneSequence}
use Rattle.instr_effects.specs.declared.run.LaneSequence.TheVariants as runs
use Rattle.std.specs.List.{list_any}
use Rattle.mir_meaning.specs.Items.{preserves}
use Rattle.instr_effects.specs.declared.owner.Owner.TheVariants as owners
use Rattle.instr_effects.specs.Steps.{Numbering}
use Rattle.instr_effects.specs.Row.{lane_in}
use Rattle.instr_effects.specs.Numbers.{unit_number_in}

-- the number of each lane, where it has one
abbrev pub run_numbers : LaneSequence → List (Option ℕ)
run_numbers (runs.Units us reserved) = map (λ u. unit_number_in reserved.now u.0) us.now
run_numbers (runs.First x n) = map (lane_in x.first x.count) (numbers 0 n)
run_numbers (runs.Picked x ks) = map (lane_in x.first x.count) ks.now
run_numbers (runs.Nothing n) = map (λ k. None) (numbers 0 n)

-- a lane, where it has a number
abbrev pub one_lane : Option ℕ → List ℕ
one_lane None = []
one_lane (Some n) = n ∷ []

-- the writing of a lane that gets nothing that another lane held
abbrev pub one_writing : Bool → Option ℕ → List LaneDef
one_writing early None = []
one_writing early (Some n) = record { lane = n; from = None; early = early } ∷ []

-- a lane and the one that is moved to it
abbrev pub Pair : Type 0
Pair = Option ℕ × Option ℕ

-- the writing of a lane that another one is moved to
abbrev pub one_move : Bool → Pair → List LaneDef
one_move early p = elim p.0 [ None ↦ [] | Some n ↦ record { lane = n; from = p.1; early = early } ∷ [] ]

-- what goes to a lane that takes no part is read in any case
abbrev pub one_kept : Pair → List ℕ
one_kept p = elim p.0 [ None ↦ one_lane p.1 | Some n ↦ [] ]

-- what comes of an operand that is a register operand of a kind
abbrev pub of_kind : {X : Type 0} → (RegOp → Bool) → (RegOp → List X) → Operand → List X
of_kind p g o = elim (as_register o) [ None ↦ [] | Some r ↦ cond (p r) (g r) [] ]

-- the writing of a unit, if no mask among the operands preserves it
abbrev pub unit_clobbered : Target → Numbering → List Operand → ℕ → List LaneDef
unit_clobbered t num os u = cond (list_any (preserves t u) os) [] (one_writing false (num (owners.Unit u)))
