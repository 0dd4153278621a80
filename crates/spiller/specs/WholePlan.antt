-- What is planned for a whole function: for each place that touches the range, in layout order.
use Rattle.std.specs.Prelude.{ℕ, Bool, cond, List, [], ◌∷◌, ◌++◌, Option, Some, None, flat_map}
use Rattle.std.specs.List.{list_any}
use Rattle.mir_func.specs.declared.func.Gap.{Gap}
use Rattle.mir_func.specs.declared.func.Instr.{Instr}
use Rattle.mir_func.specs.declared.func.Block.{Block}
use Rattle.mir_meaning.specs.Points.{touches}
use Rattle.spiller.specs.Setting.{Spilling}
use Rattle.spiller.specs.Rematerialised.{places_of}
use Rattle.spiller.specs.Spilled.{change}
use Rattle.spiller.specs.Views.{Planned, no_plan}
use Rattle.spiller.specs.Planned.{with_change}

-- the id of the first of these instructions
abbrev pub first_id : List Instr → Option ℕ
first_id [] = None
first_id (i ∷ is) = Some i.id

-- the gap of a block before these instructions; at its end, where there are none
abbrev pub gap_at : Block → List Instr → Gap
gap_at b is = record { block = b.number; before = first_id is }

-- the instructions of places
abbrev pub instrs_of : List (List Instr) → List Instr
instrs_of ps = flat_map (λ p. p) ps

-- an instruction of the place touches the range
abbrev pub touches_place : Spilling → List Instr → Bool
touches_place s is = list_any (touches s.range) is

-- a plan with what becomes of a place of a block, behind which these instructions stand
abbrev pub with_place : Spilling → Block → List Instr → List Instr → Planned → Planned
with_place s b is left p = with_change s (gap_at b (is ++ left)) (gap_at b left) is (change s p.next_id p.next_range is) p

-- with what becomes of the last places of a block: of those that touch the range
abbrev pub with_places : Spilling → Block → List (List Instr) → Planned → Planned
with_places s b [] p = p
with_places s b (is ∷ rest) p = with_places s b rest (cond (touches_place s is) (with_place s b is (instrs_of rest) p) p)

-- with what becomes of the places of blocks
abbrev pub with_blocks : Spilling → List Block → Planned → Planned
with_blocks s [] p = p
with_blocks s (b ∷ bs) p = with_blocks s bs (with_places s b (places_of s.target b) p)

-- the plan for the function
abbrev pub whole_plan : Spilling → Planned
whole_plan s = with_blocks s s.func.blocks (no_plan s.func)
