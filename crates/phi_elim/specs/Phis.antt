-- Phi elimination: each phi gets an incoming register, which a copy fills at the end of each block that leads to
-- the phi's, and another copy takes the phi's place.
use Rattle.std.specs.Prelude.{ℕ, Bool, true, false, cond, ◌+◌, ◌==◌, List, [], ◌∷◌, ◌++◌, map, filter, flat_map, take, drop, length, Option, None, Some, slice_get}
use Rattle.std.specs.List.{sum_by, position_or_len}
use Rattle.target_base.specs.declared.types.ClassId.{ClassId}
use Rattle.target_base.specs.declared.types.Target.{Target}
use Rattle.target_base.specs.Rules.{is_phi}
use Rattle.mir_func.specs.declared.func.Loc.{Loc}
use Rattle.mir_func.specs.declared.func.Loc.TheVariants.{Virtual, Fixed}
use Rattle.mir_func.specs.declared.func.RegOp.{RegOp}
use Rattle.mir_func.specs.declared.func.Operand.{Operand}
use Rattle.mir_func.specs.declared.func.Operand.TheVariants as operands
use Rattle.mir_func.specs.declared.func.Op.TheVariants as ops
use Rattle.mir_func.specs.declared.func.Instr.{Instr}
use Rattle.mir_func.specs.declared.func.Block.{Block}
use Rattle.mir_func.specs.Value.{Function}
use Rattle.mir_func.specs.Edits.{block_place}
use Rattle.mir_func.specs.Binding.{does, is_terminator, class_of}
use Rattle.phi_elim.specs.declared.arrivals.Arrival.{Arrival}
use Rattle.phi_elim.specs.Moves.{copy_op, whole_definition, whole_use, move_of}
use Rattle.phi_elim.specs.Numbered.{with_new_ids}

-- the copy that one pair of a phi asks for, into incoming register c, in the block that the pair names
abbrev pub arrival : List Block → ℕ → Operand → Operand → List Arrival
arrival bs c (operands.Reg s) (operands.Block n) = record { block = block_place n bs; to = c; from = s } ∷ []
arrival bs c _ _ = []

-- those of all pairs
abbrev pub arrivals_of : List Block → ℕ → List Operand → List Arrival
arrivals_of bs c (a ∷ b ∷ os) = arrival bs c a b ++ arrivals_of bs c os
arrivals_of bs c _ = []

-- those of an instruction, where it is a phi: its operands behind the result are pairs
abbrev pub instr_arrivals : Target → List Block → ℕ → Instr → List Arrival
instr_arrivals t bs c i = cond (does is_phi t i) (arrivals_of bs c (drop 1 i.operands)) []

-- 1 for a phi
abbrev pub phi_number : Target → Instr → ℕ
phi_number t i = cond (does is_phi t i) 1 0

-- how many phis there are
abbrev pub phi_count : Target → List Instr → ℕ
phi_count t is = sum_by (phi_number t) is

-- the copies that the phis among these instructions ask for; their incoming registers are numbered from c on
abbrev pub arrivals_in : Target → List Block → ℕ → List Instr → List Arrival
arrivals_in t bs c [] = []
arrivals_in t bs c (i ∷ is) = instr_arrivals t bs c i ++ arrivals_in t bs (c + phi_number t i) is

-- all instructions in layout order
abbrev pub all_instrs : List Block → List Instr
all_instrs bs = flat_map (λ b. b.instrs) bs

-- the copy from incoming register c that takes the place of a phi with these operands: into the phi's result
abbrev pub from_incoming : ℕ → List Operand → List Operand
from_incoming c [] = operands.Reg (whole_use c) ∷ []
from_incoming c (d ∷ os) = d ∷ operands.Reg (whole_use c) ∷ []

-- an instruction behind phi elimination: the copy that takes a phi's place keeps its flags and its tail
abbrev pub in_place : Target → ℕ → Instr → Instr
in_place t c i = cond (does is_phi t i) (record i { op = ops.Known copy_op; operands = from_incoming c i.operands }) i

-- instructions behind it, the incoming registers of their phis being numbered from c on
abbrev pub all_in_place : Target → ℕ → List Instr → List Instr
all_in_place t c [] = []
all_in_place t c (i ∷ is) = in_place t c i ∷ all_in_place t (c + phi_number t i) is

-- the copy into an incoming register
abbrev pub arriving : Arrival → Instr
arriving a = move_of (whole_definition a.to) a.from

-- the copies that stand in the block at place k, in the order of the phis
abbrev pub arriving_at : List Arrival → ℕ → List Instr
arriving_at arrs k = map arriving (filter (λ a. a.block == k) arrs)

-- new instructions put before the first terminator, or at the end
abbrev pub before_terminators : Target → List Instr → List Instr → List Instr
before_terminators t new is = let n = position_or_len (does is_terminator t) is in take n is ++ (new ++ drop n is)

-- the block at place k, the incoming registers of its phis being numbered from c on
abbrev pub lowered_block : Target → List Arrival → ℕ → ℕ → Block → Block
lowered_block t arrs k c b = record b { instrs = before_terminators t (arriving_at arrs k) (all_in_place t c b.instrs) }

-- the blocks from place k on
abbrev pub lowered_blocks : Target → List Arrival → ℕ → ℕ → List Block → List Block
lowered_blocks t arrs k c [] = []
lowered_blocks t arrs k c (b ∷ bs) = lowered_block t arrs k c b ∷ lowered_blocks t arrs (k + 1) (c + phi_count t b.instrs) bs

-- the class of a virtual register
abbrev pub located_class : List (Option ClassId) → Loc → Option ClassId
located_class cs (Virtual v) = elim (slice_get cs v) [ None ↦ None | Some c ↦ c ]
located_class cs (Fixed r) = None

-- the class of the phi's result, which its incoming register has too
abbrev pub result_class : List (Option ClassId) → List Operand → Option ClassId
result_class cs (operands.Reg d ∷ os) = located_class cs d.loc
result_class cs _ = None

-- the class of the incoming register of an instruction, where it is a phi
abbrev pub incoming_class : Target → List (Option ClassId) → Instr → List (Option ClassId)
incoming_class t cs i = cond (does is_phi t i) (result_class cs i.operands ∷ []) []

-- the function without phis, with new ids
unfoldable pub phis_lowered : Target → Function → Function
phis_lowered t f =
    let c = length f.classes in
    let arrs = arrivals_in t f.blocks c (all_instrs f.blocks) in
    with_new_ids (record f {
      classes = f.classes ++ flat_map (incoming_class t f.classes) (all_instrs f.blocks);
      blocks = lowered_blocks t arrs 0 c f.blocks;
    })
