-- REG_SEQUENCE and INSERT_SUBREG as copies of parts.
use Rattle.std.specs.Prelude.{ℕ, Bool, cond, List, [], ◌∷◌, ◌++◌, map, flat_map, length, Option, Some}
use Rattle.std.specs.List.{list_all, list_any, range_with_len}
use Rattle.target_base.specs.declared.types.ClassId.{ClassId}
use Rattle.target_base.specs.declared.types.Target.{Target}
use Rattle.target_base.specs.Registers.{lanes_of, widths_of_some}
use Rattle.mir_func.specs.declared.func.Loc.{Loc}
use Rattle.mir_func.specs.declared.func.Loc.TheVariants.{Virtual}
use Rattle.mir_func.specs.declared.func.RegOp.{RegOp}
use Rattle.mir_func.specs.declared.func.Operand.{Operand}
use Rattle.mir_func.specs.declared.func.Operand.TheVariants as operands
use Rattle.mir_func.specs.declared.func.Instr.{Instr}
use Rattle.mir_meaning.specs.Registers.{has_number}
use Rattle.mir_func.specs.Binding.{same_loc}
use Rattle.phi_elim.specs.Moves.{whole_definition, whole_use, copy_of, undefining, move_of}
use Rattle.phi_elim.specs.Phis.{located_class}
use Rattle.two_address.specs.declared.sequences.SubregInput.{SubregInput}

-- an input with the index of the lanes that it fills
abbrev pub part : Operand → Operand → List SubregInput
part (operands.Reg o) (operands.Index x) = record { input = o; index = x } ∷ []
part _ _ = []

-- the inputs of a REG_SEQUENCE
abbrev pub parts_of : List Operand → List SubregInput
parts_of (a ∷ b ∷ os) = part a b ++ parts_of os
parts_of _ = []

-- the defined register is an input
abbrev pub is_input : Loc → List SubregInput → Bool
is_input l ps = list_any (λ p. same_loc l p.input.loc) ps

-- the register that is built: another one, c, where an input would be overwritten
abbrev pub built : ℕ → ℕ → List SubregInput → ℕ
built c v ps = cond (is_input (Virtual v) ps) c v

-- an input goes into its lanes
abbrev pub into_part : ℕ → SubregInput → Instr
into_part to p = move_of (record (whole_definition to) { index = Some p.index }) p.input

-- the copy from the register that was built to the defined one, where it is another one
abbrev pub at_last : ℕ → ℕ → List SubregInput → List Instr
at_last c v ps = cond (is_input (Virtual v) ps) (copy_of (whole_definition v) (whole_use c) ∷ []) []

-- the lanes that the parts fill
abbrev pub filled_lanes : Target → List SubregInput → List ℕ
filled_lanes t ps = flat_map (λ p. lanes_of t p.index) ps

-- the parts fill all lanes of a class
abbrev pub fill_all : Target → Option ClassId → List SubregInput → Bool
fill_all t c ps = list_all (has_number (filled_lanes t ps)) (range_with_len 0 (length (widths_of_some t c)))

-- before the parts of a REG_SEQUENCE: where some lanes aren't filled, all are made undefined
abbrev pub beginning : Target → Option ClassId → ℕ → List SubregInput → List Instr
beginning t k to ps = cond (fill_all t k ps) [] (undefining (whole_definition to) ∷ [])

-- the first instruction keeps the flags and the tail of the one that it is made of
abbrev pub keeping_text : Instr → List Instr → List Instr
keeping_text i [] = []
keeping_text i (x ∷ xs) = record x { flags = i.flags; tail = i.tail } ∷ xs

-- what becomes of REG_SEQUENCE into register v; c is the next range number
abbrev pub sequence_lowered : Target → List (Option ClassId) → ℕ → Instr → ℕ → List SubregInput → List Instr
sequence_lowered t cs c i v ps =
    let to = built c v ps in
    keeping_text i (beginning t (located_class cs (Virtual v)) to ps ++ (map (into_part to) ps ++ at_last c v ps))

-- what becomes of INSERT_SUBREG of a part into register a, as register v
abbrev pub insertion_lowered : ℕ → Instr → ℕ → RegOp → SubregInput → List Instr
insertion_lowered c i v a p =
    let to = built c v (p ∷ []) in
    keeping_text i (move_of (whole_definition to) a ∷ into_part to p ∷ at_last c v (p ∷ []))
