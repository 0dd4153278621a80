-- The rules that a target keeps, as tests on its lists.
use Rattle.std.specs.Prelude.{ℕ, Bool, List, length, nat_lt, nat_le, ◌==◌, ◌&&◌, ◌||◌, not, map, sum, true, false, if◌then◌else◌, Option, Some, None, [], ◌∷◌, codes, drop}
use Rattle.std.specs.List.{list_all, list_any}
use Rattle.target_base.specs.declared.types.Unit.{Unit as UnitNumber}
use Rattle.target_base.specs.declared.types.Reg.{Reg}
use Rattle.target_base.specs.declared.types.ClassId.{ClassId}
use Rattle.target_base.specs.declared.types.Effect.{Effect}
use Rattle.target_base.specs.declared.types.Effect.TheVariants as effects
use Rattle.target_base.specs.declared.types.UnitDesc.{UnitDesc}
use Rattle.target_base.specs.declared.types.RegDesc.{RegDesc}
use Rattle.target_base.specs.declared.types.IndexDesc.{IndexDesc}
use Rattle.target_base.specs.declared.types.ClassDesc.{ClassDesc}
use Rattle.target_base.specs.declared.types.MaskDesc.{MaskDesc}
use Rattle.target_base.specs.declared.types.OpcodeDesc.{OpcodeDesc}
use Rattle.target_base.specs.Storage.{reg_units, class_regs, class_widths, widths, is_among, is_within, lanes_fit, part_place, is_unreserved, same_numbers}
use Rattle.target_base.specs.Names.{is_name, is_op_name, is_flag_word, are_distinct_names, are_distinct_numbers}
use Rattle.target_base.specs.Roles.{roles_fit, role_known, scale_fits, first_class}

-- the lanes of a register at most, by the version
abbrev pub most_lanes : ℕ → ℕ
most_lanes version = if version == 2 then 32 else 16

abbrev pub is_unit_desc : UnitDesc → Bool
is_unit_desc u = is_name u.name && nat_le 1 u.width && nat_le u.width 128

abbrev pub is_reg_desc : ℕ → List UnitDesc → RegDesc → Bool
is_reg_desc version units r =
    is_name r.name
    && nat_lt 0 (length r.units)
    && nat_le (length r.units) (most_lanes version)
    && list_all (λ u. nat_lt u.0 (length units)) r.units
    && are_distinct_numbers (map (λ u. u.0) r.units)
    && nat_le (sum (widths units r.units)) 128

abbrev pub is_index_desc : ℕ → IndexDesc → Bool
is_index_desc version i =
    is_name i.name
    && nat_lt 0 (length i.lanes)
    && list_all (λ k. nat_lt k (most_lanes version)) i.lanes
    && are_distinct_numbers i.lanes

abbrev pub is_class_desc : List UnitDesc → List RegDesc → ClassDesc → Bool
is_class_desc units regs c =
    is_name c.name
    && nat_lt 0 (length c.regs)
    && nat_le (length c.regs) 64
    && list_all (λ r. nat_lt r.0 (length regs)) c.regs
    && are_distinct_numbers (map (λ r. r.0) c.regs)
    && list_all (λ r. same_numbers (widths units (reg_units regs r)) (class_widths units regs c.regs)) c.regs

abbrev pub is_mask_desc : ℕ → MaskDesc → Bool
is_mask_desc regs m = is_name m.name && nat_lt 0 (length m.regs) && list_all (λ r. nat_lt r.0 regs) m.regs

abbrev pub is_opcode_desc : List UnitDesc → List RegDesc → List ClassDesc → OpcodeDesc → Bool
is_opcode_desc units regs classes o =
    is_op_name o.name
    && list_all (role_known (length classes) (length regs)) o.roles
    && scale_fits o.effect
    && roles_fit units regs classes o.effect o.roles

abbrev pub is_rising : List UnitNumber → Bool
is_rising [] = true
is_rising (u ∷ us) = list_all (λ v. nat_lt u.0 v.0) us && is_rising us

-- reserved units stand by number, each once, and belong to registers all of whose units are reserved
abbrev pub are_reserved : List RegDesc → List UnitNumber → Bool
are_reserved regs us =
    is_rising us
    && list_all (λ u. list_any (λ r. is_among r.units u && list_all (is_among us) r.units) regs) us

abbrev pub is_copy : Effect → Bool
is_copy effects.Copy = true
is_copy e = false

abbrev pub is_phi : Effect → Bool
is_phi effects.Phi = true
is_phi e = false

abbrev pub is_implicit_def : Effect → Bool
is_implicit_def effects.ImplicitDef = true
is_implicit_def e = false

abbrev pub is_reg_sequence : Effect → Bool
is_reg_sequence effects.RegSequence = true
is_reg_sequence e = false

abbrev pub is_insert_subreg : Effect → Bool
is_insert_subreg effects.InsertSubreg = true
is_insert_subreg e = false

abbrev pub is_given : List ℕ → (Effect → Bool) → OpcodeDesc → Bool
is_given name test o = same_numbers o.name name && test o.effect && length o.roles == 0

-- the five opcodes that belong to every target stand first
abbrev pub starts_with_the_five : List OpcodeDesc → Bool
starts_with_the_five (a ∷ b ∷ c ∷ d ∷ e ∷ os) =
    is_given (codes "COPY") is_copy a
    && is_given (codes "PHI") is_phi b
    && is_given (codes "IMPLICIT_DEF") is_implicit_def c
    && is_given (codes "REG_SEQUENCE") is_reg_sequence d
    && is_given (codes "INSERT_SUBREG") is_insert_subreg e
starts_with_the_five os = false

abbrev pub is_spill : Effect → Bool
is_spill effects.Spill = true
is_spill e = false

abbrev pub is_reload : Effect → Bool
is_reload effects.Reload = true
is_reload e = false

abbrev pub regs_of_some : List ClassDesc → Option ClassId → List Reg
regs_of_some classes None = []
regs_of_some classes (Some k) = class_regs classes k

-- the registers that the first register operand of an opcode may be
abbrev pub operand_regs : List ClassDesc → OpcodeDesc → List Reg
operand_regs classes o = regs_of_some classes (first_class o.roles)

-- a spill opcode for all these registers
abbrev pub spills : List ClassDesc → List Reg → OpcodeDesc → Bool
spills classes rs o = is_spill o.effect && is_within rs (operand_regs classes o)

-- a reload opcode for all these registers
abbrev pub reloads : List ClassDesc → List Reg → OpcodeDesc → Bool
reloads classes rs o = is_reload o.effect && is_within rs (operand_regs classes o)

abbrev pub is_found : Option ℕ → Bool
is_found None = false
is_found (Some k) = true

-- where the lanes fit the registers, some class is their part
abbrev pub part_is_there : List RegDesc → List ClassDesc → List Reg → IndexDesc → Bool
part_is_there regs classes rs i = not (lanes_fit regs i.lanes rs) || is_found (part_place regs classes i.lanes rs)

-- the class can be spilled and reloaded, has an unreserved register, and has a part for each index that fits
abbrev pub is_complete : List RegDesc → List UnitNumber → List IndexDesc → List ClassDesc → List OpcodeDesc → ClassDesc → Bool
is_complete regs reserved indexes classes opcodes c =
    list_any (spills classes c.regs) opcodes
    && list_any (reloads classes c.regs) opcodes
    && list_any (is_unreserved reserved regs) c.regs
    && list_all (part_is_there regs classes c.regs) indexes

abbrev pub are_units : List UnitDesc → Bool
are_units units = nat_le (length units) 512 && list_all is_unit_desc units && are_distinct_names (map (λ u. u.name) units)

abbrev pub are_regs : ℕ → List UnitDesc → List RegDesc → Bool
are_regs version units regs = nat_le (length regs) 512 && list_all (is_reg_desc version units) regs && are_distinct_names (map (λ r. r.name) regs)

abbrev pub are_indexes : ℕ → List IndexDesc → Bool
are_indexes version indexes = nat_le (length indexes) 512 && list_all (is_index_desc version) indexes && are_distinct_names (map (λ i. i.name) indexes)

abbrev pub are_classes : List UnitDesc → List RegDesc → List ClassDesc → Bool
are_classes units regs classes = nat_le (length classes) 512 && list_all (is_class_desc units regs) classes && are_distinct_names (map (λ c. c.name) classes)

abbrev pub are_masks : ℕ → List MaskDesc → Bool
are_masks regs masks = nat_le (length masks) 512 && list_all (is_mask_desc regs) masks && are_distinct_names (map (λ m. m.name) masks)

abbrev pub are_opcodes : List UnitDesc → List RegDesc → List ClassDesc → List OpcodeDesc → Bool
are_opcodes units regs classes opcodes =
    nat_le (length opcodes) 1024
    && starts_with_the_five opcodes
    && list_all (is_opcode_desc units regs classes) (drop 5 opcodes)
    && are_distinct_names (map (λ o. o.name) opcodes)

-- distinct words of `target-flags`
abbrev pub are_flag_words : List (List ℕ) → Bool
are_flag_words words = list_all is_flag_word words && are_distinct_names words

-- the rules of a target
unfoldable pub is_sound : List ℕ → ℕ → List UnitDesc → List RegDesc → List UnitNumber → List IndexDesc → List ClassDesc → List MaskDesc → List OpcodeDesc → Bool
is_sound name version units regs reserved indexes classes masks opcodes =
    is_name name
    && (version == 1 || version == 2)
    && are_units units
    && are_regs version units regs
    && are_reserved regs reserved
    && are_indexes version indexes
    && are_classes units regs classes
    && are_masks (length regs) masks
    && are_opcodes units regs classes opcodes
    && list_all (is_complete regs reserved indexes classes opcodes) classes
