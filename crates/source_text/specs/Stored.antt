-- Which stores to new spill slots, and reloads from them, stay within their slot.
use Rattle.std.specs.Prelude.{ℕ, Bool, true, false, cond, ◌&&◌, ◌||◌, nat_eq, nat_le, List, [], ◌∷◌, length, take, find, Option, Some, None, slice_get}
use Rattle.std.specs.List.{list_all, list_any}
use Rattle.target_base.specs.declared.types.Unit.{Unit as UnitNumber}
use Rattle.target_base.specs.declared.types.Effect.{Effect}
use Rattle.target_base.specs.declared.types.ClassDesc.{ClassDesc}
use Rattle.target_base.specs.declared.types.Target.{Target}
use Rattle.target_base.specs.Storage.{class_units, unit_width, widths, same_numbers}
use Rattle.target_base.specs.Registers.{units_of, lanes_of}
use Rattle.target_base.specs.Rules.{is_spill, is_reload}
use Rattle.mir_func.specs.declared.func.Loc.{Loc}
use Rattle.mir_func.specs.declared.func.Loc.TheVariants.{Virtual, Fixed}
use Rattle.mir_func.specs.declared.func.Operand.{Operand}
use Rattle.mir_func.specs.declared.func.Operand.TheVariants as operands
use Rattle.mir_func.specs.declared.func.Instr.{Instr}
use Rattle.mir_func.specs.declared.func.Block.{Block}
use Rattle.mir_func.specs.declared.func.RegOp.{RegOp}
use Rattle.mir_func.specs.Binding.{does, passes, register_at, slot_at}
use Rattle.source_text.specs.Slots.{bytes_of}
use Rattle.source_text.specs.declared.slots.NewSlot.{NewSlot}

-- a store to a slot, or a reload from one
abbrev pub uses_slot : Effect → Bool
uses_slot e = is_spill e || is_reload e

-- the unit is as wide as the one at a lane, where there is one
abbrev pub is_as_wide : Target → Option UnitNumber → UnitNumber → Bool
is_as_wide t None u = false
is_as_wide t (Some v) u = nat_eq (unit_width t.units v) (unit_width t.units u)

-- the lanes of these numbers are there among the units, and as wide as the last list's units
abbrev pub are_at : Target → List UnitNumber → List ℕ → List UnitNumber → Bool
are_at t vs [] [] = true
are_at t vs [] (u ∷ us) = false
are_at t vs (k ∷ ks) [] = false
are_at t vs (k ∷ ks) (u ∷ us) = is_as_wide t (slice_get vs k) u && are_at t vs ks us

-- the first units are as wide as the last list's, which aren't more
abbrev pub are_first : Target → List UnitNumber → List UnitNumber → Bool
are_first t vs us = nat_le (length us) (length vs) && same_numbers (widths t.units (take (length us) vs)) (widths t.units us)

-- a `lanes` operand places the units of a register among those of a slot: at its index, or first
abbrev pub are_placed : Target → List UnitNumber → Operand → List UnitNumber → Bool
are_placed t vs (operands.Index x) us = are_at t vs (lanes_of t x) us
are_placed t vs k us = are_first t vs us

-- the class's registers take this many bytes, and each of the units has a lane of its width in one that lies in the slot
abbrev pub holds : Target → ℕ → Operand → List UnitNumber → ClassDesc → Bool
holds t bytes k us d = nat_eq (bytes_of t d) bytes && are_placed t (class_units t.regs d.regs) k us

-- a register of some class can lie in the slot, and the units have their lanes in it
abbrev pub fits_slot : Target → Operand → List UnitNumber → Option NewSlot → Bool
fits_slot t k us None = false
fits_slot t k us (Some s) = list_any (holds t s.bytes k us) t.classes

-- of a physical register the same
abbrev pub register_fits : Target → Operand → Loc → Option NewSlot → Bool
register_fits t k (Virtual v) s = false
register_fits t k (Fixed r) s = fits_slot t k (units_of t r) s

-- a register, the number of a slot and a `lanes` operand: the slot is one of these, and the register fits it
abbrev pub placed_in : Target → List NewSlot → Operand → Option RegOp → Option ℕ → Bool
placed_in t slots k (Some o) (Some n) = register_fits t k o.loc (find (λ s. nat_eq s.number n) slots)
placed_in t slots k _ _ = false

-- the operands of a store or a reload, which are these three, name one of the slots, and what they store or reload lies in it
abbrev pub operands_fit : Target → List NewSlot → List Operand → Bool
operands_fit t slots os = passes (λ k. placed_in t slots k (register_at os 0) (slot_at os 1)) (slice_get os 2)

-- each store and each reload does
abbrev pub instr_fits : Target → List NewSlot → Instr → Bool
instr_fits t slots i = cond (does uses_slot t i) (operands_fit t slots i.operands) true

abbrev pub block_fits : Target → List NewSlot → Block → Bool
block_fits t slots b = list_all (instr_fits t slots) b.instrs
