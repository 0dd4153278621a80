-- What a table of live lanes says at the starts of blocks, and the first fault of V13 and V14 by it.
use Rattle.std.specs.Prelude.{◌&&◌, ◌≤◌, ◌^◌, ℕ, suc, Bool, cond, not, nat_lt, List, [], ◌∷◌, map, length, Option, Some, None}
use Rattle.std.specs.List.{list_any}
use Rattle.std.specs.Ordering.{nat_cmp}
use Rattle.std.specs.BTreeMap.{get}
use Rattle.target_base.specs.declared.types.Target.{Target}
use Rattle.target_base.specs.Storage.{class_units}
use Rattle.mir_func.specs.Value.{Function}
use Rattle.mir_func.specs.declared.func.Block.{Block}
use Rattle.mir_meaning.specs.declared.Form.{Form}
use Rattle.mir_meaning.specs.declared.Form.TheVariants as forms
use Rattle.mir_func.specs.Binding.{class_of}
use Rattle.mir_meaning.specs.Registers.{numbers}
use Rattle.mir_meaning.specs.Valid.{Fault, fault_at, liveins_fit, names_virtual}
use Rattle.target_base.specs.Rules.{regs_of_some}
use Rattle.instr_effects.specs.declared.owner.Owner.TheVariants as owners
use Rattle.instr_effects.specs.Numbered.{number_in}
use Rattle.live_laws.specs.Effects.Shaped.{AreClasses}
use Rattle.live_lanes.specs.declared.table.Table.{Table}
use Rattle.live_lanes.specs.Marks.{marked_at}
use Rattle.machine_verify.specs.Liveins.{is_set}

-- the classes of a function's virtual registers are classes of the target, and their numbers have 32 bits
pub record FitsTarget (t : Target) (f : Function) : Type 0 where
  pub classes : AreClasses t f
  pub few : length f.classes ≤ 2 ^ 32

-- the unit is marked live at the start of block n
abbrev pub unit_lives : Table → ℕ → ℕ → Bool
unit_lives x n u = marked_at x.rows.rows.items (number_in x.lanes (owners.Unit u)) (get nat_cmp x.order.positions n)

-- the lane of a virtual register is marked live at the start of block n
abbrev pub lane_lives : Table → ℕ → ℕ → ℕ → Bool
lane_lives x n v k = marked_at x.rows.rows.items (number_in x.lanes (owners.Range v k)) (get nat_cmp x.order.positions n)

-- which units are marked live at the start of block n
abbrev pub flags_of : Target → Table → ℕ → List Bool
flags_of t x n = map (unit_lives x n) (numbers 0 (length t.units))

-- how many lanes the virtual register has
abbrev pub lane_count : Target → Function → ℕ → ℕ
lane_count t f v = length (class_units t.regs (regs_of_some t.classes (class_of f v)))

-- some lane of the virtual register is marked live at the start of block n
abbrev pub register_lives : Target → Function → Table → ℕ → ℕ → Bool
register_lives t f x n v = nat_lt v 4294967296 && list_any (lane_lives x n v) (numbers 0 (lane_count t f v))

-- some lane of a virtual register is marked live at the start of block n
abbrev pub some_register_lives : Target → Function → Table → ℕ → Bool
some_register_lives t f x n = list_any (register_lives t f x n) (numbers 0 (length f.classes))

-- the test of V13, of block k
abbrev pub block_fits : Target → Form → Table → ℕ → Block → Bool
block_fits t form x k b = liveins_fit t form k b (is_set (flags_of t x b.number))

-- the test of V14, where the function starts with block n
abbrev pub starts_fit : Target → Form → Function → Table → ℕ → Bool
starts_fit t forms.Source f x n = not (some_register_lives t f x n)
starts_fit t forms.Allocated f x n = not (list_any names_virtual f.blocks)

-- the first fault of V13 among blocks, the k-th in layout and on
abbrev pub later_fault : Target → Form → Table → ℕ → List Block → Option Fault
later_fault t form x k [] = None
later_fault t form x k (b ∷ bs) = cond (block_fits t form x k b) (later_fault t form x (suc k) bs) (Some (fault_at b 0 13))

-- the first fault of V13 and V14 of a function with these blocks: V13 of the first, V14, and V13 of the later ones
abbrev pub first_late : Target → Form → Function → Table → List Block → Option Fault
first_late t form f x [] = None
first_late t form f x (b ∷ bs) = cond (block_fits t form x 0 b) (cond (starts_fit t form f x b.number) (later_fault t form x 1 bs) (Some (fault_at b 0 14))) (Some (fault_at b 0 13))
