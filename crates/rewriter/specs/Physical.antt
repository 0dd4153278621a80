-- The physical form: each virtual register as the part of its physical register that its index names.
use Rattle.std.specs.Prelude.{ℕ, Bool, true, false, not, ◌&&◌, List, [], ◌∷◌, ◌++◌, map, filter, take, Option, Some, None, slice_get, length, ◌≡◌}
use Rattle.target_base.specs.declared.types.Reg.{Reg}
use Rattle.target_base.specs.declared.types.ClassId.{ClassId}
use Rattle.target_base.specs.declared.types.IndexId.{IndexId}
use Rattle.target_base.specs.declared.types.Target.{Target}
use Rattle.target_base.specs.Registers.{sub_of}
use Rattle.target_base.specs.Rules.{is_copy}
use Rattle.mir_func.specs.declared.func.Loc.{Loc}
use Rattle.mir_func.specs.declared.func.Loc.TheVariants.{Virtual, Fixed}
use Rattle.mir_func.specs.declared.func.RegOp.{RegOp}
use Rattle.mir_func.specs.declared.func.Operand.{Operand}
use Rattle.mir_func.specs.declared.func.Operand.TheVariants as operands
use Rattle.mir_func.specs.declared.func.Instr.{Instr}
use Rattle.mir_func.specs.declared.func.Block.{Block}
use Rattle.mir_func.specs.Value.{Function}
use Rattle.mir_func.specs.Binding.{does, same_loc}
use Rattle.mir_meaning.specs.Registers.{numbers}
use Rattle.mir_meaning.specs.Valid.{cover}
use Rattle.phi_elim.specs.Numbered.{blocks_numbered, instr_count}
use Rattle.rewriter.specs.Head.{head_with_slots}

-- the register of each range number, where it is assigned one
abbrev pub Assignment : Type 0
Assignment = List (Option Reg)

-- the register of a range
abbrev pub register_of : Assignment → ℕ → Option Reg
register_of rs v = elim (slice_get rs v) [ None ↦ None | Some r ↦ r ]

-- the part of a register that an index names; without an index all of it
abbrev pub part_of : Target → Option Reg → Option IndexId → Option Reg
part_of t None x = None
part_of t (Some r) None = Some r
part_of t (Some r) (Some x) = sub_of t r x

-- an operand of this physical register, `renamable`; where there is none it stays
abbrev pub in_register : RegOp → Option Reg → RegOp
in_register o None = o
in_register o (Some r) = record o { loc = Fixed r; index = None; renamable = true; tie = None }

-- a register operand in physical form
abbrev pub physical_at : Target → Assignment → RegOp → Loc → RegOp
physical_at t rs o (Virtual v) = in_register o (part_of t (register_of rs v) o.index)
physical_at t rs o (Fixed r) = o

-- an operand in physical form
abbrev pub physical : Target → Assignment → Operand → Operand
physical t rs (operands.Reg o) = operands.Reg (physical_at t rs o o.loc)
physical t rs o = o

-- an instruction in physical form
abbrev pub physical_instr : Target → Assignment → Instr → Instr
physical_instr t rs i = record i { operands = map (physical t rs) i.operands }

-- the first two operands are of one location
abbrev pub moves_nothing : List Operand → Bool
moves_nothing (operands.Reg d ∷ operands.Reg s ∷ os) = same_loc d.loc s.loc
moves_nothing os = false

-- a COPY of a register to itself
abbrev pub is_identity : Target → Instr → Bool
is_identity t i = does is_copy t i && moves_nothing i.operands

-- instructions in physical form; copies of a register to itself go
abbrev pub physical_instrs : Target → Assignment → List Instr → List Instr
physical_instrs t rs is = filter (λ i. not (is_identity t i)) (map (physical_instr t rs) is)

-- a block in physical form
abbrev pub physical_block : Target → Assignment → Block → Block
physical_block t rs b = record b { instrs = physical_instrs t rs b.instrs }

-- blocks with these live-ins
abbrev pub with_liveins : List (List Reg) → List Block → List Block
with_liveins [] bs = bs
with_liveins (r ∷ rs) [] = []
with_liveins (r ∷ rs) (b ∷ bs) = record b { liveins = r } ∷ with_liveins rs bs

-- a slot as a frame object: a spill slot
abbrev pub slot_frame : ℕ × ClassId → ℕ × Bool
slot_frame s = (s.0, true)

-- g is f with other live-ins in the blocks behind the first
pub record HasLiveins (f g : Function) : Type 0 where
  pub liveins : List (List Reg)
  pub first : take 1 liveins ≡ map (λ b. b.liveins) (take 1 f.blocks)
  pub is : g ≡ record f { blocks = with_liveins liveins f.blocks }

-- g is f in physical form with these slots, but for its key lines
pub record IsPhysicalBut (t : Target) (rs : Assignment) (slots : List (ℕ × ClassId)) (f g : Function) : Type 0 where
  pub head : List ℕ
  pub is : g ≡ record {
    name = f.name;
    head = head;
    classes = [];
    frames = f.frames ++ map slot_frame slots;
    blocks = blocks_numbered 0 (map (physical_block t rs) f.blocks);
    next_id = instr_count (map (physical_block t rs) f.blocks);
  }

-- g is f in physical form with these slots, but for its key lines and the live-ins of the blocks behind the first
pub record IsPhysical (t : Target) (rs : Assignment) (slots : List (ℕ × ClassId)) (f g : Function) : Type 0 where
  pub between : Function
  pub physical : IsPhysicalBut t rs slots f between
  pub liveins : HasLiveins between g

-- The live-ins of blocks by the units that are live at the start of the block at each position: those of the first block stay,
-- and another one lists the cover of its live units.
abbrev pub physical_liveins : Target → (ℕ → ℕ → Bool) → List Block → List (List Reg)
physical_liveins t live [] = []
physical_liveins t live (b ∷ bs) = b.liveins ∷ map (λ p. cover t (live p)) (numbers 1 (length bs))

abbrev pub with_covers : Target → (ℕ → ℕ → Bool) → Function → Function
with_covers t live f = record f { blocks = with_liveins (physical_liveins t live f.blocks) f.blocks }

-- a function in physical form with these slots, but with the live-ins that it had
abbrev pub without_ranges : Target → Assignment → List (ℕ × ClassId) → Function → Function
without_ranges t rs slots f = record {
  name = f.name;
  head = head_with_slots t slots f.head;
  classes = [];
  frames = f.frames ++ map slot_frame slots;
  blocks = blocks_numbered 0 (map (physical_block t rs) f.blocks);
  next_id = instr_count (map (physical_block t rs) f.blocks);
}

-- a function in physical form with these slots, where these units are live at the starts of blocks
abbrev pub physical_form : Target → Assignment → List (ℕ × ClassId) → (ℕ → ℕ → Bool) → Function → Function
physical_form t rs slots live f = with_covers t live (without_ranges t rs slots f)
