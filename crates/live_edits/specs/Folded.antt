-- Joins: a range, or its lanes of an index, stands for another range in all operands.
use Rattle.std.specs.Prelude.{◌≡◌, ◌<◌, ℕ, length, Bool, true, false, cond, not, ◌&&◌, nat_eq, List, [], ◌∷◌, map, filter, flat_map, find, position, option_map, Option, Some, None, slice_get, slice_index, slice_set}
use Rattle.std.specs.List.{list_any}
use Rattle.target_base.specs.declared.types.IndexId.{IndexId}
use Rattle.target_base.specs.declared.types.ClassId.{ClassId}
use Rattle.target_base.specs.declared.types.Reg.{Reg}
use Rattle.target_base.specs.declared.types.Target.{Target}
use Rattle.target_base.specs.Numbers.{index_number}
use Rattle.target_base.specs.Registers.{lanes_of, widths_of_some}
use Rattle.target_base.specs.Rules.{is_copy, regs_of_some}
use Rattle.target_base.specs.Storage.{is_within}
use Rattle.meaning.specs.declared.types.Lane.{Lane}
use Rattle.meaning.specs.declared.types.Lane.TheVariants.{VirtualLane}
use Rattle.meaning.specs.Lanes.{same_lane}
use Rattle.meaning.specs.Live.{Among}
use Rattle.mir_func.specs.declared.func.Loc.TheVariants.{Virtual}
use Rattle.mir_func.specs.declared.func.RegOp.{RegOp}
use Rattle.mir_func.specs.declared.func.Op.{Op}
use Rattle.mir_func.specs.declared.func.Op.TheVariants as ops
use Rattle.mir_func.specs.declared.func.Operand.{Operand}
use Rattle.mir_func.specs.declared.func.Operand.TheVariants as operands
use Rattle.mir_func.specs.declared.func.Instr.{Instr}
use Rattle.mir_func.specs.declared.func.Block.{Block}
use Rattle.mir_func.specs.Value.{Function, IsFunction}
use Rattle.mir_func.specs.Binding.{class_of, does, registers}
use Rattle.mir_meaning.specs.Registers.{operand_lanes, range_widths}
use Rattle.mir_meaning.specs.Points.{is_range, touches, has_no_phis}
use Rattle.mir_meaning.specs.Renaming.{renamed_instr, renamed_operand}
use Rattle.live_lanes.specs.declared.table.Table.{Table}
use Rattle.live_lanes.specs.Doing.{IsComputed}
use Rattle.live_lanes.specs.Tells.{touching_ids}
use Rattle.live_laws.specs.Effects.Coded.{KeepsRules}
use Rattle.live_laws.specs.Touch.{are_known}
use Rattle.edit_laws.specs.Deferred.{SpareGone}
use Rattle.edit_laws.specs.Edits.{Edit, Replace, Erase, all_edited}
use Rattle.edit_laws.specs.Further.{KeepsLast}
use Rattle.live_edits.specs.declared.edit_run.EditRun.{EditRun}
use Rattle.live_edits.specs.declared.fold.Join.{Join}
use Rattle.live_edits.specs.EditedRuns.{IsFresh}
use Rattle.live_edits.specs.Runs.{HavePlaces, table_of}

-- the lane that lane k of a register is among those of an index; all its lanes without one
abbrev pub lane_within : Target → Option IndexId → ℕ → ℕ
lane_within t None k = k
lane_within t (Some x) k = slice_index (lanes_of t x) k

-- where a join sends a lane: a lane of the range that goes becomes one of the range that stays
abbrev pub image : Target → Join → Lane → Lane
image t j (VirtualLane v k) = cond (nat_eq v j.gone) (VirtualLane j.keep (lane_within t j.index k)) (VirtualLane v k)
image t j l = l

-- there is a number, and it is that one
abbrev pub is_number : Option ℕ → ℕ → Bool
is_number None k = false
is_number (Some n) k = nat_eq n k

-- the lanes are those that `inner` picks of `outer`
abbrev pub are_picked : List ℕ → List ℕ → List ℕ → Bool
are_picked outer [] [] = true
are_picked outer (k ∷ inner) (l ∷ lanes) = is_number (slice_get outer k) l && are_picked outer inner lanes
are_picked outer _ _ = false

-- an index within the lanes of another: the first with these lanes
abbrev pub composed : Target → IndexId → IndexId → Option IndexId
composed t x y = option_map index_number (position (λ d. are_picked (lanes_of t x) (lanes_of t y) d.lanes) t.indexes)

-- an index of the range that goes, as one of the range that stays
abbrev pub index_within : Target → Option IndexId → Option IndexId → Option IndexId
index_within t None y = y
index_within t (Some x) None = Some x
index_within t (Some x) (Some y) = composed t x y

-- a register operand after a join
abbrev pub joined_operand : Target → Join → RegOp → RegOp
joined_operand t j o = cond (is_range j.gone o.loc) (record o { loc = Virtual j.keep; index = index_within t j.index o.index }) o

-- the lists have the same lanes
abbrev pub same_lanes : List Lane → List Lane → Bool
same_lanes [] [] = true
same_lanes (l ∷ ls) (m ∷ ms) = same_lane l m && same_lanes ls ms
same_lanes _ _ = false

-- the sides of a copy
abbrev pub two_sides : List Operand → Option (RegOp × RegOp)
two_sides (operands.Reg d ∷ operands.Reg s ∷ []) = Some (d, s)
two_sides _ = None

abbrev pub copy_sides : Target → Instr → Option (RegOp × RegOp)
copy_sides t i = cond (does is_copy t i) (two_sides i.operands) None

-- the map sends each lane that is written to where it sends the lane that is read, and these weren't one
abbrev pub unites : Target → Function → (Lane → Lane) → Option (RegOp × RegOp) → Bool
unites t f m None = false
unites t f m (Some (d, s)) = not (same_lanes (operand_lanes t f d) (operand_lanes t f s)) && same_lanes (map m (operand_lanes t f d)) (map m (operand_lanes t f s))

-- the copy becomes an identity by the join
abbrev pub becomes_identity : Target → Function → Join → Instr → Bool
becomes_identity t f j i = unites t f (image t j) (copy_sides t i)

-- the instruction with the range that stays in all its operands
abbrev pub joined_instr : Target → Join → Instr → Instr
joined_instr t j i = renamed_instr (joined_operand t j) i

-- a block after a join
abbrev pub folded_block : Target → Function → Join → Block → Block
folded_block t f j b = record b { instrs = map (joined_instr t j) (filter (λ i. not (becomes_identity t f j i)) b.instrs) }

-- the function after a join, but for classes: the one range renamed to the other, without the copies that become identities by that
abbrev pub joined : Target → Join → Function → Function
joined t j f = record f { blocks = map (folded_block t f j) f.blocks }

-- classes

-- the registers that a range may have
abbrev pub registers_of : Target → Function → ℕ → List Reg
registers_of t f v = regs_of_some t.classes (class_of f v)

-- the range's registers are all registers of the other
abbrev pub is_narrower : Target → Function → ℕ → ℕ → Bool
is_narrower t f v w = is_within (registers_of t f v) (registers_of t f w)

-- the class of the range that stays: where one stands whole for the other, the smaller
abbrev pub joined_class : Target → Function → Join → Option IndexId → Option ClassId
joined_class t f j None = cond (is_narrower t f j.gone j.keep && not (is_narrower t f j.keep j.gone)) (class_of f j.gone) (class_of f j.keep)
joined_class t f j (Some x) = class_of f j.keep

-- the function with this class of the range that stays
abbrev pub narrowed : Target → Join → Function → Function
narrowed t j f = record f { classes = slice_set f.classes j.keep (joined_class t f j j.index) }

-- the function after a join
abbrev pub folded : Target → Join → Function → Function
folded t j f = narrowed t j (joined t j f)

-- edits

-- An instruction gets its operands after the join. No edit gives an instruction of an excluded opcode others.
abbrev pub rename_edit : ℕ → Op → List Operand → Edit
rename_edit id (ops.Known op) os = Replace id op os
rename_edit id (ops.Excluded name) os = Erase id

-- what a join makes of an instruction, as an edit
abbrev pub fold_edit : Target → Function → Join → Instr → Edit
fold_edit t f j i = cond (becomes_identity t f j i) (Erase i.id) (rename_edit i.id i.op (map (renamed_operand (joined_operand t j)) i.operands))

-- all instructions of a function, in layout
abbrev pub all_instrs : Function → List Instr
all_instrs f = flat_map (λ b. b.instrs) f.blocks

-- of the instruction of an id, where there is one
abbrev pub edit_at : Target → Function → Join → ℕ → Edit
edit_at t f j id = elim (find (λ i. nat_eq i.id id) (all_instrs f)) [ None ↦ Erase id | Some i ↦ fold_edit t f j i ]

abbrev pub fold_edits : Target → Function → Join → List ℕ → List Edit
fold_edits t f j ids = map (edit_at t f j) ids

-- an operand of the instruction has the range
abbrev pub names_range : ℕ → Instr → Bool
names_range v i = list_any (λ o. is_range v o.loc) (registers i.operands)

-- these are instructions of the function in layout order, each once, and all are among them that name the range
pub record AreNamed (f : Function) (v : ℕ) (ids : List ℕ) : Type 0 where
  pub test : Instr → Bool
  pub listed : ids ≡ map (λ i. i.id) (filter test (all_instrs f))
  pub named : (i : Instr) → Among i (all_instrs f) → names_range v i ≡ true → test i ≡ true

-- no instruction names the range in uses alone that are `undef`
abbrev pub TouchesNamed : Function → ℕ → Type 0
TouchesNamed f v = (i : Instr) → Among i (all_instrs f) → names_range v i ≡ true → touches v i ≡ true

-- the instructions that touch a range are those that name it where none names it in `undef` uses alone
abbrev pub NamedLaw : Type 0
NamedLaw = (f : Function) (v : ℕ) → TouchesNamed f v → AreNamed f v (touching_ids f v)

-- Where the instructions that name the range that goes are edited one after the other, the join is done.
abbrev pub FoldLaw : Type 0
FoldLaw =
    (t : Target) (f : Function) (j : Join) (ids : List ℕ) → IsFunction f.blocks f.next_id → are_known t f.blocks ≡ true → AreNamed f j.gone ids
    → all_edited f (fold_edits t f j ids) ≡ joined t j f

-- In a function without phis these edits have their places, and none changes what is erased.
abbrev pub FoldPlacesLaw : Type 0
FoldPlacesLaw =
    (t : Target) (f : Function) (j : Join) (ids : List ℕ) → IsFunction f.blocks f.next_id → are_known t f.blocks ≡ true → has_no_phis t f.blocks ≡ true → AreNamed f j.gone ids
    → HavePlaces t f (fold_edits t f j ids) × SpareGone [] f (fold_edits t f j ids)

-- A computed table stays so where a range gets another class with the same lanes.
abbrev pub NarrowLaw : Type 0
NarrowLaw =
    (t : Target) (f : Function) (x : Table) (v : ℕ) (c : Option ClassId) → IsComputed t f x → widths_of_some t c ≡ range_widths t f v
    → IsComputed t (record f { classes = slice_set f.classes v c }) x

-- Where a range stands whole for another, both have the same lanes.
abbrev pub SharesWidths : Target → Function → Join → Type 0
SharesWidths t f j = j.index ≡ None → range_widths t f j.gone ≡ range_widths t f j.keep

-- what a join asks of a function and its table
pub record MayBeFolded (t : Target) (f : Function) (x : Table) (j : Join) (ids : List ℕ) : Type 0 where
  pub computed : IsComputed t f x
  pub rules : KeepsRules t f
  pub last : KeepsLast t f
  pub function : IsFunction f.blocks f.next_id
  pub blocks : length f.blocks < 4294967296
  pub phis : has_no_phis t f.blocks ≡ true
  pub known : are_known t f.blocks ≡ true
  pub named : AreNamed f j.gone ids
  pub widths : SharesWidths t f j

-- what a join asks of a run
pub record MayFold (t : Target) (r : EditRun) (j : Join) (ids : List ℕ) : Type 0 where
  pub fresh : IsFresh r
  pub join : MayBeFolded t r.draft.func (table_of r) j ids

-- the range that stays has its class after the join, and all else is as it was
pub record Narrows (t : Target) (j : Join) (old new : EditRun) : Type 0 where
  pub func : new.draft.func ≡ narrowed t j old.draft.func
  pub order : new.draft.order ≡ old.draft.order
  pub draft_log : new.draft.log ≡ old.draft.log
  pub lanes : new.lanes ≡ old.lanes
  pub flow : new.flow ≡ old.flow
  pub rows : new.rows ≡ old.rows
  pub touched : new.touched ≡ old.touched
  pub gone : new.gone ≡ old.gone
  pub aside : new.aside ≡ old.aside
