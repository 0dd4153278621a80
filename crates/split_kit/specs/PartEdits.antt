-- The edits by which a range is split, in layout order.
use Rattle.std.specs.Prelude.{◌≡◌, ◌<◌, ℕ, Bool, true, false, cond, not, ◌&&◌, nat_eq, nat_le, length, take, drop, filter, List, [], ◌∷◌, ◌++◌, map, flat_map, Option, Some, None, slice_get}
use Rattle.std.specs.List.{position_or_len}
use Rattle.std.specs.Ordering.{nat_cmp}
use Rattle.std.specs.BTreeMap.{get}
use Rattle.slot_index.specs.Order.{number_of}
use Rattle.target_base.specs.declared.types.ClassId.{ClassId}
use Rattle.target_base.specs.declared.types.Target.{Target}
use Rattle.target_base.specs.Numbers.{op_number}
use Rattle.target_base.specs.Registers.{IsClass}
use Rattle.mir_func.specs.declared.func.Loc.TheVariants.{Virtual}
use Rattle.mir_func.specs.declared.func.RegOp.{RegOp}
use Rattle.mir_func.specs.declared.func.Op.{Op}
use Rattle.mir_func.specs.declared.func.Op.TheVariants as ops
use Rattle.mir_func.specs.declared.func.Operand.{Operand}
use Rattle.mir_func.specs.declared.func.Gap.{Gap}
use Rattle.mir_func.specs.declared.func.Instr.{Instr}
use Rattle.meaning.specs.Live.{Among}
use Rattle.mir_func.specs.declared.func.Block.{Block}
use Rattle.mir_func.specs.Value.{Function, IsFunction}
use Rattle.mir_meaning.specs.Points.{Point, Start, Entry, Tests, is_range, touches, has_no_phis}
use Rattle.mir_meaning.specs.Renaming.{renamed_operand}
use Rattle.mir_meaning.specs.Rules.{V5}
use Rattle.live_lanes.specs.declared.ask.labels.Mark.{Mark}
use Rattle.live_lanes.specs.declared.ask.labels.Spot.{Spot}
use Rattle.live_lanes.specs.declared.ask.labels.Spot.TheVariants.{Border, Gap as AtGap}
use Rattle.live_lanes.specs.declared.table.Table.{Table}
use Rattle.live_lanes.specs.Doing.{IsComputed}
use Rattle.live_lanes.specs.Looks.{InOrder, entry_at}
use Rattle.live_lanes.specs.Ordered.{ids_of}
use Rattle.live_lanes.specs.Table.{Numbers}
use Rattle.live_lanes.specs.Tells.{TellsTouched}
use Rattle.live_lanes.specs.Touching.{FindsInstrs, leaves_block, some_lane}
use Rattle.live_laws.specs.Effects.Coded.{KeepsRules}
use Rattle.live_laws.specs.Touch.{are_known}
use Rattle.edit_laws.specs.Deferred.{SpareGone}
use Rattle.edit_laws.specs.Edits.{Edit, Put, Replace, all_edited}
use Rattle.edit_laws.specs.Further.{KeepsLast, with_classes}
use Rattle.live_edits.specs.Folded.{TouchesNamed}
use Rattle.live_edits.specs.Runs.{HavePlaces}
use Rattle.split_kit.specs.Split.{RangeLive, as_part, label_behind, last_point, part, split_by, start_label, whole}

-- a copy from the part of one label to that of another goes into the gap, where these differ and some lane of the range is live
abbrev pub copy_edits : Function → Gap → Bool → ℕ → ℕ → List Edit
copy_edits f gap is_live from to = cond (is_live && not (nat_eq from to)) (Put gap (op_number 0) (whole true (part f to) ∷ whole false (part f from) ∷ []) ∷ []) []

-- an instruction gets other operands; one of an excluded opcode stays
abbrev pub operand_edits : ℕ → Op → List Operand → List Edit
operand_edits id (ops.Known op) os = Replace id op os ∷ []
operand_edits id (ops.Excluded name) os = []

-- the operand with another register in the range's place
abbrev pub as_range : ℕ → ℕ → RegOp → RegOp
as_range v w o = cond (is_range v o.loc) (record o { loc = Virtual w }) o

-- the instruction gets a label's part in the range's place
abbrev pub part_edits : Function → ℕ → ℕ → Instr → List Edit
part_edits f v label i = operand_edits i.id i.op (map (renamed_operand (as_part f v label)) i.operands)

-- the gap of a block before an instruction, or at its end
abbrev pub gap_of : Block → Option ℕ → Gap
gap_of b before = record { block = b.number; before = before }

-- how many of the first of these instructions stand before a gap of their block
abbrev pub stand_before : Numbers → Option ℕ → List ℕ → ℕ
stand_before slots None ids = length ids
stand_before slots (Some next) ids = position_or_len (λ id. nat_le (number_of slots next) (number_of slots id)) ids

-- some lane of the range is live at a gap of the block at a position
abbrev pub gap_live : Table → List Block → ℕ → ℕ → Option ℕ → Bool
gap_live x bs v position None = leaves_block x v position (slice_get bs position)
gap_live x bs v position (Some id) = some_lane x v (λ l. entry_at x (Some l) id)

-- the label that a mark gives to the start of a block, and that which marks of the block in order give to it
abbrev pub border_label : Spot → ℕ → ℕ
border_label Border label = label
border_label (AtGap g) label = 0

abbrev pub first_label : List Mark → ℕ
first_label [] = 0
first_label (m ∷ ms) = border_label m.spot m.label

-- in a block where this label holds, from the first of its instructions that touch the range on: up to each gap with a mark these get the
-- part of the label that holds, and at the gap it changes
module _ (f : Function) (v : ℕ) (slots : Numbers) (live : Option ℕ → Bool) where
  abbrev pub gap_edits : ℕ → List Instr → List Mark → List Edit
  gap_edits now own [] = flat_map (part_edits f v now) own
  gap_edits now own (m ∷ ms) = elim m.spot [
    | Border ↦ gap_edits now own ms
    | AtGap g ↦ let count = stand_before slots g.before (ids_of own) in flat_map (part_edits f v now) (take count own) ++ (copy_edits f g (live g.before) now m.label ++ gap_edits m.label (drop count own) ms)
  ]

-- range v of f is split by these labels; the test tells the points at which it is live
module _ (live : Point → Bool) (f : Function) (v : ℕ) (ms : List Mark) where
  -- in block b from some instruction on, where this label holds
  abbrev pub instr_edits : Block → ℕ → List Instr → List Edit
  instr_edits b now [] = copy_edits f (gap_of b None) (live (last_point (Start b.number) b.instrs)) now (label_behind ms b.number None now)
  instr_edits b now (i ∷ is) =
      let to = label_behind ms b.number (Some i.id) now in
      copy_edits f (gap_of b (Some i.id)) (live (Entry i.id)) now to ++ (cond (touches v i) (part_edits f v to i) [] ++ instr_edits b to is)

  abbrev pub block_edits : Block → List Edit
  block_edits b = instr_edits b (start_label ms b.number) b.instrs

  abbrev pub split_edits : List Edit
  split_edits = flat_map block_edits f.blocks

-- what these edits ask of the function: ids and numbers of blocks are distinct, all opcodes are known, none is a phi, and no instruction
-- names the range in uses alone that are `undef`
pub record HasParts (t : Target) (f : Function) (v : ℕ) : Type 0 where
  pub function : IsFunction f.blocks f.next_id
  pub numbers : (k : ℕ) (b : Block) → slice_get f.blocks k ≡ Some b → V5 f k b ≡ true
  pub phis : has_no_phis t f.blocks ≡ true
  pub known : are_known t f.blocks ≡ true
  pub named : TouchesNamed f v

-- the function with other classes
abbrev pub classed : List (Option ClassId) → Function → Function
classed cs f = record f { classes = cs }

-- they split the range where they are done one after the other, each has its place, and none changes what is erased
pub record DoSplit (t : Target) (g h : Function) (es : List Edit) : Type 0 where
  pub split : all_edited g es ≡ h
  pub places : HavePlaces t g es
  pub spare : SpareGone [] g es

-- so they do whatever classes the function has by then
abbrev pub SplitEditsLaw : Type 0
SplitEditsLaw =
    (t : Target) (live : Point → Bool) (f : Function) (v : ℕ) (ms : List Mark) (cs : List (Option ClassId)) → HasParts t f v
    → DoSplit t (classed cs f) (classed cs (split_by live f v ms)) (split_edits live f v ms)

-- where labels begin

-- the marks in the blocks of a number
abbrev pub marks_in : List Mark → ℕ → List Mark
marks_in ms n = filter (λ m. nat_eq m.block n) ms

-- the gaps of a block from some instruction on, and all places of it at which a label may begin
abbrev pub gaps_from : Block → List Instr → List Spot
gaps_from b [] = AtGap (gap_of b None) ∷ []
gaps_from b (i ∷ is) = AtGap (gap_of b (Some i.id)) ∷ gaps_from b is

abbrev pub spots_of : Block → List Spot
spots_of b = Border ∷ gaps_from b b.instrs

-- the second list has some elements of the first, in order
pub data IsThinned {X : Type 0} : List X → List X → Type 0 where
  none : IsThinned [] []
  keeps : {x : X} {xs ys : List X} → IsThinned xs ys → IsThinned (x ∷ xs) (x ∷ ys)
  drops : {x : X} {xs ys : List X} → IsThinned xs ys → IsThinned (x ∷ xs) ys

-- marks stand in layout order: block by block, and in each at places of the block in order, at most one at each
pub record AreInTurn (f : Function) (ms : List Mark) : Type 0 where
  pub blocks : ms ≡ flat_map (λ b. marks_in ms b.number) f.blocks
  pub spots : (b : Block) → Among b f.blocks → IsThinned (spots_of b) (map (λ m. m.spot) (marks_in ms b.number))

-- the test tells what the table does at the gaps of blocks
pub record IsSeen (x : Table) (f : Function) (v : ℕ) (live : Point → Bool) : Type 0 where
  pub entry : (b : Block) (i : Instr) → Among b f.blocks → Among i b.instrs → live (Entry i.id) ≡ some_lane x v (λ l. entry_at x (Some l) i.id)
  pub end : (k : ℕ) (b : Block) → slice_get f.blocks k ≡ Some b → live (last_point (Start b.number) b.instrs) ≡ leaves_block x v k (Some b)

-- what the table tells of a function in which a range is to be split
pub record ShowsParts (x : Table) (f : Function) (v : ℕ) (ms : List Mark) (live : Point → Bool) : Type 0 where
  pub order : InOrder x
  pub finds : FindsInstrs x f.blocks
  pub positions : (k : ℕ) (b : Block) → slice_get f.blocks k ≡ Some b → get nat_cmp x.order.positions b.number ≡ Some k
  pub touched : TellsTouched x f v
  pub seen : IsSeen x f v live
  pub few : length f.classes < 2147483648
  pub marks : AreInTurn f ms

-- a computed table shows that
abbrev pub ShownPartsLaw : Type 0
ShownPartsLaw =
    (t : Target) (f : Function) (x : Table) (v : ℕ) (ms : List Mark) → IsComputed t f x → KeepsRules t f → KeepsLast t f → has_no_phis t f.blocks ≡ true → are_known t f.blocks ≡ true → length f.classes < 2147483648 → AreInTurn f ms
    → (test : Point → Bool) × Tests (RangeLive t f v) test × ShowsParts x f v ms test

-- the instruction stands in one of the blocks
pub record IsWithin (bs : List Block) (i : Instr) : Type 0 where
  pub position : ℕ
  pub place : ℕ
  pub block : Block
  pub there : slice_get bs position ≡ Some block
  pub instr : slice_get block.instrs place ≡ Some i

abbrev pub AreWithin : List Block → List Instr → Type 0
AreWithin bs is = (i : Instr) → Among i is → IsWithin bs i

-- a function with further classes keeps the rules
abbrev pub FurtherRulesLaw : Type 0
FurtherRulesLaw = (t : Target) (f : Function) (cs : List (Option ClassId)) → KeepsRules t f → ((c : ClassId) → Among (Some c) cs → IsClass t c) → KeepsRules t (with_classes f cs)
