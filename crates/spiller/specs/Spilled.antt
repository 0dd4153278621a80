-- The function after a range is spilled: what becomes of each place that touches it.
use Rattle.std.specs.Prelude.{◌≡◌, ℕ, Bool, false, cond, not, ◌+◌, ◌<◌, ◌&&◌, List, [], ◌∷◌, ◌++◌, map, filter, filter_map, find, flat_map, length, Option, Some, None, option_map, option_and_then, nat_eq}
use Rattle.std.specs.List.{list_any, sum_by, zip}
use Rattle.target_base.specs.declared.types.ClassId.{ClassId}
use Rattle.target_base.specs.declared.types.IndexId.{IndexId}
use Rattle.target_base.specs.declared.types.Effect.{Effect}
use Rattle.target_base.specs.declared.types.Effect.TheVariants as effects
use Rattle.target_base.specs.declared.types.Role.{Role}
use Rattle.target_base.specs.declared.types.Target.{Target}
use Rattle.target_base.specs.Storage.{same_numbers}
use Rattle.mir_func.specs.declared.func.Loc.TheVariants.{Virtual}
use Rattle.mir_func.specs.declared.func.RegOp.{RegOp}
use Rattle.mir_func.specs.declared.func.Operand.{Operand}
use Rattle.mir_func.specs.declared.func.Operand.TheVariants as operands
use Rattle.mir_func.specs.declared.func.Instr.{Instr}
use Rattle.mir_func.specs.declared.func.Block.{Block}
use Rattle.mir_func.specs.Value.{Function}
use Rattle.mir_func.specs.Binding.{Bound, effect_of, explicit_bound, explicit_roles, roles_of, numbered, tied_number, operand_class}
use Rattle.mir_meaning.specs.Registers.{numbers, operand_widths, slot_lane_numbers}
use Rattle.mir_meaning.specs.Places.{Variable, Using, variable, same_use}
use Rattle.spiller.specs.Reaching.{Facts, AreFacts}
use Rattle.spiller.specs.Setting.{Spilling, is_own, own_class, part_class, moving_class, own_lanes, is_live_behind, plain_use, plain_definition, undef_use, in_own_slot, store, reload, class_beside}
use Rattle.spiller.specs.Rematerialised.{places_of, ways_read, tied_readings, way_reading, copy_reading, repeated_for, repeated, is_needless}
use Rattle.spiller.specs.Slots.{Slots, own_slot, with_slot, with_ranges}

-- What becomes of a place: new instructions, its own ones as they are changed, and new ones behind them; and the new
-- ranges that it gets, its tinies, in order, each with its class and with the instruction that names its place.
pub record Change : Type 0 where
  pub tinies : List (Option ClassId × ℕ)
  pub before : List Instr
  pub own : List Instr
  pub behind : List Instr

-- these stand in place of what stood there, and there are no tinies
abbrev pub becomes : List Instr → Change
becomes is = record { tinies = []; before = []; own = is; behind = [] }

-- another instruction in an instruction's place keeps its id, flags and tail
abbrev pub in_place_of : Instr → Instr → Instr
in_place_of i x = record x { id = i.id; flags = i.flags; tail = i.tail }

-- Lanes of one slot go to lanes of another through a tiny c: a reload in the instruction's place, and a store, with
-- the new id n, which names the tiny's place.
abbrev pub through_tiny : Spilling → ℕ → ℕ → Instr → Option ClassId → List Operand → List Operand → Change
through_tiny s n c i k from to = record {
  tinies = (k, n) ∷ [];
  before = [];
  own = in_place_of i (reload s.target k (plain_definition (Virtual c) None) from) ∷ [];
  behind = store s.target k (plain_use (Virtual c) None) to ∷ [];
}

-- A copy from the range to another register: the repeated instruction, or a reload.
abbrev pub copied_out : Spilling → Instr → RegOp → RegOp → Change
copied_out s i d o = elim (repeated_for s (copy_reading s i d o)) [
  | None ↦ becomes (in_place_of i (reload s.target (class_beside s d d.loc) (plain_definition d.loc d.index) (in_own_slot s o.index)) ∷ [])
  | Some x ↦ record (becomes []) { before = repeated x (plain_definition d.loc d.index) ∷ [] }
]

-- A copy to the range from another register: a store.
abbrev pub copied_in : Spilling → Instr → RegOp → RegOp → Change
copied_in s i d o = becomes (in_place_of i (store s.target (class_beside s o o.loc) (plain_use o.loc o.index) (in_own_slot s d.index)) ∷ [])

-- A copy between lanes of the range: nothing where they are the same lanes.
abbrev pub copied_within : Spilling → ℕ → ℕ → Instr → RegOp → RegOp → Change
copied_within s n c i d o =
    cond (same_numbers (own_lanes s d.index) (own_lanes s o.index)) (becomes [])
    (through_tiny s n c i (moving_class s d.index) (in_own_slot s o.index) (in_own_slot s d.index))

-- what becomes of a copy
abbrev pub copy_change : Spilling → ℕ → ℕ → Instr → RegOp → RegOp → Change
copy_change s n c i d o =
    cond (is_own s o) (cond (is_own s d) (copied_within s n c i d o) (copied_out s i d o))
    (cond (is_own s d) (copied_in s i d o) (becomes (i ∷ [])))

-- these operands name, in the range's own slot, the lanes of the register operand
abbrev pub is_own_part : Spilling → RegOp → List Operand → Bool
is_own_part s o (operands.Stack m ∷ k ∷ os) = nat_eq m s.slot && same_numbers (slot_lane_numbers s.target (operand_widths s.target s.func o) k) (own_lanes s o.index)
is_own_part s o slot = false

-- A store of the range, or a reload into it, vanishes between it and its own slot; otherwise lanes go from slot to slot.
abbrev pub slot_change : Spilling → ℕ → ℕ → Instr → RegOp → List Operand → (List Operand → List Operand → Change) → Change
slot_change s n c i o slot through = cond (is_own s o) (cond (is_own_part s o slot) (becomes []) (through (in_own_slot s o.index) slot)) (becomes (i ∷ []))

-- IMPLICIT_DEF of the range: nothing where no lane of it is live behind, and otherwise a store of an `undef` register.
abbrev pub undefined_change : Spilling → Instr → RegOp → Change
undefined_change s i o =
    let k = part_class s.target o.index (own_class s) in
    cond (not (is_own s o)) (becomes (i ∷ []))
    (cond (is_live_behind s i o.index) (becomes (in_place_of i (store s.target k (undef_use s.target k) (in_own_slot s o.index)) ∷ [])) (becomes []))

-- Any other place has tinies numbered from c on: one for each way of reading the range, then one for each definition of
-- it. A use that is tied to a definition of the range shares that one's tiny.

-- a definition of the range: its instruction, its number among the operands, its index and its operand class
pub record OwnDefinition : Type 0 where
  pub by : Instr
  pub number : ℕ
  pub index : Option IndexId
  pub class : Option ClassId

-- the operands of an instruction, each with its number and the role that it takes where it is explicit
abbrev pub numbered_operands : Target → Instr → List (ℕ × Bound)
numbered_operands t i = numbered 0 (explicit_bound (explicit_roles (roles_of t i)) i.operands)

-- the definition of the range that an operand is
abbrev pub own_definition : Spilling → Instr → ℕ × Bound → Option OwnDefinition
own_definition s i (n, (r, operands.Reg o)) = cond (is_own s o && o.def) (Some (record { by = i; number = n; index = o.index; class = operand_class s.target s.func r o })) None
own_definition s i (n, (r, o)) = None

-- the definitions of the range by the instructions of a place, in operand order
abbrev pub definitions_in : Spilling → List Instr → List OwnDefinition
definitions_in s is = flat_map (λ i. filter_map (own_definition s i) (numbered_operands s.target i)) is

-- the tinies of a place by their numbers: what each stands for
pub record Seats : Type 0 where
  pub ways : List (ℕ × Variable)
  pub definitions : List (ℕ × OwnDefinition)

-- the tinies of a place, numbered from c on
abbrev pub seats_from : Spilling → ℕ → List Instr → Seats
seats_from s c is =
    let ways = ways_read s is in
    record { ways = numbered c ways; definitions = numbered (c + length ways) (definitions_in s is) }

-- what gives a tiny the value that is read: the repeated instruction, or a reload
abbrev pub given : Spilling → List Instr → ℕ × Variable → Instr
given s is p = elim (repeated_for s (way_reading s is p.1)) [
  | None ↦ reload s.target p.1.class (plain_definition (Virtual p.0) None) (in_own_slot s p.1.index)
  | Some d ↦ repeated d (plain_definition (Virtual p.0) None)
]

-- the reload of the use that is tied to a definition, into its tiny
abbrev pub tied_reload : Spilling → ℕ × OwnDefinition → List Instr
tied_reload s p =
    map (λ x. reload s.target p.1.class (plain_definition (Virtual p.0) None) (in_own_slot s x.tied_use.index))
    (filter (λ x. nat_eq x.number p.1.number) (tied_readings s p.1.by))

-- the store of a definition, where a lane of it is live behind the instruction
abbrev pub stored : Spilling → ℕ × OwnDefinition → List Instr
stored s p = cond (is_live_behind s p.1.by p.1.index) (store s.target p.1.class (plain_use (Virtual p.0) None) (in_own_slot s p.1.index) ∷ []) []

-- the tiny of an operand's way of reading
abbrev pub tiny_read : Spilling → Seats → Option Role → RegOp → Option ℕ
tiny_read s x r o = option_map (λ p. p.0) (find (λ p. same_use (variable Using s.range o.index (operand_class s.target s.func r o)) p.1) x.ways)

-- the tiny of the instruction's definition of that number, where this is one of the range
abbrev pub tiny_defined : Seats → Instr → ℕ → Option ℕ
tiny_defined x i n = option_map (λ p. p.0) (find (λ p. nat_eq p.1.by.id i.id && nat_eq p.1.number n) x.definitions)

-- the tiny of a use: that of the definition to which it is tied, or that of its way of reading, where it isn't `undef`
abbrev pub tiny_used : Spilling → Seats → Instr → Option Role → RegOp → Option ℕ
tiny_used s x i r o = elim (option_and_then tied_number r) [
  | None ↦ cond o.undef None (tiny_read s x r o)
  | Some n ↦ tiny_defined x i n
]

-- the tiny of an operand of that number
abbrev pub tiny_of : Spilling → Seats → Instr → ℕ → Option Role → RegOp → Option ℕ
tiny_of s x i n r o = cond o.def (tiny_defined x i n) (tiny_used s x i r o)

-- a tiny, defined or used as the operand is
abbrev pub as_tiny : RegOp → ℕ → RegOp
as_tiny o c = record (plain_use (Virtual c) None) { def = o.def; undef = not o.def && o.undef }

-- A register operand of that number with its tiny in place of the range. One without a tiny stays; lowering leaves none
-- behind: `undef` uses that aren't tied are fixed registers, and those that are tied name what their definitions name.
abbrev pub seated : Spilling → Seats → Instr → ℕ → Option Role → RegOp → RegOp
seated s x i n r o = cond (is_own s o) (elim (tiny_of s x i n r o) [ None ↦ o | Some c ↦ as_tiny o c ]) o

-- an operand of that number with its tiny in place of the range
abbrev pub seated_operand : Spilling → Seats → Instr → ℕ × Bound → Operand
seated_operand s x i (n, (r, operands.Reg o)) = operands.Reg (seated s x i n r o)
seated_operand s x i (n, (r, o)) = o

-- an instruction with tinies in place of the range
abbrev pub with_tinies : Spilling → Seats → Instr → Instr
with_tinies s x i = record i { operands = map (seated_operand s x i) (numbered_operands s.target i) }

-- the id of the first of these instructions, which names their place
abbrev pub place_name : List Instr → ℕ
place_name [] = 0
place_name (i ∷ is) = i.id

-- What becomes of any other place: reloads or repeated instructions, the place itself with tinies, and stores. Reloads and
-- stores stand in the order of their tinies.
abbrev pub place_change : Spilling → ℕ → List Instr → Change
place_change s c is =
    let x = seats_from s c is in
    record {
      tinies = map (λ k. (k, place_name is)) (map (λ p. p.1.class) x.ways ++ map (λ p. p.1.class) x.definitions);
      before = map (given s is) x.ways ++ flat_map (tied_reload s) x.definitions;
      own = map (with_tinies s x) is;
      behind = flat_map (stored s) x.definitions;
    }

-- what becomes of one instruction, by its effect; new ids are given from n on, and new range numbers from c on
abbrev pub effect_change : Spilling → ℕ → ℕ → Instr → Option Effect → List Operand → Change
effect_change s n c i (Some effects.Copy) (operands.Reg d ∷ operands.Reg o ∷ os) = copy_change s n c i d o
effect_change s n c i (Some effects.Spill) (operands.Reg o ∷ slot) = slot_change s n c i o slot (λ own other. through_tiny s n c i (moving_class s o.index) own other)
effect_change s n c i (Some effects.Reload) (operands.Reg o ∷ slot) = slot_change s n c i o slot (λ own other. through_tiny s n c i (moving_class s o.index) other own)
effect_change s n c i (Some effects.ImplicitDef) (operands.Reg o ∷ os) = undefined_change s i o
effect_change s n c i e os = cond (is_needless s i) (becomes []) (place_change s c (i ∷ []))

-- what becomes of a place
abbrev pub change : Spilling → ℕ → ℕ → List Instr → Change
change s n c (i ∷ []) = effect_change s n c i (effect_of s.target i) i.operands
change s n c is = place_change s c is

-- new instructions with the ids from n on
abbrev pub with_ids : ℕ → List Instr → List Instr
with_ids n is = map (λ p. record p.1 { id = p.0 }) (zip (numbers n (length is)) is)

-- how many instructions are new at a place
abbrev pub new_ids : Change → ℕ
new_ids x = length x.before + length x.behind

-- what becomes of a place, its new instructions with the ids from n on, in layout order
abbrev pub numbered_change : Spilling → ℕ → ℕ → List Instr → Change
numbered_change s n c is =
    let x = change s n c is in
    record x { before = with_ids n x.before; behind = with_ids (n + length x.before) x.behind }

-- what becomes of places in order
abbrev pub changes : Spilling → ℕ → ℕ → List (List Instr) → List Change
changes s n c [] = []
changes s n c (is ∷ rest) = let x = numbered_change s n c is in x ∷ changes s (n + new_ids x) (c + length x.tinies) rest

-- the tinies of places
abbrev pub tinies_of : List Change → List (Option ClassId × ℕ)
tinies_of xs = flat_map (λ x. x.tinies) xs

-- what becomes of the places of blocks in layout
abbrev pub block_changes : Spilling → ℕ → ℕ → List Block → List (List Change)
block_changes s n c [] = []
block_changes s n c (b ∷ bs) = let xs = changes s n c (places_of s.target b) in xs ∷ block_changes s (n + sum_by new_ids xs) (c + length (tinies_of xs)) bs

-- those of all places of the function
abbrev pub all_changes : Spilling → List (List Change)
all_changes s = block_changes s s.func.next_id (length s.func.classes) s.func.blocks

-- a block's instructions are those of its places, one place after the other
abbrev pub spilled_block : Block × List Change → Block
spilled_block p = record p.0 { instrs = flat_map (λ x. x.before ++ (x.own ++ x.behind)) p.1 }

-- the function after the range is spilled
unfoldable pub spilled : Spilling → Function
spilled s = record s.func {
  classes = s.func.classes ++ map (λ x. x.0) (flat_map tinies_of (all_changes s));
  blocks = map spilled_block (zip s.func.blocks (all_changes s));
  next_id = s.func.next_id + sum_by (sum_by new_ids) (all_changes s);
}

-- the tinies in order, by their range numbers, each with the instruction that names its place
unfoldable pub tinies : Spilling → List (ℕ × ℕ)
tinies s =
    let made = flat_map tinies_of (all_changes s) in
    zip (numbers (length s.func.classes) (length made)) (map (λ x. x.1) made)

-- the operand is the slot
abbrev pub is_slot : ℕ → Operand → Bool
is_slot n (operands.Stack m) = nat_eq m n
is_slot n o = false

-- an instruction of the function names the slot
abbrev pub names_slot : ℕ → Function → Bool
names_slot n f = list_any (λ b. list_any (λ i. list_any (is_slot n) i.operands) b.instrs) f.blocks

-- the slots then: the range's is given where a store or a reload names it, and each tiny is its own original
unfoldable pub slots_after : Slots → Spilling → Slots
slots_after slots s = with_ranges (cond (names_slot s.slot (spilled s)) (with_slot slots s.range) slots) (length (tinies s))

-- the range as it is spilled under these facts
abbrev pub setting_of : Target → Function → Slots → ℕ → Facts → Spilling
setting_of t f slots v facts = record { target = t; func = f; range = v; slot = own_slot slots v; facts = facts }

-- g, with these slots, is f after range v is spilled, and these are the tinies
pub record IsSpilled (t : Target) (f : Function) (slots : Slots) (v : ℕ) (g : Function) (new : Slots) (made : List (ℕ × ℕ)) : Type 0 where
  pub facts : Facts
  pub are_facts : AreFacts t f v facts
  pub func : g ≡ spilled (setting_of t f slots v facts)
  pub slot : new ≡ slots_after slots (setting_of t f slots v facts)
  pub tinies : made ≡ tinies (setting_of t f slots v facts)

-- the most range numbers that may be given for one function
abbrev pub most_ranges : ℕ
most_ranges = 1048576

-- it would have too many range numbers
abbrev pub TooManyRanges : Target → Function → Slots → ℕ → Type 0
TooManyRanges t f slots v = (facts : Facts) × AreFacts t f v facts × (most_ranges < length (spilled (setting_of t f slots v facts)).classes)
