-- Tinies at a place: which get their lanes before it, which are stored behind it, and which operands they stand for.
use Rattle.std.specs.Prelude.{◌≡◌, ◌≤◌, ◌⊎◌, ◌++◌, ℕ, Bool, true, false, cond, is_some, nat_eq, length, map, slice_index, List, [], ◌∷◌, Option, None, Some}
use Rattle.target_base.specs.declared.types.ClassId.{ClassId}
use Rattle.target_base.specs.declared.types.IndexId.{IndexId}
use Rattle.target_base.specs.declared.types.Effect.{Effect}
use Rattle.target_base.specs.Registers.{IsClass}
use Rattle.target_base.specs.Roles.{is_silent}
use Rattle.meaning.specs.declared.types.Lane.TheVariants.{SlotLane, UnitLane, VirtualLane}
use Rattle.meaning.specs.declared.types.Source.{Source}
use Rattle.meaning.specs.declared.types.Source.TheVariants.{Bits, FromLane, Undef}
use Rattle.meaning.specs.declared.types.Rest.{Rest}
use Rattle.meaning.specs.Lanes.{Reads, Writes}
use Rattle.meaning.specs.Relations.{AlikeOperands, Rel}
use Rattle.meaning.specs.Code.{Code, Counted, Edge, Item, Silent}
use Rattle.meaning.specs.Live.{Among as Member, Writing}
use Rattle.mir_func.specs.declared.func.Loc.TheVariants.{Virtual}
use Rattle.mir_func.specs.declared.func.RegOp.{RegOp}
use Rattle.mir_func.specs.declared.func.Operand.{Operand}
use Rattle.mir_func.specs.declared.func.Operand.TheVariants as operands
use Rattle.mir_func.specs.Value.{Function}
use Rattle.mir_func.specs.declared.func.Instr.{Instr}
use Rattle.mir_func.specs.declared.func.Block.{Block}
use Rattle.mir_func.specs.Binding.{as_register, class_of, does, effect_of, implicit_registers, is_definition, is_terminator, registers}
use Rattle.mir_meaning.specs.Codes.{item_of, target_of, way}
use Rattle.mir_meaning.specs.Items.{at_all_widths, counted_writes, moved, rest_of, undefined, values}
use Rattle.mir_meaning.specs.Renaming.{IsFixed}
use Rattle.mir_meaning.specs.Rules.{has_class}
use Rattle.mir_meaning.specs.Places.{Variable}
use Rattle.mir_meaning.specs.Registers.{is_reserved, numbers, operand_widths, range_widths, slot_lanes}
use Rattle.lowering_laws.proofs.Stretches.{Stretch}
use Rattle.lowering_laws.proofs.Traced.{is_one, is_written, lanes_by, silents}
use Rattle.spiller.specs.Reaching.{Reads as Reading}
use Rattle.spiller.specs.Rematerialised.{Never, all_readings, is_constant, reading_of, way_reading}
use Rattle.spiller.specs.Setting.{Spilling, in_own_slot, is_live_behind, is_own, own_lanes, plain_definition, plain_use, reload, store}
use Rattle.spiller.specs.Spilled.{as_tiny, becomes, given, place_change}
use Rattle.spill_laws.specs.Standing.{IsAt, IsSetting, IsStored, code_before, code_from, slot_lane, IsSite, LeavesRange, LiveIn, OwnStands, PlaceStands, Stands, starts}

-- a tiny whose lanes are given sources, by a reload or a repeated constant
pub record Load : Type 0 where
  pub tiny : ℕ
  pub early : Bool
  pub sources : List Source

-- a tiny whose lanes are stored to these lanes of the range's slot
pub record Save : Type 0 where
  pub tiny : ℕ
  pub lanes : List ℕ

-- a source that is no lane of a virtual register
abbrev pub IsPlain : Source → Type 0
IsPlain (FromLane (VirtualLane w k)) = ⊥
IsPlain (FromLane (UnitLane u)) = Unit {0}
IsPlain (FromLane (SlotLane n k w)) = Unit {0}
IsPlain Undef = Unit {0}
IsPlain (Bits c low width) = Unit {0}

-- the source that stands beside a number
abbrev pub source_at : List ℕ → List Source → ℕ → Source
source_at [] ss k = Undef
source_at (j ∷ ks) [] k = Undef
source_at (j ∷ ks) (q ∷ ss) k = cond (nat_eq j k) q (source_at ks ss k)

-- An operand of the instruction x, which p follows, and what stands in its place: itself, where it isn't the range; an `undef`
-- use; a tiny that gets, lane by lane, what the range's lanes are found as; or a tiny that is stored where a lane is live behind.
-- All have their widths in h.
pub data Seat (s : Spilling) (h : Function) (x : Item) (p : Code) (loads : List Load) (saves : List Save) (o o' : RegOp) : Type 0 where
  same : is_own s o ≡ false → o' ≡ o → Seat s h x p loads saves o o'
  blank : is_own s o ≡ true → o.implicit ≡ false → o.def ≡ false → o.undef ≡ true → o'.def ≡ false → o'.implicit ≡ false → o'.undef ≡ true → operand_widths s.target h o' ≡ operand_widths s.target h o → Seat s h x p loads saves o o'
  reading : (l : Load) (found : ℕ → Source) → is_own s o ≡ true → o.implicit ≡ false → o.def ≡ false → o.undef ≡ false → Member l loads → l.sources ≡ map found (own_lanes s o.index)
      → ((j : ℕ) → Member j (own_lanes s o.index) → OwnStands s (x ∷ p) j (found j)) → o' ≡ as_tiny o l.tiny → operand_widths s.target h (as_tiny o l.tiny) ≡ operand_widths s.target h o → Seat s h x p loads saves o o'
  defining : (c : ℕ) → is_own s o ≡ true → o.implicit ≡ false → o.def ≡ true → length s.func.classes ≤ c
      → ((k : ℕ) → Member k (own_lanes s o.index) → LiveIn s p (VirtualLane s.range k) → Member (record { tiny = c; lanes = own_lanes s o.index }) saves)
      → ((y : Save) → Member y saves → y.tiny ≡ c → y.lanes ≡ own_lanes s o.index) → o' ≡ as_tiny o c → operand_widths s.target h (as_tiny o c) ≡ operand_widths s.target h o → Seat s h x p loads saves o o'

-- operands, and what stands in their places
pub data Seated (s : Spilling) (h : Function) (x : Item) (p : Code) (loads : List Load) (saves : List Save) : List Operand → List Operand → Type 0 where
  none : Seated s h x p loads saves [] []
  register : {o o' : RegOp} {os os' : List Operand} → Seat s h x p loads saves o o' → Seated s h x p loads saves os os' → Seated s h x p loads saves (operands.Reg o ∷ os) (operands.Reg o' ∷ os')
  other : {y : Operand} {os os' : List Operand} → as_register y ≡ None → Seated s h x p loads saves os os' → Seated s h x p loads saves (y ∷ os) (y ∷ os')

-- The tinies are further registers, each loaded from one list of sources; each lane of the slot is stored once at most, and is
-- one that a definition of the range writes.
pub record IsSeating (s : Spilling) (x : Item) (os : List Operand) (loads : List Load) (saves : List Save) : Type 0 where
  pub loads_further : (l : Load) → Member l loads → length s.func.classes ≤ l.tiny
  pub loads_once : (l m : Load) → Member l loads → Member m loads → l.tiny ≡ m.tiny → l ≡ m
  pub loads_plain : (l : Load) (q : Source) → Member l loads → Member q l.sources → IsPlain q
  pub saves_further : (y : Save) → Member y saves → length s.func.classes ≤ y.tiny
  pub saves_once : (y z : Save) (k : ℕ) → Member y saves → Member z saves → Member k y.lanes → Member k z.lanes → y ≡ z
  pub saves_written : (y : Save) (k : ℕ) → Member y saves → Member k y.lanes → Writing x (VirtualLane s.range k)
  pub saves_named : (y : Save) (k : ℕ) → Member y saves → Member k y.lanes → (o : RegOp) × Member (operands.Reg o) os × (is_definition o ≡ true) × (is_own s o ≡ true) × Member k (own_lanes s o.index)

-- what is written before a place to a tiny, and behind one to the slot
abbrev pub load_writes : Load → Writes
load_writes l = moved l.early (lanes_by l.tiny (numbers 0 (length l.sources))) l.sources

abbrev pub save_writes : Spilling → Save → Writes
save_writes s y =
    moved false (slot_lanes s.slot y.lanes (map (slice_index (range_widths s.target s.func s.range)) y.lanes)) (map FromLane (lanes_by y.tiny (numbers 0 (length y.lanes))))
    ++ undefined false (at_all_widths s.target s.slot y.lanes)

-- A counted instruction that is no terminator and names no block, of a function in which each register that it names has its class.
-- Its definitions are not `undef`, and its implicit operands are fixed. h has the classes of the function after the spill.
pub record IsCountedInstr (s : Spilling) (g h : Function) (i : Instr) (e : Effect) (os' : List Operand) : Type 0 where
  pub classes : h.classes ≡ g.classes
  pub stay : (w : ℕ) → is_some (class_of s.func w) ≡ true → class_of h w ≡ class_of s.func w
  pub bare : (n m : ℕ) → (way s.target g n m).phis ≡ []
  pub known : effect_of s.target i ≡ Some e
  pub counts : is_silent e ≡ false
  pub goes_on : is_terminator e ≡ false
  pub nowhere : target_of i.operands ≡ None
  pub named : (o : RegOp) → Member o (registers i.operands) → has_class s.func o.loc ≡ true
  pub plain : (o : RegOp) → Member o (registers i.operands) → o.def ≡ true → o.undef ≡ false
  pub fixed : (o : RegOp) → Member o (implicit_registers i.operands) → IsFixed o.loc
  pub fixed_behind : (o : RegOp) → Member o (registers os') → o.implicit ≡ true → IsFixed o.loc

-- the item that it is
abbrev pub counted_item : Spilling → Function → Instr → Effect → Item
counted_item s h i e = Counted (rest_of s.target h e i) (map (λ v. v.0) (values s.target h e i)) (counted_writes s.target h e i) None []

-- With tinies in place of the range it stands between what is loaded before it and what is stored behind it.
abbrev pub CountedSeatsStand : Type 0
CountedSeatsStand =
    (s : Spilling) (g h : Function) (c : Block) (i : Instr) (e : Effect) (p : Code) (os' : List Operand) (loads : List Load) (saves : List Save) → IsCountedInstr s g h i e os'
    → Seated s h (counted_item s h i e) p loads saves i.operands os' → IsSeating s (counted_item s h i e) i.operands loads saves → IsSite s i.id (counted_item s h i e) p
    → PlaceStands s (counted_item s h i e ∷ []) (silents (map load_writes loads) ++ (item_of s.target g c (record i { operands = os' }) ∷ silents (map (save_writes s) saves))) p

-- where the range's lanes are found at a place, or which loaded tiny holds them
abbrev pub Held : Spilling → List Load → Code → Rel
Held s loads p a source =
    Stands s p a source
    ⊎ ((k : ℕ) × (z : ℕ) × (l : Load) × Member l loads × (a ≡ FromLane (VirtualLane s.range k)) × (source ≡ FromLane (VirtualLane l.tiny z))
    × (is_one (numbers 0 (length l.sources)) z ≡ true) × LiveIn s p (VirtualLane s.range k) × OwnStands s p k (source_at (numbers 0 (length l.sources)) l.sources z))

-- A counted instruction, as a terminator, that leaves the range and reads tinies that were loaded before: they hold their lanes
-- behind it, and on each way.
abbrev pub ReadersHold : Type 0
ReadersHold =
    (s : Spilling) (loads : List Load) (r : Rest) (reads reads' : Reads) (ws : Writes) (target : Option Edge) (exits : List Edge) (p : Code) → LeavesRange s (Counted r reads ws target exits) p
    → ((l : Load) (z : ℕ) → Member l loads → is_written ws (VirtualLane l.tiny z) ≡ false) → AlikeOperands (Held s loads (Counted r reads ws target exits ∷ p)) reads reads'
    → Stretch (starts s) (Held s loads (Counted r reads ws target exits ∷ p)) (Held s loads p) (Counted r reads ws target exits ∷ []) (Counted r reads' ws target exits ∷ [])

-- What is loaded before a place is held there.
abbrev pub LoadsHold : Type 0
LoadsHold =
    (s : Spilling) (loads : List Load) (p : Code) → ((l : Load) → Member l loads → length s.func.classes ≤ l.tiny) → ((l m : Load) → Member l loads → Member m loads → l.tiny ≡ m.tiny → l ≡ m)
    → ((l : Load) (q : Source) → Member l loads → Member q l.sources → IsPlain q) → Stretch (starts s) (Stands s p) (Held s loads p) [] (silents (map load_writes loads))

-- A constant or an address for the range stands with a tiny r of its widths in the range's place, and with a store where a lane
-- of it is live behind.
abbrev pub ConstantSeatsStand : Type 0
ConstantSeatsStand =
    (s : Spilling) (g : Function) (b c : Block) (i : Instr) (p : Code) (d : RegOp) (rest : List Operand) (r : ℕ) (k : ClassId) → IsSetting s g → IsAt s b i p → does is_constant s.target i ≡ true
    → i.operands ≡ operands.Reg d ∷ rest → is_own s d ≡ true → length s.func.classes ≤ r → class_of g r ≡ Some k → IsClass s.target k
    → range_widths s.target g r ≡ map (slice_index (range_widths s.target s.func s.range)) (own_lanes s d.index)
    → let own = item_of s.target g c (record i { operands = operands.Reg (as_tiny d r) ∷ rest }) in let before = item_of s.target s.func b i in
    (is_live_behind s i d.index ≡ true → PlaceStands s (before ∷ []) (own ∷ item_of s.target g c (store s.target (Some k) (plain_use (Virtual r) None) (in_own_slot s d.index)) ∷ []) p)
    × (is_live_behind s i d.index ≡ false → PlaceStands s (before ∷ []) (own ∷ []) p)

-- What gives a tiny the value that is read at a place is a load of its lanes, and these stand as the range's do where it is read.
pub record GivesLoad (s : Spilling) (g : Function) (c : Block) (is : List Instr) (p : ℕ × Variable) : Type 0 where
  pub load : Load
  pub tiny : load.tiny ≡ p.0
  pub item : item_of s.target g c (given s is p) ≡ Silent [] (load_writes load)
  pub found : ℕ → Source
  pub sources : load.sources ≡ map found (own_lanes s p.1.index)
  pub plain : (q : Source) → Member q load.sources → IsPlain q
  pub stands : (i : Instr) (x : Item) (q : Code) → code_from s i.id ≡ x ∷ q → Member i (way_reading s is p.1).by → (j : ℕ) → Member j (own_lanes s p.1.index)
      → Reading (is_reserved s.target) (code_before s) (VirtualLane s.range j) x q → OwnStands s (x ∷ q) j (found j)

-- So it is for each way of reading whose tiny has its class, with as many lanes as it reads, each as wide.
abbrev pub WaysLoad : Type 0
WaysLoad =
    (s : Spilling) (g : Function) (c : Block) (is : List Instr) (p : ℕ × Variable) (k : ClassId) → IsSetting s g → Member (way_reading s is p.1) (all_readings s) → p.1.class ≡ Some k → IsClass s.target k
    → range_widths s.target g p.0 ≡ map (slice_index (range_widths s.target s.func s.range)) (own_lanes s p.1.index) → GivesLoad s g c is p

-- A store of a tiny to the range's slot is a save, and a reload of one a load of what is found there, where the tiny has as many
-- lanes, each as wide.
abbrev pub TinyMoves : Type 0
TinyMoves =
    (s : Spilling) (g : Function) (c : Block) (n : ℕ) (k : ClassId) (x : Option IndexId) → IsClass s.target k → range_widths s.target g n ≡ map (slice_index (range_widths s.target s.func s.range)) (own_lanes s x)
    → (item_of s.target g c (store s.target (Some k) (plain_use (Virtual n) None) (in_own_slot s x)) ≡ Silent [] (save_writes s (record { tiny = n; lanes = own_lanes s x })))
    × ((early : Bool) × (item_of s.target g c (reload s.target (Some k) (plain_definition (Virtual n) None) (in_own_slot s x)) ≡ Silent [] (load_writes (record { tiny = n; early = early; sources = map (λ j. FromLane (slot_lane s j)) (own_lanes s x) }))))

-- No definition that reaches a reading for which nothing serves, as by a tied use, is gone.
abbrev pub UnservedStored : Type 0
UnservedStored =
    (s : Spilling) (g : Function) (i : Instr) (x : Option IndexId) (y : Item) (q : Code) (j : ℕ) → IsSetting s g → code_from s i.id ≡ y ∷ q → Member (reading_of s (i ∷ []) x Never) (all_readings s)
    → Member j (own_lanes s x) → Reading (is_reserved s.target) (code_before s) (VirtualLane s.range j) y q → IsStored s j (y ∷ q)

-- An instruction that names the range nowhere gets no tinies, and stays as it is.
abbrev pub StrangePlaces : Type 0
StrangePlaces = (s : Spilling) (c : ℕ) (i : Instr) → ((o : RegOp) → Member o (registers i.operands) → is_own s o ≡ false) → place_change s c (i ∷ []) ≡ becomes (i ∷ [])
