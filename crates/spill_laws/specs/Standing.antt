-- Where a function's lanes are found after a range of it is spilled, place by place.
use Rattle.std.specs.Prelude.{◌≡◌, ◌⊎◌, ◌≤◌, ℕ, true, false, length, map, slice_index, List, [], ◌∷◌, ◌++◌, None, Some, Option, flat_map}
use Rattle.target_base.specs.declared.types.Effect.TheVariants as effects
use Rattle.target_base.specs.declared.types.Target.{Target}
use Rattle.meaning.specs.declared.types.Lane.{Lane}
use Rattle.meaning.specs.declared.types.Lane.TheVariants.{SlotLane, VirtualLane}
use Rattle.meaning.specs.declared.types.Source.{Source}
use Rattle.meaning.specs.declared.types.Source.TheVariants.{Bits, FromLane, Undef}
use Rattle.meaning.specs.declared.types.Fill.TheVariants.{Moved}
use Rattle.meaning.specs.Lanes.{filled}
use Rattle.meaning.specs.declared.types.Write.{Write}
use Rattle.meaning.specs.Code.{BlockEnd, BlockStart, Code, Counted, Edge, Given, Item, Silent, found, start_state}
use Rattle.meaning.specs.Layout.{NoPhisAlong, NoPhisInto}
use Rattle.meaning.specs.Live.{Among as Member, Kept, Live, LiveAfter, Writing, in_order, reads_of, writes_of}
use Rattle.meaning.specs.Environment.{Environment}
use Rattle.meaning.specs.Lanes.{Writes}
use Rattle.meaning.specs.Relations.{Rel, Within}
use Rattle.laws.proofs.Agreeing.{Agrees}
use Rattle.laws.proofs.Core.{Plan}
use Rattle.mir_func.specs.declared.func.Instr.{Instr}
use Rattle.mir_func.specs.declared.func.Block.{Block}
use Rattle.mir_func.specs.declared.func.RegOp.{RegOp}
use Rattle.mir_func.specs.declared.func.Operand.{Operand}
use Rattle.mir_func.specs.declared.func.Operand.TheVariants as operands
use Rattle.mir_func.specs.Value.{Function}
use Rattle.mir_func.specs.Binding.{class_of, does, effect_of, puts_together, registers}
use Rattle.mir_func.specs.declared.func.Edge.{Edge as Successor}
use Rattle.mir_meaning.specs.Codes.{block_end, blocks_code, fallen_into, given_of, item_of, refines, way}
use Rattle.live_laws.specs.Effects.Shaped.{AreClasses, IsShaped}
use Rattle.lowering_laws.specs.Form.{is_lowered}
use Rattle.mir_meaning.specs.Points.{AtFirst, from_instr, points_of}
use Rattle.mir_meaning.specs.Registers.{is_reserved, range_widths}
use Rattle.lowering_laws.proofs.Classes.{AreNamed}
use Rattle.lowering_laws.proofs.Olds.{AllOld, ReadsOld, is_old}
use Rattle.lowering_laws.proofs.Stretches.{Stretch}
use Rattle.lowering_laws.proofs.Traced.{is_lane_of, is_written}
use Rattle.spiller.specs.Reaching.{AreFacts, Brings}
use Rattle.spiller.specs.Rematerialised.{copy_reading, is_needless, places_of, repeated_for}
use Rattle.spiller.specs.Setting.{Spilling, is_own, moving_class}
use Rattle.spiller.specs.Spilled.{Change, becomes, copied_in, copied_out, copied_within, slot_change, through_tiny, undefined_change, with_ids}
use Rattle.spill_laws.specs.Laws.{KeepsClasses}

-- the code before the spill
abbrev pub code_before : Spilling → Code
code_before s = points_of s.target s.func

-- that code from the instruction of an id on
abbrev pub code_from : Spilling → ℕ → Code
code_from s d = from_instr s.target s.func d s.func.blocks

-- a lane is live at a place, and live or reserved there
abbrev pub LiveIn : Spilling → Code → Lane → Type 0
LiveIn s p a = Live (is_reserved s.target) (code_before s) p a

abbrev pub KeptIn : Spilling → Code → Lane → Type 0
KeptIn s p a = Kept (is_reserved s.target) (code_before s) p a

-- what the instruction of an id writes to lane k of the range is there still at a place, on some path
abbrev pub IsBrought : Spilling → ℕ → ℕ → Code → Type 0
IsBrought s d k p = AtFirst (λ i q. Brings (code_before s) (VirtualLane s.range k) i q p) (code_from s d)

-- the instruction of an id isn't needed any more
pub record IsGone (s : Spilling) (d : ℕ) : Type 0 where
  pub block : Block
  pub instr : Instr
  pub there : Member block s.func.blocks
  pub inside : Member instr block.instrs
  pub named : instr.id ≡ d
  pub needless : is_needless s instr ≡ true

-- no definition of the lane that is there is gone
abbrev pub IsStored : Spilling → ℕ → Code → Type 0
IsStored s k p = (d : ℕ) → IsBrought s d k p → IsGone s d → ⊥

-- a source that is a constant
abbrev pub IsConstant : Source → Type 0
IsConstant (Bits c low width) = Unit {0}
IsConstant Undef = ⊥
IsConstant (FromLane a) = ⊥

-- one definition alone of the lane is there at most, and gives it this constant
pub record IsRepeated (s : Spilling) (k : ℕ) (p : Code) (source : Source) : Type 0 where
  pub by : ℕ
  pub only : (d : ℕ) → IsBrought s d k p → d ≡ by
  pub gives : AtFirst (λ i q. filled (writes_of i) (VirtualLane s.range k) ≡ Moved source) (code_from s by)
  pub constant : IsConstant source

-- lane k of the range in its slot
abbrev pub slot_lane : Spilling → ℕ → Lane
slot_lane s k = SlotLane s.slot k (slice_index (range_widths s.target s.func s.range) k)

-- where lane k of the range is found: in its slot, or as a constant
abbrev pub OwnStands : Spilling → Code → ℕ → Source → Type 0
OwnStands s p k source = (IsStored s k p × (source ≡ FromLane (slot_lane s k))) ⊎ IsRepeated s k p source

-- a lane that isn't the range's, and not one of a further register
pub record IsBeside (s : Spilling) (a : Lane) : Type 0 where
  pub other : is_lane_of s.range a ≡ false
  pub old : is_old (length s.func.classes) a ≡ true

-- a lane that is kept is found where it was, or where the range's lane is
abbrev pub LaneStands : Spilling → Code → Lane → Source → Type 0
LaneStands s p a source =
    (IsBeside s a × KeptIn s p a × (source ≡ FromLane a))
    ⊎ ((k : ℕ) × (a ≡ VirtualLane s.range k) × LiveIn s p a × OwnStands s p k source)

-- the sources of the function at a place, and where they are found after the spill
abbrev pub Stands : Spilling → Code → Rel
Stands s p (FromLane a) source = LaneStands s p a source
Stands s p Undef source = Unit {0}
Stands s p (Bits c low width) source = source ≡ Bits c low width

-- the same at the starts of blocks
abbrev pub starts : Spilling → Plan
starts s n = Stands s (found n (code_before s))

-- Items of the function, which p follows, and what stands in their place after the spill: where lanes are found before
-- these they are found behind them.
abbrev pub PlaceStands : Spilling → Code → Code → Code → Type 0
PlaceStands s items others p = Stretch (starts s) (Stands s (items ++ p)) (Stands s p) items others

-- the item is of an instruction, without phis on its ways out, and its target is one of these
abbrev pub IsInside : Item → Type 0
IsInside (BlockStart n) = ⊥
IsInside (BlockEnd falls exits) = ⊥
IsInside (Silent reads ws) = reads ≡ []
IsInside (Counted r reads ws target exits) = NoPhisInto target × NoPhisAlong exits × ((e : Edge) → target ≡ Some e → Member e exits)

-- An item, which p follows, leaves the range: it doesn't write it, gives nothing of it to others, and writes no lane of its slot
-- where the range is live behind. It gives nothing of further registers.
pub record LeavesRange (s : Spilling) (i : Item) (p : Code) : Type 0 where
  pub inside : IsInside i
  pub gives : (w : Write) (k : ℕ) → Member w (writes_of i) → w.fill ≡ Moved (FromLane (VirtualLane s.range k)) → ⊥
  pub writes : (k : ℕ) → is_written (writes_of i) (VirtualLane s.range k) ≡ false
  pub apart : (k : ℕ) → LiveAfter (is_reserved s.target) (code_before s) i p (VirtualLane s.range k) → is_written (writes_of i) (slot_lane s k) ≡ false
  pub old : AllOld (length s.func.classes) (writes_of i)

-- It has nothing to do with the range: it doesn't read it either.
pub record IsBystander (s : Spilling) (i : Item) (p : Code) : Type 0 where
  pub leaves : LeavesRange s i p
  pub reads : (ss : List Source) (k : ℕ) → Member ss (reads_of i) → Member (FromLane (VirtualLane s.range k)) ss → ⊥
  pub old_reads : ReadsOld (length s.func.classes) (reads_of i)

-- Such an item stays as it is.
abbrev pub BystandersStand : Type 0
BystandersStand = (s : Spilling) (i : Item) (p : Code) → IsBystander s i p → PlaceStands s (i ∷ []) (i ∷ []) p

-- a lane is live behind an instruction, which p follows, or written there
abbrev pub Occupies : Spilling → Item → Code → Lane → Type 0
Occupies s x p a = LiveAfter (is_reserved s.target) (code_before s) x p a ⊎ Writing x a

-- The item of the instruction of an id, which p follows. Behind it no lane of the range's slot is live or written where one of
-- the range is.
pub record IsSite (s : Spilling) (d : ℕ) (x : Item) (p : Code) : Type 0 where
  pub from : code_from s d ≡ x ∷ p
  pub order : in_order x ≡ true
  pub apart : (k j w : ℕ) → Occupies s x p (VirtualLane s.range k) → Occupies s x p (SlotLane s.slot j w) → ⊥

-- An instruction of block b, a place by itself, which p follows in the code of the function.
pub record IsAt (s : Spilling) (b : Block) (i : Instr) (p : Code) : Type 0 where
  pub block : Member b s.func.blocks
  pub place : Member (i ∷ []) (places_of s.target b)
  pub shaped : IsShaped s.target s.func i
  pub lowered : is_lowered s.target i ≡ true
  pub site : IsSite s i.id (item_of s.target s.func b i) p

-- A function with the classes that the range's function has, which are the target's, and facts that are true. Each
-- instruction of the range's function keeps the rules on its operands and is in lowered form, and code stands at its id.
pub record IsSetting (s : Spilling) (g : Function) : Type 0 where
  pub shaped : (b : Block) (i : Instr) → Member b s.func.blocks → Member i b.instrs → IsShaped s.target s.func i
  pub lowered : (b : Block) (i : Instr) → Member b s.func.blocks → Member i b.instrs → is_lowered s.target i ≡ true
  pub stands : (b : Block) (i : Instr) → Member b s.func.blocks → Member i b.instrs → (q : Code) × (code_from s i.id ≡ item_of s.target s.func b i ∷ q)
  pub keeps : KeepsClasses s g
  pub classes : AreClasses s.target s.func
  pub facts : AreFacts s.target s.func s.range s.facts

-- all instructions of a change, in layout order
abbrev pub instrs_of : Change → List Instr
instrs_of x = x.before ++ (x.own ++ x.behind)

-- What becomes of an instruction stands in block c of g.
abbrev pub ChangeStands : Spilling → Function → Block → Block → Instr → Code → Change → Type 0
ChangeStands s g b c i p x = PlaceStands s (item_of s.target s.func b i ∷ []) (map (item_of s.target g c) (instrs_of x)) p

-- A copy between the range and another register stands as a store or a reload, and one between lanes of the range as both,
-- through a further register r, or as nothing.
abbrev pub CopiesStand : Type 0
CopiesStand =
    (s : Spilling) (g : Function) (b c : Block) (i : Instr) (p : Code) (d o : RegOp) (n r : ℕ) → IsSetting s g → IsAt s b i p → effect_of s.target i ≡ Some effects.Copy
    → i.operands ≡ operands.Reg d ∷ operands.Reg o ∷ []
    → (is_own s d ≡ true → is_own s o ≡ false → ChangeStands s g b c i p (copied_in s i d o))
    × (is_own s d ≡ false → is_own s o ≡ true → repeated_for s (copy_reading s i d o) ≡ None → ChangeStands s g b c i p (copied_out s i d o))
    × (is_own s d ≡ true → is_own s o ≡ true → length s.func.classes ≤ r → class_of g r ≡ moving_class s d.index → ChangeStands s g b c i p (copied_within s n r i d o))

-- An IMPLICIT_DEF of the range stands as the store of an `undef` register, or as nothing.
abbrev pub UndefinedStand : Type 0
UndefinedStand =
    (s : Spilling) (g : Function) (b c : Block) (i : Instr) (p : Code) (o : RegOp) → IsSetting s g → IsAt s b i p → effect_of s.target i ≡ Some effects.ImplicitDef → i.operands ≡ operands.Reg o ∷ []
    → is_own s o ≡ true → ChangeStands s g b c i p (undefined_change s i o)

-- A constant or an address that isn't needed any more stands as nothing.
abbrev pub NeedlessStand : Type 0
NeedlessStand = (s : Spilling) (g : Function) (b c : Block) (i : Instr) (p : Code) → IsSetting s g → IsAt s b i p → Member i b.instrs → is_needless s i ≡ true → ChangeStands s g b c i p (becomes [])

-- A store of the range to lanes of a slot stands as a reload and a store, through a further register r, or, where these are its
-- own, as nothing; and so does a reload of it.
abbrev pub SlotMovesStand : Type 0
SlotMovesStand =
    (s : Spilling) (g : Function) (b c : Block) (i : Instr) (p : Code) (o : RegOp) (slot : List Operand) (n r : ℕ) → IsSetting s g → IsAt s b i p → i.operands ≡ operands.Reg o ∷ slot → is_own s o ≡ true
    → length s.func.classes ≤ r → class_of g r ≡ moving_class s o.index
    → (effect_of s.target i ≡ Some effects.Spill → o.undef ≡ false → ChangeStands s g b c i p (slot_change s n r i o slot (λ own other. through_tiny s n r i (moving_class s o.index) own other)))
    × (effect_of s.target i ≡ Some effects.Reload → ChangeStands s g b c i p (slot_change s n r i o slot (λ own other. through_tiny s n r i (moving_class s o.index) other own)))

-- A copy from the range to another register stands as the instruction that is repeated for it.
abbrev pub RepeatsStand : Type 0
RepeatsStand =
    (s : Spilling) (g : Function) (b c : Block) (i x : Instr) (p : Code) (d o : RegOp) → IsSetting s g → IsAt s b i p → effect_of s.target i ≡ Some effects.Copy → i.operands ≡ operands.Reg d ∷ operands.Reg o ∷ []
    → is_own s d ≡ false → is_own s o ≡ true → repeated_for s (copy_reading s i d o) ≡ Some x → ChangeStands s g b c i p (copied_out s i d o)

-- An instruction that names the range nowhere is a bystander at its place.
abbrev pub StrangersPass : Type 0
StrangersPass =
    (s : Spilling) (b : Block) (i : Instr) (p : Code) → does puts_together s.target i ≡ false → AreNamed s.func i.operands → ((o : RegOp) → Member o (registers i.operands) → is_own s o ≡ false)
    → IsInside (item_of s.target s.func b i) → IsSite s i.id (item_of s.target s.func b i) p → IsBystander s (item_of s.target s.func b i) p

-- At a block's end lanes are found where they are at the starts of the blocks that it leads to.
abbrev pub EndsStand : Type 0
EndsStand = (s : Spilling) (falls : Option Writes) (exits : List Edge) (p : Code) (e : Edge) → Member e exits → e.phis ≡ [] → Within (starts s e.block) (Stands s (BlockEnd falls exits ∷ p))

-- At the start of a run each lane holds what it holds after the spill, where the same units are given.
abbrev pub StartsStand : Type 0
StartsStand =
    (s : Spilling) (given : Given) (p : Code) → ((u : ℕ) → given u ≡ given_of s.target s.func u) → (env : Environment)
    → Agrees env (Stands s p) (start_state env (given_of s.target s.func)) (start_state env given)

-- Blocks of the function and of g, side by side: they have the same numbers and successors and fall into the same blocks, which
-- are among these; and what stands in place of a block's instructions keeps lanes where they are found.
pub data AllStand (s : Spilling) (g : Function) : List Block → List Block → Type 0 where
  done : AllStand s g [] []
  more : {b c : Block} {bs cs : List Block} → c.number ≡ b.number → c.successors ≡ b.successors → fallen_into s.target c cs ≡ fallen_into s.target b bs
      → ((m : ℕ) → fallen_into s.target b bs ≡ Some m → (e : Successor) × Member e b.successors × (e.block ≡ m))
      → found b.number (code_before s) ≡ map (item_of s.target s.func b) b.instrs ++ (block_end s.target s.func b bs ∷ blocks_code (item_of s.target s.func) s.target s.func bs)
      → PlaceStands s (map (item_of s.target s.func b) b.instrs) (map (item_of s.target g c) c.instrs) (block_end s.target s.func b bs ∷ blocks_code (item_of s.target s.func) s.target s.func bs)
      → AllStand s g bs cs → AllStand s g (b ∷ bs) (c ∷ cs)

-- Then g does what the function does, where neither has phis on its ways and both are given the same units.
abbrev pub AllStandRefine : Type 0
AllStandRefine =
    (s : Spilling) (g : Function) → ((n m : ℕ) → (way s.target s.func n m).phis ≡ []) → ((n m : ℕ) → (way s.target g n m).phis ≡ []) → ((u : ℕ) → given_of s.target g u ≡ given_of s.target s.func u)
    → AllStand s g s.func.blocks g.blocks → refines s.target s.func g

-- Places of block b, which q follows, and what becomes of each in block c of g: where lanes are found before a place they are
-- found behind it.
pub data PlacesStand (s : Spilling) (g : Function) (b c : Block) (q : Code) : List (List Instr) → List Change → Type 0 where
  done : PlacesStand s g b c q [] []
  more : {p : List Instr} {x : Change} {ps : List (List Instr)} {xs : List Change}
      → PlaceStands s (map (item_of s.target s.func b) p) (map (item_of s.target g c) (instrs_of x)) (map (item_of s.target s.func b) (flat_map (λ r. r) ps) ++ q)
      → PlacesStand s g b c q ps xs → PlacesStand s g b c q (p ∷ ps) (x ∷ xs)

-- So it is of all of them together.
abbrev pub PlacesJoin : Type 0
PlacesJoin =
    (s : Spilling) (g : Function) (b c : Block) (q : Code) (ps : List (List Instr)) (xs : List Change) → PlacesStand s g b c q ps xs
    → PlaceStands s (map (item_of s.target s.func b) (flat_map (λ r. r) ps)) (map (item_of s.target g c) (flat_map instrs_of xs)) q

-- New ids change no item.
abbrev pub IdsChangeNothing : Type 0
IdsChangeNothing = (t : Target) (g : Function) (c : Block) (n : ℕ) (is : List Instr) → map (item_of t g c) (with_ids n is) ≡ map (item_of t g c) is
