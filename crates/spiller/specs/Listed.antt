-- The readings of a range as they are listed: in the definition's order, each under the key by which it is asked for.
use Rattle.std.specs.Prelude.{◌≡◌, ℕ, Bool, cond, not, ◌&&◌, List, [], ◌∷◌, ◌++◌, map, filter, filter_map, find, nat_eq, flat_map, slice_get, slice_index, Option, Some, None, is_some, option_and_then, option_map}
use Rattle.std.specs.List.{AllByRecursion, list_any}
use Rattle.target_base.specs.declared.types.Effect.{Effect}
use Rattle.target_base.specs.declared.types.Effect.TheVariants as effects
use Rattle.target_base.specs.declared.types.IndexId.{IndexId}
use Rattle.target_base.specs.declared.types.Target.{Target}
use Rattle.mir_func.specs.declared.func.RegOp.{RegOp}
use Rattle.mir_func.specs.declared.func.Operand.{Operand}
use Rattle.mir_func.specs.declared.func.Operand.TheVariants as operands
use Rattle.mir_func.specs.declared.func.Instr.{Instr}
use Rattle.mir_func.specs.declared.func.Block.{Block}
use Rattle.meaning.specs.Live.{Among as Member}
use Rattle.spiller.specs.declared.remat.RematSource.{RematSource}
use Rattle.spiller.specs.Additions.{own_uses, seated_operands}
use Rattle.mir_func.specs.Binding.{Bound, does, effect_of, is_terminator, register_at, tied_number}
use Rattle.mir_meaning.specs.Places.{Variable, same_use}
use Rattle.spiller.specs.declared.plan.SpillView.{SpillView}
use Rattle.spiller.specs.declared.reaching.Definition.{Definition}
use Rattle.spiller.specs.declared.remat.RematDemand.{RematDemand}
use Rattle.spiller.specs.declared.remat.RematUse.{RematUse}
use Rattle.spiller.specs.declared.remat.UseKey.{UseKey}
use Rattle.spiller.specs.Ends.{ends_of}
use Rattle.spiller.specs.MaySpill.{MaySpill}
use Rattle.spiller.specs.Reaching.{Facts, AreFacts, Reaches}
use Rattle.spiller.specs.Walks.{told_by}
use Rattle.mir_meaning.specs.Points.{Tests, is_range}
use Rattle.live_lanes.specs.Touching.{AreTouched}
use Rattle.spiller.specs.Rematerialised.{Never, is_constant, Reading, copy_reading, reading_of, repeated_for, tied_readings, way_reading, ways_read}
use Rattle.spiller.specs.Setting.{Spilling, is_own, own_lanes}
use Rattle.spiller.specs.Spilled.{place_name}
use Rattle.spiller.specs.Planned.{copy_key, way_key}
use Rattle.spiller.specs.Readings.{AreDefinitions, IsReading, is_only_repeated}
use Rattle.spiller.specs.Views.{spilling_of, wish_of}

-- a reading with its key
abbrev pub Keyed : Type 0
Keyed = UseKey × Reading

-- a way of reading at a place
abbrev pub keyed_way : Spilling → List Instr → Variable → Keyed
keyed_way s is x = (way_key (place_name is) x, way_reading s is x)

-- the reading of lanes by one instruction for which nothing serves
abbrev pub keyed_move : Spilling → Instr → Option IndexId → Keyed
keyed_move s i x = (copy_key i.id, reading_of s (i ∷ []) x Never)

-- the reading by a copy
abbrev pub keyed_copy : Spilling → Instr → RegOp → RegOp → Keyed
keyed_copy s i d o = (copy_key i.id, copy_reading s i d o)

-- the readings by tied uses
abbrev pub keyed_tied : Spilling → Instr → List Keyed
keyed_tied s i = map (λ p. keyed_move s i p.tied_use.index) (tied_readings s i)

-- those by operands
abbrev pub keyed_operands : Spilling → List Instr → List Keyed
keyed_operands s is = map (keyed_way s is) (ways_read s is) ++ flat_map (keyed_tied s) is

-- those by one instruction
abbrev pub keyed_effect : Spilling → Instr → Option Effect → List Operand → List Keyed
keyed_effect s i (Some effects.Copy) (operands.Reg d ∷ operands.Reg o ∷ os) = cond (is_own s o) (keyed_copy s i d o ∷ []) []
keyed_effect s i (Some effects.Spill) (operands.Reg o ∷ os) = cond (is_own s o) (keyed_move s i o.index ∷ []) []
keyed_effect s i e os = keyed_operands s (i ∷ [])

-- those of a place
abbrev pub keyed_readings : Spilling → List Instr → List Keyed
keyed_readings s (i ∷ []) = keyed_effect s i (effect_of s.target i) i.operands
keyed_readings s is = keyed_operands s is

-- what is listed is this reading
pub record IsKeyed (s : Spilling) (k : Keyed) (u : RematUse) : Type 0 where
  pub key : u.demand.key ≡ k.0
  pub is : IsReading s k.1 u

-- one by one
pub data AreKeyed (s : Spilling) : List Keyed → List RematUse → Type 0 where
  none : AreKeyed s [] []
  more : {k : Keyed} {ks : List Keyed} {u : RematUse} {us : List RematUse} → IsKeyed s k u → AreKeyed s ks us → AreKeyed s (k ∷ ks) (u ∷ us)

-- its source is what is repeated for it, where the definitions are these
abbrev pub IsJudged : SpillView → List Definition → RematUse → Type 0
IsJudged view ds u =
    (slot : ℕ) (facts : Facts) (r : Reading) (ids : List ℕ) → MaySpill view.target.now view.live.now.func view.live.now.table view.v → AreDefinitions view.target.now view.live.now.func view.live.now.table view.v ids ds
    → AreFacts view.target.now view.live.now.func view.v facts → IsReading (spilling_of view slot facts) r u → u.source ≡ option_map (λ d. d.id) (repeated_for (spilling_of view slot facts) r)

-- one more is listed, which asks this by these instructions
pub record ListsOne (view : SpillView) (ds : List Definition) (demand : RematDemand) (ids : List ℕ) (old new : List RematUse) : Type 0 where
  pub one : RematUse
  pub grown : new ≡ old ++ one ∷ []
  pub demand_is : one.demand ≡ demand
  pub by_is : one.by.items ≡ ids
  pub judged : IsJudged view ds one

-- these readings are listed besides the old ones
pub record Lists (view : SpillView) (ds : List Definition) (ks : Spilling → List Keyed) (old new : List RematUse) : Type 0 where
  pub more : List RematUse
  pub grown : new ≡ old ++ more
  pub keyed : (slot : ℕ) (facts : Facts) → AreKeyed (spilling_of view slot facts) (ks (spilling_of view slot facts)) more
  pub judged : AllByRecursion (IsJudged view ds) more

-- what is asked, by these instructions, is what the reading asks
pub record Asks (s : Spilling) (k : Keyed) (demand : RematDemand) (ids : List ℕ) : Type 0 where
  pub key : demand.key ≡ k.0
  pub by : map (λ i. i.id) k.1.by ≡ ids
  pub lanes : k.1.lanes ≡ own_lanes s demand.index
  pub wish : k.1.wish ≡ wish_of demand.wish

-- the operand is a use of the range that is tied to one of these operands
abbrev pub tied_own : ℕ → List Operand → Bound → Option RegOp
tied_own v os (r, operands.Reg o) = cond ((is_range v o.loc && not o.undef) && is_some (option_and_then (register_at os) (option_and_then tied_number r))) (Some o) None
tied_own v os (r, o) = None

-- readings by these uses
abbrev pub keyed_uses : Spilling → Instr → List RegOp → List Keyed
keyed_uses s i os = map (λ o. keyed_move s i o.index) os

-- those by tied uses, in the order of operands
abbrev pub keyed_tied_uses : Spilling → Instr → List Keyed
keyed_tied_uses s i = keyed_uses s i (filter_map (tied_own s.range i.operands) (seated_operands s.target i))

-- the instructions of these that read in a way
abbrev pub readers : SpillView → Variable → List Instr → List ℕ
readers view x is = map (λ i. i.id) (filter (λ i. list_any (same_use x) (own_uses view.target.now view.live.now.func view.v i)) is)

-- the reading with its source, where it has one
abbrev pub told_sources : RematUse → List RematSource
told_sources u = elim u.source [ None ↦ [] | Some id ↦ record { key = u.demand.key; id = id } ∷ [] ]

-- the test says of the id of a definition whether it is a constant that only reaches what is rematerialised
abbrev pub TestsOne : Spilling → Definition → List RematUse → (ℕ → Bool) → Type 0
TestsOne s d us test = (p j : ℕ) × (b : Block) × (i : Instr) × (slice_get s.func.blocks p ≡ Some b) × (slice_get b.instrs j ≡ Some i) × (i.id ≡ d.id) × (test d.id ≡ (does is_constant s.target i && is_only_repeated s d us))

abbrev pub TestsNeedless : Spilling → List Definition → List RematUse → (ℕ → Bool) → Type 0
TestsNeedless s ds us test = (d : Definition) → Member d ds → TestsOne s d us test

-- the place of an instruction of a block
abbrev pub place_at : Target → Block → Instr → List Instr
place_at t b i = cond (does is_terminator t i) (ends_of t b.instrs) (i ∷ [])

-- the place of an instruction, by its id
abbrev pub place_by : SpillView → ℕ → List Instr
place_by view id = elim (slice_get view.live.now.func.blocks (slice_index view.live.now.table.order.block_of.items id)) [
  | None ↦ []
  | Some b ↦ elim (find (λ i. nat_eq i.id id) b.instrs) [ None ↦ [] | Some i ↦ place_at view.target.now b i ]
]

-- the readings of the places of instructions, by their ids
abbrev pub keyed_by : SpillView → List ℕ → Spilling → List Keyed
keyed_by view ids s = flat_map (λ id. keyed_readings s (place_by view id)) ids

-- where the range may be spilled, and these touch it, the definitions tell which of them reach which readings
abbrev pub IsToldBy : SpillView → List ℕ → List Definition → Type 0
IsToldBy view ids ds =
    MaySpill view.target.now view.live.now.func view.live.now.table view.v → AreTouched view.live.now.table view.v ids
    → Tests (λ (p : ℕ × ℕ × ℕ). Reaches view.target.now view.live.now.func view.v p.0 p.1 p.2) (told_by ds)
