-- How what an instruction writes to a lane of a range flows on, from block to block, by what the instructions that touch the range do to the lane.
use Rattle.std.specs.Prelude.{◌≡◌, ◌⊎◌, ◌↔◌, ℕ, Bool, true, false, cond, not, ◌&&◌, ◌<◌, nat_eq, List, [], ◌∷◌, ◌++◌, map, filter, length, Some, None, is_some, slice_get, slice_index}
use Rattle.std.specs.List.{list_any}
use Rattle.mir_meaning.specs.Paths.{has}
use Rattle.instr_effects.specs.Numbered.{number_in}
use Rattle.instr_effects.specs.declared.owner.Owner.TheVariants as owners
use Rattle.live_lanes.specs.declared.table.Table.{Table}
use Rattle.live_lanes.specs.Marks.{marked_at}
use Rattle.live_lanes.specs.Touching.{ReadsInOrder, begun_at, reads_lane}
use Rattle.mir_func.specs.declared.func.Block.{Block}
use Rattle.std.specs.Ordering.{nat_cmp}
use Rattle.std.specs.BTreeMap.{get}
use Rattle.spiller.specs.declared.reaching.LaneTouch.{LaneTouch}
use Rattle.spiller.specs.declared.reaching.BlockTouches.{BlockTouches}
use Rattle.live_lanes.specs.Looks.{InOrder}
use Rattle.live_lanes.specs.Ways.{successors}
use Rattle.meaning.specs.Live.{Among as Member}
use Rattle.spiller.specs.declared.reaching.LaneFlow.{LaneFlow}
use Rattle.spiller.specs.declared.reaching.LaneReading.{LaneReading}
use Rattle.spiller.specs.declared.reaching.Definition.{Definition}

-- what an instruction does to lane k of range v, by the table
abbrev pub touch_of : Table → ℕ → ℕ → ℕ → LaneTouch
touch_of x v k id = record {
  id = id;
  reads = reads_lane x (number_in x.lanes (owners.Range v k)) id;
  writes = is_some (begun_at x (number_in x.lanes (owners.Range v k)) id);
}

-- what is done in the block at a position
abbrev pub touches_at : List BlockTouches → ℕ → List LaneTouch
touches_at bs p = elim (slice_get bs p) [ None ↦ [] | Some b ↦ b.list.items ]

-- something more is done in the block at that position, where there is one
abbrev pub AddsTouch : List BlockTouches → List BlockTouches → ℕ → LaneTouch → Type 0
AddsTouch old new at x = (length new ≡ length old) × ((p : ℕ) → p < length old → touches_at new p ≡ cond (nat_eq at p) (touches_at old p ++ x ∷ []) (touches_at old p))

-- the readings of the lane, up to the first instruction that writes it
abbrev pub seen : List LaneTouch → List ℕ
seen [] = []
seen (x ∷ xs) = cond x.reads (x.id ∷ []) [] ++ cond x.writes [] (seen xs)

-- none of these instructions writes the lane
abbrev pub keeps : List LaneTouch → Bool
keeps xs = not (list_any (λ x. x.writes) xs)

-- what is done behind the first instruction of that id
abbrev pub rest_behind : ℕ → List LaneTouch → List LaneTouch
rest_behind id [] = []
rest_behind id (x ∷ xs) = cond (nat_eq x.id id) xs (rest_behind id xs)

-- there is a block at the position, and its mark isn't set
abbrev pub is_open : List Bool → ℕ → Bool
is_open marks q = elim (slice_get marks q) [ None ↦ false | Some m ↦ not m ]

-- the open ones of these blocks are marked and listed
pub record Spreads (marks : List Bool) (work : List ℕ) (marks' : List Bool) (work' : List ℕ) (nexts : List ℕ) : Type 0 where
  pub more : List ℕ
  pub grown : work' ≡ work ++ more
  pub found : (q : ℕ) → has q more ≡ (is_open marks q && has q nexts)
  pub marked : (q : ℕ) → is_open marks' q ≡ (is_open marks q && not (has q nexts))

-- What stands at the lane before the rest of the block at a position is there still at the start of another block, at which the
-- lane isn't dead.
pub data Enters (ways : ℕ → List ℕ) (blocks : List BlockTouches) (dead : List Bool) (at : ℕ) (rest : List LaneTouch) : ℕ → Type 0 where
  leaves : {q : ℕ} → keeps rest ≡ true → has q (ways at) ≡ true → is_open dead q ≡ true → Enters ways blocks dead at rest q
  goes_on : {p q : ℕ} → Enters ways blocks dead at rest p → keeps (touches_at blocks p) ≡ true → has q (ways p) ≡ true → is_open dead q ≡ true → Enters ways blocks dead at rest q

-- the reading of a lane by an instruction
abbrev pub reached_at : ℕ → ℕ → LaneReading
reached_at k i = record { lane = k; by = i }

-- lane k of range v is dead at the start of the block, by the table
abbrev pub dead_at : Table → ℕ → ℕ → Block → Bool
dead_at x v k b = not (marked_at x.rows.rows.items (number_in x.lanes (owners.Range v k)) (get nat_cmp x.order.positions b.number))

-- what these instructions of the block at a position do to lane k of range v
abbrev pub touches_in : Table → ℕ → ℕ → List ℕ → ℕ → List LaneTouch
touches_in x v k ids p = map (touch_of x v k) (filter (λ id. nat_eq (slice_index x.order.block_of.items id) p) ids)

-- the flow of a lane of range v, which these instructions touch, through these blocks
pub record IsFlow (x : Table) (bs : List Block) (v : ℕ) (ids : List ℕ) (flow : LaneFlow) : Type 0 where
  pub blocks : InOrder x → ReadsInOrder x → (p : ℕ) → p < length bs → touches_at flow.blocks.items p ≡ touches_in x v flow.lane ids p
  pub dead : flow.dead.items ≡ map (dead_at x v flow.lane) bs

-- each of so many lanes has its flow among these
pub record HasFlows (x : Table) (bs : List Block) (v : ℕ) (ids : List ℕ) (count : ℕ) (flows : List LaneFlow) : Type 0 where
  pub each : (flow : LaneFlow) → Member flow flows → IsFlow x bs v ids flow
  pub all : (k : ℕ) → k < count → (flow : LaneFlow) × Member flow flows × (flow.lane ≡ k)

-- the walk from the rest of the block at a position sees the reading
abbrev pub IsSeen : (ℕ → List ℕ) → LaneFlow → ℕ → List LaneTouch → ℕ → Type 0
IsSeen ways flow at rest i = (has i (seen rest) ≡ true) ⊎ ((q : ℕ) × Enters ways flow.blocks.items flow.dead.items at rest q × (has i (seen (touches_at flow.blocks.items q)) ≡ true))

-- the reading of the lane by an instruction is listed
abbrev pub lists : List LaneReading → ℕ → ℕ → Bool
lists rs k i = list_any (λ r. nat_eq r.lane k && nat_eq r.by i) rs

-- the readings that are seen from the rest of a block are listed too
pub record AddsSeen (ways : ℕ → List ℕ) (flow : LaneFlow) (at : ℕ) (rest : List LaneTouch) (old new : List LaneReading) : Type 0 where
  pub others : (k i : ℕ) → (nat_eq flow.lane k ≡ true → ⊥) → lists new k i ≡ lists old k i
  pub own : (i : ℕ) → (lists new flow.lane i ≡ true) ↔ ((lists old flow.lane i ≡ true) ⊎ IsSeen ways flow at rest i)

-- what an instruction writes to the lane flows to the reading
abbrev pub FlowsTo : Table → ℕ → LaneFlow → ℕ → ℕ → Type 0
FlowsTo x v flow id i =
    let at = slice_index x.order.block_of.items id in
    ((touch_of x v flow.lane id).writes ≡ true) × IsSeen (successors x.flow.items) flow at (rest_behind id (touches_at flow.blocks.items at)) i

-- these are all readings to which what an instruction writes flows, by these flows of lanes
abbrev pub AreReached : Table → ℕ → List LaneFlow → ℕ → List LaneReading → Type 0
AreReached x v flows id rs = (k i : ℕ) → (lists rs k i ≡ true) ↔ ((flow : LaneFlow) × Member flow flows × (flow.lane ≡ k) × FlowsTo x v flow id i)

-- the definition has them
abbrev pub ListsFlows : Table → ℕ → List LaneFlow → Definition → Type 0
ListsFlows x v flows d = AreReached x v flows d.id d.reached.keys

-- the reading is listed at one of these definitions, that by instruction d
abbrev pub told_by : List Definition → ℕ × ℕ × ℕ → Bool
told_by ds p = list_any (λ d. nat_eq d.id p.0 && lists d.reached.keys p.1 p.2) ds
