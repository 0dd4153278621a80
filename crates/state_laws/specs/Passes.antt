-- What each state of an allocation gives to spilling and splitting, and what steps leave of it.
use Rattle.std.specs.Prelude.{◌≡◌, ◌+◌, ◌<◌, ℕ, true, is_some, length, List}
use Rattle.target_base.specs.declared.types.Target.{Target}
use Rattle.mir_func.specs.Value.{Function}
use Rattle.mir_func.specs.Binding.{class_of}
use Rattle.mir_meaning.specs.Paths.{has}
use Rattle.live_lanes.specs.declared.ask.labels.Mark.{Mark}
use Rattle.live_lanes.specs.declared.live.LiveFunc.{LiveFunc}
use Rattle.live_lanes.specs.declared.table.Table.{Table}
use Rattle.live_lanes.specs.Doing.{IsComputed}
use Rattle.live_lanes.specs.Ways.{successors}
use Rattle.spiller.specs.Growing.{MaySpillNow}
use Rattle.spiller.specs.Reaching.{Facts}
use Rattle.spiller.specs.Slots.{HasFreeSlot, Slots}
use Rattle.split_choose.specs.Bundles.{AreBundles}
use Rattle.split_kit.specs.MaySplit.{MaySplitLive}
use Rattle.split_kit.specs.PartEdits.{AreInTurn}
use Rattle.split_kit.specs.Split.{greatest_label}
use Rattle.rewriter.specs.Physical.{Assignment}
use Rattle.run_end_laws.specs.Allocating.{IsAllocationStep}
use Rattle.run_end_laws.specs.States.{KeepsState}

-- In a state of an allocation each range with a class may be spilled, where a slot is free,
abbrev pub StateMaySpill : Type 0
StateMaySpill =
    (x : LiveFunc) (s : Slots) (rs : Assignment) (v : ℕ) → KeepsState x.target x.func s rs → IsComputed x.target x.func x.table → length x.func.blocks < 4294967296
    → HasFreeSlot s → is_some (class_of x.func v) ≡ true → (facts : Facts) × MaySpillNow x s v facts

-- and may be split by labels in layout order.
abbrev pub StateMaySplit : Type 0
StateMaySplit =
    (x : LiveFunc) (s : Slots) (rs : Assignment) (v : ℕ) (ms : List Mark) → KeepsState x.target x.func s rs → IsComputed x.target x.func x.table → length x.func.blocks < 4294967296
    → is_some (class_of x.func v) ≡ true → length x.func.classes + greatest_label ms < 2147483648 → AreInTurn x.func ms → MaySplitLive x v ms

-- There are as many blocks, and from each the ways lead where they led; so what stood for bundles of borders stands for them.
pub record KeepsWays (f g : Function) (x y : Table) : Type 0 where
  pub blocks : length g.blocks ≡ length f.blocks
  pub ways : (k n : ℕ) → has n (successors y.flow.items k) ≡ has n (successors x.flow.items k)
  pub bundles : (parents : List ℕ) → AreBundles (successors x.flow.items) parents → AreBundles (successors y.flow.items) parents

-- Each step leaves the blocks and the ways between them so,
abbrev pub StepKeepsWays : Type 0
StepKeepsWays =
    (t : Target) (f g : Function) (s r : Slots) (rs new : Assignment) (x y : Table) → IsAllocationStep t f s rs g r new → IsComputed t f x → IsComputed t g y
    → KeepsWays f g x y

-- and ranges keep their classes.
abbrev pub StepKeepsClasses : Type 0
StepKeepsClasses =
    (t : Target) (f g : Function) (s r : Slots) (rs new : Assignment) (v : ℕ) → IsAllocationStep t f s rs g r new → is_some (class_of f v) ≡ true → is_some (class_of g v) ≡ true
