-- What is planned to be rematerialised, as the definition's words name it.
use Rattle.std.specs.Prelude.{◌≡◌, filter, map, is_some, not, ℕ, Bool, true, false, ◌&&◌, nat_eq, slice_get, find, List, [], ◌∷◌, Option, Some, None, option_map, Vec}
use Rattle.std.specs.List.{list_any}
use Rattle.std.specs.Ordering.{nat_cmp}
use Rattle.std.specs.BTreeMap.{BTreeMap, get}
use Rattle.std.specs.Global.{Global}
use Rattle.mir_meaning.specs.Paths.{has}
use Rattle.spiller.specs.declared.reaching.Definition.{Definition}
use Rattle.spiller.specs.declared.reaching.LaneReading.{LaneReading}
use Rattle.spiller.specs.declared.remat.Remat.{Remat}
use Rattle.spiller.specs.declared.remat.RematSource.{RematSource}
use Rattle.spiller.specs.declared.remat.RematUse.{RematUse}
use Rattle.spiller.specs.declared.remat.UseKey.{UseKey}
use Rattle.target_base.specs.declared.types.Target.{Target}
use Rattle.meaning.specs.Live.{Among as Member}
use Rattle.mir_func.specs.declared.func.Block.{Block}
use Rattle.mir_func.specs.declared.func.Instr.{Instr}
use Rattle.mir_func.specs.Binding.{does}
use Rattle.mir_func.specs.Value.{Function}
use Rattle.mir_meaning.specs.Points.{Tests}
use Rattle.live_lanes.specs.declared.table.Table.{Table}
use Rattle.live_lanes.specs.Touching.{AreTouched, FindsInstrs}
use Rattle.spiller.specs.Reaching.{Reaches}
use Rattle.spiller.specs.Rematerialised.{Reading, is_constant}
use Rattle.spiller.specs.Setting.{Spilling, own_lanes}
use Rattle.spiller.specs.declared.roles.IndexedClass.{IndexedClass}
use Rattle.spiller.specs.Views.{same_way, wish_of}
use Rattle.spiller.specs.Walks.{lists, told_by}

-- both name a way of reading alike, or neither names one
abbrev pub same_ways : Option IndexedClass → Option IndexedClass → Bool
same_ways None None = true
same_ways (Some a) (Some b) = same_way a b
same_ways a b = false

-- the readings are one
abbrev pub same_key : UseKey → UseKey → Bool
same_key a b = nat_eq a.at b.at && same_ways a.indexed_class b.indexed_class

-- what is repeated for the readings at a place
abbrev pub sources_at : BTreeMap ℕ (Vec RematSource Global) → ℕ → List RematSource
sources_at m n = elim (get nat_cmp m n) [ None ↦ [] | Some v ↦ v.items ]

-- those of a list that are for the readings at a place
abbrev pub placed_at : ℕ → List RematSource → List RematSource
placed_at n xs = filter (λ s. nat_eq n s.key.at) xs

-- the id of the instruction that is repeated for a reading
abbrev pub source_in : Remat → UseKey → Option ℕ
source_in r key = option_map (λ s. s.id) (find (λ s. same_key key s.key) (sources_at r.sources key.at))

-- an instruction isn't needed any more
abbrev pub goes_in : Remat → ℕ → Bool
goes_in r id = has id r.deleted.keys

-- a reading of one of these lanes by one of these instructions is listed
abbrev pub reached_in : List ℕ → List ℕ → List LaneReading → Bool
reached_in by lanes rs = list_any (λ i. list_any (λ k. lists rs k i) lanes) by

-- a definition reaches the reading of these lanes by these instructions: one of any lane counts
abbrev pub reached_by : List ℕ → List ℕ → Definition → Bool
reached_by by lanes d = reached_in by lanes d.reached.keys

-- the definition reaches the reading, of a range that is spilled so
abbrev pub reaches_use : Spilling → Definition → RematUse → Bool
reaches_use s d u = reached_by u.by.items (own_lanes s u.demand.index) d

-- it reaches the reading, which isn't rematerialised
abbrev pub needs_value : Spilling → Definition → RematUse → Bool
needs_value s d u = reaches_use s d u && not (is_some u.source)

-- the definition reaches a reading, and those that it reaches are all rematerialised
abbrev pub is_only_repeated : Spilling → Definition → List RematUse → Bool
is_only_repeated s d us = list_any (reaches_use s d) us && not (list_any (needs_value s d) us)

-- the element of a list that has just one
abbrev pub alone : {X : Type 0} → List X → Option X
alone (x ∷ []) = Some x
alone xs = None

-- a reading that is listed is the definition's: it is by these instructions, of these lanes, and asks this
pub record IsReading (s : Spilling) (r : Reading) (u : RematUse) : Type 0 where
  pub by : (i : ℕ) → has i u.by.items ≡ has i (map (λ d. d.id) r.by)
  pub lanes : r.lanes ≡ own_lanes s u.demand.index
  pub wish : r.wish ≡ wish_of u.demand.wish

-- it is told whether the definition's instruction is a constant or an address
abbrev pub TellsConstant : Target → Function → Table → Definition → Type 0
TellsConstant t f x d = FindsInstrs x f.blocks → (p j : ℕ) (b : Block) (i : Instr) → slice_get f.blocks p ≡ Some b → slice_get b.instrs j ≡ Some i → i.id ≡ d.id → d.is_constant ≡ does is_constant t i

abbrev pub TellConstants : Target → Function → Table → List Definition → Type 0
TellConstants t f x ds = (d : Definition) → Member d ds → TellsConstant t f x d

-- a definition of a constant or an address reaches the reading
abbrev pub reached_by_constant : List ℕ → List ℕ → Definition → Bool
reached_by_constant by lanes d = d.is_constant && reached_by by lanes d

-- the definitions are the instructions that touch the range, with all readings that they reach
pub record AreDefinitions (t : Target) (f : Function) (x : Table) (v : ℕ) (ids : List ℕ) (ds : List Definition) : Type 0 where
  pub touched : AreTouched x v ids
  pub named : map (λ d. d.id) ds ≡ ids
  pub told : Tests (λ (p : ℕ × ℕ × ℕ). Reaches t f v p.0 p.1 p.2) (told_by ds)
  pub constants : TellConstants t f x ds
