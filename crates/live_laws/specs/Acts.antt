-- What a computed table tells of the lanes that an instruction writes and reads, against the meaning of the function.
use Rattle.std.specs.Prelude.{◌≡◌, ◌⊎◌, ◌↔◌, ℕ, Bool, false, true, List, Some, is_some, slice_get}
use Rattle.target_base.specs.declared.types.Target.{Target}
use Rattle.meaning.specs.declared.types.Lane.{Lane}
use Rattle.meaning.specs.declared.types.Source.{Source}
use Rattle.meaning.specs.declared.types.Source.TheVariants.{FromLane}
use Rattle.meaning.specs.Code.{Item, Code}
use Rattle.meaning.specs.Live.{Among as Member, reads_of, is_slot, Writing, WritingEarly, KeptAfter}
use Rattle.mir_func.specs.declared.func.Block.{Block}
use Rattle.mir_func.specs.declared.func.Instr.{Instr}
use Rattle.mir_func.specs.Value.{Function}
use Rattle.mir_meaning.specs.Points.{AtFirst, from_instr, points_of}
use Rattle.mir_meaning.specs.Registers.{is_reserved}
use Rattle.mir_meaning.specs.Rules.{V8}
use Rattle.mir_meaning.specs.Stands.{Reaches}
use Rattle.instr_effects.specs.Numbered.{number_in}
use Rattle.instr_effects.specs.Stepping.{tag_of}
use Rattle.live_laws.specs.Effects.Shaped.{is_proper}
use Rattle.live_laws.specs.Effects.Coded.{spot_in, KeepsRules}
use Rattle.live_lanes.specs.declared.table.Table.{Table}
use Rattle.live_lanes.specs.Doing.{IsComputed}
use Rattle.live_lanes.specs.Looks.{InOrder}
use Rattle.live_lanes.specs.Spread.{BeginsWithin}
use Rattle.live_lanes.specs.Touching.{ReadsInOrder, begun_at, is_early, reads_lane}

-- An item, which p follows, reads the lane: in any case, or where another lane that is live behind the item or reserved gets it, by
-- a write of the item or, in a slot, by a store.
abbrev pub Reading : (Lane → Bool) → Code → Lane → Item → Code → Type 0
Reading reserved code l i p =
    ((ss : List Source) × Member ss (reads_of i) × Member (FromLane l) ss)
    ⊎ ((a : Lane) × (Writing i a ⊎ (is_slot a ≡ true)) × Reaches i l a × KeptAfter reserved code i p a)

-- what holds of the instruction of an id and the code behind it
abbrev pub AtInstr : Target → Function → ℕ → (Item → Code → Type 0) → Type 0
AtInstr t f id P = AtFirst P (from_instr t f id f.blocks)

-- a table tells of each instruction which lanes it writes, which of these early, and which it reads; it stands in order for look-ups
pub record TellsActs (t : Target) (f : Function) (x : Table) : Type 0 where
  pub ordered : InOrder x
  pub reads : ReadsInOrder x
  pub written : (l : Lane) → is_slot l ≡ false → is_reserved t l ≡ false → (id p k : ℕ) → spot_in id f.blocks ≡ Some (p, k) → (is_some (begun_at x (tag_of (number_in x.lanes) (is_proper t) l) id) ≡ true) ↔ AtInstr t f id (λ i c. Writing i l)
  pub early : (l : Lane) → is_slot l ≡ false → is_reserved t l ≡ false → (id p k : ℕ) → spot_in id f.blocks ≡ Some (p, k) → (is_early (begun_at x (tag_of (number_in x.lanes) (is_proper t) l) id) ≡ true) ↔ AtInstr t f id (λ i c. WritingEarly i l)
  pub reading : (l : Lane) → is_slot l ≡ false → is_reserved t l ≡ false → (id p k : ℕ) → spot_in id f.blocks ≡ Some (p, k) → (reads_lane x (tag_of (number_in x.lanes) (is_proper t) l) id ≡ true) ↔ AtInstr t f id (Reading (is_reserved t) (points_of t f) l)

-- a computed table does so
abbrev pub ActsLaw : Type 0
ActsLaw =
    (t : Target) (f : Function) (x : Table) → IsComputed t f x → KeepsRules t f → ((b : Block) (j : ℕ) (i : Instr) → Member b f.blocks → slice_get b.instrs j ≡ Some i → V8 t b j i ≡ true)
    → TellsActs t f x

-- its pieces begin with instructions of their blocks
abbrev pub BeginsLaw : Type 0
BeginsLaw =
    (t : Target) (f : Function) (x : Table) → IsComputed t f x → KeepsRules t f → ((b : Block) (j : ℕ) (i : Instr) → Member b f.blocks → slice_get b.instrs j ≡ Some i → V8 t b j i ≡ true)
    → BeginsWithin x f.blocks
