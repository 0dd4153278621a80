-- What a grown table of live lanes tells of a function.
use Rattle.std.specs.Prelude.{◌≡◌, ◌↔◌, ℕ, false, true, Some, slice_get}
use Rattle.target_base.specs.declared.types.Target.{Target}
use Rattle.meaning.specs.declared.types.Lane.{Lane}
use Rattle.meaning.specs.Live.{Among as Member, is_slot}
use Rattle.mir_func.specs.declared.func.Block.{Block}
use Rattle.mir_func.specs.declared.func.Instr.{Instr}
use Rattle.mir_func.specs.Value.{Function}
use Rattle.mir_meaning.specs.Points.{Start, Entry, Exit, LiveAt}
use Rattle.mir_meaning.specs.Registers.{is_reserved}
use Rattle.mir_meaning.specs.Rules.{V8}
use Rattle.instr_effects.specs.Steps.{Numbering}
use Rattle.instr_effects.specs.Stepping.{tag_of}
use Rattle.live_laws.specs.Effects.Shaped.{is_proper}
use Rattle.live_laws.specs.Effects.Coded.{numbered_code, spot_in, KeepsRules, IsNumbered}
use Rattle.live_lanes.specs.Graph.{Causes, is_live, IsGrown}
use Rattle.std.specs.Ordering.{nat_cmp}
use Rattle.std.specs.BTreeMap.{get}
use Rattle.instr_effects.specs.Numbered.{number_in}
use Rattle.live_lanes.specs.declared.table.Table.{Table}
use Rattle.live_lanes.specs.Marks.{marked_at}
use Rattle.live_lanes.specs.Doing.{IsComputed}
use Rattle.live_lanes.specs.Looks.{InOrder, entry_at, exit_at}
use Rattle.live_laws.specs.Exact.Same.{IsQuiet}

-- the first piece of a lane in a block is marked live exactly where the lane is live at the block's start
abbrev pub StartsLaw : Type 0
StartsLaw =
    (t : Target) (f : Function) (num : Numbering) → KeepsRules t f → IsNumbered t f num → IsQuiet (numbered_code t f num)
    → (why : Causes) → IsGrown (numbered_code t f num) why
    → (l : Lane) (n : ℕ) → is_slot l ≡ false → tag_of num (is_proper t) l ≡ Some n
    → (x : ℕ) (b : Block) → slice_get f.blocks x ≡ Some b → (is_live (why n x 0) ≡ true) ↔ LiveAt t f (Start b.number) l

-- where terminators stand last in their blocks, nothing is written behind them that phis read
abbrev pub QuietLaw : Type 0
QuietLaw =
    (t : Target) (f : Function) (num : Numbering) → KeepsRules t f → IsNumbered t f num
    → ((b : Block) (j : ℕ) (i : Instr) → Member b f.blocks → slice_get b.instrs j ≡ Some i → V8 t b j i ≡ true) → IsQuiet (numbered_code t f num)

-- a computed table marks a lane at the start of a block exactly where it is live there
abbrev pub ComputedLaw : Type 0
ComputedLaw =
    (t : Target) (f : Function) (x : Table) → IsComputed t f x → KeepsRules t f → ((b : Block) (j : ℕ) (i : Instr) → Member b f.blocks → slice_get b.instrs j ≡ Some i → V8 t b j i ≡ true)
    → (l : Lane) → is_slot l ≡ false → (k : ℕ) (b : Block) → slice_get f.blocks k ≡ Some b
    → (marked_at x.rows.rows.items (tag_of (number_in x.lanes) (is_proper t) l) (get nat_cmp x.order.positions b.number) ≡ true) ↔ LiveAt t f (Start b.number) l

-- a table tells at the entry and at the exit of each instruction exactly which lanes are live there; reserved lanes take no part
pub record TellsInside (t : Target) (f : Function) (x : Table) : Type 0 where
  pub ordered : InOrder x
  pub entry : (l : Lane) → is_slot l ≡ false → (id p k : ℕ) → spot_in id f.blocks ≡ Some (p, k) → (entry_at x (tag_of (number_in x.lanes) (is_proper t) l) id ≡ true) ↔ LiveAt t f (Entry id) l
  pub exit : (l : Lane) → is_slot l ≡ false → is_reserved t l ≡ false → (id p k : ℕ) → spot_in id f.blocks ≡ Some (p, k) → (exit_at x (tag_of (number_in x.lanes) (is_proper t) l) id ≡ true) ↔ LiveAt t f (Exit id) l

-- a computed table does so
abbrev pub InsideLaw : Type 0
InsideLaw =
    (t : Target) (f : Function) (x : Table) → IsComputed t f x → KeepsRules t f → ((b : Block) (j : ℕ) (i : Instr) → Member b f.blocks → slice_get b.instrs j ≡ Some i → V8 t b j i ≡ true)
    → TellsInside t f x
