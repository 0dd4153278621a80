-- A code without what no run looks at: the ways out, and what silent instructions and markers read.
use Rattle.std.specs.Prelude.{◌≡◌, ℕ, Bool, true, List, [], ◌∷◌, ◌++◌, false, Option, Some, None, option_map, ◌≤◌, length, take, drop}
use Rattle.target_base.specs.declared.types.Effect.{Effect}
use Rattle.target_base.specs.declared.types.Effect.TheVariants as effects
use Rattle.target_base.specs.declared.types.Target.{Target}
use Rattle.meaning.specs.declared.types.Row.{Row}
use Rattle.meaning.specs.declared.types.Rest.{Rest}
use Rattle.meaning.specs.Lanes.{Writes, Reads}
use Rattle.meaning.specs.Code.{Item, BlockStart, BlockEnd, Silent, Counted, Code}
use Rattle.meaning.specs.Rows.{first_of_rows, second_of_rows}
use Rattle.mir_func.specs.declared.func.Instr.{Instr}
use Rattle.mir_func.specs.declared.func.Block.{Block}
use Rattle.mir_func.specs.Value.{Function}
use Rattle.mir_meaning.specs.Codes.{item_of, blocks_code, code_of, block_end, way, target_of}

-- the reads that a run looks at: a marker does nothing with what it reads
abbrev pub used_reads : Effect → Reads → Reads
used_reads effects.Marker reads = []
used_reads _ reads = reads

abbrev pub bare_item : Item → Item
bare_item (BlockStart n) = BlockStart n
bare_item (BlockEnd falls exits) = BlockEnd falls []
bare_item (Silent reads ws) = Silent [] ws
bare_item (Counted r reads ws target exits) = Counted r (used_reads r.effect reads) ws target []

abbrev pub bare : Code → Code
bare [] = []
bare (i ∷ p) = bare_item i ∷ bare p

-- the two sides of rows
abbrev pub first_bare : List Row → Code
first_bare rows = bare (first_of_rows rows)

abbrev pub second_bare : List Row → Code
second_bare rows = bare (second_of_rows rows)

-- instructions of block b
abbrev pub items : Target → Function → Block → List Instr → Code
items t f b [] = []
items t f b (i ∷ is) = bare_item (item_of t f b i) ∷ items t f b is

-- blocks in layout
abbrev pub blocks_bare : Target → Function → List Block → Code
blocks_bare t f bs = bare (blocks_code (item_of t f) t f bs)

-- one block, with those after it
abbrev pub block_bare : Target → Function → Block → List Block → Code
block_bare t f b after = BlockStart b.number ∷ (items t f b b.instrs ++ bare_item (block_end t f b after) ∷ [])

-- rows that got these items of the first function more, and these of the second
pub record Grown (old : List Row) (p q : Code) (new : List Row) : Type 0 where
  pub first : first_bare new ≡ first_bare old ++ p
  pub second : second_bare new ≡ second_bare old ++ q

-- rows whose sides are the two functions
pub record AreSides (t : Target) (f g : Function) (rows : List Row) : Type 0 where
  pub first : first_bare rows ≡ bare (code_of t f)
  pub second : second_bare rows ≡ bare (code_of t g)

-- What a silent instruction of block b writes; of a counted one nothing is said.
abbrev pub SilentItem : Target → Function → Block → Instr → Option Writes → Type 0
SilentItem t f b i None = Unit {0}
SilentItem t f b i (Some ws) = bare_item (item_of t f b i) ≡ Silent [] ws

-- a counted instruction, but for where it goes
abbrev pub CountedItem : Target → Function → Block → Instr → Rest → Reads → Writes → Type 0
CountedItem t f b i r reads ws = bare_item (item_of t f b i) ≡ bare_item (Counted r reads ws (option_map (way t f b.number) (target_of i.operands)) [])

-- operand by operand the sources at whose places the partner's operand has one
abbrev pub shared_reads : Reads → Reads → Reads
shared_reads [] others = []
shared_reads (ss ∷ reads) [] = []
shared_reads (ss ∷ reads) (ts ∷ others) = take (length ts) ss ∷ shared_reads reads others

-- What a counted instruction reads of which facts are needed, beside what its partner reads: a marker's operand may have
-- got a register with another number of lanes, and then those are compared that both have.
abbrev pub needed_reads : Effect → Reads → Reads → Reads
needed_reads effects.Marker reads others = shared_reads reads others
needed_reads _ reads others = reads

-- where the instruction is silent, it is now among the rows, in the first function
abbrev pub InFirst : Target → Function → Block → Instr → List Row → List Row → Bool → Type 0
InFirst t f b i old new false = new ≡ old
InFirst t f b i old new true = Grown old (bare_item (item_of t f b i) ∷ []) [] new

-- the same in the second
abbrev pub InSecond : Target → Function → Block → Instr → List Row → List Row → Bool → Type 0
InSecond t f b i old new false = new ≡ old
InSecond t f b i old new true = Grown old [] (bare_item (item_of t f b i) ∷ []) new

-- instructions of the second function's block from one place to another are now among the rows
pub record Passed (t : Target) (g : Function) (c : Block) (from to : ℕ) (old new : List Row) : Type 0 where
  pub least : from ≤ to
  pub most : to ≤ length c.instrs
  pub first : first_bare new ≡ first_bare old
  pub second : second_bare new ++ items t g c (drop to c.instrs) ≡ second_bare old ++ items t g c (drop from c.instrs)

-- an instruction of the first function's block is now among the rows, and those of the second from one place to another
pub record Stepped (t : Target) (f g : Function) (b c : Block) (i : Instr) (from to : ℕ) (old new : List Row) : Type 0 where
  pub within : to ≤ length c.instrs
  pub first : first_bare new ≡ first_bare old ++ bare_item (item_of t f b i) ∷ []
  pub second : second_bare new ++ items t g c (drop to c.instrs) ≡ second_bare old ++ items t g c (drop from c.instrs)
