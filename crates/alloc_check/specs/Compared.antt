-- What the checker compares, by the definition of agreement.
use Rattle.std.specs.Prelude.{◌≡◌, ℕ, ◌+◌, ◌<◌, Bool, true, false, cond, nat_eq, ◌++◌, drop, get_or, List, [], ◌∷◌, map, length, Option, Some, None, option_map, slice_get}
use Rattle.std.specs.List.{list_all}
use Rattle.target_base.specs.declared.types.Target.{Target}
use Rattle.meaning.specs.declared.types.Row.{Row}
use Rattle.meaning.specs.declared.types.Row.TheVariants.{BothStart, BothEnd, FirstSilent, SecondSilent, BothCounted}
use Rattle.meaning.specs.declared.types.EdgePair.{EdgePair}
use Rattle.meaning.specs.declared.types.Rest.{Rest}
use Rattle.meaning.specs.Lanes.{Reads, Writes}
use Rattle.meaning.specs.Code.{Edge, Item, BlockEnd, Counted, Code}
use Rattle.meaning.specs.Facts.{known_at_start}
use Rattle.meaning.specs.Pairing.{pairing}
use Rattle.meaning.specs.Sameness.{same_list}
use Rattle.meaning.specs.Agree.{Family, rows_agree}
use Rattle.mir_func.specs.declared.func.Place.{Place}
use Rattle.mir_func.specs.declared.func.Instr.{Instr}
use Rattle.mir_func.specs.declared.func.Block.{Block}
use Rattle.mir_func.specs.Binding.{effect_of, is_early_clobber, roles_of}
use Rattle.target_base.specs.declared.types.Effect.{Effect}
use Rattle.target_base.specs.Roles.{is_silent}
use Rattle.mir_meaning.specs.Items.{silent_writes, rest_of, values, counted_writes}
use Rattle.mir_func.specs.Value.{Function}
use Rattle.mir_meaning.specs.Codes.{meaning_of, item_of, way, blocks_code}
use Rattle.mir_meaning.specs.Agreement.{asking_at, second_meaning, in_order_of, is_counted, all_alike, blocks_alike}
use Rattle.alloc_check.specs.Bare.{needed_reads}

-- a row without what only liveness looks at, and of a counted pair the reads that are compared
abbrev pub compared_row : Row → Row
compared_row (FirstSilent reads ws) = FirstSilent [] ws
compared_row (SecondSilent reads ws) = SecondSilent [] ws
compared_row (BothCounted r reads reads' ws ws' target exits) = BothCounted r (needed_reads r.effect reads reads') (needed_reads r.effect reads' reads) ws ws' target exits
compared_row row = row

-- two codes side by side, as they are compared
abbrev pub compared : Code → Code → Option (List Row)
compared p q = option_map (map compared_row) (pairing p q)

-- the rows so far, and those of two codes
abbrev pub with_rest : List Row → Code → Code → Option (List Row)
with_rest rows p q = option_map (λ rest. rows ++ rest) (compared p q)

-- From some rows and what is left of two codes to more rows and less of the codes nothing is lost; or what is left doesn't pair.
abbrev pub Goes : Bool → List Row → Code → Code → List Row → Code → Code → Type 0
Goes true old p q new p' q' = with_rest new p' q' ≡ with_rest old p q
Goes false old p q new p' q' = compared p q ≡ None

-- the second function, and a block of it, with their successors in the order of the first function's
abbrev pub ordered : Function → Function → Function
ordered f g = record g { blocks = in_order_of f.blocks g.blocks }

abbrev pub in_order : Block → Block → Block
in_order b c = record c { successors = b.successors }

-- instructions of a block of the first function, and of the block of the second in its place
abbrev pub first_items : Target → Function → Block → List Instr → Code
first_items t f b is = map (item_of t f b) is

abbrev pub second_items : Target → Function → Function → Block → Block → List Instr → Code
second_items t f g b c xs = map (item_of t (ordered f g) (in_order b c)) xs

-- the way from block n to block m in two functions
abbrev pub both_way : Target → Function → Function → ℕ → ℕ → EdgePair
both_way t f g n m = record { block = m; first = (way t f n m).phis; second = (way t g n m).phis }

-- the ways out of a block of the first function, in both
abbrev pub both_ways : Target → Function → Function → Block → List EdgePair
both_ways t f g b = map (λ e. both_way t f g b.number e.block) b.successors

-- what a silent instruction writes; an excluded opcode writes nothing
abbrev pub writes_of : Target → Function → Instr → Writes
writes_of t f i = elim (effect_of t i) [ None ↦ [] | Some e ↦ silent_writes t f e (is_early_clobber (roles_of t i)) i.operands ]

-- the instruction is silent and writes this, or it counts
abbrev pub IsSilent : Target → Function → Instr → Option Writes → Type 0
IsSilent t f i None = is_counted t i ≡ true
IsSilent t f i (Some ws) = (is_counted t i ≡ false) × (ws ≡ writes_of t f i)

-- the instruction counts, and does this
pub record Counts (t : Target) (f : Function) (i : Instr) (r : Rest) (reads : Reads) (ws : Writes) : Type 0 where
  pub effect : Effect
  pub is : effect_of t i ≡ Some effect
  pub counted : is_silent effect ≡ false
  pub rest : r ≡ rest_of t f effect i
  pub read : reads ≡ map (λ v. v.0) (values t f effect i)
  pub written : ws ≡ counted_writes t f effect i

-- the item is a counted instruction or the end of a block
abbrev pub is_loud : Item → Bool
is_loud (Counted r reads ws target exits) = true
is_loud (BlockEnd falls exits) = true
is_loud _ = false

-- Instructions of the second function's block from one place to another were put among the rows: all silent ones up to the next that counts.
pub record PassesOver (t : Target) (g : Function) (c : Block) (from to : ℕ) (old new : List Row) : Type 0 where
  pub next : (d : Instr) → to < length c.instrs → is_counted t (get_or c.instrs to d) ≡ true
  pub goes : (f : Function) (b : Block) (i : Item) (p q : Code) → is_loud i ≡ true → Goes true old (i ∷ p) (second_items t f g b c (drop from c.instrs) ++ q) new (i ∷ p) (second_items t f g b c (drop to c.instrs) ++ q)

-- The instruction and its partner were put among the rows, with what is silent before it in the second function's block; or it has no partner.
abbrev pub GoesOn : Target → Function → Function → Block → Block → Instr → ℕ → List Row → List Row → Option ℕ → Type 0
GoesOn t f g b c i from old new (Some to) = (p q : Code) → Goes true old (item_of t f b i ∷ p) (second_items t f g b c (drop from c.instrs) ++ q) new p (second_items t f g b c (drop to c.instrs) ++ q)
GoesOn t f g b c i from old new None = (p q : Code) (falls : Option Writes) (exits : List Edge) → compared (item_of t f b i ∷ p) (second_items t f g b c (drop from c.instrs) ++ BlockEnd falls exits ∷ q) ≡ None

-- the same of all instructions of two blocks
abbrev pub GoesThrough : Target → Function → Function → Block → Block → List Row → List Row → Bool → Type 0
GoesThrough t f g b c old new answer =
    (p q : Code) (falls falls' : Option Writes) (exits exits' : List Edge) → Goes answer old (first_items t f b b.instrs ++ BlockEnd falls exits ∷ p) (second_items t f g b c c.instrs ++ BlockEnd falls' exits' ∷ q) new (BlockEnd falls exits ∷ p) (BlockEnd falls' exits' ∷ q)

-- the code of a function from its k-th block on, and that of the second function with its successors in the first's order
abbrev pub first_from : Target → Function → ℕ → Code
first_from t f k = blocks_code (item_of t f) t f (drop k f.blocks)

abbrev pub second_from : Target → Function → Function → ℕ → Code
second_from t f g k = blocks_code (item_of t (ordered f g)) t (ordered f g) (in_order_of (drop k f.blocks) (drop k g.blocks))

-- The instruction is silent and its row was put last, or it counts and the rows are as they were.
abbrev pub AddsFirst : Target → Function → Instr → List Row → List Row → Bool → Type 0
AddsFirst t f i old new false = (is_counted t i ≡ true) × (new ≡ old)
AddsFirst t f i old new true = (is_counted t i ≡ false) × (new ≡ old ++ FirstSilent [] (writes_of t f i) ∷ [])

-- the same of the second function
abbrev pub AddsSecond : Target → Function → Instr → List Row → List Row → Bool → Type 0
AddsSecond t g i old new false = (is_counted t i ≡ true) × (new ≡ old)
AddsSecond t g i old new true = (is_counted t i ≡ false) × (new ≡ old ++ SecondSilent [] (writes_of t g i) ∷ [])

-- the pair of two instructions that count was put last, or they aren't one
abbrev pub PairGoes : Target → Function → Function → Block → Block → Instr → Instr → List Row → List Row → Bool → Type 0
PairGoes t f g b c i x old new answer =
    is_counted t i ≡ true → is_counted t x ≡ true → all_alike blocks_alike f.blocks g.blocks ≡ true → (p q : Code) →
    Goes answer old (item_of t f b i ∷ p) (item_of t (ordered f g) (in_order b c) x ∷ q) new p q

-- the k-th blocks were put among the rows, or they don't pair
abbrev pub BlockGoes : Target → Function → Function → ℕ → Block → Block → List Row → List Row → Bool → Type 0
BlockGoes t f g k b c old new answer =
    all_alike blocks_alike f.blocks g.blocks ≡ true → b ≡ get_or f.blocks k b → c ≡ get_or g.blocks k c →
    Goes answer old (first_from t f k) (second_from t f g k) new (first_from t f (k + 1)) (second_from t f g (k + 1))
