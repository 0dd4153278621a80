-- Where instructions and blocks stand in the layout.
use Rattle.std.specs.Prelude.{◌≡◌, true, false, length, slice_get, slice_index, ◌<◌, ◌≤◌, ℕ, suc, cond, nat_eq, List, [], ◌∷◌, map, flat_map, Option, None, Some, option_map}
use Rattle.slot_index.specs.Order.{number_of}
use Rattle.mir_func.specs.declared.func.Block.{Block}
use Rattle.mir_func.specs.declared.func.Instr.{Instr}
use Rattle.mir_meaning.specs.Paths.{has}
use Rattle.live_lanes.specs.Table.{Numbers}

abbrev pub ids_of : List Instr → List ℕ
ids_of is = map (λ i. i.id) is

-- the ids of all instructions in layout order
abbrev pub all_ids : List Block → List ℕ
all_ids bs = flat_map (λ b. ids_of b.instrs) bs

-- how often a number stands in a list
abbrev pub times : ℕ → List ℕ → ℕ
times x [] = 0
times x (y ∷ ys) = cond (nat_eq y x) (suc (times x ys)) (times x ys)

-- none stands twice
abbrev pub AreSingle : List ℕ → Type 0
AreSingle xs = (x : ℕ) → times x xs ≤ 1

-- the last of them
abbrev pub last_id : List ℕ → Option ℕ
last_id [] = None
last_id (x ∷ []) = Some x
last_id (x ∷ y ∷ xs) = last_id (y ∷ xs)

-- the position of the first block of that number
abbrev pub place_of : ℕ → List Block → Option ℕ
place_of n [] = None
place_of n (b ∷ bs) = cond (nat_eq b.number n) (Some 0) (option_map (λ x. suc x) (place_of n bs))

-- the same with one more block, at a position
abbrev pub placed : Option ℕ → ℕ → ℕ → ℕ → Option ℕ
placed None number n position = cond (nat_eq number n) (Some position) None
placed (Some p) number n position = Some p

-- the numbers of these ids rise, above n, and fit 64 bits
abbrev pub AreRising : Numbers → ℕ → List ℕ → Type 0
AreRising slots n [] = Unit {0}
AreRising slots n (id ∷ ids) = (n < number_of slots id) × (number_of slots id < 18446744073709551616) × AreRising slots (number_of slots id) ids

-- the position of the block of each instruction stands at its id
abbrev pub AreHomes : List Block → List ℕ → Type 0
AreHomes bs homes = (k : ℕ) (b : Block) (id : ℕ) → slice_get bs k ≡ Some b → has id (ids_of b.instrs) ≡ true → slice_index homes id ≡ k

-- a position stands at each of these ids, as far as there is room; all else stays
pub record Settles (old new ids : List ℕ) (position : ℕ) : Type 0 where
  pub here : (id : ℕ) → has id ids ≡ true → id < length old → slice_index new id ≡ position
  pub other : (id : ℕ) → has id ids ≡ false → slice_index new id ≡ slice_index old id
  pub room : length new ≡ length old
