-- How blocks of numbered lanes stand for the code of a function: an instruction's step does to numbered lanes what its item does to lanes.
use Rattle.std.specs.Prelude.{◌≡◌, ℕ, Bool, true, false, cond, List, [], ◌∷◌, ◌⊎◌, Option, Some}
use Rattle.meaning.specs.declared.types.Lane.{Lane}
use Rattle.meaning.specs.declared.types.Lane.TheVariants.{SlotLane}
use Rattle.meaning.specs.declared.types.Source.{Source}
use Rattle.meaning.specs.declared.types.Source.TheVariants.{FromLane}
use Rattle.meaning.specs.declared.types.Fill.TheVariants.{Moved}
use Rattle.meaning.specs.declared.types.Write.{Write}
use Rattle.meaning.specs.Lanes.{filled}
use Rattle.meaning.specs.Code.{Edge, Item, BlockEnd, Code as Places, found}
use Rattle.meaning.specs.Live.{Among as Member, reads_of, exits_of as edges_of, in_order, Feeds, is_slot, Live as LivePlace}
use Rattle.mir_meaning.specs.Paths.{Among, Step, Code, steps_of, last_of, exits_of, Certain, Into, use_of, is_written}

-- the number of a lane, where it has one
abbrev pub Tags : Type 0
Tags = Lane → Option ℕ

-- lanes of one number are one lane, but for the widths of a slot's lane; reserved lanes have none
pub record IsTagging (reserved : Lane → Bool) (tag : Tags) : Type 0 where
  pub apart : (l a : Lane) (n : ℕ) → tag l ≡ Some n → tag a ≡ Some n → (l ≡ a) ⊎ ((is_slot l ≡ true) × (is_slot a ≡ true))
  pub slots : (s k w x n m : ℕ) → tag (SlotLane s k w) ≡ Some n → tag (SlotLane s k x) ≡ Some m → n ≡ m
  pub free : (l : Lane) (n : ℕ) → tag l ≡ Some n → reserved l ≡ false

-- the item reads the lane whatever is live behind it
abbrev pub ReadBy : (Lane → Bool) → Item → Lane → Type 0
ReadBy reserved i l = ((ss : List Source) × Member ss (reads_of i) × Member (FromLane l) ss) ⊎ ((a : Lane) × (reserved a ≡ true) × Feeds i l a)

-- where lane a is live behind the item, lane l is before it
abbrev pub Reaches : Item → Lane → Lane → Type 0
Reaches i l a = Feeds i l a ⊎ ((s : ℕ) × (k : ℕ) × (w : ℕ) × (x : ℕ) × (a ≡ SlotLane s k x) × Feeds i l (SlotLane s k w) × (is_slot l ≡ false) × (edges_of i ≡ []))

-- a step does to numbered lanes what an item does to lanes; `out` are the ways out of its block
pub record IsStep (reserved : Lane → Bool) (tag : Tags) (out : List Edge) (i : Item) (s : Step) : Type 0 where
  pub ordered : in_order i ≡ true
  pub exits : edges_of i ≡ cond s.leaves out []
  pub reads : (l : Lane) (n : ℕ) → tag l ≡ Some n → ReadBy reserved i l → use_of n s ≡ Certain
  pub certain : (n : ℕ) → use_of n s ≡ Certain → (l : Lane) × (tag l ≡ Some n) × ReadBy reserved i l
  pub flows : (l a : Lane) (n m : ℕ) → tag l ≡ Some n → tag a ≡ Some m → Feeds i l a → ((l ≡ a) × (is_written m s ≡ false)) ⊎ ((use_of n s ≡ Into m) ⊎ (use_of n s ≡ Certain))
  pub moves : (n m : ℕ) → use_of n s ≡ Into m → (a : Lane) → tag a ≡ Some m → (l : Lane) × (tag l ≡ Some n) × Reaches i l a
  pub stays : (l : Lane) (n : ℕ) → tag l ≡ Some n → is_written n s ≡ false → Feeds i l l
  pub stores : (l : Lane) (p k w n : ℕ) → tag l ≡ Some n → is_slot l ≡ false → Feeds i l (SlotLane p k w) → (m : ℕ) × (tag (SlotLane p k w) ≡ Some m)
  pub tagged : (l : Lane) → reserved l ≡ false → ReadBy reserved i l → (n : ℕ) × (tag l ≡ Some n)
  pub sources : (l a : Lane) → reserved l ≡ false → Feeds i l a → (l ≡ a) ⊎ ((n : ℕ) × (tag l ≡ Some n))

-- a block's ways out, and what phis read on them; `number` are the numbers of blocks by their positions
pub record IsOut (reserved : Lane → Bool) (tag : Tags) (number : ℕ → ℕ) (places : Places) (code : Code) (b : ℕ) (out : List Edge) : Type 0 where
  pub forth : (e : Edge) → Member e out → (x : ℕ) × Among x (exits_of code b) × (e.block ≡ number x)
  pub back : (x : ℕ) → Among x (exits_of code b) → (e : Edge) × Member e out × (e.block ≡ number x)
  pub phis : (e : Edge) (w : Write) (l : Lane) → Member e out → Member w e.phis → w.fill ≡ Moved (FromLane l) → reserved l ≡ false → (n : ℕ) × (tag l ≡ Some n) × Among n (last_of code b)
  pub last : (n : ℕ) → Among n (last_of code b) → (e : Edge) × (w : Write) × (l : Lane) × Member e out × Member w e.phis × (w.fill ≡ Moved (FromLane l)) × (tag l ≡ Some n)
  -- no result of a phi is live at the start of its block
  pub through : (e : Edge) (a : Lane) → Member e out → LivePlace reserved places (found e.block places) a → filled e.phis a ≡ Moved (FromLane a)

-- the place stands at these last steps of block b
pub data At (reserved : Lane → Bool) (tag : Tags) (number : ℕ → ℕ) (places : Places) (code : Code) (b : ℕ) : Places → List Step → Type 0 where
  at_end : {falls : Option (List Write)} {out : List Edge} {p : Places} → IsOut reserved tag number places code b out → At reserved tag number places code b (BlockEnd falls out ∷ p) []
  at_step : {out : List Edge} {i : Item} {p : Places} {s : Step} {ss : List Step} → IsStep reserved tag out i s → IsOut reserved tag number places code b out → At reserved tag number places code b p ss → At reserved tag number places code b (i ∷ p) (s ∷ ss)

-- all blocks stand for code
pub record IsCodeOf (reserved : Lane → Bool) (tag : Tags) (number : ℕ → ℕ) (places : Places) (code : Code) : Type 0 where
  pub tagging : IsTagging reserved tag
  pub starts : (b x : ℕ) → Among x (exits_of code b) → At reserved tag number places code x (found (number x) places) (steps_of code x)
