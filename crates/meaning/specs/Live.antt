-- Live lanes, as the least relation of the rules, and occupied points.
use Rattle.std.specs.Prelude.{◌≡◌, ℕ, Bool, true, false, List, [], ◌∷◌, ◌⊎◌}
use Rattle.meaning.specs.declared.types.Lane.{Lane}
use Rattle.meaning.specs.declared.types.Lane.TheVariants.{SlotLane}
use Rattle.meaning.specs.declared.types.Source.{Source}
use Rattle.meaning.specs.declared.types.Source.TheVariants.{FromLane}
use Rattle.meaning.specs.declared.types.Fill.TheVariants.{Moved}
use Rattle.meaning.specs.declared.types.Write.{Write}
use Rattle.meaning.specs.Lanes.{Writes, Reads, filled}
use Rattle.meaning.specs.Code.{Edge, Item, BlockStart, BlockEnd, Silent, Counted, Code, found}

-- x is one of them
pub data Among {A : Type 0} (x : A) : List A → Type 0 where
  here : {xs : List A} → Among x (x ∷ xs)
  there : {y : A} {xs : List A} → Among x xs → Among x (y ∷ xs)

abbrev pub reads_of : Item → Reads
reads_of (BlockStart n) = []
reads_of (BlockEnd falls exits) = []
reads_of (Silent reads ws) = reads
reads_of (Counted r reads ws target exits) = reads

abbrev pub writes_of : Item → Writes
writes_of (BlockStart n) = []
writes_of (BlockEnd falls exits) = []
writes_of (Silent reads ws) = ws
writes_of (Counted r reads ws target exits) = ws

abbrev pub exits_of : Item → List Edge
exits_of (BlockStart n) = []
exits_of (BlockEnd falls exits) = exits
exits_of (Silent reads ws) = []
exits_of (Counted r reads ws target exits) = exits

-- paths go on in order, but not past the end of a block
abbrev pub in_order : Item → Bool
in_order (BlockStart n) = true
in_order (BlockEnd falls exits) = false
in_order (Silent reads ws) = true
in_order (Counted r reads ws target exits) = true

-- l is what lane a has after the item
abbrev pub Feeds : Item → Lane → Lane → Type 0
Feeds i l a = filled (writes_of i) a ≡ Moved (FromLane l)

abbrev pub is_slot : Lane → Bool
is_slot (SlotLane s k w) = true
is_slot _ = false

-- Lane l is live at a place: a path leads from there to a reading of it, with no write of it between. A
-- move reads a lane exactly where the lane that it fills is live after it or reserved. Reserved lanes take
-- no part. `reserved` tells them, and `code` is the whole code, of which a place is an end piece.
pub data Live (reserved : Lane → Bool) (code : Code) : Code → Lane → Type 0 where
  read : {i : Item} {p : Code} {ss : List Source} {l : Lane} → Among ss (reads_of i) → Among (FromLane l) ss → reserved l ≡ false → Live reserved code (i ∷ p) l
  next : {i : Item} {p : Code} {l a : Lane} → in_order i ≡ true → Live reserved code p a → Feeds i l a → reserved l ≡ false → Live reserved code (i ∷ p) l
  -- b is what a has behind the phis of the way
  leap : {i : Item} {p : Code} {e : Edge} {l a b : Lane} → Among e (exits_of i) → Live reserved code (found e.block code) a → filled e.phis a ≡ Moved (FromLane b) → Feeds i l b → reserved l ≡ false → Live reserved code (i ∷ p) l
  -- a phi reads its operand whether its result is live or not
  phi : {i : Item} {p : Code} {e : Edge} {w : Write} {l b : Lane} → Among e (exits_of i) → Among w e.phis → w.fill ≡ Moved (FromLane b) → Feeds i l b → reserved l ≡ false → Live reserved code (i ∷ p) l
  -- a slot's lane is one lane at all its widths, and a store of a register at one of them is a write of it
  store : (w : ℕ) {i : Item} {p : Code} {s k x : ℕ} {l : Lane} → in_order i ≡ true → Live reserved code p (SlotLane s k x) → Feeds i l (SlotLane s k w) → is_slot l ≡ false → reserved l ≡ false → Live reserved code (i ∷ p) l
  kept : {i : Item} {p : Code} {l a : Lane} → reserved a ≡ true → Feeds i l a → reserved l ≡ false → Live reserved code (i ∷ p) l

-- live at the exit of i, which p follows
pub data LiveAfter (reserved : Lane → Bool) (code : Code) (i : Item) (p : Code) (b : Lane) : Type 0 where
  after_next : in_order i ≡ true → Live reserved code p b → LiveAfter reserved code i p b
  after_leap : {e : Edge} {a : Lane} → Among e (exits_of i) → Live reserved code (found e.block code) a → filled e.phis a ≡ Moved (FromLane b) → LiveAfter reserved code i p b
  after_phi : {e : Edge} {w : Write} → Among e (exits_of i) → Among w e.phis → w.fill ≡ Moved (FromLane b) → LiveAfter reserved code i p b

-- live or reserved
abbrev pub Kept : (Lane → Bool) → Code → Code → Lane → Type 0
Kept reserved code p l = Live reserved code p l ⊎ (reserved l ≡ true)

-- live at the exit of i, or reserved
abbrev pub KeptAfter : (Lane → Bool) → Code → Item → Code → Lane → Type 0
KeptAfter reserved code i p a = LiveAfter reserved code i p a ⊎ (reserved a ≡ true)

-- the item writes the lane
abbrev pub Writing : Item → Lane → Type 0
Writing i l = (w : Write) × Among w (writes_of i) × (w.lane ≡ l)

-- the item writes the lane by an early-clobber definition
abbrev pub WritingEarly : Item → Lane → Type 0
WritingEarly i l = (w : Write) × Among w (writes_of i) × (w.lane ≡ l) × (w.early ≡ true)

-- at the entry of i, which p follows: live there, or written by an early-clobber definition of i
abbrev pub OccupiedBefore : (Lane → Bool) → Code → Item → Code → Lane → Type 0
OccupiedBefore reserved code i p l = (Live reserved code (i ∷ p) l ⊎ WritingEarly i l) × (reserved l ≡ false)

-- at the exit of i: live there, or written by i
abbrev pub OccupiedAfter : (Lane → Bool) → Code → Item → Code → Lane → Type 0
OccupiedAfter reserved code i p l = (LiveAfter reserved code i p l ⊎ Writing i l) × (reserved l ≡ false)
