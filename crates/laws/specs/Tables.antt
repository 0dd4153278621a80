-- A table of the lanes that are live at each place, and a test that it lists them all.
use Rattle.std.specs.Prelude.{ℕ, suc, Bool, true, false, cond, ◌&&◌, ◌||◌, nat_eq, List, [], ◌∷◌, length}
use Rattle.meaning.specs.declared.types.Lane.{Lane}
use Rattle.meaning.specs.declared.types.Lane.TheVariants.{SlotLane}
use Rattle.meaning.specs.declared.types.Source.{Source}
use Rattle.meaning.specs.declared.types.Source.TheVariants.{FromLane}
use Rattle.meaning.specs.declared.types.Fill.{Fill}
use Rattle.meaning.specs.declared.types.Fill.TheVariants.{Moved}
use Rattle.meaning.specs.Lanes.{Writes, Reads, same_lane, filled}
use Rattle.meaning.specs.Code.{Edge, Item, Code, found}
use Rattle.meaning.specs.Live.{reads_of, writes_of, exits_of, in_order}

-- the lanes at a place, by the number of items from there on
abbrev pub LiveTable : Type 0
LiveTable = ℕ → List Lane

abbrev pub lists : List Lane → Lane → Bool
lists [] l = false
lists (a ∷ bs) l = same_lane a l || lists bs l

-- what is given isn't a lane, or is one that is listed or reserved
abbrev pub is_listed : (Lane → Bool) → List Lane → Source → Bool
is_listed reserved ls (FromLane l) = reserved l || lists ls l
is_listed reserved ls _ = true

abbrev pub feeds_listed : (Lane → Bool) → List Lane → Fill → Bool
feeds_listed reserved ls (Moved s) = is_listed reserved ls s
feeds_listed reserved ls _ = true

-- the same, where the lane stood before these writes
abbrev pub feeds_before : (Lane → Bool) → List Lane → Writes → Fill → Bool
feeds_before reserved ls ws (Moved (FromLane b)) = feeds_listed reserved ls (filled ws b)
feeds_before reserved ls ws _ = true

abbrev pub sources_listed : (Lane → Bool) → List Lane → List Source → Bool
sources_listed reserved ls [] = true
sources_listed reserved ls (s ∷ ss) = is_listed reserved ls s && sources_listed reserved ls ss

abbrev pub reads_listed : (Lane → Bool) → List Lane → Reads → Bool
reads_listed reserved ls [] = true
reads_listed reserved ls (ss ∷ reads) = sources_listed reserved ls ss && reads_listed reserved ls reads

-- what is live after in order
abbrev pub next_listed : (Lane → Bool) → List Lane → Writes → List Lane → Bool
next_listed reserved ls ws [] = true
next_listed reserved ls ws (a ∷ bs) = feeds_listed reserved ls (filled ws a) && next_listed reserved ls ws bs

-- what is live in a block, behind the phis of a way into it
abbrev pub leap_listed : (Lane → Bool) → List Lane → Writes → Writes → List Lane → Bool
leap_listed reserved ls ws phis [] = true
leap_listed reserved ls ws phis (a ∷ bs) = feeds_before reserved ls ws (filled phis a) && leap_listed reserved ls ws phis bs

abbrev pub phis_listed : (Lane → Bool) → List Lane → Writes → Writes → Bool
phis_listed reserved ls ws [] = true
phis_listed reserved ls ws (w ∷ phis) = feeds_before reserved ls ws w.fill && phis_listed reserved ls ws phis

abbrev pub ways_listed : (Lane → Bool) → Code → LiveTable → List Lane → Writes → List Edge → Bool
ways_listed reserved code table ls ws [] = true
ways_listed reserved code table ls ws (e ∷ es) =
    leap_listed reserved ls ws e.phis (table (length (found e.block code))) && (phis_listed reserved ls ws e.phis && ways_listed reserved code table ls ws es)

-- a slot's lane is listed at some width
abbrev pub lists_slot : List Lane → ℕ → ℕ → Bool
lists_slot [] s k = false
lists_slot (SlotLane t l w ∷ bs) s k = (nat_eq t s && nat_eq l k) || lists_slot bs s k
lists_slot (a ∷ bs) s k = lists_slot bs s k

-- a write that counts in any case: of a reserved lane, or of a slot's lane that is live at some width
abbrev pub counts : (Lane → Bool) → List Lane → Lane → Bool
counts reserved after (SlotLane s k w) = reserved (SlotLane s k w) || lists_slot after s k
counts reserved after l = reserved l

-- `all` are all writes of the instruction
abbrev pub writes_listed : (Lane → Bool) → List Lane → List Lane → Writes → Writes → Bool
writes_listed reserved ls after all [] = true
writes_listed reserved ls after all (w ∷ ws) =
    cond (counts reserved after w.lane) (feeds_listed reserved ls (filled all w.lane)) true && writes_listed reserved ls after all ws

abbrev pub after_of : LiveTable → Item → Code → List Lane
after_of table i p = cond (in_order i) (table (length p)) []

-- all that the rules make live at an item is listed there
abbrev pub item_listed : (Lane → Bool) → Code → LiveTable → Item → Code → Bool
item_listed reserved code table i p =
    let ls = table (suc (length p)) in
    let after = after_of table i p in
    reads_listed reserved ls (reads_of i) && (next_listed reserved ls (writes_of i) after && (ways_listed reserved code table ls (writes_of i) (exits_of i) && writes_listed reserved ls after (writes_of i) (writes_of i)))

abbrev pub code_listed : (Lane → Bool) → Code → LiveTable → Code → Bool
code_listed reserved code table [] = true
code_listed reserved code table (i ∷ p) = item_listed reserved code table i p && code_listed reserved code table p
