-- What stood in the lists of a table before edits changed them, and how it is put back.
use Rattle.std.specs.Prelude.{◌≡◌, ℕ, Bool, false, cond, ◌&&◌, nat_eq, reverse, map, set, List, [], ◌∷◌, ◌++◌, Option, None, slice_get, option_map}
use Rattle.std.specs.List.{insert, remove}
use Rattle.interference.specs.declared.held.HeldList.{HeldList}
use Rattle.interference.specs.declared.held.ListPosition.{ListPosition}
use Rattle.interference.specs.declared.held.RangeExtent.{RangeExtent}
use Rattle.interference.specs.declared.held.SavedParts.{SavedParts}
use Rattle.interference.specs.declared.held.SavedParts.TheVariants as saveds
use Rattle.interference.specs.declared.saved_lists.AssignedPiece.{AssignedPiece}
use Rattle.interference.specs.declared.saved_lists.SavedList.{SavedList}
use Rattle.interference.specs.declared.unit_table.UnitTable.{UnitTable}
use Rattle.interference.specs.Clashes.{list_in, part_of}
use Rattle.interference.specs.Listed.{ChangesRow}
use Rattle.interference.specs.Parts.{parts_of, part_in}

-- the parts of the lists of a table, by units and the positions of blocks
abbrev pub Parts : Type 0
Parts = ℕ → ℕ → Option (List (List RangeExtent))

abbrev pub parts_at : UnitTable → Parts
parts_at t u b = option_map parts_of (list_in t u b)

-- parts, where a stretch is put at a place
abbrev pub with_behind : ListPosition → RangeExtent → List (List RangeExtent) → List (List RangeExtent)
with_behind gap h ps = set ps gap.part (insert (part_in ps gap.part) gap.count h)

-- and where the one behind it is taken away
abbrev pub without_behind : ListPosition → List (List RangeExtent) → List (List RangeExtent)
without_behind gap ps = set ps gap.part (remove (part_in ps gap.part) gap.count)

-- parts, where what was saved of them is put back
abbrev pub restored : SavedParts → List (List RangeExtent) → List (List RangeExtent)
restored (saveds.Less gap) ps = without_behind gap ps
restored (saveds.One k v) ps = set ps k v.items
restored (saveds.All qs) ps = map part_of qs.items

-- no other part changes
abbrev pub ChangesPart : ℕ → HeldList → HeldList → Type 0
ChangesPart k l n = (v : List RangeExtent) → set (parts_of n) k v ≡ set (parts_of l) k v

-- By what is saved of a list it is restored from any in which no other part has changed; from any at all, if all is saved.
abbrev pub Saves : HeldList → ℕ → Bool → SavedParts → Type 0
Saves l k all s = (n : HeldList) → (all ≡ false → ChangesPart k l n) → restored s (parts_of n) ≡ parts_of l

-- what is saved of the list of a piece
abbrev pub saved_of : AssignedPiece → SavedParts → SavedList
saved_of at s = record { unit = at.unit; block = at.piece.block; parts = s }

-- something such is added to what is saved
abbrev pub IsLogged : AssignedPiece → (SavedParts → Type 0) → List SavedList → List SavedList → Type 0
IsLogged at P old new = (s : SavedParts) × (new ≡ old ++ saved_of at s ∷ []) × P s

-- where several things were saved in turn, the last one is put back first
abbrev pub all_restored : List SavedParts → List (List RangeExtent) → List (List RangeExtent)
all_restored [] ps = ps
all_restored (s ∷ ss) ps = restored s (all_restored ss ps)

-- A list changes, and that by which it is restored is added to what is saved.
abbrev pub Logs : AssignedPiece → List SavedList → List SavedList → HeldList → HeldList → Type 0
Logs at old new l k = (ss : List SavedParts) × (new ≡ old ++ map (saved_of at) ss) × (all_restored ss (parts_of k) ≡ parts_of l)

-- the same of the lists of a unit
abbrev pub LogsRow : AssignedPiece → List SavedList → List SavedList → List HeldList → List HeldList → Type 0
LogsRow at old new ls ks = ChangesRow (Logs at old new) at.piece.block ls ks × (slice_get ls at.piece.block ≡ None → new ≡ old)

abbrev pub IsRestored : SavedParts → HeldList → HeldList → Type 0
IsRestored s l k = parts_of k ≡ restored s (parts_of l)

-- what is saved of one list is put back
abbrev pub IsPutBack : SavedList → Parts → Parts → Type 0
IsPutBack e t n = (u b : ℕ) → n u b ≡ cond (nat_eq e.unit u && nat_eq e.block b) (option_map (restored e.parts) (t u b)) (t u b)

-- These parts become the first ones when what is saved is put back in turn.
abbrev pub Undoes : Parts → List SavedList → Parts → Type 0
Undoes start [] t = (u b : ℕ) → t u b ≡ start u b
Undoes start (e ∷ es) t = (n : Parts) → IsPutBack e t n → Undoes start es n

-- A table gets the parts of the first one, where the last thing saved is put back first.
abbrev pub PutsBack : UnitTable → List SavedList → UnitTable → Type 0
PutsBack start log t = Undoes (parts_at start) (reverse log) (parts_at t)
