-- A map of lanes that is quiet on a code, and the code folded by it.
use Rattle.std.specs.Prelude.{◌≡◌, ℕ, Bool, true, false, ◌&&◌, List, [], ◌∷◌, Option}
use Rattle.meaning.specs.declared.types.Lane.{Lane}
use Rattle.meaning.specs.declared.types.Source.TheVariants.{FromLane, Undef, Bits}
use Rattle.meaning.specs.declared.types.Fill.{Fill}
use Rattle.meaning.specs.declared.types.Fill.TheVariants.{Moved, Computed}
use Rattle.meaning.specs.declared.types.Write.{Write}
use Rattle.meaning.specs.declared.types.Rest.{Rest}
use Rattle.meaning.specs.Lanes.{Writes, Reads, same_lane}
use Rattle.meaning.specs.Code.{Edge, Item, BlockStart, BlockEnd, Silent, Counted, Code, Function}
use Rattle.meaning.specs.Refines.{Refines}
use Rattle.meaning.specs.Live.{Among, writes_of, Live, LiveAfter}
use Rattle.meaning.specs.Matched.{Fits, renamed, renamed_reads}

-- a copy from a lane with the same image
abbrev pub copies : (Lane → Lane) → Lane → Fill → Bool
copies m d (Moved (FromLane l)) = same_lane (m l) (m d)
copies m d (Moved Undef) = false
copies m d (Moved (Bits c low width)) = false
copies m d (Computed i) = false

-- a silent instruction that does nothing but copy lanes to lanes with the same image
abbrev pub vanishes : (Lane → Lane) → Writes → Bool
vanishes m [] = true
vanishes m (w ∷ ws) = copies m w.lane w.fill && vanishes m ws

-- the second code is the first with its lanes renamed, and without some of the copies that become identities
pub data Folded (m : Lane → Lane) : Code → Code → Type 0 where
  done : Folded m [] []
  start : {n : ℕ} {p q : Code} → Folded m p q → Folded m (BlockStart n ∷ p) (BlockStart n ∷ q)
  end : {falls : Option Writes} {exits : List Edge} {p q : Code} → Folded m p q → Folded m (BlockEnd falls exits ∷ p) (BlockEnd falls exits ∷ q)
  deleted : {reads : Reads} {ws : Writes} {p q : Code} → vanishes m ws ≡ true → Folded m p q → Folded m (Silent reads ws ∷ p) q
  silent : {reads : Reads} {ws : Writes} {p q : Code} → Folded m p q → Folded m (Silent reads ws ∷ p) (Silent (renamed_reads m reads) (renamed m ws) ∷ q)
  counted : {r : Rest} {reads : Reads} {ws : Writes} {target : Option Edge} {exits : List Edge} {p q : Code} → Folded m p q → Folded m (Counted r reads ws target exits ∷ p) (Counted r (renamed_reads m reads) (renamed m ws) target exits ∷ q)

-- At each write of a lane that isn't a copy from a lane with the same image, no other lane with that image is
-- live after it or written by the same instruction, and for an early-clobber write none is live before it.
abbrev pub QuietAt : (Lane → Bool) → Code → (Lane → Lane) → Item → Code → Type 0
QuietAt reserved code m i p =
    (w : Write) → Among w (writes_of i) → copies m w.lane w.fill ≡ false → (l : Lane) → m l ≡ m w.lane → same_lane l w.lane ≡ false →
    (LiveAfter reserved code i p l → ⊥) × ((v : Write) → Among v (writes_of i) → v.lane ≡ l → ⊥) × (w.early ≡ true → Live reserved code (i ∷ p) l → ⊥)

abbrev pub Quiet : (Lane → Bool) → Code → (Lane → Lane) → Code → Type 0
Quiet reserved code m [] = Unit {0}
Quiet reserved code m (i ∷ p) = QuietAt reserved code m i p × Quiet reserved code m p

-- m folds f onto g
pub record Folds (reserved : Lane → Bool) (m : Lane → Lane) (f g : Function) : Type 0 where
  pub fits : Fits reserved m f g
  -- nothing but itself goes onto a reserved unit
  pub fixes : (l : Lane) → reserved l ≡ true → m l ≡ l
  pub only : (l : Lane) → reserved (m l) ≡ true → m l ≡ l
  pub quiet : Quiet reserved f.code m f.code
  pub folded : Folded m f.code g.code

-- A quiet fold does the same.
abbrev pub LawOfFolds : Type 0
LawOfFolds = (reserved : Lane → Bool) (m : Lane → Lane) (f g : Function) → Folds reserved m f g → Refines f g × Refines g f
