-- A choice of registers without clashes, as a map of lanes.
use Rattle.std.specs.Prelude.{◌≡◌, Bool, true, [], ◌∷◌}
use Rattle.meaning.specs.declared.types.Lane.{Lane}
use Rattle.meaning.specs.Code.{Item, Code, Function}
use Rattle.meaning.specs.Refines.{Refines}
use Rattle.meaning.specs.Live.{OccupiedBefore, OccupiedAfter}
use Rattle.meaning.specs.Matched.{Fits}
use Rattle.meaning.specs.Fold.{Folded}

-- no two lanes with one image are occupied at the entry of i, or at its exit
pub record NoClashAt (reserved : Lane → Bool) (code : Code) (m : Lane → Lane) (i : Item) (p : Code) : Type 0 where
  pub entry : (a b : Lane) → OccupiedBefore reserved code i p a → OccupiedBefore reserved code i p b → m a ≡ m b → a ≡ b
  pub exit : (a b : Lane) → OccupiedAfter reserved code i p a → OccupiedAfter reserved code i p b → m a ≡ m b → a ≡ b

abbrev pub NoClash : (Lane → Bool) → Code → (Lane → Lane) → Code → Type 0
NoClash reserved code m [] = Unit {0}
NoClash reserved code m (i ∷ p) = NoClashAt reserved code m i p × NoClash reserved code m p

-- m rewrites f to g
pub record Rewrites (reserved : Lane → Bool) (m : Lane → Lane) (f g : Function) : Type 0 where
  pub fits : Fits reserved m f g
  -- nothing but itself goes onto a reserved unit
  pub fixes : (l : Lane) → reserved l ≡ true → m l ≡ l
  pub only : (l : Lane) → reserved (m l) ≡ true → m l ≡ l
  pub no_clash : NoClash reserved f.code m f.code
  pub folded : Folded m f.code g.code

-- The law of rewriting: lanes that never clash may go to one place, and identity copies may go.
abbrev pub LawOfRewriting : Type 0
LawOfRewriting = (reserved : Lane → Bool) (m : Lane → Lane) (f g : Function) → Rewrites reserved m f g → Refines f g × Refines g f
