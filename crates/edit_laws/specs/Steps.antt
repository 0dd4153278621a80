-- What instructions do to lanes that go by numbers, before and after edits, and which pieces of lanes are right.
use Rattle.std.specs.Prelude.{◌≡◌, ℕ, Bool, true, false, List, [], ◌∷◌, ◌++◌}
use Rattle.mir_meaning.specs.Paths.{Among, Step, Code, steps_of, last_of, exits_of, Unused, Certain, Into, use_of, is_written}
use Rattle.live_lanes.specs.declared.row.PieceEnd.{PieceEnd}
use Rattle.live_lanes.specs.Graph.{Causes, is_live, writes_in, Founded, IsGrown}
use Rattle.live_lanes.specs.Table.{Numbers}
use Rattle.live_lanes.specs.Entered.{IsNumbered}
use Rattle.live_lanes.specs.Ends.{IsEnd}

-- an instruction and what an edit makes of it: other lanes than those that the test tells are used and written alike, and none of
-- them is copied into one of those
pub record AreAlike (told : ℕ → Bool) (s r : Step) : Type 0 where
  pub id : s.id ≡ r.id
  pub leaves : s.leaves ≡ r.leaves
  pub used : (l : ℕ) → told l ≡ false → use_of l s ≡ use_of l r
  pub written : (l : ℕ) → told l ≡ false → is_written l s ≡ is_written l r
  pub apart : (l a : ℕ) → told l ≡ false → use_of l s ≡ Into a → told a ≡ false

-- an instruction that comes or goes uses and writes none of them, and is no terminator
pub record IsApart (told : ℕ → Bool) (s : Step) : Type 0 where
  pub leaves : s.leaves ≡ false
  pub unused : (l : ℕ) → told l ≡ false → use_of l s ≡ Unused
  pub unwritten : (l : ℕ) → told l ≡ false → is_written l s ≡ false

-- the instructions of a block before and after edits, which concern lanes that the test tells
pub data AreSteps (told : ℕ → Bool) : List Step → List Step → Type 0 where
  no_steps : AreSteps told [] []
  step_stays : {s r : Step} {ss rs : List Step} → AreAlike told s r → AreSteps told ss rs → AreSteps told (s ∷ ss) (r ∷ rs)
  step_goes : {s : Step} {ss rs : List Step} → IsApart told s → AreSteps told ss rs → AreSteps told (s ∷ ss) rs
  step_comes : {r : Step} {ss rs : List Step} → IsApart told r → AreSteps told ss rs → AreSteps told ss (r ∷ rs)

-- so do the instructions of each block; all else stays
pub record AreCodes (told : ℕ → Bool) (old new : Code) : Type 0 where
  pub steps : (b : ℕ) → AreSteps told (steps_of old b) (steps_of new b)
  pub last : (b : ℕ) → last_of old b ≡ last_of new b
  pub exits : (b : ℕ) → exits_of old b ≡ exits_of new b

-- the pieces of these lanes are right: live where a reading counts, or an exit, and each with a right cause
pub record AreRight (told : ℕ → Bool) (code : Code) (why : Causes) : Type 0 where
  pub reading : (b l : ℕ) → told l ≡ true → (before : List Step) (s : Step) (rest : List Step) → steps_of code b ≡ before ++ s ∷ rest → use_of l s ≡ Certain → is_live (why l b (writes_in l before)) ≡ true
  pub move : (b l a : ℕ) → told l ≡ true → (before : List Step) (s : Step) (rest : List Step) → steps_of code b ≡ before ++ s ∷ rest → use_of l s ≡ Into a → is_live (why a b (writes_in a (before ++ s ∷ []))) ≡ true → is_live (why l b (writes_in l before)) ≡ true
  pub exit : (b l x : ℕ) → told l ≡ true → (before : List Step) (s : Step) (rest : List Step) → steps_of code b ≡ before ++ s ∷ rest → s.leaves ≡ true → Among x (exits_of code b) → is_live (why l x 0) ≡ true → is_live (why l b (writes_in l (before ++ s ∷ []))) ≡ true
  pub end : (b l x : ℕ) → told l ≡ true → Among x (exits_of code b) → is_live (why l x 0) ≡ true → is_live (why l b (writes_in l (steps_of code b))) ≡ true
  pub phi : (b l : ℕ) → told l ≡ true → Among l (last_of code b) → is_live (why l b (writes_in l (steps_of code b))) ≡ true
  pub founded : (l b n : ℕ) → told l ≡ true → is_live (why l b n) ≡ true → Founded code why l b n

-- the other lanes have the causes that they had
abbrev pub KeepOthers : (ℕ → Bool) → Causes → Causes → Type 0
KeepOthers told why why' = (l b n : ℕ) → told l ≡ false → why' l b n ≡ why l b n

-- After edits a table of causes is grown where it was before, its causes are right at the lanes that the test tells, and all others
-- are kept.
abbrev pub GrownLaw : Type 0
GrownLaw = (told : ℕ → Bool) (old new : Code) (why why' : Causes) → AreCodes told old new → IsGrown old why → KeepOthers told why why' → AreRight told new why' → IsGrown new why'

-- The ends of pieces of other lanes are right after edits as they were before, where instructions are numbered anew in their order.
abbrev pub EndsLaw : Type 0
EndsLaw =
    (told : ℕ → Bool) (old new : Code) (slots slots' : Numbers) (why why' : Causes) → AreCodes told old new → IsNumbered old slots → IsNumbered new slots' → KeepOthers told why why'
    → (l b n : ℕ) → told l ≡ false → (end : PieceEnd) → IsEnd old slots why l b n end → IsEnd new slots' why' l b n end
