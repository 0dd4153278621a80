-- A code as one list: each block stands where it is found, and a run goes along the paths of liveness.
use Rattle.std.specs.Prelude.{◌≡◌, List, [], ◌∷◌, Option, Some, None}
use Rattle.meaning.specs.Lanes.{Writes}
use Rattle.meaning.specs.Code.{Edge, BlockStart, BlockEnd, Silent, Counted, Code, found}
use Rattle.meaning.specs.Live.{Among}

-- a block that is fallen into is a successor, with the same phis
abbrev pub FallsTo : Writes → List Edge → Code → Type 0
FallsTo phis exits [] = ⊥
FallsTo phis exits (BlockStart n ∷ p) = Among (record { block = n; phis = phis }) exits
FallsTo phis exits (BlockEnd falls more ∷ p) = ⊥
FallsTo phis exits (Silent reads ws ∷ p) = ⊥
FallsTo phis exits (Counted r reads ws target more ∷ p) = ⊥

abbrev pub LaidOut : Code → Code → Type 0
LaidOut code [] = Unit {0}
LaidOut code (BlockStart n ∷ p) = (found n code ≡ p) × LaidOut code p
LaidOut code (BlockEnd (Some phis) exits ∷ p) = FallsTo phis exits p × LaidOut code p
LaidOut code (BlockEnd None exits ∷ p) = LaidOut code p
LaidOut code (Silent reads ws ∷ p) = LaidOut code p
LaidOut code (Counted r reads ws None exits ∷ p) = LaidOut code p
LaidOut code (Counted r reads ws (Some e) exits ∷ p) = Among e exits × LaidOut code p

abbrev pub NoPhisAlong : List Edge → Type 0
NoPhisAlong [] = Unit {0}
NoPhisAlong (e ∷ es) = (e.phis ≡ []) × NoPhisAlong es

abbrev pub NoPhisInto : Option Edge → Type 0
NoPhisInto None = Unit {0}
NoPhisInto (Some e) = e.phis ≡ []

abbrev pub NoPhisBelow : Option Writes → Type 0
NoPhisBelow None = Unit {0}
NoPhisBelow (Some phis) = phis ≡ []

-- no way into a block has phis
abbrev pub NoPhis : Code → Type 0
NoPhis [] = Unit {0}
NoPhis (BlockStart n ∷ p) = NoPhis p
NoPhis (BlockEnd falls exits ∷ p) = NoPhisBelow falls × NoPhisAlong exits × NoPhis p
NoPhis (Silent reads ws ∷ p) = NoPhis p
NoPhis (Counted r reads ws target exits ∷ p) = NoPhisInto target × NoPhisAlong exits × NoPhis p
