-- Two codes in step, place by place: each lane that is kept in the first has its value at its home in the second.
use Rattle.std.specs.Prelude.{◌≡◌, ℕ, Bool, List, [], ◌∷◌, ◌++◌, Option, Some, None}
use Rattle.meaning.specs.declared.types.Lane.{Lane}
use Rattle.meaning.specs.declared.types.Source.{Source}
use Rattle.meaning.specs.declared.types.Source.TheVariants.{FromLane, Undef, Bits}
use Rattle.meaning.specs.declared.types.EdgePair.{EdgePair}
use Rattle.meaning.specs.declared.types.Row.{Row}
use Rattle.meaning.specs.declared.types.Row.TheVariants.{BothStart, BothEnd, FirstSilent, SecondSilent, BothCounted}
use Rattle.meaning.specs.Lanes.{Homes, placed}
use Rattle.meaning.specs.Environment.{Environment}
use Rattle.meaning.specs.State.{fetch}
use Rattle.meaning.specs.Code.{BlockStart, Code, found, Function, start_state}
use Rattle.meaning.specs.Refines.{Refines}
use Rattle.meaning.specs.Live.{Among, Kept}
use Rattle.meaning.specs.Layout.{LaidOut}
use Rattle.meaning.specs.Relations.{Rel, after_first, after_second, after_both, along, Everything, AlikeOperands}
use Rattle.meaning.specs.Rows.{first_of_rows, second_of_rows}

-- a source whose value is known at p: a lane that is kept, Undef or a constant
abbrev pub Known : (Lane → Bool) → Code → Code → Source → Type 0
Known reserved code p (FromLane a) = Kept reserved code p a
Known reserved code p Undef = Unit {0}
Known reserved code p (Bits c low width) = Unit {0}

-- what is known at p has its value at home
abbrev pub Holds : (Lane → Bool) → Code → Homes → Code → Rel → Type 0
Holds reserved code h p R = (s : Source) → Known reserved code p s → R s (placed h s)

-- what is known at p has its value at home, and nothing else is known
abbrev pub Graph : (Lane → Bool) → Code → Homes → Code → Rel
Graph reserved code h p s t = Known reserved code p s × (t ≡ placed h s)

-- the homes at the start of each block, behind its phis, by its number
abbrev pub AtStarts : Type 0
AtStarts = ℕ → Homes

-- what is known in a block has its value at home behind the phis of a way into it
abbrev pub WayHolds : (Lane → Bool) → Code → AtStarts → Rel → EdgePair → Type 0
WayHolds reserved code at R e = Holds reserved code (at e.block) (found e.block code) (along e R)

abbrev pub TargetHolds : (Lane → Bool) → Code → AtStarts → Option EdgePair → Rel → Type 0
TargetHolds reserved code at None R = Unit {0}
TargetHolds reserved code at (Some e) R = WayHolds reserved code at R e

abbrev pub ExitsHold : (Lane → Bool) → Code → AtStarts → List EdgePair → Rel → Type 0
ExitsHold reserved code at exits R = (e : EdgePair) → Among e exits → WayHolds reserved code at R e

-- the rows of one place, which p follows in the first code, with these homes from there on
abbrev pub Passes : (Lane → Bool) → Code → AtStarts → Homes → Code → List Row → Rel → Type 0
Passes reserved code at h p [] R = Holds reserved code h p R
Passes reserved code at h p (BothStart n ∷ rows) R = ⊥
Passes reserved code at h p (BothEnd (Some e) exits ∷ rows) R =
    ExitsHold reserved code at exits R × Passes reserved code at h p rows (after_second e.1 (after_first e.0 R))
Passes reserved code at h p (BothEnd None exits ∷ rows) R =
    ExitsHold reserved code at exits R × Passes reserved code at h p rows Everything
Passes reserved code at h p (FirstSilent reads ws ∷ rows) R = Passes reserved code at h p rows (after_first ws R)
Passes reserved code at h p (SecondSilent reads ws ∷ rows) R = Passes reserved code at h p rows (after_second ws R)
Passes reserved code at h p (BothCounted r reads reads' ws ws' target exits ∷ rows) R =
    AlikeOperands R reads reads' × TargetHolds reserved code at target (after_both ws ws' R) × ExitsHold reserved code at exits (after_both ws ws' R) × Passes reserved code at h p rows (after_both ws ws' R)

-- two choices of homes agree on what is kept at p
abbrev pub Agree : (Lane → Bool) → Code → Code → Homes → Homes → Type 0
Agree reserved code p h h' = (a : Lane) → Kept reserved code p a → h a ≡ h' a

-- The codes from here on are in step, with these homes here. A place may be one row or several, as the copies
-- and terminators at the end of a block with that end; rows between two places begin anew with the homes alone.
pub data InStep (reserved : Lane → Bool) (code : Code) (at : AtStarts) : Homes → Code → Code → Type 0 where
  done : {h : Homes} → InStep reserved code at h [] []
  start : {n : ℕ} {h : Homes} {p q : Code} → Agree reserved code p h (at n) → InStep reserved code at (at n) p q → InStep reserved code at h (BlockStart n ∷ p) (BlockStart n ∷ q)
  place : {h h' : Homes} {p q : Code} (rows : List Row) → Passes reserved code at h' p rows (Graph reserved code h (first_of_rows rows ++ p)) → InStep reserved code at h' p q → InStep reserved code at h (first_of_rows rows ++ p) (second_of_rows rows ++ q)

-- what is kept at the start starts alike
abbrev pub StartsAlike : (Lane → Bool) → Homes → Function → Function → Type 0
StartsAlike reserved h f g = (env : Environment) (l : Lane) → Kept reserved f.code f.code l → start_state env f.given l ≡ fetch env (start_state env g.given) (h l)

-- The law of passes: codes in step refine. That the first is laid out serves the proof alone, which knows a block
-- by its number: being in step already compares the codes on every way into a block, fallen into or branched to.
abbrev pub LawOfPlaces : Type 0
LawOfPlaces = (reserved : Lane → Bool) (f g : Function) (at : AtStarts) (h : Homes) → LaidOut f.code f.code → StartsAlike reserved h f g → InStep reserved f.code at h f.code g.code → Refines f g
