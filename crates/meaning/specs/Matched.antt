-- Two codes that match item by item under one map of lanes.
use Rattle.std.specs.Prelude.{◌≡◌, ℕ, Bool, List, [], ◌∷◌, map, Option}
use Rattle.meaning.specs.declared.types.Lane.{Lane}
use Rattle.meaning.specs.declared.types.Source.{Source}
use Rattle.meaning.specs.declared.types.Source.TheVariants.{FromLane}
use Rattle.meaning.specs.declared.types.Fill.{Fill}
use Rattle.meaning.specs.declared.types.Write.{Write}
use Rattle.meaning.specs.declared.types.Rest.{Rest}
use Rattle.meaning.specs.Lanes.{Writes, Reads, filled, settled, Homes, placed, placed_fill}
use Rattle.meaning.specs.Environment.{Environment}
use Rattle.meaning.specs.Code.{Edge, BlockStart, BlockEnd, Silent, Counted, Code, Function, start_state}
use Rattle.meaning.specs.Refines.{Refines}
use Rattle.meaning.specs.Live.{Kept, KeptAfter}
use Rattle.meaning.specs.Layout.{LaidOut, NoPhis}

-- each lane's home is the lane of its image
abbrev pub images : (Lane → Lane) → Homes
images m a = FromLane (m a)

abbrev pub image : (Lane → Lane) → Source → Source
image m = placed (images m)

abbrev pub image_fill : (Lane → Lane) → Fill → Fill
image_fill m = placed_fill (images m)

abbrev pub renamed_write : (Lane → Lane) → Write → Write
renamed_write m w = record { lane = m w.lane; fill = image_fill m w.fill; early = w.early }

abbrev pub renamed : (Lane → Lane) → Writes → Writes
renamed m [] = []
renamed m (w ∷ ws) = renamed_write m w ∷ renamed m ws

abbrev pub renamed_reads : (Lane → Lane) → Reads → Reads
renamed_reads m [] = []
renamed_reads m (ss ∷ rest) = map (image m) ss ∷ renamed_reads m rest

-- The codes from here on are in step: each lane that is kept in the first has its value in the lane of its image in the second.
pub data Matched (reserved : Lane → Bool) (m : Lane → Lane) (code : Code) : Code → Code → Type 0 where
  done : Matched reserved m code [] []
  start : {n : ℕ} {p q : Code} → Matched reserved m code p q → Matched reserved m code (BlockStart n ∷ p) (BlockStart n ∷ q)
  end : {falls : Option Writes} {exits : List Edge} {p q : Code} → Matched reserved m code p q → Matched reserved m code (BlockEnd falls exits ∷ p) (BlockEnd falls exits ∷ q)
  first : {reads : Reads} {ws : Writes} {p q : Code} → ((a : Lane) → KeptAfter reserved code (Silent reads ws) p a → image m (settled (filled ws a)) ≡ FromLane (m a)) → Matched reserved m code p q → Matched reserved m code (Silent reads ws ∷ p) q
  second : {reads' : Reads} {ws' : Writes} {p q : Code} → ((a : Lane) → Kept reserved code p a → settled (filled ws' (m a)) ≡ FromLane (m a)) → Matched reserved m code p q → Matched reserved m code p (Silent reads' ws' ∷ q)
  both : {reads reads' : Reads} {ws ws' : Writes} {p q : Code} → ((a : Lane) → KeptAfter reserved code (Silent reads ws) p a → image m (settled (filled ws a)) ≡ settled (filled ws' (m a))) → Matched reserved m code p q → Matched reserved m code (Silent reads ws ∷ p) (Silent reads' ws' ∷ q)
  counted : {r : Rest} {reads : Reads} {ws ws' : Writes} {target : Option Edge} {exits : List Edge} {p q : Code} → ((a : Lane) → KeptAfter reserved code (Counted r reads ws target exits) p a → image_fill m (filled ws a) ≡ filled ws' (m a)) → Matched reserved m code p q → Matched reserved m code (Counted r reads ws target exits ∷ p) (Counted r (renamed_reads m reads) ws' target exits ∷ q)

-- what the laws of one map ask besides
pub record Fits (reserved : Lane → Bool) (m : Lane → Lane) (f g : Function) : Type 0 where
  -- what is kept at the start starts alike
  pub starts : (env : Environment) (l : Lane) → Kept reserved f.code f.code l → start_state env f.given l ≡ start_state env g.given (m l)
  pub laid_out : LaidOut f.code f.code
  pub no_phis : NoPhis f.code

-- Codes that match item by item under one map do the same.
abbrev pub LawOfSteps : Type 0
LawOfSteps = (reserved : Lane → Bool) (m : Lane → Lane) (f g : Function) → Fits reserved m f g → Matched reserved m f.code f.code g.code → Refines f g × Refines g f
