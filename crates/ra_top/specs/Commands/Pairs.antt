-- What `check` says of the functions of two files, which are paired in order.
use Rattle.std.specs.Prelude.{◌≡◌, ℕ, Bool, true, false, List, [], ◌∷◌, ◌++◌, codes, length, drop}
use Rattle.std.specs.List.{flat_map}
use Rattle.std.specs.Fmt.{decimal}
use Rattle.target_base.specs.declared.types.Target.{Target}
use Rattle.mir_func.specs.Value.{Function}
use Rattle.mir_func.specs.declared.func.Block.{Block}
use Rattle.mir_func.specs.declared.func.Place.{Place}
use Rattle.machine_verify.specs.Lives.{FitsTarget}
use Rattle.alloc_check.specs.Verdict.{IfYes, IsRight, TellsAgreement}
use Rattle.alloc_check.specs.declared.check.Verdict.{Verdict}
use Rattle.alloc_check.specs.declared.check.Verdict.TheVariants.{Yes, No}
use Rattle.ra_top.specs.Commands.Documents.{is_named}

-- `yes NAME` or `no NAME bb.N:K`
abbrev pub verdict_line : List ℕ → Verdict → List ℕ
verdict_line name Yes = codes "yes " ++ (name ++ codes "\n")
verdict_line name (No p) = codes "no " ++ (name ++ (codes " bb." ++ (decimal p.block ++ (codes ":" ++ (decimal p.at ++ codes "\n")))))

-- `alone NAME`
abbrev pub alone_line : List ℕ → List ℕ
alone_line name = codes "alone " ++ (name ++ codes "\n")

abbrev pub alone_lines : List Function → List ℕ
alone_lines fs = flat_map (λ f. alone_line f.name) fs

-- the start of a function with these blocks, of which there is always one
abbrev pub start_of : List Block → Place
start_of [] = record { block = 0; at = 0 }
start_of (b ∷ bs) = record { block = b.number; at = 0 }

-- What the checker of allocations says of g beside f: by a Yes that g is right. Of a g whose virtual registers are of
-- classes of the target, as those of each function are that is read under it, it is a Yes exactly where both agree, and a No
-- has exactly the first doubt.
pub record IsVerdictOf (t : Target) (f g : Function) (v : Verdict) : Type 0 where
  pub right : IfYes (IsRight t f g) v
  pub agreement : FitsTarget t g → TellsAgreement t f g v

-- a verdict of the checker of allocations where both names are one; else No with the start of f
abbrev pub IsVerdictIf : Bool → Target → Function → Function → Verdict → Type 0
IsVerdictIf true t f g v = IsVerdictOf t f g v
IsVerdictIf false t f g v = v ≡ No (start_of f.blocks)

-- the verdict on f and its partner g
abbrev pub IsVerdictOn : Target → Function → Function → Verdict → Type 0
IsVerdictOn t f g v = IsVerdictIf (is_named g.name f) t f g v

-- the line of the next function g of the second file, where these of the first one have no partner yet
abbrev pub IsLineOf : Target → List Function → Function → List ℕ → Type 0
IsLineOf t [] g line = line ≡ alone_line g.name
IsLineOf t (f ∷ fs) g line = (v : Verdict) × IsVerdictOn t f g v × (line ≡ verdict_line f.name v)

-- the lines of the functions gs of the second file in turn, each with its partner, where these of the first one have none yet
abbrev pub AreLinesOf : Target → List Function → List Function → List ℕ → Type 0
AreLinesOf t fs [] lines = lines ≡ []
AreLinesOf t fs (g ∷ gs) lines =
    (line : List ℕ) × (rest : List ℕ) × IsLineOf t fs g line × AreLinesOf t (drop 1 fs) gs rest × (lines ≡ line ++ rest)

-- A text is all that `check` says of the functions fs and gs of two files: the lines of gs, and behind them those of the
-- functions of fs that are left without a partner.
pub record IsCheckText (t : Target) (fs gs : List Function) (text : List ℕ) : Type 0 where
  pub lines : List ℕ
  pub are : AreLinesOf t fs gs lines
  pub all : text ≡ lines ++ alone_lines (drop (length gs) fs)

-- the line of g was added, where fs had no partner before, and rest has none then
pub record PutsLine (t : Target) (fs : List Function) (g : Function) (rest : List Function) (old new : List ℕ) : Type 0 where
  pub line : List ℕ
  pub is : IsLineOf t fs g line
  pub added : new ≡ old ++ line
  pub left : rest ≡ drop 1 fs
