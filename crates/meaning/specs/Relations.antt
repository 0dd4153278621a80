-- Relations between sources of one code and sources of another, and how instructions carry them.
use Rattle.std.specs.Prelude.{◌≡◌, List, [], ◌∷◌}
use Rattle.meaning.specs.declared.types.Source.{Source}
use Rattle.meaning.specs.declared.types.Source.TheVariants.{Undef}
use Rattle.meaning.specs.declared.types.Fill.{Fill}
use Rattle.meaning.specs.declared.types.Fill.TheVariants.{Moved, Computed}
use Rattle.meaning.specs.declared.types.EdgePair.{EdgePair}
use Rattle.meaning.specs.Lanes.{Writes, Reads, settled, through}

-- R s t: source s in the first is Undef or has the value of source t in the second. So R s Undef says that s is Undef.
abbrev pub Rel : Type 1
Rel = Source → Source → Type 0

abbrev pub AlikeFill : Rel → Fill → Fill → Type 0
AlikeFill R (Moved s) (Moved t) = R s t
AlikeFill R (Computed i) (Computed j) = i ≡ j
AlikeFill R (Moved s) (Computed j) = R s Undef
AlikeFill R (Computed i) (Moved t) = ⊥

-- the relations after a silent instruction of the first, of the second, and after a counted one of both
abbrev pub after_first : Writes → Rel → Rel
after_first ws R s t = R (settled (through ws s)) t

abbrev pub after_second : Writes → Rel → Rel
after_second ws R s t = R s (settled (through ws t))

abbrev pub after_both : Writes → Writes → Rel → Rel
after_both ws vs R s t = AlikeFill R (through ws s) (through vs t)

-- behind the phis of a way into a block
abbrev pub along : EdgePair → Rel → Rel
along e R = after_second e.second (after_first e.first R)

abbrev pub Everything : Rel
Everything s t = Unit {0}

abbrev pub Nothing : Rel
Nothing s t = ⊥

abbrev pub Within : Rel → Rel → Type 0
Within R S = (s t : Source) → R s t → S s t

abbrev pub AlikeReads : Rel → List Source → List Source → Type 0
AlikeReads R [] [] = Unit {0}
AlikeReads R [] (t ∷ ts) = ⊥
AlikeReads R (s ∷ ss) [] = ⊥
AlikeReads R (s ∷ ss) (t ∷ ts) = R s t × AlikeReads R ss ts

abbrev pub AlikeOperands : Rel → Reads → Reads → Type 0
AlikeOperands R [] [] = Unit {0}
AlikeOperands R [] (t ∷ ts) = ⊥
AlikeOperands R (s ∷ ss) [] = ⊥
AlikeOperands R (s ∷ ss) (t ∷ ts) = AlikeReads R s t × AlikeOperands R ss ts
