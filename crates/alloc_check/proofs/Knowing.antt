-- What else is known where more is known.
use Rattle.std.proofs.Common.{◌≡◌, ◌∷◌, true, List, [], refl, inl, inr}
use Rattle.std.proofs.lemmas.Bool.{and_from}
use Rattle.meaning.specs.declared.types.Source.{Source}
use Rattle.meaning.specs.declared.types.Fill.{Fill}
use Rattle.meaning.specs.declared.types.Fill.TheVariants.{Moved, Computed}
use Rattle.meaning.specs.declared.types.EdgePair.{EdgePair}
use Rattle.meaning.specs.Lanes.{Writes, Reads, settled, through}
use Rattle.meaning.specs.Facts.{Facts, Knowledge, all_known, known_left, known_first, known_second, known_both, one_result, reads_known, operands_known}
use Rattle.meaning.specs.Agree.{known_along}
use Rattle.laws.proofs.Following.{both-true}
use Rattle.laws.proofs.Closed.{either-true, or-left, or-right}

-- all that the one knows the other knows
abbrev pub Knows : Knowledge → Knowledge → Type 0
Knows k k' = (s t : Source) → k s t ≡ true → k' s t ≡ true

module _ (k k' : Knowledge) (more : Knows k k') where
  pub left-more : (f : Fill) (t : Source) → known_left k f t ≡ true → known_left k' f t ≡ true
  left-more (Moved s) t h = more s t h
  left-more (Computed i) t h = h

  pub first-more : (ws : Writes) → Knows (known_first ws k) (known_first ws k')
  first-more ws s t h = left-more (through ws s) t h

  pub second-more : (vs : Writes) → Knows (known_second vs k) (known_second vs k')
  second-more vs s t h = more s (settled (through vs t)) h

  pub both-more : (ws vs : Writes) → Knows (known_both ws vs k) (known_both ws vs k')
  both-more ws vs s t h =
      let b = one_result (through ws s) (through vs t) in
      elim (either-true b (known_second vs (known_first ws k) s t) h) [
        | inl e ↦ or-left b (known_second vs (known_first ws k') s t) e
        | inr e ↦ or-right b (known_second vs (known_first ws k') s t) (left-more (through ws s) (settled (through vs t)) e)
      ]

  pub all-more : (facts : Facts) → all_known k facts ≡ true → all_known k' facts ≡ true
  all-more [] h = refl
  all-more (f ∷ facts) h =
      let p = both-true (k f.0 f.1) (all_known k facts) h in
      and_from (k' f.0 f.1) (all_known k' facts) (more f.0 f.1 p.0) (all-more facts p.1)

  pub reads-more : (ss ts : List Source) → reads_known k ss ts ≡ true → reads_known k' ss ts ≡ true
  reads-more [] [] h = refl
  reads-more [] (t ∷ ts) h = absurd (cc)
  reads-more (s ∷ ss) [] h = absurd (cc)
  reads-more (s ∷ ss) (t ∷ ts) h =
      let p = both-true (k s t) (reads_known k ss ts) h in
      and_from (k' s t) (reads_known k' ss ts) (more s t p.0) (reads-more ss ts p.1)

  pub operands-more : (ss ts : Reads) → operands_known k ss ts ≡ true → operands_known k' ss ts ≡ true
  operands-more [] [] h = refl
  operands-more [] (t ∷ ts) h = absurd (cc)
  operands-more (s ∷ ss) [] h = absurd (cc)
  operands-more (s ∷ ss) (t ∷ ts) h =
      let p = both-true (reads_known k s t) (operands_known k ss ts) h in
      and_from (reads_known k' s t) (operands_known k' ss ts) (reads-more s t p.0) (operands-more ss ts p.1)

pub along-more : (e : EdgePair) (k k' : Knowledge) → Knows k k' → Knows (known_along e k) (known_along e k')
along-more e k k' more = second-more (known_first e.first k) (known_first e.first k') (first-more k k' more e.first) e.second
