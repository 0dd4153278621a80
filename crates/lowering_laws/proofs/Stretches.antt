-- Rows that lead from one relation to another, put one behind the other.
use Rattle.std.proofs.Common.{◌≡◌, ◌∷◌, ◌++◌, ◌∙◌, List, Option, Some, None, refl, sym, ap, subst, append_assoc, []}
use Rattle.meaning.specs.Code.{BlockEnd, BlockStart, Code, Counted, Silent}
use Rattle.meaning.specs.Lanes.{Reads, Writes, settled, through}
use Rattle.meaning.specs.Relations.{AlikeFill, AlikeOperands, AlikeReads, Rel, Within, after_both, after_first, after_second, along}
use Rattle.meaning.specs.Rows.{first_edges, first_falls, first_of_rows, first_target, second_edges, second_falls, second_of_rows, second_target}
use Rattle.meaning.specs.declared.types.Fill.{Fill}
use Rattle.meaning.specs.declared.types.Fill.TheVariants.{Computed, Moved}
use Rattle.meaning.specs.declared.types.Rest.{Rest}
use Rattle.meaning.specs.declared.types.Row.{Row}
use Rattle.meaning.specs.declared.types.Row.TheVariants.{BothCounted, BothEnd, BothStart, FirstSilent, SecondSilent}
use Rattle.meaning.specs.declared.types.Source.{Source}
use Rattle.meaning.specs.declared.types.Source.TheVariants.{Undef}
use Rattle.meaning.specs.declared.types.EdgePair.{EdgePair}
use Rattle.laws.proofs.Core.{Coupled, Exits, Plan, Reaches}

pub first-append : (rows rest : List Row) → first_of_rows (rows ++ rest) ≡ first_of_rows rows ++ first_of_rows rest
first-append [] rest = refl
first-append (BothStart n ∷ rows) rest = ap (λ p. BlockStart n ∷ p) (first-append rows rest)
first-append (BothEnd falls exits ∷ rows) rest = ap (λ p. BlockEnd (first_falls falls) (first_edges exits) ∷ p) (first-append rows rest)
first-append (FirstSilent reads ws ∷ rows) rest = ap (λ p. Silent reads ws ∷ p) (first-append rows rest)
first-append (SecondSilent reads ws ∷ rows) rest = first-append rows rest
first-append (BothCounted r reads reads' ws ws' target exits ∷ rows) rest = ap (λ p. Counted r reads ws (first_target target) (first_edges exits) ∷ p) (first-append rows rest)

pub second-append : (rows rest : List Row) → second_of_rows (rows ++ rest) ≡ second_of_rows rows ++ second_of_rows rest
second-append [] rest = refl
second-append (BothStart n ∷ rows) rest = ap (λ p. BlockStart n ∷ p) (second-append rows rest)
second-append (BothEnd falls exits ∷ rows) rest = ap (λ p. BlockEnd (second_falls falls) (second_edges exits) ∷ p) (second-append rows rest)
second-append (FirstSilent reads ws ∷ rows) rest = second-append rows rest
second-append (SecondSilent reads ws ∷ rows) rest = ap (λ p. Silent reads ws ∷ p) (second-append rows rest)
second-append (BothCounted r reads reads' ws ws' target exits ∷ rows) rest = ap (λ p. Counted r reads' ws' (second_target target) (second_edges exits) ∷ p) (second-append rows rest)

-- more known is as good

fill-more : (R S : Rel) → Within S R → (s t : Fill) → AlikeFill S s t → AlikeFill R s t
fill-more R S w (Moved s) (Moved t) h = w s t h
fill-more R S w (Computed i) (Computed j) h = h
fill-more R S w (Moved s) (Computed j) h = w s Undef h
fill-more R S w (Computed i) (Moved t) h = h

reads-more : (R S : Rel) → Within S R → (ss ts : List Source) → AlikeReads S ss ts → AlikeReads R ss ts
reads-more R S w [] [] h = h
reads-more R S w [] (t ∷ ts) h = h
reads-more R S w (s ∷ ss) [] h = h
reads-more R S w (s ∷ ss) (t ∷ ts) h = (w s t h.0, reads-more R S w ss ts h.1)

operands-more : (R S : Rel) → Within S R → (ss ts : Reads) → AlikeOperands S ss ts → AlikeOperands R ss ts
operands-more R S w [] [] h = h
operands-more R S w [] (t ∷ ts) h = h
operands-more R S w (s ∷ ss) [] h = h
operands-more R S w (s ∷ ss) (t ∷ ts) h = (reads-more R S w s t h.0, operands-more R S w ss ts h.1)

pub both-more : (ws vs : Writes) (R S : Rel) → Within S R → Within (after_both ws vs S) (after_both ws vs R)
both-more ws vs R S w s t k = fill-more R S w (through ws s) (through vs t) k

pub along-more : (e : EdgePair) (R S : Rel) → Within S R → Within (along e S) (along e R)
along-more e R S w s t k = w (settled (through e.first s)) (settled (through e.second t)) k

module _ (K : Plan) where
  reaches-more : (target : Option EdgePair) (R S : Rel) → Within S R → Reaches K target S → Reaches K target R
  reaches-more None R S w h = tt
  reaches-more (Some e) R S w h = λ s t k. along-more e R S w s t (h s t k)

  exits-more : (exits : List EdgePair) (R S : Rel) → Within S R → Exits K exits S → Exits K exits R
  exits-more exits R S w h e x = λ s t k. along-more e R S w s t (h e x s t k)

  pub coupled-more : (rows : List Row) (R S : Rel) → Within S R → Coupled K rows S → Coupled K rows R
  coupled-more [] R S w c = tt
  coupled-more (BothStart n ∷ rows) R S w c = ((λ s t k. w s t (c.0 s t k)), c.1)
  coupled-more (BothEnd (Some e) exits ∷ rows) R S w c =
      (exits-more exits R S w c.0, coupled-more rows (after_second e.1 (after_first e.0 R)) (after_second e.1 (after_first e.0 S)) (λ s t k. w (settled (through e.0 s)) (settled (through e.1 t)) k) c.1)
  coupled-more (BothEnd None exits ∷ rows) R S w c = (exits-more exits R S w c.0, c.1)
  coupled-more (FirstSilent reads ws ∷ rows) R S w c = coupled-more rows (after_first ws R) (after_first ws S) (λ s t k. w (settled (through ws s)) t k) c
  coupled-more (SecondSilent reads ws ∷ rows) R S w c = coupled-more rows (after_second ws R) (after_second ws S) (λ s t k. w s (settled (through ws t)) k) c
  coupled-more (BothCounted r reads reads' ws ws' target exits ∷ rows) R S w c =
      let w' : Within (after_both ws ws' S) (after_both ws ws' R) = both-more ws ws' R S w in (
        operands-more R S w reads reads' c.0,
        reaches-more target (after_both ws ws' R) (after_both ws ws' S) w' c.1,
        exits-more exits (after_both ws ws' R) (after_both ws ws' S) w' c.2,
        coupled-more rows (after_both ws ws' R) (after_both ws ws' S) w' c.3,
      )

  -- rows of which these codes are the sides; what is coupled by S behind them is coupled by R before
  pub record Stretch (R S : Rel) (p q : Code) : Type 0 where
    pub rows : List Row
    pub first : first_of_rows rows ≡ p
    pub second : second_of_rows rows ≡ q
    pub leads : (rest : List Row) → Coupled K rest S → Coupled K (rows ++ rest) R

  pub nothing : (R : Rel) → Stretch R R [] []
  nothing R = record { rows = []; first = refl; second = refl; leads = λ rest c. c }

  pub joined : (R S T : Rel) (p q p' q' : Code) → Stretch R S p q → Stretch S T p' q' → Stretch R T (p ++ p') (q ++ q')
  joined R S T p q p' q' x y = record {
    rows = x.rows ++ y.rows;
    first = first-append x.rows y.rows ∙ (λ i. x.first i ++ y.first i);
    second = second-append x.rows y.rows ∙ (λ i. x.second i ++ y.second i);
    leads = λ rest c. subst (λ rows. Coupled K rows R) (sym (append_assoc x.rows y.rows rest)) (x.leads (y.rows ++ rest) (y.leads rest c));
  }

  -- less may be known behind it
  pub lessened : (R S T : Rel) (p q : Code) → Within T S → Stretch R S p q → Stretch R T p q
  lessened R S T p q w x = record { rows = x.rows; first = x.first; second = x.second; leads = λ rest c. x.leads rest (coupled-more rest S T w c) }

  -- more may be known before it
  pub strengthened : (R S T : Rel) (p q : Code) → Within R T → Stretch R S p q → Stretch T S p q
  strengthened R S T p q w x = record { rows = x.rows; first = x.first; second = x.second; leads = λ rest c. coupled-more (x.rows ++ rest) T R w (x.leads rest c) }

  pub first-silent : (R : Rel) (reads : Reads) (ws : Writes) → Stretch R (after_first ws R) (Silent reads ws ∷ []) []
  first-silent R reads ws = record { rows = FirstSilent reads ws ∷ []; first = refl; second = refl; leads = λ rest c. c }

  pub second-silent : (R : Rel) (reads : Reads) (ws : Writes) → Stretch R (after_second ws R) [] (Silent reads ws ∷ [])
  second-silent R reads ws = record { rows = SecondSilent reads ws ∷ []; first = refl; second = refl; leads = λ rest c. c }

  pub both-counted :
      (R : Rel) (r : Rest) (reads reads' : Reads) (ws ws' : Writes) (target : Option EdgePair) (exits : List EdgePair) →
      AlikeOperands R reads reads' → Reaches K target (after_both ws ws' R) → Exits K exits (after_both ws ws' R) →
      Stretch R (after_both ws ws' R) (Counted r reads ws (first_target target) (first_edges exits) ∷ []) (Counted r reads' ws' (second_target target) (second_edges exits) ∷ [])
  both-counted R r reads reads' ws ws' target exits a b c = record { rows = BothCounted r reads reads' ws ws' target exits ∷ []; first = refl; second = refl; leads = λ rest d. (a, b, c, d) }
