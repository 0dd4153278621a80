-- Rows that couple two codes by equal values couple them both ways.
-- of two fills both are one source's or one result
use Rattle.std.proofs.Common.{◌≡◌, ◌∷◌, ◌∙◌, List, Option, Some, None, refl, sym, ap, []}
use Rattle.meaning.specs.Code.{BlockEnd, BlockStart, Counted, Function, Silent, start_state}
use Rattle.meaning.specs.Environment.{Environment}
use Rattle.meaning.specs.Lanes.{Reads, Writes, settled, through}
use Rattle.meaning.specs.Live.{here, there}
use Rattle.meaning.specs.Refines.{Refines}
use Rattle.meaning.specs.Relations.{AlikeFill, AlikeOperands, AlikeReads, Everything, Rel, Within, after_both, after_first, after_second}
use Rattle.meaning.specs.Rows.{first_edge, first_edges, first_falls, first_of_rows, first_target, second_edge, second_edges, second_falls, second_of_rows, second_target}
use Rattle.meaning.specs.State.{fetch}
use Rattle.meaning.specs.declared.types.Fill.{Fill}
use Rattle.meaning.specs.declared.types.Fill.TheVariants.{Computed, Moved}
use Rattle.meaning.specs.declared.types.Row.{Row}
use Rattle.meaning.specs.declared.types.Row.TheVariants.{BothCounted, BothEnd, BothStart, FirstSilent, SecondSilent}
use Rattle.meaning.specs.declared.types.Source.{Source}
use Rattle.meaning.specs.declared.types.EdgePair.{EdgePair}
use Rattle.laws.proofs.Core.{Coupled, Exits, Plan, Reaches, law_of_rows}
use Rattle.laws.proofs.Defined.{value-same}
use Rattle.laws.proofs.Flow.{none_among}

abbrev pub AlikeExact : Rel → Fill → Fill → Type 0
AlikeExact R (Moved s) (Moved t) = R s t
AlikeExact R (Computed i) (Computed j) = i ≡ j
AlikeExact R (Moved s) (Computed j) = ⊥
AlikeExact R (Computed i) (Moved t) = ⊥

abbrev pub after_exact : Writes → Writes → Rel → Rel
after_exact ws vs R s t = AlikeExact R (through ws s) (through vs t)

abbrev pub CoupledExact : Plan → List Row → Rel → Type 0
CoupledExact K [] R = Unit {0}
CoupledExact K (BothStart n ∷ rows) R = Within (K n) R × CoupledExact K rows (K n)
CoupledExact K (BothEnd (Some e) exits ∷ rows) R = Exits K exits R × CoupledExact K rows (after_second e.1 (after_first e.0 R))
CoupledExact K (BothEnd None exits ∷ rows) R = Exits K exits R × CoupledExact K rows Everything
CoupledExact K (FirstSilent reads ws ∷ rows) R = CoupledExact K rows (after_first ws R)
CoupledExact K (SecondSilent reads ws ∷ rows) R = CoupledExact K rows (after_second ws R)
CoupledExact K (BothCounted r reads reads' ws ws' target exits ∷ rows) R =
    AlikeOperands R reads reads' × Reaches K target (after_exact ws ws' R) × Exits K exits (after_exact ws ws' R) × CoupledExact K rows (after_exact ws ws' R)

reads-more : (R S : Rel) → Within S R → (ss ts : List Source) → AlikeReads S ss ts → AlikeReads R ss ts
reads-more R S w [] [] h = h
reads-more R S w [] (t ∷ ts) h = h
reads-more R S w (s ∷ ss) [] h = h
reads-more R S w (s ∷ ss) (t ∷ ts) h = (w s t h.0, reads-more R S w ss ts h.1)

operands-more : (R S : Rel) → Within S R → (ss ts : Reads) → AlikeOperands S ss ts → AlikeOperands R ss ts
operands-more R S w [] [] h = h
operands-more R S w [] (t ∷ ts) h = h
operands-more R S w (s ∷ ss) [] h = h
operands-more R S w (s ∷ ss) (t ∷ ts) h = (reads-more R S w s t h.0, operands-more R S w ss ts h.1)

fill-forward : (R S : Rel) → Within S R → (s t : Fill) → AlikeExact S s t → AlikeFill R s t
fill-forward R S w (Moved s) (Moved t) h = w s t h
fill-forward R S w (Computed i) (Computed j) h = h
fill-forward R S w (Moved s) (Computed j) h = absurd h
fill-forward R S w (Computed i) (Moved t) h = absurd h

module _ (K : Plan) where
  exits-more : (exits : List EdgePair) (R S : Rel) → Within S R → Exits K exits S → Exits K exits R
  exits-more exits R S w h e x s t k = w (settled (through e.first s)) (settled (through e.second t)) (h e x s t k)

  reaches-more : (target : Option EdgePair) (R S : Rel) → Within S R → Reaches K target S → Reaches K target R
  reaches-more None R S w h = tt
  reaches-more (Some e) R S w h = λ s t k. w (settled (through e.first s)) (settled (through e.second t)) (h s t k)

  pub forward : (rows : List Row) (R S : Rel) → Within S R → CoupledExact K rows S → Coupled K rows R
  forward [] R S w c = tt
  forward (BothStart n ∷ rows) R S w c = ((λ s t k. w s t (c.0 s t k)), forward rows (K n) (K n) (λ s t k. k) c.1)
  forward (BothEnd (Some e) exits ∷ rows) R S w c =
      (exits-more exits R S w c.0, forward rows (after_second e.1 (after_first e.0 R)) (after_second e.1 (after_first e.0 S)) (λ s t k. w (settled (through e.0 s)) (settled (through e.1 t)) k) c.1)
  forward (BothEnd None exits ∷ rows) R S w c = (exits-more exits R S w c.0, forward rows Everything Everything (λ s t k. k) c.1)
  forward (FirstSilent reads ws ∷ rows) R S w c = forward rows (after_first ws R) (after_first ws S) (λ s t k. w (settled (through ws s)) t k) c
  forward (SecondSilent reads ws ∷ rows) R S w c = forward rows (after_second ws R) (after_second ws S) (λ s t k. w s (settled (through ws t)) k) c
  forward (BothCounted r reads reads' ws ws' target exits ∷ rows) R S w c =
      let w' : Within (after_exact ws ws' S) (after_both ws ws' R) = λ s t k. fill-forward R S w (through ws s) (through ws' t) k in (
        operands-more R S w reads reads' c.0,
        reaches-more target (after_both ws ws' R) (after_exact ws ws' S) w' c.1,
        exits-more exits (after_both ws ws' R) (after_exact ws ws' S) w' c.2,
        forward rows (after_both ws ws' R) (after_exact ws ws' S) w' c.3,
      )

-- the sides changed
abbrev pub turned_way : EdgePair → EdgePair
turned_way e = record { block = e.block; first = e.second; second = e.first }

abbrev pub turned_ways : List EdgePair → List EdgePair
turned_ways [] = []
turned_ways (e ∷ es) = turned_way e ∷ turned_ways es

abbrev pub turned_target : Option EdgePair → Option EdgePair
turned_target None = None
turned_target (Some e) = Some (turned_way e)

abbrev pub turned_falls : Option (Writes × Writes) → Option (Writes × Writes)
turned_falls None = None
turned_falls (Some e) = Some (e.1, e.0)

abbrev pub turned : List Row → List Row
turned [] = []
turned (BothStart n ∷ rows) = BothStart n ∷ turned rows
turned (BothEnd falls exits ∷ rows) = BothEnd (turned_falls falls) (turned_ways exits) ∷ turned rows
turned (FirstSilent reads ws ∷ rows) = SecondSilent reads ws ∷ turned rows
turned (SecondSilent reads ws ∷ rows) = FirstSilent reads ws ∷ turned rows
turned (BothCounted r reads reads' ws ws' target exits ∷ rows) = BothCounted r reads' reads ws' ws (turned_target target) (turned_ways exits) ∷ turned rows

first-edges-turned : (es : List EdgePair) → first_edges (turned_ways es) ≡ second_edges es
first-edges-turned [] = refl
first-edges-turned (e ∷ es) = ap (λ rest. second_edge e ∷ rest) (first-edges-turned es)

second-edges-turned : (es : List EdgePair) → second_edges (turned_ways es) ≡ first_edges es
second-edges-turned [] = refl
second-edges-turned (e ∷ es) = ap (λ rest. first_edge e ∷ rest) (second-edges-turned es)

first-target-turned : (e : Option EdgePair) → first_target (turned_target e) ≡ second_target e
first-target-turned None = refl
first-target-turned (Some e) = refl

second-target-turned : (e : Option EdgePair) → second_target (turned_target e) ≡ first_target e
second-target-turned None = refl
second-target-turned (Some e) = refl

first-falls-turned : (e : Option (Writes × Writes)) → first_falls (turned_falls e) ≡ second_falls e
first-falls-turned None = refl
first-falls-turned (Some e) = refl

second-falls-turned : (e : Option (Writes × Writes)) → second_falls (turned_falls e) ≡ first_falls e
second-falls-turned None = refl
second-falls-turned (Some e) = refl

pub first-turned : (rows : List Row) → first_of_rows (turned rows) ≡ second_of_rows rows
first-turned [] = refl
first-turned (BothStart n ∷ rows) = ap (λ p. BlockStart n ∷ p) (first-turned rows)
first-turned (BothEnd falls exits ∷ rows) = λ i. BlockEnd (first-falls-turned falls i) (first-edges-turned exits i) ∷ first-turned rows i
first-turned (FirstSilent reads ws ∷ rows) = first-turned rows
first-turned (SecondSilent reads ws ∷ rows) = ap (λ p. Silent reads ws ∷ p) (first-turned rows)
first-turned (BothCounted r reads reads' ws ws' target exits ∷ rows) = λ i. Counted r reads' ws' (first-target-turned target i) (first-edges-turned exits i) ∷ first-turned rows i

pub second-turned : (rows : List Row) → second_of_rows (turned rows) ≡ first_of_rows rows
second-turned [] = refl
second-turned (BothStart n ∷ rows) = ap (λ p. BlockStart n ∷ p) (second-turned rows)
second-turned (BothEnd falls exits ∷ rows) = λ i. BlockEnd (second-falls-turned falls i) (second-edges-turned exits i) ∷ second-turned rows i
second-turned (FirstSilent reads ws ∷ rows) = ap (λ p. Silent reads ws ∷ p) (second-turned rows)
second-turned (SecondSilent reads ws ∷ rows) = second-turned rows
second-turned (BothCounted r reads reads' ws ws' target exits ∷ rows) = λ i. Counted r reads ws (second-target-turned target i) (second-edges-turned exits i) ∷ second-turned rows i

abbrev pub converse : Rel → Rel
converse R s t = R t s

-- R holds of what S holds of, the sides changed
abbrev pub Turns : Rel → Rel → Type 0
Turns S R = (s t : Source) → S s t → R t s

fill-turned : (R S : Rel) → Turns S R → (s t : Fill) → AlikeExact S s t → AlikeFill R t s
fill-turned R S w (Moved s) (Moved t) h = w s t h
fill-turned R S w (Computed i) (Computed j) h = sym h
fill-turned R S w (Moved s) (Computed j) h = absurd h
fill-turned R S w (Computed i) (Moved t) h = absurd h

reads-turned : (R S : Rel) → Turns S R → (ss ts : List Source) → AlikeReads S ss ts → AlikeReads R ts ss
reads-turned R S w [] [] h = h
reads-turned R S w [] (t ∷ ts) h = h
reads-turned R S w (s ∷ ss) [] h = h
reads-turned R S w (s ∷ ss) (t ∷ ts) h = (w s t h.0, reads-turned R S w ss ts h.1)

operands-turned : (R S : Rel) → Turns S R → (ss ts : Reads) → AlikeOperands S ss ts → AlikeOperands R ts ss
operands-turned R S w [] [] h = h
operands-turned R S w [] (t ∷ ts) h = h
operands-turned R S w (s ∷ ss) [] h = h
operands-turned R S w (s ∷ ss) (t ∷ ts) h = (reads-turned R S w s t h.0, operands-turned R S w ss ts h.1)

module _ (K : Plan) where
  abbrev pub turned_plan : Plan
  turned_plan n = converse (K n)

  exits-turned : (exits : List EdgePair) (R S : Rel) → Turns S R → Exits K exits S → Exits turned_plan (turned_ways exits) R
  exits-turned [] R S w h e x = absurd (none_among e x)
  exits-turned (e ∷ es) R S w h f here = λ s t k. w (settled (through e.first t)) (settled (through e.second s)) (h e here t s k)
  exits-turned (e ∷ es) R S w h f (there x) = exits-turned es R S w (λ g y. h g (there y)) f x

  reaches-turned : (target : Option EdgePair) (R S : Rel) → Turns S R → Reaches K target S → Reaches turned_plan (turned_target target) R
  reaches-turned None R S w h = tt
  reaches-turned (Some e) R S w h = λ s t k. w (settled (through e.first t)) (settled (through e.second s)) (h t s k)

  pub backward : (rows : List Row) (R S : Rel) → Turns S R → CoupledExact K rows S → Coupled turned_plan (turned rows) R
  backward [] R S w c = tt
  backward (BothStart n ∷ rows) R S w c = ((λ s t k. w t s (c.0 t s k)), backward rows (converse (K n)) (K n) (λ s t k. k) c.1)
  backward (BothEnd (Some e) exits ∷ rows) R S w c =
      (exits-turned exits R S w c.0, backward rows (after_second e.0 (after_first e.1 R)) (after_second e.1 (after_first e.0 S)) (λ s t k. w (settled (through e.0 s)) (settled (through e.1 t)) k) c.1)
  backward (BothEnd None exits ∷ rows) R S w c = (exits-turned exits R S w c.0, backward rows Everything Everything (λ s t k. k) c.1)
  backward (FirstSilent reads ws ∷ rows) R S w c = backward rows (after_second ws R) (after_first ws S) (λ s t k. w (settled (through ws s)) t k) c
  backward (SecondSilent reads ws ∷ rows) R S w c = backward rows (after_first ws R) (after_second ws S) (λ s t k. w s (settled (through ws t)) k) c
  backward (BothCounted r reads reads' ws ws' target exits ∷ rows) R S w c =
      let w' : Turns (after_exact ws ws' S) (after_both ws' ws R) = λ s t k. fill-turned R S w (through ws s) (through ws' t) k in (
        operands-turned R S w reads reads' c.0,
        reaches-turned target (after_both ws' ws R) (after_exact ws ws' S) w' c.1,
        exits-turned exits (after_both ws' ws R) (after_exact ws ws' S) w' c.2,
        backward rows (after_both ws' ws R) (after_exact ws ws' S) w' c.3,
      )

-- Codes that rows couple by equal values, from equal values at the start, refine each other.
pub law_of_exact_rows : (f g : Function) (K : Plan) (all : List Row) (R : Rel) → first_of_rows all ≡ f.code → second_of_rows all ≡ g.code → CoupledExact K all R → ((env : Environment) (s t : Source) → R s t → fetch env (start_state env f.given) s ≡ fetch env (start_state env g.given) t) → Refines f g × Refines g f
law_of_exact_rows f g K all R e e' c starts = (
  law_of_rows f g K all R e e' (forward K all R R (λ s t k. k) c) (λ env s t k. value-same (fetch env (start_state env f.given) s) (fetch env (start_state env g.given) t) (starts env s t k)),
  law_of_rows g f (turned_plan K) (turned all) (converse R) (first-turned all ∙ e') (second-turned all ∙ e) (backward K all (converse R) R (λ s t k. k) c) (λ env s t k. value-same (fetch env (start_state env g.given) s) (fetch env (start_state env f.given) t) (sym (starts env t s k))),
)
