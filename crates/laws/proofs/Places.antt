-- The law, place by place.
use Rattle.std.proofs.Common.{◌≡◌, ◌∷◌, ◌++◌, ◌∙◌, ℕ, Bool, List, Option, Some, None, refl, sym, ap, subst, []}
use Rattle.meaning.specs.Code.{BlockEnd, BlockStart, Code, Counted, Function, Silent, found, start_state}
use Rattle.meaning.specs.Environment.{Environment}
use Rattle.meaning.specs.InStep.{Agree, AtStarts, ExitsHold, Graph, Holds, InStep, Known, LawOfPlaces, Passes, StartsAlike, TargetHolds, WayHolds, done, place, start}
use Rattle.meaning.specs.Lanes.{Homes, Reads, placed, settled, through}
use Rattle.meaning.specs.Layout.{LaidOut}
use Rattle.meaning.specs.Live.{Kept}
use Rattle.meaning.specs.Perform.{width}
use Rattle.meaning.specs.Relations.{AlikeFill, AlikeOperands, AlikeReads, Everything, Rel, Within, after_both, after_first, after_second, along}
use Rattle.meaning.specs.Rows.{first_edges, first_falls, first_of_rows, first_target, second_edges, second_falls, second_of_rows, second_target}
use Rattle.meaning.specs.State.{fetch}
use Rattle.meaning.specs.declared.types.Fill.{Fill}
use Rattle.meaning.specs.declared.types.Fill.TheVariants.{Computed, Moved}
use Rattle.meaning.specs.declared.types.Lane.{Lane}
use Rattle.meaning.specs.declared.types.Row.{Row}
use Rattle.meaning.specs.declared.types.Row.TheVariants.{BothCounted, BothEnd, BothStart, FirstSilent, SecondSilent}
use Rattle.meaning.specs.declared.types.Source.{Source}
use Rattle.meaning.specs.declared.types.Source.TheVariants.{Bits, FromLane, Undef}
use Rattle.meaning.specs.declared.types.EdgePair.{EdgePair}
use Rattle.laws.proofs.Agreeing.{Agrees}
use Rattle.laws.proofs.Core.{Coupled, Exits, Plan, Reaches, law_of_rows}
use Rattle.laws.proofs.Defined.{value-same}
use Rattle.laws.proofs.Flow.{kept_start}

first-append : (rows rest : List Row) → first_of_rows (rows ++ rest) ≡ first_of_rows rows ++ first_of_rows rest
first-append [] rest = refl
first-append (BothStart n ∷ rows) rest = ap (λ p. BlockStart n ∷ p) (first-append rows rest)
first-append (BothEnd falls exits ∷ rows) rest = ap (λ p. BlockEnd (first_falls falls) (first_edges exits) ∷ p) (first-append rows rest)
first-append (FirstSilent reads ws ∷ rows) rest = ap (λ p. Silent reads ws ∷ p) (first-append rows rest)
first-append (SecondSilent reads ws ∷ rows) rest = first-append rows rest
first-append (BothCounted r reads reads' ws ws' target exits ∷ rows) rest = ap (λ p. Counted r reads ws (first_target target) (first_edges exits) ∷ p) (first-append rows rest)

second-append : (rows rest : List Row) → second_of_rows (rows ++ rest) ≡ second_of_rows rows ++ second_of_rows rest
second-append [] rest = refl
second-append (BothStart n ∷ rows) rest = ap (λ p. BlockStart n ∷ p) (second-append rows rest)
second-append (BothEnd falls exits ∷ rows) rest = ap (λ p. BlockEnd (second_falls falls) (second_edges exits) ∷ p) (second-append rows rest)
second-append (FirstSilent reads ws ∷ rows) rest = second-append rows rest
second-append (SecondSilent reads ws ∷ rows) rest = ap (λ p. Silent reads ws ∷ p) (second-append rows rest)
second-append (BothCounted r reads reads' ws ws' target exits ∷ rows) rest = ap (λ p. Counted r reads' ws' (second_target target) (second_edges exits) ∷ p) (second-append rows rest)

-- more known is as good
fill-more : (R S : Rel) → Within S R → (s t : Fill) → AlikeFill S s t → AlikeFill R s t
fill-more R S w (Moved s) (Moved t) h = w s t h
fill-more R S w (Computed i) (Computed j) h = h
fill-more R S w (Moved s) (Computed j) h = w s Undef h
fill-more R S w (Computed i) (Moved t) h = h

reads-more : (R S : Rel) → Within S R → (ss ts : List Source) → AlikeReads S ss ts → AlikeReads R ss ts
reads-more R S w [] [] h = h
reads-more R S w [] (t ∷ ts) h = h
reads-more R S w (s ∷ ss) [] h = h
reads-more R S w (s ∷ ss) (t ∷ ts) h = (w s t h.0, reads-more R S w ss ts h.1)

operands-more : (R S : Rel) → Within S R → (ss ts : Reads) → AlikeOperands S ss ts → AlikeOperands R ss ts
operands-more R S w [] [] h = h
operands-more R S w [] (t ∷ ts) h = h
operands-more R S w (s ∷ ss) [] h = h
operands-more R S w (s ∷ ss) (t ∷ ts) h = (reads-more R S w s t h.0, operands-more R S w ss ts h.1)

module _ (reserved : Lane → Bool) (code : Code) (at : AtStarts) where
  pub all_rows : {h : Homes} {p q : Code} → InStep reserved code at h p q → List Row
  all_rows done = []
  all_rows (start {n = n} e g) = BothStart n ∷ all_rows g
  all_rows (place rows c g) = rows ++ all_rows g

  pub first-all : {h : Homes} {p q : Code} (s : InStep reserved code at h p q) → first_of_rows (all_rows s) ≡ p
  unfolding all_rows
  first-all done = refl
  first-all (start {n = n} e g) = ap (λ p. BlockStart n ∷ p) (first-all g)
  first-all (place rows c g) = first-append rows (all_rows g) ∙ ap (λ p. first_of_rows rows ++ p) (first-all g)

  pub second-all : {h : Homes} {p q : Code} (s : InStep reserved code at h p q) → second_of_rows (all_rows s) ≡ q
  unfolding all_rows
  second-all done = refl
  second-all (start {n = n} e g) = ap (λ p. BlockStart n ∷ p) (second-all g)
  second-all (place rows c g) = second-append rows (all_rows g) ∙ ap (λ p. second_of_rows rows ++ p) (second-all g)

  -- at the start of a block what is known there is at home
  pub plan : Plan
  plan n = Graph reserved code (at n) (found n code)

  graph-within : (h : Homes) (p : Code) (R : Rel) → Holds reserved code h p R → Within (Graph reserved code h p) R
  graph-within h p R f s t k = subst (λ u. R s u) (sym k.1) (f s k.0)

  pub plan-within : (n : ℕ) (R : Rel) → Holds reserved code (at n) (found n code) R → Within (plan n) R
  unfolding plan
  plan-within n R f = graph-within (at n) (found n code) R f

  pub plan-holds : (n : ℕ) (p : Code) → found n code ≡ p → Holds reserved code (at n) p (plan n)
  unfolding plan
  plan-holds n p e s k = (subst (λ q. Known reserved code q s) (sym e) k, refl)

  -- other homes that agree
  pub agreed : (h h' : Homes) (p q : Code) (R : Rel) → ((a : Lane) → Kept reserved code q a → Kept reserved code p a) → Agree reserved code q h h' → Holds reserved code h p R → Holds reserved code h' q R
  agreed h h' p q R w e f (FromLane a) k = subst (λ t. R (FromLane a) t) (e a k) (f (FromLane a) (w a k))
  agreed h h' p q R w e f Undef k = f Undef k
  agreed h h' p q R w e f (Bits c low width) k = f (Bits c low width) k

  start-holds : (n : ℕ) (h : Homes) (p : Code) (R : Rel) → found n code ≡ p → Agree reserved code p h (at n) → Holds reserved code h (BlockStart n ∷ p) R → Holds reserved code (at n) (found n code) R
  start-holds n h p R e g f =
      subst (λ q. Holds reserved code (at n) q R) (sym e) (agreed h (at n) (BlockStart n ∷ p) p R (kept_start reserved code n p) g f)

  laid-behind : (h : Homes) (rows : List Row) (p : Code) (S : Rel) → Passes reserved code at h p rows S → LaidOut code (first_of_rows rows ++ p) → LaidOut code p
  laid-behind h [] p S c s = s
  laid-behind h (BothStart n ∷ rows) p S c s = absurd c
  laid-behind h (BothEnd (Some e) exits ∷ rows) p S c s = laid-behind h rows p (after_second e.1 (after_first e.0 S)) c.1 s.1
  laid-behind h (BothEnd None exits ∷ rows) p S c s = laid-behind h rows p Everything c.1 s
  laid-behind h (FirstSilent reads ws ∷ rows) p S c s = laid-behind h rows p (after_first ws S) c s
  laid-behind h (SecondSilent reads ws ∷ rows) p S c s = laid-behind h rows p (after_second ws S) c s
  laid-behind h (BothCounted r reads reads' ws ws' None exits ∷ rows) p S c s = laid-behind h rows p (after_both ws ws' S) c.3 s
  laid-behind h (BothCounted r reads reads' ws ws' (Some n) exits ∷ rows) p S c s = laid-behind h rows p (after_both ws ws' S) c.3 s.1

  along-within : (e : EdgePair) (R S : Rel) → Within S R → Within (along e S) (along e R)
  along-within e R S w s t k = w (settled (through e.first s)) (settled (through e.second t)) k

  way-within : (e : EdgePair) (R S : Rel) → Within S R → WayHolds reserved code at S e → Within (plan e.block) (along e R)
  way-within e R S w h = plan-within e.block (along e R) (λ s k. along-within e R S w s (placed (at e.block) s) (h s k))

  target-reaches : (target : Option EdgePair) (R S : Rel) → Within S R → TargetHolds reserved code at target S → Reaches plan target R
  target-reaches None R S w h = tt
  target-reaches (Some e) R S w h = way-within e R S w h

  exits-reach : (exits : List EdgePair) (R S : Rel) → Within S R → ExitsHold reserved code at exits S → Exits plan exits R
  exits-reach exits R S w h e x = way-within e R S w (h e x)

  passes-coupled : (h : Homes) (rows rest : List Row) (p : Code) (R S : Rel) → Within S R → Passes reserved code at h p rows S → ((T : Rel) → Holds reserved code h p T → Coupled plan rest T) → Coupled plan (rows ++ rest) R
  passes-coupled h [] rest p R S w c on = on R (λ s k. w s (placed h s) (c s k))
  passes-coupled h (BothStart n ∷ rows) rest p R S w c on = absurd c
  passes-coupled h (BothEnd (Some e) exits ∷ rows) rest p R S w c on = (
    exits-reach exits R S w c.0,
    passes-coupled h rows rest p (after_second e.1 (after_first e.0 R)) (after_second e.1 (after_first e.0 S)) (λ s t k. w (settled (through e.0 s)) (settled (through e.1 t)) k) c.1 on,
  )
  passes-coupled h (BothEnd None exits ∷ rows) rest p R S w c on =
      (exits-reach exits R S w c.0, passes-coupled h rows rest p Everything Everything (λ s t k. k) c.1 on)
  passes-coupled h (FirstSilent reads ws ∷ rows) rest p R S w c on =
      passes-coupled h rows rest p (after_first ws R) (after_first ws S) (λ s t k. w (settled (through ws s)) t k) c on
  passes-coupled h (SecondSilent reads ws ∷ rows) rest p R S w c on =
      passes-coupled h rows rest p (after_second ws R) (after_second ws S) (λ s t k. w s (settled (through ws t)) k) c on
  passes-coupled h (BothCounted r reads reads' ws ws' target exits ∷ rows) rest p R S w c on =
      let w' : Within (after_both ws ws' S) (after_both ws ws' R) = λ s t k. fill-more R S w (through ws s) (through ws' t) k in (
        operands-more R S w reads reads' c.0,
        target-reaches target (after_both ws ws' R) (after_both ws ws' S) w' c.1,
        exits-reach exits (after_both ws ws' R) (after_both ws ws' S) w' c.2,
        passes-coupled h rows rest p (after_both ws ws' R) (after_both ws ws' S) w' c.3 on,
      )

  pub coupled : {h : Homes} {p q : Code} (g : InStep reserved code at h p q) (R : Rel) → LaidOut code p → Holds reserved code h p R → Coupled plan (all_rows g) R
  unfolding all_rows
  coupled done R s f = tt
  coupled (start {n = n} {h = h} {p = p} e g) R s f =
      (plan-within n R (start-holds n h p R s.0 e f), coupled g (plan n) s.1 (plan-holds n p s.0))
  coupled (place {h = h} {h' = h'} {p = p} rows c g) R s f =
      let q = first_of_rows rows ++ p in
      passes-coupled h' rows (all_rows g) p R (Graph reserved code h q) (graph-within h q R f) c (λ T k. coupled g T (laid-behind h' rows p (Graph reserved code h q) c s) k)

pub start-agrees : (reserved : Lane → Bool) (h : Homes) (f g : Function) (env : Environment) → StartsAlike reserved h f g → Agrees env (Graph reserved f.code h f.code) (start_state env f.given) (start_state env g.given)
start-agrees reserved h f g env starts s t k =
    value-same (fetch env (start_state env f.given) s) (fetch env (start_state env g.given) t) (start-same s k.0 ∙ ap (fetch env (start_state env g.given)) (sym k.1))
  where
    start-same : (s : Source) → Known reserved f.code f.code s → fetch env (start_state env f.given) s ≡ fetch env (start_state env g.given) (placed h s)
    start-same (FromLane a) k = starts env a k
    start-same Undef k = refl
    start-same (Bits c low width) k = refl

pub law_of_places : LawOfPlaces
law_of_places reserved f g at h laid starts s =
    let R : Rel = Graph reserved f.code h f.code in
    law_of_rows f g (plan reserved f.code at) (all_rows reserved f.code at s) R (first-all reserved f.code at s) (second-all reserved f.code at s) (coupled reserved f.code at s R laid (λ t k. (k, refl))) (λ env. start-agrees reserved h f g env starts)
