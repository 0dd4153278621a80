-- Agreement implies refinement.
use Rattle.std.proofs.Common.{◌≡◌, ◌∷◌, ◌&&◌, ◌||◌, ℕ, true, false, eqb, List, Option, Some, None, refl, sym, ap, subst, inl, inr, []}
use Rattle.std.proofs.lemmas.Bool.{eqb-true}
use Rattle.meaning.specs.Agree.{AgreementRefines, Family, RowsRefine, facts_at, known_along, rows_agree, rows_hold, target_holds, way_holds, ways_hold}
use Rattle.meaning.specs.Code.{Function, entry_lane, start_state}
use Rattle.meaning.specs.Environment.{Environment}
use Rattle.meaning.specs.Facts.{Knowledge, all_known, everything, known, known_at_start, known_both, known_first, known_left, known_second, known_unit, one_result, operands_known, reads_known}
use Rattle.meaning.specs.Lanes.{Reads, Writes, settled, through}
use Rattle.meaning.specs.Live.{here, there}
use Rattle.meaning.specs.Pairing.{pairing}
use Rattle.meaning.specs.Perform.{width}
use Rattle.meaning.specs.Refines.{AtLeast, Refines}
use Rattle.meaning.specs.Relations.{AlikeFill, AlikeOperands, AlikeReads, Everything, Rel, Within, after_both, after_first, after_second, along}
use Rattle.meaning.specs.Sameness.{same_option, same_source}
use Rattle.meaning.specs.State.{fetch}
use Rattle.meaning.specs.declared.types.Fill.{Fill}
use Rattle.meaning.specs.declared.types.Fill.TheVariants.{Computed, Moved}
use Rattle.meaning.specs.declared.types.Lane.TheVariants.{SlotLane, UnitLane, VirtualLane}
use Rattle.meaning.specs.declared.types.Row.{Row}
use Rattle.meaning.specs.declared.types.Row.TheVariants.{BothCounted, BothEnd, BothStart, FirstSilent, SecondSilent}
use Rattle.meaning.specs.declared.types.Source.{Source}
use Rattle.meaning.specs.declared.types.Source.TheVariants.{Bits, FromLane, Undef}
use Rattle.meaning.specs.declared.types.EdgePair.{EdgePair}
use Rattle.laws.proofs.Agreeing.{Agrees}
use Rattle.laws.proofs.Closed.{IsClosed, closed-both, closed-everything, closed-first, closed-known, closed-second, closed-start, either-true, known-known}
use Rattle.laws.proofs.Core.{Coupled, Exits, Plan, Reaches, law_of_rows}
use Rattle.laws.proofs.Defined.{value-refl, value-same}
use Rattle.laws.proofs.Following.{both-true}
use Rattle.laws.proofs.Paired.{pairing-right}
use Rattle.laws.proofs.Same.{option-true, source-true}

-- a test as a relation
abbrev pub rel : Knowledge → Rel
rel k s t = k s t ≡ true

-- what is known holds in T
module _ (k : Knowledge) (T : Rel) (w : Within (rel k) T) where
  fill-from : (f g : Fill) → one_result f g || known_left k f (settled g) ≡ true → AlikeFill T f g
  fill-from (Moved s) (Moved t) h = w s t h
  fill-from (Computed i) (Computed j) h = elim (either-true (eqb i j) false h) [ inl e ↦ eqb-true i j e | inr e ↦ absurd (cc) ]
  fill-from (Moved s) (Computed j) h = w s Undef h
  fill-from (Computed i) (Moved t) h = absurd (cc)

  first-from : (ws : Writes) → Within (rel (known_first ws k)) (after_first ws T)
  first-from ws s t h = go (through ws s) h
    where
      go : (f : Fill) → known_left k f t ≡ true → T (settled f) t
      go (Moved r) e = w r t e
      go (Computed i) e = absurd (cc)

  reads-from : (ss ts : List Source) → reads_known k ss ts ≡ true → AlikeReads T ss ts
  reads-from [] [] h = tt
  reads-from [] (t ∷ ts) h = absurd (cc)
  reads-from (s ∷ ss) [] h = absurd (cc)
  reads-from (s ∷ ss) (t ∷ ts) h = let p = both-true (k s t) (reads_known k ss ts) h in (w s t p.0, reads-from ss ts p.1)

  operands-from : (ss ts : Reads) → operands_known k ss ts ≡ true → AlikeOperands T ss ts
  operands-from [] [] h = tt
  operands-from [] (t ∷ ts) h = absurd (cc)
  operands-from (s ∷ ss) [] h = absurd (cc)
  operands-from (s ∷ ss) (t ∷ ts) h = let p = both-true (reads_known k s t) (operands_known k ss ts) h in (reads-from s t p.0, operands-from ss ts p.1)

module _ (family : Family) where
  plan : Plan
  plan n = rel (known (facts_at family n))

  module _ (k : Knowledge) (T : Rel) (c : IsClosed k) (w : Within (rel k) T) where
    way-from : (e : EdgePair) → way_holds family k e ≡ true → Within (plan e.block) (along e T)
    unfolding plan
    way-from e h s t g =
        let c' : IsClosed (known_along e k) = closed-second (known_first e.first k) (closed-first k c e.first) e.second in
        first-from k T w e.first s (settled (through e.second t)) (known-known (known_along e k) c' (facts_at family e.block) h s t g)

    ways-from : (exits : List EdgePair) → ways_hold family k exits ≡ true → Exits plan exits T
    ways-from [] h e x = elim x [ ]
    ways-from (e ∷ exits) h f here = way-from e (both-true (way_holds family k e) (ways_hold family k exits) h).0
    ways-from (e ∷ exits) h f (there x) = ways-from exits (both-true (way_holds family k e) (ways_hold family k exits) h).1 f x

    target-from : (target : Option EdgePair) → target_holds family k target ≡ true → Reaches plan target T
    target-from None h = tt
    target-from (Some e) h = way-from e h

    start-from : (n : ℕ) → all_known k (facts_at family n) ≡ true → Within (plan n) T
    unfolding plan
    start-from n h s t g = w s t (known-known k c (facts_at family n) h s t g)

  -- rows that hold are coupled
  coupled-from : (rows : List Row) (k : Knowledge) (T : Rel) → IsClosed k → Within (rel k) T → rows_hold family rows k ≡ true → Coupled plan rows T
  unfolding plan
  coupled-from [] k T c w h = tt
  coupled-from (BothStart n ∷ rows) k T c w h =
      let facts = facts_at family n in
      let p = both-true (all_known k facts) (rows_hold family rows (known facts)) h in
      (start-from k T c w n p.0, coupled-from rows (known facts) (plan n) (closed-known facts) (λ s t g. g) p.1)
  coupled-from (BothEnd (Some e) exits ∷ rows) k T c w h =
      let k' = known_second e.1 (known_first e.0 k) in
      let p = both-true (ways_hold family k exits) (rows_hold family rows k') h in
      (ways-from k T c w exits p.0, coupled-from rows k' (after_second e.1 (after_first e.0 T)) (closed-second (known_first e.0 k) (closed-first k c e.0) e.1) (λ s t g. first-from k T w e.0 s (settled (through e.1 t)) g) p.1)
  coupled-from (BothEnd None exits ∷ rows) k T c w h =
      let p = both-true (ways_hold family k exits) (rows_hold family rows everything) h in
      (ways-from k T c w exits p.0, coupled-from rows everything Everything closed-everything (λ s t g. tt) p.1)
  coupled-from (FirstSilent reads ws ∷ rows) k T c w h =
      coupled-from rows (known_first ws k) (after_first ws T) (closed-first k c ws) (first-from k T w ws) h
  coupled-from (SecondSilent reads ws ∷ rows) k T c w h =
      coupled-from rows (known_second ws k) (after_second ws T) (closed-second k c ws) (λ s t g. w s (settled (through ws t)) g) h
  coupled-from (BothCounted r reads reads' ws ws' target exits ∷ rows) k T c w h =
      let k' = known_both ws ws' k in
      let T' = after_both ws ws' T in
      let c' = closed-both k c ws ws' in
      let w' : Within (rel k') T' = λ s t g. fill-from k T w (through ws s) (through ws' t) g in
      let p = both-true (operands_known k reads reads') (target_holds family k' target && (ways_hold family k' exits && rows_hold family rows k')) h in
      let q = both-true (target_holds family k' target) (ways_hold family k' exits && rows_hold family rows k') p.1 in
      let r = both-true (ways_hold family k' exits) (rows_hold family rows k') q.1 in
      (operands-from k T w reads reads' p.0, target-from k' T' c' w' target q.0, ways-from k' T' c' w' exits r.0, coupled-from rows k' T' c' w' r.1)

start-agrees : (f g : Function) (env : Environment) → Agrees env (rel (known_at_start f.given g.given)) (start_state env f.given) (start_state env g.given)
start-agrees f g env Undef t h = tt
start-agrees f g env (FromLane (VirtualLane v k)) t h = tt
start-agrees f g env (FromLane (SlotLane s k width)) t h = tt
start-agrees f g env (FromLane (UnitLane u)) t h = go (f.given u) h
  where
    go : (w : Option ℕ) → known_unit w (g.given u) u t ≡ true → AtLeast (entry_lane env u w) (fetch env (start_state env g.given) t)
    go None e = tt
    go (Some width) e =
        let p = both-true (same_source (FromLane (UnitLane u)) t) (same_option (g.given u) (Some width)) e in
        let v = entry_lane env u (Some width) in
        subst (λ x. AtLeast v (fetch env (start_state env g.given) x)) (source-true (FromLane (UnitLane u)) t p.0) (subst (λ w. AtLeast v (entry_lane env u w)) (sym (option-true (g.given u) (Some width) p.1)) (value-refl v))
start-agrees f g env (Bits c low width) t h =
    value-same (fetch env (start_state env f.given) (Bits c low width)) (fetch env (start_state env g.given) t) (ap (fetch env (start_state env g.given)) (source-true (Bits c low width) t h))

-- Rows of two functions that hold imply refinement.
pub rows_refine : RowsRefine
rows_refine f g family rows e e' h =
    let k = known_at_start f.given g.given in
    law_of_rows f g (plan family) rows (rel k) e e' (coupled-from family rows k (rel k) (closed-start f.given g.given) (λ s t x. x) h) (start-agrees f g)

-- Agreement, with any family, implies refinement.
pub agreement_refines : AgreementRefines
agreement_refines f g family h = go (pairing f.code g.code) refl h
  where
    go : (x : Option (List Row)) → pairing f.code g.code ≡ x → rows_agree family x (known_at_start f.given g.given) ≡ true → Refines f g
    go None e h = absurd (cc)
    go (Some rows) e h = let p = pairing-right f.code g.code rows e in rows_refine f g family rows p.0 p.1 h
